-- The answers on texts small enough to be read by hand.
use Rattle.std.proofs.Common.{◌≡◌, [], ◌∷◌, ◌++◌, codes, refl}
use Rattle.markup_grammar.specs.Answers.{start, words, stop, finish, form}
use Rattle.markup_grammar.specs.Bytes.{is_space, is_digit, is_hex_digit, digit_value, begins_name, is_name_byte, is_text, is_value}
use Rattle.markup_grammar.specs.Machine.{answers_from}
use Rattle.markup_grammar.specs.Reading.{answers}
use Rattle.markup_grammar.specs.Utf8.{utf8_step, utf8_front_from}

pub nested : answers (codes " <a>x<b></b ></a>\n") ≡ start 1 (codes "a") [] ∷ words 4 (codes "x") ∷ start 5 (codes "b") [] ∷ stop 8 ∷ stop 13 ∷ finish ∷ []
unfolding answers answers_from utf8_front_from utf8_step is_space begins_name is_name_byte is_digit is_text
nested = refl

pub attributes : answers (codes "<a b='\"' c = \"&#x41;>\" />") ≡ start 0 (codes "a") (codes " b='\"' c = \"&#x41;>\" ") ∷ stop 23 ∷ finish ∷ []
unfolding answers answers_from utf8_front_from utf8_step is_space begins_name is_name_byte is_digit is_hex_digit digit_value is_text is_value
attributes = refl

-- a comment ends one run of text, and another begins behind it
pub comments : answers (codes "<!--><a/>--><?x ?><a>x<!----->y<??>]]></a><!-- -->") ≡ start 18 (codes "a") [] ∷ words 21 (codes "x") ∷ words 30 (codes "y") ∷ words 35 (codes "]]>") ∷ stop 38 ∷ finish ∷ []
unfolding answers answers_from utf8_front_from utf8_step is_space begins_name is_name_byte is_digit is_text
comments = refl

-- a byte order mark, a name and a text past ASCII
pub marked : answers (0xEF ∷ 0xBB ∷ 0xBF ∷ 60 ∷ 0xC3 ∷ 0xA9 ∷ 62 ∷ 0xE2 ∷ 0x82 ∷ 0xAC ∷ 60 ∷ 47 ∷ 0xC3 ∷ 0xA9 ∷ 62 ∷ []) ≡ start 3 (0xC3 ∷ 0xA9 ∷ []) [] ∷ words 7 (0xE2 ∷ 0x82 ∷ 0xAC ∷ []) ∷ stop 10 ∷ finish ∷ []
unfolding answers answers_from utf8_front_from utf8_step is_space begins_name is_name_byte is_digit is_text
marked = refl

-- the front that begins a text is the whole of it
pub unclosed : answers (codes "<KeePassFile>") ≡ start 0 (codes "KeePassFile") [] ∷ form 13 ∷ []
unfolding answers answers_from utf8_front_from utf8_step is_space begins_name is_name_byte is_digit is_text
unclosed = refl

pub surrogate : answers (codes "<a>&#xD800;</a>") ≡ start 0 (codes "a") [] ∷ form 10 ∷ []
unfolding answers answers_from utf8_front_from utf8_step is_space begins_name is_name_byte is_digit is_hex_digit digit_value is_text
surrogate = refl

pub past_unicode : answers (codes "<a>&#x110000;</a>") ≡ start 0 (codes "a") [] ∷ form 11 ∷ []
unfolding answers answers_from utf8_front_from utf8_step is_space begins_name is_name_byte is_digit is_hex_digit digit_value is_text
past_unicode = refl

pub two_roots : answers (codes "<a></a><b></b>") ≡ start 0 (codes "a") [] ∷ stop 3 ∷ form 8 ∷ []
unfolding answers answers_from utf8_front_from utf8_step is_space begins_name is_name_byte is_digit is_text
two_roots = refl

-- a character that is cut off, behind a text that is whole
pub cut_character : answers (codes "<a></a>" ++ (0xC3 ∷ [])) ≡ start 0 (codes "a") [] ∷ stop 3 ∷ form 7 ∷ []
unfolding answers answers_from utf8_front_from utf8_step is_space begins_name is_name_byte is_digit is_text
cut_character = refl

-- a byte that no character begins with, behind a text that is whole
pub no_character : answers (codes "<a></a>" ++ (0xFF ∷ [])) ≡ start 0 (codes "a") [] ∷ stop 3 ∷ form 7 ∷ []
unfolding answers answers_from utf8_front_from utf8_step is_space begins_name is_name_byte is_digit is_text
no_character = refl
