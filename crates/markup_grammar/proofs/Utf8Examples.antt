-- Fronts of bytes small enough to be judged by the Unicode Standard's table of well-formed bytes.
use Rattle.std.proofs.Common.{◌≡◌, Some, [], ◌∷◌, refl}
use Rattle.markup_grammar.specs.Utf8.{none_left, utf8_step, utf8_run, utf8_front_from, utf8_front}

-- U+007F, U+0080, U+07FF, U+0800, U+D7FF, U+E000, U+FFFF, U+10000 and U+10FFFF, each whole
pub whole_characters : utf8_run (0x7F ∷ 0xC2 ∷ 0x80 ∷ 0xDF ∷ 0xBF ∷ 0xE0 ∷ 0xA0 ∷ 0x80 ∷ 0xED ∷ 0x9F ∷ 0xBF ∷ 0xEE ∷ 0x80 ∷ 0x80 ∷ 0xEF ∷ 0xBF ∷ 0xBF ∷ 0xF0 ∷ 0x90 ∷ 0x80 ∷ 0x80 ∷ 0xF4 ∷ 0x8F ∷ 0xBF ∷ 0xBF ∷ []) none_left ≡ Some none_left
unfolding utf8_run utf8_step
whole_characters = refl

-- a text that ends inside a character begins one in UTF-8 as a whole
pub cut_character : utf8_front (0x61 ∷ 0xF0 ∷ 0x9F ∷ 0x98 ∷ []) ≡ 4
unfolding utf8_front_from utf8_step
cut_character = refl

-- `/` in the form of two bytes, of three and of four
pub overlong_two : utf8_front (0x61 ∷ 0xC0 ∷ 0xAF ∷ []) ≡ 1
unfolding utf8_front_from utf8_step
overlong_two = refl

pub overlong_three : utf8_front (0x61 ∷ 0xE0 ∷ 0x80 ∷ 0xAF ∷ []) ≡ 2
unfolding utf8_front_from utf8_step
overlong_three = refl

pub overlong_four : utf8_front (0x61 ∷ 0xF0 ∷ 0x80 ∷ 0x80 ∷ 0xAF ∷ []) ≡ 2
unfolding utf8_front_from utf8_step
overlong_four = refl

-- U+D800
pub surrogate : utf8_front (0x61 ∷ 0xED ∷ 0xA0 ∷ 0x80 ∷ []) ≡ 2
unfolding utf8_front_from utf8_step
surrogate = refl

-- U+110000
pub past_the_last : utf8_front (0x61 ∷ 0xF4 ∷ 0x90 ∷ 0x80 ∷ 0x80 ∷ []) ≡ 2
unfolding utf8_front_from utf8_step
past_the_last = refl

-- a continuing byte that nothing began, and a first byte where one must go on
pub stray : utf8_front (0x61 ∷ 0x80 ∷ []) ≡ 1
unfolding utf8_front_from utf8_step
stray = refl

pub not_continued : utf8_front (0xE2 ∷ 0x82 ∷ 0x3C ∷ []) ≡ 2
unfolding utf8_front_from utf8_step
not_continued = refl

pub byte_ff : utf8_front (0x61 ∷ 0xFF ∷ []) ≡ 1
unfolding utf8_front_from utf8_step
byte_ff = refl
