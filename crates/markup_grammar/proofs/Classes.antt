-- Which bytes are of which class.
use Rattle.std.proofs.Common.{◌≡◌, ℕ, Bool, true, false, eqb, ◌||◌, refl, sym, subst, arith, eqb-true}
use Rattle.markup_grammar.specs.Bytes.{is_space, is_digit, is_hex_digit, begins_name, is_name_byte, is_text, is_value}

pub space_not_open : is_space 60 ≡ false
unfolding is_space
space_not_open = refl

pub space_not_close : is_space 62 ≡ false
unfolding is_space
space_not_close = refl

pub space_not_slash : is_space 47 ≡ false
unfolding is_space
space_not_slash = refl

pub space_not_equal : is_space 61 ≡ false
unfolding is_space
space_not_equal = refl

pub space_not_mark : is_space 0xEF ≡ false
unfolding is_space
space_not_mark = refl

pub space_not_double : is_space 34 ≡ false
unfolding is_space
space_not_double = refl

pub space_not_single : is_space 39 ≡ false
unfolding is_space
space_not_single = refl

pub begins_not_close : begins_name 62 ≡ false
unfolding begins_name
begins_not_close = refl

pub begins_not_slash : begins_name 47 ≡ false
unfolding begins_name
begins_not_slash = refl

pub begins_not_bang : begins_name 33 ≡ false
unfolding begins_name
begins_not_bang = refl

pub begins_not_question : begins_name 63 ≡ false
unfolding begins_name
begins_not_question = refl

pub name_not_close : is_name_byte 62 ≡ false
unfolding is_name_byte begins_name is_digit
name_not_close = refl

pub name_not_slash : is_name_byte 47 ≡ false
unfolding is_name_byte begins_name is_digit
name_not_slash = refl

pub name_not_equal : is_name_byte 61 ≡ false
unfolding is_name_byte begins_name is_digit
name_not_equal = refl

pub text_not_open : is_text 60 ≡ false
unfolding is_text is_space
text_not_open = refl

pub text_not_and : is_text 38 ≡ false
unfolding is_text is_space
text_not_and = refl

pub value_not_and : (quote : ℕ) → is_value quote 38 ≡ false
unfolding is_value is_text is_space
value_not_and quote = refl

pub digit_not_x : is_digit 120 ≡ false
unfolding is_digit
digit_not_x = refl

pub digit_not_semicolon : is_digit 59 ≡ false
unfolding is_digit
digit_not_semicolon = refl

pub hex_not_semicolon : is_hex_digit 59 ≡ false
unfolding is_hex_digit is_digit
hex_not_semicolon = refl

-- what begins a name may stand in it
pub name_from_begins : (b : ℕ) → begins_name b ≡ true → is_name_byte b ≡ true
unfolding is_name_byte
name_from_begins b h = rw h refl

-- by which of two tests tells
pub either : {A : Type 0} (x y : Bool) → (x ≡ true → A) → (y ≡ true → A) → ◌||◌ x y ≡ true → A
either true y left right h = left refl
either false y left right h = right h

-- white space, byte by byte
pub space_cases : (P : ℕ → Type 0) → P 9 → P 10 → P 13 → P 32 → (b : ℕ) → is_space b ≡ true → P b
unfolding is_space
space_cases P tab feed back blank b h =
    either (eqb b 9 || eqb b 10 || eqb b 13) (eqb b 32)
    (either (eqb b 9 || eqb b 10) (eqb b 13)
    (either (eqb b 9) (eqb b 10) (λ e. subst P (sym (eqb-true b 9 e)) tab) (λ e. subst P (sym (eqb-true b 10 e)) feed))
    (λ e. subst P (sym (eqb-true b 13 e)) back))
    (λ e. subst P (sym (eqb-true b 32 e)) blank) h

-- white space stands in no name
pub space_not_name : (b : ℕ) → is_space b ≡ true → is_name_byte b ≡ false
unfolding is_name_byte begins_name is_digit
space_not_name b h = space_cases (λ n. is_name_byte n ≡ false) refl refl refl refl b h

pub begins_not_space : (b : ℕ) → begins_name b ≡ true → is_space b ≡ false
unfolding is_space begins_name
begins_not_space b h = grind arith

pub value_not_quote : (quote b : ℕ) → is_value quote b ≡ true → eqb b quote ≡ false
unfolding is_value
value_not_quote quote b h = grind arith
