-- How a value is compared with the text of a term.
use Rattle.std.specs.Prelude.{ℕ, Bool, ◌||◌, ◌==◌, if◌then◌else◌, List, [], ◌∷◌, bytes_eq, chars, encode_utf8_all}
use Rattle.std.specs.List.{starts_with}
use Rattle.std.specs.Str.{is_utf8}
use Rattle.caseless.specs.Caseless.{default_case_fold}

-- A text with full case folding, in UTF-8. Every value is a text; what is none would stay as it is.
unfoldable pub case_folded : List ℕ → List ℕ
case_folded bytes =
    if is_utf8 bytes then encode_utf8_all (default_case_fold (chars bytes)) else bytes

-- A text begins with another.
abbrev pub begins_with : List ℕ → List ℕ → Bool
begins_with text part = starts_with (λ a b. a == b) text part

-- A text contains another. In UTF-8 it does so just where its bytes do.
abbrev pub contains : List ℕ → List ℕ → Bool
contains [] part = begins_with [] part
contains (b ∷ bs) part = begins_with (b ∷ bs) part || contains bs part

-- A folded value is a folded text, or contains it.
abbrev pub fits : Bool → List ℕ → List ℕ → Bool
fits whole value text = if whole then bytes_eq value text else contains value text
