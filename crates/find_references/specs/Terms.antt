-- The terms of a search.
use Rattle.std.specs.Prelude.{ℕ, zero, suc, ◌+◌, ◌-◌, Bool, true, false, ◌||◌, ◌==◌, nat_lt, if◌then◌else◌, List, [], ◌∷◌, ◌++◌, length, codes, Option, None, Some, Result, Ok, Err}
use Rattle.std.specs.List.{after_first, before_first, position_or_len}
use Rattle.std.specs.Str.{bytes_eq}
use Rattle.find_references.specs.declared.fail.FindFail.{FindFail}
use Rattle.find_references.specs.declared.fail.FindFail.TheVariants.{EmptyTerm}
use Rattle.find_references.specs.declared.terms.SearchField.{SearchField}
use Rattle.find_references.specs.declared.terms.SearchField.TheVariants as field
use Rattle.find_references.specs.declared.terms.Term.{Term}

-- A space.
abbrev pub is_space : ℕ → Bool
is_space b = b == 32

-- A colon.
abbrev pub is_colon : ℕ → Bool
is_colon b = b == 58

-- A quotation mark.
abbrev pub is_quote : ℕ → Bool
is_quote b = b == 34

-- A sign for "not": `!` or `-`.
abbrev pub is_not_sign : ℕ → Bool
is_not_sign b = b == 33 || b == 45

-- The sign for "whole": `+`.
abbrev pub is_whole_sign : ℕ → Bool
is_whole_sign b = b == 43

-- Which signs there are, and what follows them.
pub record SignsBefore : Type 0 where
  pub not : Bool
  pub whole : Bool
  pub following : List ℕ

-- The signs that a text begins with, beside those that were there already. They may stand in any
-- order, and more than once.
abbrev pub signs_before : Bool → Bool → List ℕ → SignsBefore
signs_before not whole [] = record { not = not; whole = whole; following = [] }
signs_before not whole (b ∷ bs) =
    if is_not_sign b then signs_before true whole bs
    else (if is_whole_sign b then signs_before not true bs
    else record { not = not; whole = whole; following = b ∷ bs })

-- The field of a name.
abbrev pub field_named : List ℕ → Option SearchField
field_named word =
    if bytes_eq word (codes "title") then Some field.Title
    else (if bytes_eq word (codes "t") then Some field.Title
    else (if bytes_eq word (codes "username") then Some field.UserName
    else (if bytes_eq word (codes "user") then Some field.UserName
    else (if bytes_eq word (codes "u") then Some field.UserName
    else (if bytes_eq word (codes "password") then Some field.Password
    else (if bytes_eq word (codes "pass") then Some field.Password
    else (if bytes_eq word (codes "p") then Some field.Password
    else (if bytes_eq word (codes "url") then Some field.Url
    else (if bytes_eq word (codes "notes") then Some field.Notes
    else (if bytes_eq word (codes "n") then Some field.Notes
    else (if bytes_eq word (codes "tags") then Some field.Tags
    else (if bytes_eq word (codes "group") then Some field.Group
    else (if bytes_eq word (codes "g") then Some field.Group
    else (if bytes_eq word (codes "attr") then Some field.Attr
    else None))))))))))))))

-- A text up to some byte, and what follows that byte.
pub record Cut : Type 0 where
  pub text : List ℕ
  pub following : List ℕ

-- What is up to the first byte of a kind, or to the end, and what follows that byte.
abbrev pub cut_at : (ℕ → Bool) → List ℕ → Cut
cut_at is_end text = record { text = before_first is_end text; following = after_first is_end text }

-- Whether a byte of a kind is there.
abbrev pub has_byte : (ℕ → Bool) → List ℕ → Bool
has_byte is_end text = nat_lt (position_or_len is_end text) (length text)

-- A field, and what follows it.
pub record FieldBefore : Type 0 where
  pub field : SearchField
  pub following : List ℕ

-- The field of a name that was found, or any field of a text that names none.
abbrev pub field_or_any : List ℕ → List ℕ → Option SearchField → FieldBefore
field_or_any text following (Some f) = record { field = f; following = following }
field_or_any text following None = record { field = field.Any; following = text }

-- The field that a text begins with: what is before the first colon, where that is a field's name.
-- Any other word before a colon is a part of the text.
abbrev pub field_before : List ℕ → FieldBefore
field_before text =
    if has_byte is_colon text
    then field_or_any text (cut_at is_colon text).following
    (field_named (cut_at is_colon text).text)
    else field_or_any text [] None

-- The text that a text begins with: from a quotation mark up to the next, or else up to a space.
abbrev pub text_before : List ℕ → Cut
text_before [] = cut_at is_space []
text_before (b ∷ bs) = if is_quote b then cut_at is_quote bs else cut_at is_space (b ∷ bs)

-- A term, and what follows it.
pub record TermBefore : Type 0 where
  pub term : Term
  pub following : List ℕ

-- The term of these parts.
abbrev pub term_of : SignsBefore → FieldBefore → Cut → TermBefore
term_of signs body text = record {
  term = record {
    not = signs.not;
    whole = signs.whole;
    field = body.field;
    text = text.text;
  };
  following = text.following;
}

-- The term that a text begins with: signs, then a field, then a text.
unfoldable pub term_before : List ℕ → TermBefore
term_before text =
    let signs = signs_before false false text in
    let body = field_before signs.following in
    term_of signs body (text_before body.following)

-- A term with its offset.
pub record PlacedTerm : Type 0 where
  pub offset : ℕ
  pub term : Term

-- The terms of what is left of a text from an offset on, where so many bytes are passed over first.
abbrev pub terms_from : ℕ → ℕ → List ℕ → List PlacedTerm
terms_from offset passed [] = []
terms_from offset (suc passed) (b ∷ bs) = terms_from (offset + 1) passed bs
terms_from offset zero (b ∷ bs) =
    if is_space b then terms_from (offset + 1) 0 bs
    else (let found = term_before (b ∷ bs) in
    record { offset = offset; term = found.term }
    ∷ terms_from (offset + 1) (length bs - length found.following) bs)

-- Some terms and then others, or the refusal of the first of those that has no text.
abbrev pub with_texts : List Term → List PlacedTerm → Result (List Term) FindFail
with_texts terms [] = Ok terms
with_texts terms (placed ∷ others) =
    if length placed.term.text == 0 then Err (EmptyTerm placed.offset)
    else with_texts (terms ++ placed.term ∷ []) others

-- Terms, of which there is one at least.
abbrev pub one_at_least : Result (List Term) FindFail → Result (List Term) FindFail
one_at_least (Ok []) = Err (EmptyTerm 0)
one_at_least (Ok (term ∷ terms)) = Ok (term ∷ terms)
one_at_least (Err fail) = Err fail

-- The terms of a search, separated by spaces or by the end of a text in quotation marks, or the
-- refusal of the first that has no text.
unfoldable pub terms_of : List ℕ → Result (List Term) FindFail
terms_of text = one_at_least (with_texts [] (terms_from 0 0 text))
