-- Rows as the crate `csv` writes them.
use Rattle.std.proofs.Common.{◌≡◌, ◌==◌, ℕ, false, List, [], ◌∷◌, ◌++◌, refl, ap, ◌∙◌, inl, inr, codes, length}
use Rattle.std.specs.Prelude.{flat_map}
use Rattle.std.proofs.lemmas.Bool.{cases_Bool, eqb-true, ne_eqb}
use Rattle.csv.specs.Writing as csv
use Rattle.csv.specs.Writing.{escaped, fields_text, is_blank, row_text}
use Rattle.table_core.specs.Tables.{after_commas, doubled, quoted, row_of}
use Rattle.table_core.specs.Written.{quoting_writer}

escaped_is : (field : List ℕ) → flat_map doubled field ≡ escaped quoting_writer field
unfolding escaped
escaped_is [] = refl
escaped_is (b ∷ rest) = elim (cases_Bool (b == 34)) [
  | inl same ↦ rw (same, eqb-true b 34 same) (ap (λ (l : List ℕ). 34 ∷ 34 ∷ l) (escaped_is rest))
  | inr other ↦ rw other (ap (λ (l : List ℕ). b ∷ l) (escaped_is rest))
]

quoted_is : (field : List ℕ) → quoted field ≡ csv.quoted quoting_writer field
quoted_is field = ap (λ (l : List ℕ). 34 ∷ (l ++ 34 ∷ [])) (escaped_is field)

after_commas_is : (fields : List (List ℕ)) → after_commas fields ≡ fields_text quoting_writer fields
unfolding fields_text
after_commas_is [] = refl
after_commas_is (field ∷ fields) =
    ap (λ (l : List ℕ). (44 ∷ l) ++ after_commas fields) (quoted_is field)
    ∙ ap (λ (l : List ℕ). 44 ∷ (csv.quoted quoting_writer field ++ l)) (after_commas_is fields)

not_blank : (field : List ℕ) (fields : List (List ℕ)) → is_blank quoting_writer (field ∷ fields) ≡ false
unfolding is_blank
not_blank field [] = ne_eqb (length (csv.quoted quoting_writer field)) 0 (λ z. cc z)
not_blank field (next ∷ rest) = refl

pub row_is : (field : List ℕ) (fields : List (List ℕ)) → row_of (field ∷ fields) ≡ row_text quoting_writer (field ∷ fields)
row_is field fields = rw (not_blank field fields)
    (ap (λ (l : List ℕ). l ++ after_commas fields ++ codes "\n") (quoted_is field)
    ∙ ap (λ (l : List ℕ). csv.quoted quoting_writer field ++ l ++ codes "\n") (after_commas_is fields))
