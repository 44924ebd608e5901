-- Rows that do not have an element's name.
use Rattle.std.proofs.Common.{◌≡◌, ℕ, false, cond, List, [], ◌∷◌, ◌++◌, refl, ap, sym, ◌∙◌}
use Rattle.std.proofs.lemmas.Bool.{false_from_ne_true}
use Rattle.std.proofs.lemmas.Slice.Eq.{bytes_eq-Decides}
use Rattle.std.specs.Str.{bytes_eq}
use Rattle.markup_grammar.specs.Elements.{Element}
use Rattle.doc_forms.specs.declared.cursor.Cursor.{Cursor}
use Rattle.doc_forms.specs.ElementTexts.{Setting}
use Rattle.doc_forms.specs.Children.{Child, name_of, by_name}

-- none of the rows has the name
abbrev pub Differs : {P : Type 0} → List ℕ → List (List ℕ × Child P) → Type 0
Differs name [] = Unit {0}
Differs name (row ∷ rows) = (name ≡ row.0 → ⊥) × Differs name rows

other_name : (a b : List ℕ) → (a ≡ b → ⊥) → bytes_eq a b ≡ false
other_name a b h = false_from_ne_true (bytes_eq a b) (λ t. h ((bytes_eq-Decides a b).0 t))

-- an element is read by the rows after those that do not have its name
pub later_rows : {P : Type 0} (s : Setting) (first rest : List (List ℕ × Child P)) (parts : P) (e : Element) (cursor : Cursor)
    → Differs (name_of e) first → by_name s rest parts e cursor ≡ by_name s (first ++ rest) parts e cursor
later_rows s [] rest parts e cursor h = refl
later_rows s (row ∷ first) rest parts e cursor h =
    later_rows s first rest parts e cursor h.1
    ∙ ap (λ b. cond b (row.1 parts e cursor) (by_name s (first ++ rest) parts e cursor)) (sym (other_name (name_of e) row.0 h.0))
