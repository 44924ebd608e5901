-- How a text is added piece by piece: what each way out of a step says of the whole.
use Rattle.std.proofs.Common.{◌≡◌, ◌≤◌, ◌<◌, ◌-◌, ℕ, List, [], ◌∷◌, length, take, drop, Option, Some, None, Result, Ok, sym, ap, ◌∙◌, subst, arith, length-drop, take_all}
use Rattle.std.specs.List.{find}
use Rattle.outside_core.specs.Results.{◌>>=◌, Fails}
use Rattle.outside_core.proofs.Results.{fails_at_first, fails_same}
use Rattle.find_references.specs.declared.fail.FindFail.{FindFail}
use Rattle.find_references.specs.Results.{meaning_of}
use Rattle.find_references.specs.Fields.{has_at, part_value}
use Rattle.find_references.specs.References.{Reference, reference_at}
use Rattle.find_references.specs.Resolved.{Made, after_step, after_steps, copied, reference_steps, sought, steps}
use Rattle.find_references.proofs.Pieces.{stands_first}
use Rattle.std.specs.Borrow.{Bor}
use Rattle.vault_model.specs.SeenNodes.{tree_seen}
use Rattle.vault_model.specs.Tree.{entry_rows}
use Rattle.vault_model.specs.declared.nodes.Group.{Group}
use Rattle.find_references.proofs.Steps.{Row, after_pieces, after_reference, with_levels}

refused_whole : {A B : Type 0} (e : FindFail) (first : Result A FindFail) (next : A → Result B FindFail) (left whole : Result B FindFail)
    → left ≡ (first >>= next) → left ≡ whole → Fails (meaning_of e) first → Fails (meaning_of e) whole
refused_whole e first next left whole parts so_far h =
    fails_same (meaning_of e) (first >>= next) whole (sym parts ∙ so_far) (fails_at_first (meaning_of e) first next h)

rest_left : {A B : Type 0} (first : Result A FindFail) (next : A → Result B FindFail) (left whole : Result B FindFail) (a : A)
    → left ≡ (first >>= next) → left ≡ whole → first ≡ Ok a → next a ≡ whole
rest_left first next left whole a parts so_far is = sym (ap (λ r. r >>= next) is) ∙ sym parts ∙ so_far

-- the loop's whole is the function's
pub of_whole : (levels : ℕ) (rows : List Row) (text rest : List ℕ) (made start : Made) → 0 < levels
    → after_pieces (levels - 1) rows rest made ≡ after_pieces (levels - 1) rows text start
    → after_pieces (levels - 1) rows rest made ≡ after_steps (steps levels rows text) start
of_whole levels rows text rest made start some so_far = so_far ∙ sym (with_levels levels rows text start some)

-- what is left of a text following so many bytes
pub rest_of : (n : ℕ) (text : List ℕ) → take (length text - n) (drop n text) ≡ drop n text
rest_of n text = let long : length (drop n text) ≤ length text - n = omega (arith, length-drop n text) in take_all (length text - n) (drop n text) long

module _ (k : ℕ) (rows : List Row) (text : List ℕ) (r : Reference) (made : Made) (whole : Result Made FindFail)
    (found : reference_at text ≡ Some r) (so_far : after_pieces k rows text made ≡ whole) where
  -- what follows the reference, after what takes its place
  abbrev following : Option Row → Made → Result Made FindFail
  following o now = after_steps (reference_steps (steps k rows) r o) now >>= after_pieces k rows (drop (length r.written) text)

  parts : after_pieces k rows text made ≡ (after_step made sought >>= following (find (has_at r.place r.text) rows))
  parts = let s = stands_first text r found in after_reference k rows text (drop (length r.written) text) r made found s.joined s.some

  -- one reference too many
  pub count_refused : (e : FindFail) → Fails (meaning_of e) (after_step made sought) → Fails (meaning_of e) whole
  count_refused e h =
      refused_whole e (after_step made sought) (following (find (has_at r.place r.text) rows)) (after_pieces k rows text made) whole parts so_far h

  counted : (count : Made) (o : Option Row) → find (has_at r.place r.text) rows ≡ o → after_step made sought ≡ Ok count → following o count ≡ whole
  counted count o there is =
      ap (λ o. following o count) (sym there)
      ∙ rest_left (after_step made sought) (following (find (has_at r.place r.text) rows)) (after_pieces k rows text made) whole count parts so_far is

  -- a reference that stays
  pub standing_refused : (e : FindFail) (count : Made) → find (has_at r.place r.text) rows ≡ None → after_step made sought ≡ Ok count
      → Fails (meaning_of e) (after_step count (copied r.written)) → Fails (meaning_of e) whole
  standing_refused e count missing is h =
      fails_same (meaning_of e) (following None count) whole (counted count None missing is)
      (fails_at_first (meaning_of e) (after_steps (copied r.written ∷ []) count) (after_pieces k rows (drop (length r.written) text))
      (fails_at_first (meaning_of e) (after_step count (copied r.written)) (λ now. Ok now) h))

  pub standing_left : (count now : Made) → find (has_at r.place r.text) rows ≡ None → after_step made sought ≡ Ok count
      → after_step count (copied r.written) ≡ Ok now → after_pieces k rows (drop (length r.written) text) now ≡ whole
  standing_left count now missing is done =
      sym (ap (λ x. (x >>= λ m. Ok m) >>= after_pieces k rows (drop (length r.written) text)) done)
      ∙ counted count None missing is

  -- a reference that is replaced
  pub value_refused : (e : FindFail) (row : Row) (count : Made) (value : List ℕ) → find (has_at r.place r.text) rows ≡ Some row
      → after_step made sought ≡ Ok count → value ≡ part_value r.wanted row
      → Fails (meaning_of e) (after_steps (steps k rows value) count) → Fails (meaning_of e) whole
  value_refused e row count value there is same h =
      fails_same (meaning_of e) (following (Some row) count) whole (counted count (Some row) there is)
      (fails_at_first (meaning_of e) (after_steps (steps k rows (part_value r.wanted row)) count) (after_pieces k rows (drop (length r.written) text))
      (subst (λ v. Fails (meaning_of e) (after_steps (steps k rows v) count)) same h))

  pub replaced_left : (row : Row) (count now : Made) (value : List ℕ) → find (has_at r.place r.text) rows ≡ Some row
      → after_step made sought ≡ Ok count → value ≡ part_value r.wanted row → after_steps (steps k rows value) count ≡ Ok now
      → after_pieces k rows (drop (length r.written) text) now ≡ whole
  replaced_left row count now value there is same done =
      sym (ap (λ x. x >>= after_pieces k rows (drop (length r.written) text)) (ap (λ v. after_steps (steps k rows v) count) (sym same) ∙ done))
      ∙ counted count (Some row) there is

-- the same over the entries of the same group
pub refused_over : (e : FindFail) (a b : Bor Group) (k : ℕ) (value : List ℕ) (count : Made) → a ≡ b
    → Fails (meaning_of e) (after_steps (steps k (entry_rows (tree_seen a.now)) value) count)
    → Fails (meaning_of e) (after_steps (steps k (entry_rows (tree_seen b.now)) value) count)
refused_over e a b k value count same h =
    subst (λ (g : Bor Group). Fails (meaning_of e) (after_steps (steps k (entry_rows (tree_seen g.now)) value) count)) same h

pub made_over : (a b : Bor Group) (k : ℕ) (value : List ℕ) (count now : Made) → a ≡ b
    → after_steps (steps k (entry_rows (tree_seen a.now)) value) count ≡ Ok now
    → after_steps (steps k (entry_rows (tree_seen b.now)) value) count ≡ Ok now
made_over a b k value count now same h =
    subst (λ (g : Bor Group). after_steps (steps k (entry_rows (tree_seen g.now)) value) count ≡ Ok now) same h
