-- Steps one after another.
use Rattle.std.proofs.Common.{◌≡◌, ◌<◌, ◌-◌, ℕ, zero, suc, List, [], ◌∷◌, ◌++◌, flat_map, length, Some, None, Result, Ok, Err, refl, ap, ◌∙◌, arith}
use Rattle.std.specs.List.{find}
use Rattle.outside_core.specs.Results.{◌>>=◌}
use Rattle.find_references.specs.declared.fail.FindFail.{FindFail}
use Rattle.find_references.specs.Fields.{has_at}
use Rattle.find_references.specs.References.{Reference, pieces, reference_at}
use Rattle.find_references.specs.Resolved.{Made, Step, after_step, after_steps, copied, piece_steps, reference_steps, sought, steps}
use Rattle.find_references.proofs.Pieces.{byte_first, reference_first}
use Rattle.vault_model.specs.Db.{NodeId}
use Rattle.vault_model.specs.Shape.{EntryRecord}

abbrev pub Row : Type 0
Row = NodeId × EntryRecord

-- what binds twice binds once
pub in_turn : {A B C : Type 0} (first : Result A FindFail) (then : A → Result B FindFail) (last : B → Result C FindFail)
    → ((first >>= then) >>= last) ≡ (first >>= λ a. then a >>= last)
in_turn (Ok a) then last = refl
in_turn (Err e) then last = refl

-- with nothing following it a computation is what it was
pub nothing_behind : {A : Type 0} (first : Result A FindFail) → (first >>= λ a. Ok a) ≡ first
nothing_behind (Ok a) = refl
nothing_behind (Err e) = refl

pub after_both : (front following : List Step) (made : Made) → after_steps (front ++ following) made ≡ (after_steps front made >>= after_steps following)
after_both [] following made = refl
after_both (step ∷ front) following made = first (after_step made step) (λ now. after_both front following now)
  where
    first : (r : Result Made FindFail) → ((now : Made) → after_steps (front ++ following) now ≡ (after_steps front now >>= after_steps following))
        → (r >>= after_steps (front ++ following)) ≡ ((r >>= after_steps front) >>= after_steps following)
    first (Ok now) later = later now
    first (Err e) later = refl

-- ---- the pieces of a text, with the levels that are left below

abbrev pub after_pieces : ℕ → List Row → List ℕ → Made → Result Made FindFail
after_pieces levels rows text = after_steps (flat_map (piece_steps rows (steps levels rows)) (pieces 0 text))

pub with_levels : (levels : ℕ) (rows : List Row) (text : List ℕ) (made : Made) → 0 < levels
    → after_steps (steps levels rows text) made ≡ after_pieces (levels - 1) rows text made
with_levels zero rows text made some = absurd (omega arith)
with_levels (suc levels) rows text made some =
    let n : levels ≡ suc levels - 1 = omega arith in ap (λ k. after_pieces k rows text made) n

pub without_levels : (rows : List Row) (text : List ℕ) (made : Made) → after_steps (steps 0 rows text) made ≡ after_step made (copied text)
without_levels rows text made = nothing_behind (after_step made (copied text))

-- a byte that is copied
pub after_byte : (levels : ℕ) (rows : List Row) (b : ℕ) (bs : List ℕ) (made : Made) → reference_at (b ∷ bs) ≡ None
    → after_pieces levels rows (b ∷ bs) made ≡ (after_step made (copied (b ∷ [])) >>= after_pieces levels rows bs)
after_byte levels rows b bs made none =
    ap (λ ps. after_steps (flat_map (piece_steps rows (steps levels rows)) ps) made) (byte_first b bs none)

-- a reference, whose entry is looked for
pub after_reference : (levels : ℕ) (rows : List Row) (text following : List ℕ) (r : Reference) (made : Made)
    → reference_at text ≡ Some r → text ≡ r.written ++ following → 0 < length r.written
    → after_pieces levels rows text made
    ≡ (after_step made sought >>= λ now. after_steps (reference_steps (steps levels rows) r (find (has_at r.place r.text) rows)) now >>= after_pieces levels rows following)
after_reference levels rows text following r made found joined some =
    ap (λ ps. after_steps (flat_map (piece_steps rows (steps levels rows)) ps) made) (reference_first text following r found joined some)
    ∙ first (after_step made sought)
  where
    place : List Step
    place = reference_steps (steps levels rows) r (find (has_at r.place r.text) rows)

    first : (x : Result Made FindFail)
        → (x >>= after_steps (place ++ flat_map (piece_steps rows (steps levels rows)) (pieces 0 following)))
        ≡ (x >>= λ now. after_steps place now >>= after_pieces levels rows following)
    first (Ok now) = after_both place (flat_map (piece_steps rows (steps levels rows)) (pieces 0 following)) now
    first (Err fail) = refl
