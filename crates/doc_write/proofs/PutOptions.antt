-- What is put only where it is there.
use Rattle.std.proofs.Common.{◌≡◌, ℕ, zero, suc, Bool, true, false, Option, Some, None, List, [], ◌∷◌, length, ap, sym, ◌∙◌, refl, subst, ◌<◌, arith}
use Rattle.std.proofs.lemmas.Slice.Eq.{bytes_eq-Decides}
use Rattle.std.specs.Prelude.{bytes_eq}
use Rattle.doc_sinks.proofs.Puts.{done, one}
use Rattle.doc_sinks.specs.Chunks.{Chunk}
use Rattle.doc_sinks.specs.States.{after_piece, after_pieces}
use Rattle.doc_spelling.specs.Ranges.{are_bytes, is_uuid}
use Rattle.vault_model.specs.Db.{NodeId, nil_id}
use Rattle.doc_spelling.specs.Pieces.{Piece, unless_empty, unless_true, unless_zero, unless_nil, piece_if}

-- a thing that is there, and one that is not
pub put_some : {S A : Type 0} {t : S} (step : S → Chunk → S) (s : S) (f : A → Piece) (o : Option A) (x : A)
    → o ≡ Some x → t ≡ after_piece step s (f x) → t ≡ after_pieces step s (piece_if f o)
put_some step s f o x e h = rw e (one step s (f x) h)

pub put_no : {S A : Type 0} {s : S} (step : S → Chunk → S) (f : A → Piece) (o : Option A) → o ≡ None → s ≡ after_pieces step s (piece_if f o)
put_no step f o e = rw e (done step)

-- which are there
pub nonzero_yes : (n : ℕ) → 0 < n → unless_zero n ≡ Some n
nonzero_yes zero e = absurd (omega (arith, e))
nonzero_yes (suc n) e = refl

pub nonzero_no : (n : ℕ) → n ≡ 0 → unless_zero n ≡ None
nonzero_no zero e = refl
nonzero_no (suc n) e = absurd (omega (arith, e))

pub filled_yes : {A : Type 0} (xs : List A) → 0 < length xs → unless_empty xs ≡ Some xs
filled_yes [] e = absurd (omega (arith, e))
filled_yes (x ∷ xs) e = refl

pub filled_no : {A : Type 0} (xs : List A) → length xs ≡ 0 → unless_empty xs ≡ None
filled_no [] e = refl
filled_no (x ∷ xs) e = absurd (omega (arith, e))

pub not_nil_yes : (u : NodeId) → bytes_eq u nil_id ≡ false → unless_nil u ≡ Some u
not_nil_yes u e = rw e refl

pub not_nil_no : (u : NodeId) → bytes_eq u nil_id ≡ true → unless_nil u ≡ None
not_nil_no u e = rw e refl

-- the nil id is of 16 bytes
pub nil_fits : (u : NodeId) → bytes_eq u nil_id ≡ true → is_uuid u ≡ true
unfolding are_bytes
nil_fits u e = subst (λ v. is_uuid v ≡ true) (sym ((bytes_eq-Decides u nil_id).0 e)) refl
