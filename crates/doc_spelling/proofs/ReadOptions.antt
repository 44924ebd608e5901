-- Elements that are written only where they say something else than the default.
use Rattle.std.proofs.Common.{◌≡◌, ℕ, zero, suc, Bool, true, false, cond, Option, Some, None, List, [], ◌∷◌, bytes_eq, sym, refl}
use Rattle.std.proofs.lemmas.Slice.Eq.{bytes_eq-Decides}
use Rattle.vault_model.specs.Db.{NodeId, nil_id}
use Rattle.doc_forms.specs.ElementTexts.{Setting}
use Rattle.doc_forms.specs.Children.{Child}
use Rattle.doc_spelling.specs.Pieces.{Piece, piece_if, unless_empty, unless_zero, unless_nil, unless_true, unless_false}
use Rattle.doc_spelling.proofs.Frame.{Reads, ReadsAll, reads_none, ◌▸◌, all_alike}
use Rattle.doc_spelling.proofs.Goods.{If}

-- a thing, or the old one where there is none
abbrev pub or_old : {A : Type 0} → Option A → A → A
or_old None old = old
or_old (Some x) old = x

-- the element of a part of what is known, where there is one
pub maybe_part : {A P V : Type 0} {s : Setting} {view : P → V} {child : Child P} (piece : A → Piece) (part : V → A) (put_in : V → A → V) (Good : A → Type 0)
    → ((v : V) → put_in v (part v) ≡ v) → ((x : A) → Good x → Reads s view child (piece x) (λ v. put_in v x) 0) → (o : Option A) → If Good o
    → ReadsAll s view child (piece_if piece o) (λ v. put_in v (or_old o (part v))) 0
maybe_part piece part put_in Good same reads None good = all_alike (λ v. put_in v (part v)) 0 (λ v. sym (same v)) refl reads_none
maybe_part piece part put_in Good same reads (Some x) good = reads x good ▸ reads_none

-- ---- what is known in the end

pub unless_zero_back : (n : ℕ) → or_old (unless_zero n) 0 ≡ n
unless_zero_back zero = refl
unless_zero_back (suc n) = refl

pub unless_empty_back : {A : Type 0} (xs : List A) → or_old (unless_empty xs) [] ≡ xs
unless_empty_back [] = refl
unless_empty_back (x ∷ xs) = refl

pub unless_true_back : (b : Bool) → or_old (unless_true b) true ≡ b
unless_true_back true = refl
unless_true_back false = refl

pub unless_false_back : (b : Bool) → or_old (unless_false b) false ≡ b
unless_false_back true = refl
unless_false_back false = refl

pub unless_nil_back : (u : NodeId) → or_old (unless_nil u) nil_id ≡ u
unless_nil_back u = by_test (bytes_eq u nil_id) refl
  where
    by_test : (b : Bool) → bytes_eq u nil_id ≡ b → or_old (cond b None (Some u)) nil_id ≡ u
    by_test true e = sym ((bytes_eq-Decides u nil_id).0 e)
    by_test false e = refl

-- ---- what holds of a thing holds of it where it is written

pub if_not_zero : (P : ℕ → Type 0) (n : ℕ) → P n → If P (unless_zero n)
if_not_zero P zero h = tt
if_not_zero P (suc n) h = h

pub if_not_empty : {A : Type 0} (P : List A → Type 0) (xs : List A) → P xs → If P (unless_empty xs)
if_not_empty P [] h = tt
if_not_empty P (x ∷ xs) h = h

pub if_not_true : (P : Bool → Type 0) (b : Bool) → P b → If P (unless_true b)
if_not_true P true h = tt
if_not_true P false h = h

pub if_not_false : (P : Bool → Type 0) (b : Bool) → P b → If P (unless_false b)
if_not_false P true h = h
if_not_false P false h = tt

pub if_not_nil : (P : NodeId → Type 0) (u : NodeId) → P u → If P (unless_nil u)
if_not_nil P u h = by_test (bytes_eq u nil_id)
  where
    by_test : (b : Bool) → If P (cond b None (Some u))
    by_test true = tt
    by_test false = h

-- the first of two that there may be
abbrev pub or_else : {A : Type 0} → Option A → Option A → Option A
or_else None old = old
or_else (Some x) old = Some x

pub or_none : {A : Type 0} (o : Option A) → or_else o None ≡ o
or_none None = refl
or_none (Some x) = refl
