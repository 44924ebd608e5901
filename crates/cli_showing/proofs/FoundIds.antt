-- Sets of ids, into which the ids of a list are put one after another.
use Rattle.std.proofs.Common.{◌≡◌, ◌<◌, ◌+◌, ℕ, suc, Bool, true, false, cond, ◌||◌, List, ◌∷◌, length, drop, get_or, refl, sym, ap, ◌∙◌, add-one}
use Rattle.std.proofs.Math.Seq.{drop-cons}
use Rattle.std.specs.BTreeSet.{BTreeSet, contains, Updates}
use Rattle.std.specs.Cmp.{both_ways}
use Rattle.std.specs.List.{list_any}
use Rattle.vault_model.specs.Db.{NodeId, id_cmp}
use Rattle.vault_model.specs.Join.{is_id}
use Rattle.vault_model.proofs.Ids.{same_id, is_same_id}

either_way : (u v : NodeId) → is_id u v ≡ is_id v u
either_way u v = both_ways (is_id u v) (is_id v u) (λ e. is_same_id v u (sym (same_id u v e))) (λ e. is_same_id u v (sym (same_id v u e)))

-- what is in the set already, or is one more, or comes later
moved : (here there later : Bool) → (cond here true there || later) ≡ (there || (here || later))
moved true true later = refl
moved true false later = refl
moved false there later = refl

-- An id is in a set, or comes later in the list.
abbrev pub InSetOrLater : BTreeSet NodeId → (later all : List NodeId) → Type 0
InSetOrLater set later all = (v : NodeId) → (contains id_cmp set v || list_any (is_id v) later) ≡ list_any (is_id v) all

-- One more id is put into the set.
pub one_more : (ids : List NodeId) (at : ℕ) (u : NodeId) (before after : BTreeSet NodeId) → at < length ids → u ≡ get_or ids at u
    → Updates id_cmp before after u true → InSetOrLater before (drop at ids) ids → InSetOrLater after (drop (at + 1) ids) ids
one_more ids at u before after below here updates so_far v =
    let later = list_any (is_id v) (drop (suc at) ids) in
    let there = contains id_cmp before v in
    ap (λ k. contains id_cmp after v || list_any (is_id v) (drop k ids)) (add-one at)
    ∙ ap (λ b. b || later) (updates.0 v)
    ∙ moved (is_id u v) there later
    ∙ ap (λ b. there || (b || later)) (either_way u v)
    ∙ ap (λ l. there || list_any (is_id v) l) (sym (drop-cons ids at u below ∙ ap (λ x. x ∷ drop (suc at) ids) (sym here)))
    ∙ so_far v
