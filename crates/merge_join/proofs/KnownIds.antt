-- All ids that members know, by rising id: those that are held are among them, and the first stray is the least.
use Rattle.std.proofs.Common.{◌≡◌, ◌++◌, Bool, true, not, inl, inr, List, refl, ◌∙◌}
use Rattle.std.specs.Cmp.{both_ways}
use Rattle.std.specs.FinMap.{FinMap, contains_key, entries, entries_sorted, keys}
use Rattle.std.specs.List.{list_any, filter}
use Rattle.vault_model.specs.Db.{NodeId, id_cmp, Db, holds}
use Rattle.vault_model.specs.Join.{is_id, root_of, is_held, own, path, ids, IsIn, IsNotEmpty, HaveOneRoot}
use Rattle.vault_model.specs.Proper.{rises}
use Rattle.merge_core.proofs.Facts.{held_id}
use Rattle.merge_core.proofs.Laid.{in_list, list_in}
use Rattle.vault_model.proofs.Orders.{id_order}
use Rattle.vault_model.proofs.Tests.{or_cases, and_true, any_found, in_front, in_back, in_flat, in_filter, from_filter}
use Rattle.merge_core.proofs.Unite.{in_keys}
use Rattle.merge_core.specs.Marking.{first_such, is_stray, strays}
use Rattle.merge_core.specs.Refusals.{least}
use Rattle.merge_core.proofs.Distinct.{sorted_rises}
use Rattle.merge_core.proofs.Allowed.{own_held}
use Rattle.merge_core.proofs.Refused.{first_least, same_least}
use Rattle.merge_parts.specs.KnownIds.{known_in, known_ids}
use Rattle.merge_join.specs.Marks.{AllSound, AreKnown}

-- what a member holds it knows
pub held_known : (S : List Db) (us : List NodeId) → AreKnown S us → (u : NodeId) → is_held S u ≡ true → IsIn u us
held_known S us known u e =
    let f = any_found (λ (m : Db). holds m u) S e in
    let m = f.0 in
    let nodes = keys m.entries ++ keys m.groups in
    let others = keys m.places ++ keys m.tombs in
    let there : IsIn u (known_in m) =
    elim (or_cases (contains_key m.entries u) (contains_key m.groups u) f.1.1) [
      | inl k ↦ in_front nodes others u (in_front (keys m.entries) (keys m.groups) u (in_keys id_order.total id_order.same m.entries u k))
      | inr k ↦ in_front nodes others u (in_back (keys m.entries) (keys m.groups) u (in_keys id_order.total id_order.same m.groups u k))
    ] in
    in_list u us (known u ∙ list_in u (known_ids S) (in_flat known_in S m u f.1.0 there))

-- the keys of a table rise
pub keys_rise : (t : FinMap id_cmp Bool) → rises (λ u. u) (keys t) ≡ true
keys_rise t = sorted_rises (λ u. u) (λ (e : NodeId × Bool). e.0) (entries t) (entries_sorted t) (λ e h. refl)

-- of all known ids, which rise, the first stray is the least of all strays
pub stray_least : (S : List Db) → IsNotEmpty S → HaveOneRoot S → AllSound S → (us : List NodeId) → rises (λ u. u) us ≡ true → AreKnown S us
    → first_such (is_stray S) us ≡ least (strays S)
stray_least S some one sound us up known =
    first_least (is_stray S) us up ∙ same_least (filter (is_stray S) us) (strays S) (λ u.
    both_ways (list_any (is_id u) (filter (is_stray S) us)) (list_any (is_id u) (strays S))
    (λ e.
    let f = from_filter (is_stray S) us u (in_list u (filter (is_stray S) us) e) in
    list_in u (strays S) (in_filter (is_stray S) (ids S) u (held_id S u (stray_held u f.1)) f.1))
    (λ e.
    let f = from_filter (is_stray S) (ids S) u (in_list u (strays S) e) in
    list_in u (filter (is_stray S) us) (in_filter (is_stray S) us u (held_known S us known u (stray_held u f.1)) f.1)))
  where
    stray_held : (u : NodeId) → is_stray S u ≡ true → is_held S u ≡ true
    stray_held u e = own_held S some one sound u (and_true (own S u) (not (list_any (is_id (root_of S)) (path S u))) e).0
