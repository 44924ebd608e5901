-- Of all known ids, which rise, the first that passes a test of held nodes is the least that does.
use Rattle.std.proofs.Common.{◌≡◌, ℕ, Bool, true, not, List, ◌∙◌}
use Rattle.std.specs.Cmp.{both_ways}
use Rattle.std.specs.FinMap.{contains_key}
use Rattle.std.specs.List.{list_any, filter}
use Rattle.vault_model.specs.Db.{Db, NodeId}
use Rattle.vault_model.specs.Join.{is_held, ids, is_id, root_of, trail, kept, Allowed}
use Rattle.vault_model.specs.Proper.{rises}
use Rattle.merge_core.proofs.Allowed.{kept_held}
use Rattle.merge_core.proofs.Facts.{held_by, held_id}
use Rattle.merge_core.proofs.Laid.{in_list, list_in}
use Rattle.vault_model.proofs.Tests.{and_true, any_found, from_filter, in_filter, or_left}
use Rattle.merge_core.specs.Marking.{first_such}
use Rattle.merge_core.specs.Refusals.{allowed_steps, is_entry, is_group, is_too_deep, least}
use Rattle.merge_core.proofs.Refused.{first_least, same_least}
use Rattle.merge_join.specs.Marks.{AllSound, AreKnown}
use Rattle.merge_join.proofs.KnownIds.{held_known}
use Rattle.merge_checks.specs.Clashes.{is_of_two_kinds}

pub first_held : (S : List Db) (test : NodeId → Bool) → ((u : NodeId) → test u ≡ true → is_held S u ≡ true) → (us : List NodeId) → rises (λ u. u) us ≡ true → AreKnown S us
    → first_such test us ≡ least (filter test (ids S))
first_held S test there us up known =
    first_least test us up ∙ same_least (filter test us) (filter test (ids S)) (λ u.
    both_ways (list_any (is_id u) (filter test us)) (list_any (is_id u) (filter test (ids S)))
    (λ e.
    let f = from_filter test us u (in_list u (filter test us) e) in
    list_in u (filter test (ids S)) (in_filter test (ids S) u (held_id S u (there u f.1)) f.1))
    (λ e.
    let f = from_filter test (ids S) u (in_list u (filter test (ids S)) e) in
    list_in u (filter test us) (in_filter test us u (held_known S us known u (there u f.1)) f.1)))

pub two_held : (S : List Db) (u : NodeId) → is_of_two_kinds S u ≡ true → is_held S u ≡ true
two_held S u e =
    let f = any_found (λ (m : Db). contains_key m.entries u) S (and_true (is_entry S u) (is_group S u) e).0 in
    held_by S f.0 u f.1.0 (or_left (contains_key f.0.entries u) (contains_key f.0.groups u) f.1.1)

pub deep_held : (S : List Db) (al : Allowed S) (sound : AllSound S) (n : ℕ) (u : NodeId) → is_too_deep n S u ≡ true → is_held S u ≡ true
deep_held S al sound n u e =
    kept_held S al sound u (and_true (kept S u) (not (list_any (is_id (root_of S)) (trail S (allowed_steps n S u) u))) e).0
