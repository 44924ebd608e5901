-- The keys of a table with all known ids.
use Rattle.std.proofs.Common.{◌++◌, List, ap, sym, ◌∙◌}
use Rattle.std.specs.FinMap.{contains_key-keys, keys}
use Rattle.std.specs.List.{list_any}
use Rattle.vault_model.specs.Db.{NodeId}
use Rattle.vault_model.specs.Join.{is_id}
use Rattle.vault_model.specs.Proper.{rises}
use Rattle.merge_join.proofs.KnownIds.{keys_rise}
use Rattle.merge_join.proofs.joins.rising_known_ids.Goals as goal

pub returns-clause-rising : goal.returns-clause-rising
returns-clause-rising c =
    let t = c.in_ok-known.known in
    ap (rises (λ (u : NodeId). u)) (c.in_ok-push_ids.ensures ∙ ap (λ (us : List NodeId). us ++ keys t) c.new-rising.ensures.items) ∙ keys_rise t

pub returns-clause-known : goal.returns-clause-known
returns-clause-known c u =
    let t = c.in_ok-known.known in
    ap (list_any (is_id u)) (c.in_ok-push_ids.ensures ∙ ap (λ (us : List NodeId). us ++ keys t) c.new-rising.ensures.items)
    ∙ sym (contains_key-keys t u) ∙ c.in_ok-known.ensures u ∙ ap (list_any (is_id u)) (c.as_slice.ensures.value ∙ c.in_ok-ids.ensures)
