use Rattle.std.proofs.Common.{◌∙◌, [], ap, Err, MatchResult, Ok, Result}
use Rattle.vault_model.specs.SeenNodes.{tree_seen}
use Rattle.tree_core.specs.NewNodes.{empty_group}
use Rattle.tree_removals.proofs.GroupBins.{bin_put}
use Rattle.tree_removals.proofs.recycling_groups.put_bin.Goals as goal

with_first : {A C E : Type 0} (B : Type 0) (r : Result (Unit {0}) E) → (A → C) → MatchResult r (λ _. A) (λ _. B) → MatchResult r (λ _. C) (λ _. B)
with_first B (Ok x) f h = f h
with_first B (Err e) f h = h

pub returns-in-Ok : goal.returns-in-Ok
returns-in-Ok c =
    with_first _ c.put_with_place.result (λ put.
    bin_put c.args.root.now c.args.bin c.args.now (tree_seen c.in-Ok.place) (tree_seen c.in_ok-group.group) put.0 (tree_seen c.put_with_place.new.root)
    (c.in-Ok.ensures ∙ ap (λ v. empty_group v [] c.args.now) c.nil.ensures) c.in_ok-group.ensures put.1 put.2 c.requires) c.put_with_place.ensures
