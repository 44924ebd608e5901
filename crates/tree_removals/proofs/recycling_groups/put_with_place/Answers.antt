use Rattle.std.proofs.Common.{◌≡◌, ◌∙◌, Err, MatchResult, Ok, Result, Some, ap}
use Rattle.vault_model.specs.SeenNodes.{tree_seen}
use Rattle.tree_removals.proofs.recycling_groups.put_with_place.Goals as goal

with_first : {A C E : Type 0} (B : Type 0) (r : Result (Unit {0}) E) → (A → C) → MatchResult r (λ _. A) (λ _. B) → MatchResult r (λ _. C) (λ _. B)
with_first B (Ok x) f h = f h
with_first B (Err e) f h = h

pub returns-in-Some-Ok : goal.returns-in-Some-Ok
returns-in-Some-Ok c =
    let spare = rw (c.in-Some-Ok.is ∙ ap Some c.in-Some-Ok.field-0-is) at c.put_group.ensures in
    with_first _ c.put_top.result (λ put. (tree_seen c.put_group.new.root, spare, put)) c.put_top.ensures
