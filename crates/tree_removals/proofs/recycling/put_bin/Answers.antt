use Rattle.std.proofs.Common.{◌∙◌, ap, Err, MatchResult, Ok, Result, Some}
use Rattle.vault_model.specs.SeenNodes.{entry_row, tree_seen}
use Rattle.tree_removals.proofs.NewBins.{bin_put}
use Rattle.tree_removals.proofs.recycling.put_bin.Goals as goal

with_first : {A C E : Type 0} (B : Type 0) (r : Result (Unit {0}) E) → (A → C) → MatchResult r (λ _. A) (λ _. B) → MatchResult r (λ _. C) (λ _. B)
with_first B (Ok x) f h = f h
with_first B (Err e) f h = h

pub returns-in-Some-Ok : goal.returns-in-Some-Ok
returns-in-Some-Ok c =
    let spare = rw (c.in-Some-Ok.is ∙ ap Some c.in-Some-Ok.field-0-is) at c.put_entry.ensures in
    with_first _ c.put_top.result (λ put.
    bin_put c.args.root.now c.args.bin c.args.now (tree_seen c.in_ok-group.group) (tree_seen c.put_entry.new.root) (tree_seen c.put_top.new.root) (entry_row c.no_entry.result)
    c.in_ok-group.ensures spare put c.no_entry.ensures c.requires) c.put_top.ensures
