use Rattle.std.proofs.Common.{◌∙◌, sym, ap}
use Rattle.std.specs.Prelude.{option_map}
use Rattle.vault_model.specs.SeenNodes.{tree_seen}
use Rattle.cli_printing.proofs.Groups.{found_below}
use Rattle.cli_printing.proofs.listing.+group_with.Goals as goal

pub returns-in-Some : goal.returns-in-Some
returns-in-Some t c =
    found_below c.args.group.now c.args.id c.as_slice-child-items.result.now c.loop-child.child-index c.child-item.result (tree_seen c.in-Some.found.now)
    (sym c.eq.ensures ∙ c.if-eq.false) c.as_slice-child-items.ensures c.loop-child-test.true c.child-item.is c.loop-child.invariant
    (sym c.group_with.ensures ∙ ap (option_map (λ found. tree_seen found.now)) c.in-Some.is)
