use Rattle.std.proofs.Common.{◌≡◌, ◌∙◌, IfSome, List, Option, ap, subst, sym, true}
use Rattle.std.specs.Prelude.{option_map}
use Rattle.vault_model.specs.SeenNodes.{tree_seen}
use Rattle.vault_model.specs.Tree.{Tree}
use Rattle.vault_model.specs.declared.nodes.Tombstone.{Tombstone}
use Rattle.tree_core.specs.Changes.{tree_buried}
use Rattle.tree_removals.proofs.GroupsDeleted.{bury_done}
use Rattle.tree_removals.specs.Tombs.{ids_rise}
use Rattle.tree_removals.proofs.deleting_groups.bury_group.Goals as goal

pub tombs_with-requires : goal.tombs_with-requires
tombs_with-requires c =
    let g = tree_seen c.in-Some.group.now in
    let there = sym c.group_of.ensures ∙ ap (option_map (λ found. tree_seen found.now)) c.in-Some.is in
    let rise = subst (λ (o : Option Tree). IfSome o (λ x. ids_rise (tree_buried c.args.now x c.args.tombs.now) ≡ true)) there c.requires.rising in
    ap (λ (ts : List Tombstone). ids_rise (tree_buried c.args.now g ts)) c.as_slice.ensures ∙ rise

pub returns : goal.returns
returns c =
    let g = tree_seen c.in-Some.group.now in
    let there = sym c.group_of.ensures ∙ ap (option_map (λ found. tree_seen found.now)) c.in-Some.is in
    bury_done c.args.parent c.args.id c.args.now (tree_seen c.args.root.now) (tree_seen c.take_group.new.root) g c.args.tombs.now c.in_ok-all.all c.take_group.result there c.requires.held
    (c.in_ok-all.ensures ∙ ap (tree_buried c.args.now g) c.as_slice.ensures) c.take_group.ensures
