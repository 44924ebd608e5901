use Rattle.std.proofs.Common.{◌≡◌, ◌∙◌, sym, ap, max, Some}
use Rattle.std.specs.Prelude.{option_map}
use Rattle.vault_model.specs.SeenNodes.{entry_row, tree_seen}
use Rattle.tree_core.specs.Changes.{entry_at, with_tomb}
use Rattle.tree_removals.proofs.Deleted.{bury_done}
use Rattle.tree_removals.proofs.deleting.bury_entry.Goals as goal

pub returns : goal.returns
returns c =
    let entry = c.in-Some.entry.now in
    let there : entry_at c.args.group c.args.id (tree_seen c.args.root.now) ≡ Some (entry_row entry) = sym c.entry_of.ensures ∙ ap (option_map (λ found. entry_row found.now)) c.in-Some.is in
    let time = c.later.ensures ∙ ap (λ n. max c.args.now n) c.entry_stamp.ensures in
    bury_done c.args.group c.args.id c.args.now (tree_seen c.args.root.now) (tree_seen c.take_entry.new.root) c.args.tombs.now c.put_tomb.new.tombs (entry_row entry) c.take_entry.result there
    (c.in_ok-put_tomb.ensures.ok ∙ ap (λ n. with_tomb (record { id = entry.id; deleted = n }) c.args.tombs.now) time) c.take_entry.ensures
