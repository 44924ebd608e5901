use Rattle.std.proofs.Common.{◌∙◌, not, sym, ap}
use Rattle.vault_model.specs.SeenDoc.{doc_seen}
use Rattle.vault_model.specs.SeenNodes.{entry_row, tree_seen}
use Rattle.tree_core.specs.Changes.{entry_at}
use Rattle.tree_removals.proofs.Deleted.{not_bin, some_seen}
use Rattle.tree_removals.proofs.removing.remove_entry.Goals as goal

pub recycle_entry-requires-clause-other : goal.recycle_entry-requires-clause-other
recycle_entry-requires-clause-other c =
    let there = some_seen (λ found. entry_row found.now) c.entry_of.result (entry_at c.in-Some-holder.from c.in-Some.id (tree_seen c.args.doc.now.root)) (c.is_none.ensures ∙ ap not c.if-is_none.false) c.entry_of.ensures in
    not_bin (doc_seen c.args.doc.now) c.in-Some-holder.from c.in-Some.id there (sym c.is_recycled.ensures ∙ c.if-not-is_recycled.false)
