use Rattle.std.proofs.Common.{sym, ap, ◌∙◌}
use Rattle.vault_model.specs.Db.{NodeId}
use Rattle.vault_model.specs.Shape.{EntryRecord}
use Rattle.vault_model.specs.Tree.{is_proper_entry}
use Rattle.import_tree.specs.SeenEntries.{imported_seen}
use Rattle.import_tree.proofs.Placing.{added, placed_is}
use Rattle.import_tree.proofs.Proper.{entry_proper}
use Rattle.import_tree.proofs.naming.add_imported.Goals as goal

pub of_entry-requires-clause-not_nil : goal.of_entry-requires-clause-not_nil
of_entry-requires-clause-not_nil c = λ p. c.in_ok-id.ensures.not_nil (sym (ap (λ (r : NodeId × EntryRecord). r.0) c.in_ok-made.ensures) ∙ p)

pub of_entry-requires-clause-proper : goal.of_entry-requires-clause-proper
of_entry-requires-clause-proper c =
    ap (λ (r : NodeId × EntryRecord). is_proper_entry r.1) c.in_ok-made.ensures ∙ entry_proper c.args.now (imported_seen c.args.entry) c.args.entry.texts

pub returns : goal.returns
returns c = λ before was few.
    added c.args.now before (imported_seen c.args.entry) c.args.placed.now.items c.push.new.self.items _ c.in_ok-id.id c.next_id.new.counts
    (c.in_ok-id.ensures.gives before was few) c.in_ok-push.ensures.items
    (placed_is c.args.now (imported_seen c.args.entry) _ _ c.in_ok-id.id _ c.of_entry.ensures c.replace-names.ensures.value c.in_ok-made.ensures)
