use Rattle.vault_model.proofs.DocumentLaws.{is_doc}
use Rattle.vault_model.proofs.Tests.{some_of}
use Rattle.vault_model.specs.SeenDoc.{doc_seen}
use Rattle.vault_model.specs.SeenNodes.{tree_seen}
use Rattle.tree_core.specs.Changes.{group_with}
use Rattle.tree_moves.proofs.GroupParents.{parent_child}
use Rattle.tree_removals.proofs.GroupsDeleted.{bury_is_doc, delete_done, held_group, rising_group}
use Rattle.tree_removals.proofs.deleting_groups.delete_group.Goals as goal

pub bury_group-requires-clause-held : goal.bury_group-requires-clause-held
bury_group-requires-clause-held c = held_group (doc_seen c.args.doc.now) (is_doc c.args.doc.now) c.args.parent c.args.id c.requires.there c.requires.parent

pub bury_group-requires-clause-rising : goal.bury_group-requires-clause-rising
bury_group-requires-clause-rising c =
    rising_group (doc_seen c.args.doc.now) (is_doc c.args.doc.now) c.args.parent c.args.id c.args.now c.requires.there c.requires.parent

pub invariant_of-doc : goal.invariant_of-doc
invariant_of-doc c =
    let d = doc_seen c.args.doc.now in
    let g = some_of (group_with c.args.id d.tree) c.requires.there in
    let h = bury_is_doc d (is_doc c.args.doc.now) c.args.parent c.args.id c.args.now g.0 (tree_seen c.bury_group.new.root) c.bury_group.new.tombs c.bury_group.result g.1
    (parent_child d (is_doc c.args.doc.now) c.args.id c.args.parent g.0 c.requires.parent g.1) c.bury_group.ensures in
    record {
      distinct = h.distinct;
      no_nil = h.no_nil;
      levels = h.levels;
      rising_tombs = h.tombs_rise;
      tombs_apart = h.tombs_apart;
      entries_proper = h.entries_proper;
      groups_proper = h.groups_proper;
      rising_icons = h.icons_rise;
      rising_items = h.items_rise;
      meta_texts = h.meta_texts;
    }

pub returns-in-Ok : goal.returns-in-Ok
returns-in-Ok c =
    delete_done (doc_seen c.args.doc.now) c.args.parent c.args.id c.args.now (tree_seen c.bury_group.new.root) c.bury_group.new.tombs c.requires.there c.requires.parent
    (rw c.in-Ok.is at c.bury_group.ensures)
