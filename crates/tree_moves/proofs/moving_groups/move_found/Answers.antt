use Rattle.std.proofs.Common.{◌∙◌, ap, is_some, sym}
use Rattle.std.specs.Prelude.{option_map}
use Rattle.vault_model.proofs.DocumentLaws.{is_doc}
use Rattle.vault_model.specs.SeenDoc.{doc_seen}
use Rattle.vault_model.specs.SeenNodes.{tree_seen}
use Rattle.tree_moves.proofs.AfterGroupMove.{found_moved, found_no_memory, found_not_moved, found_nowhere, is_outside, move_passes}
use Rattle.tree_moves.proofs.GroupsMoved.{move_is_doc}
use Rattle.tree_moves.proofs.GroupParents.{parent_child}
use Rattle.tree_moves.proofs.moving_groups.move_found.Goals as goal

pub move_group_in-requires-clause-there : goal.move_group_in-requires-clause-there
move_group_in-requires-clause-there c =
    let there = sym c.group_of.ensures ∙ ap (option_map (λ found. tree_seen found.now)) c.in-Some.is in
    ap is_some (parent_child (doc_seen c.args.doc.now) (is_doc c.args.doc.now) c.args.id c.args.from (tree_seen c.in-Some.moving.now) c.requires.parent there)

pub move_group_in-requires-clause-outside : goal.move_group_in-requires-clause-outside
move_group_in-requires-clause-outside c =
    let d = doc_seen c.args.doc.now in
    let there = sym c.group_of.ensures ∙ ap (option_map (λ found. tree_seen found.now)) c.in-Some.is in
    let at = parent_child d (is_doc c.args.doc.now) c.args.id c.args.from (tree_seen c.in-Some.moving.now) c.requires.parent there in
    is_outside c.args.from c.args.to c.args.id d.tree (tree_seen c.in-Some.moving.now) at
    (move_passes c.args.to (tree_seen c.in-Some.moving.now) c.args.now c.in_ok-time.time d.tree (sym c.time_of_move.ensures ∙ c.in_ok-time.was)).0

pub invariant_of-doc : goal.invariant_of-doc
invariant_of-doc c =
    let d = doc_seen c.args.doc.now in
    let g = tree_seen c.in-Some.moving.now in
    let there = sym c.group_of.ensures ∙ ap (option_map (λ found. tree_seen found.now)) c.in-Some.is in
    let at = parent_child d (is_doc c.args.doc.now) c.args.id c.args.from g c.requires.parent there in
    let passes = move_passes c.args.to g c.args.now c.in_ok-time.time d.tree (sym c.time_of_move.ensures ∙ c.in_ok-time.was) in
    let h = move_is_doc d (is_doc c.args.doc.now) c.args.from c.args.to c.args.id c.in_ok-time.time g (tree_seen c.move_group_in.new.root) c.move_group_in.result c.requires.goal at passes.0 passes.1
    c.move_group_in.ensures in
    record {
      distinct = h.distinct;
      no_nil = h.no_nil;
      levels = h.levels;
      rising_tombs = h.tombs_rise;
      tombs_apart = h.tombs_apart;
      entries_proper = h.entries_proper;
      groups_proper = h.groups_proper;
      rising_icons = h.icons_rise;
      rising_items = h.items_rise;
      meta_texts = h.meta_texts;
    }

pub returns-in-Ok : goal.returns-in-Ok
returns-in-Ok c =
    let d = doc_seen c.args.doc.now in
    let g = tree_seen c.in-Some.moving.now in
    let there = sym c.group_of.ensures ∙ ap (option_map (λ found. tree_seen found.now)) c.in-Some.is in
    let at = parent_child d (is_doc c.args.doc.now) c.args.id c.args.from g c.requires.parent there in
    found_moved d (tree_seen c.move_group_in.new.root) c.args.id c.args.from c.args.to c.args.now c.in_ok-time.time g there at c.requires.parent (sym c.time_of_move.ensures ∙ c.in_ok-time.was)
    (rw c.in-Ok.is at c.move_group_in.ensures)
