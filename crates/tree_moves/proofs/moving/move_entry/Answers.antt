use Rattle.std.proofs.Common.{◌≡◌, Option, Ok, inl, inr, is_some, refl, sym, ap, subst, ◌∙◌}
use Rattle.std.specs.Prelude.{IfSome, option_map}
use Rattle.vault_model.proofs.DocumentLaws.{is_doc}
use Rattle.vault_model.proofs.Ids.{is_same_id}
use Rattle.vault_model.proofs.Tests.{apart}
use Rattle.vault_model.specs.Db.{NodeId}
use Rattle.vault_model.specs.Join.{is_id}
use Rattle.vault_model.specs.Shape.{EntryRecord}
use Rattle.vault_model.specs.SeenDoc.{doc_seen}
use Rattle.vault_model.specs.SeenNodes.{entry_row, tree_seen}
use Rattle.tree_core.proofs.EntriesMoved.{move_is_doc}
use Rattle.tree_core.proofs.Named.{named_group}
use Rattle.tree_core.specs.Changes.{entry_moved}
use Rattle.tree_moves.proofs.AfterMove.{move_comes, move_no_entry, move_no_group, move_no_holder, move_no_path, move_there_already}
use Rattle.tree_moves.proofs.moving.move_entry.Goals as goal

pub move_in-requires-clause-other : goal.move_in-requires-clause-other
move_in-requires-clause-other c =
    λ same. apart (is_id c.in-Some-holder.from c.in-Some-find_group.to) (is_same_id c.in-Some-holder.from c.in-Some-find_group.to same) (sym c.is_same.ensures ∙ c.if-is_same.false)

pub move_in-requires-clause-goal : goal.move_in-requires-clause-goal
move_in-requires-clause-goal c =
    named_group (doc_seen c.args.doc.now) c.args.group.now c.in-Some-find_group.to (sym c.find_group.ensures ∙ c.in-Some-find_group.is)

pub invariant_of-doc : goal.invariant_of-doc
invariant_of-doc c =
    let d = doc_seen c.args.doc.now in
    let there = sym c.entry_of.ensures ∙ ap (option_map (λ found. entry_row found.now)) c.in-Some-entry_of.is in
    let h = move_is_doc d (is_doc c.args.doc.now) c.in-Some-holder.from c.in-Some-find_group.to c.in-Some.id c.in_ok-time.time (tree_seen c.move_in.new.root) c.move_in.result
    (named_group d c.args.group.now c.in-Some-find_group.to (sym c.find_group.ensures ∙ c.in-Some-find_group.is)) (ap is_some there) c.move_in.ensures in
    record {
      distinct = h.distinct;
      no_nil = h.no_nil;
      levels = h.levels;
      rising_tombs = h.tombs_rise;
      tombs_apart = h.tombs_apart;
      entries_proper = h.entries_proper;
      groups_proper = h.groups_proper;
      rising_icons = h.icons_rise;
      rising_items = h.items_rise;
      meta_texts = h.meta_texts;
    }

pub returns-in-Ok : goal.returns-in-Ok
returns-in-Ok c =
    let d = doc_seen c.args.doc.now in
    let e = entry_row c.in-Some-entry_of.entry.now in
    let there = sym c.entry_of.ensures ∙ ap (option_map (λ found. entry_row found.now)) c.in-Some-entry_of.is in
    let moved =
    subst (λ (o : Option (NodeId × EntryRecord)). IfSome o (λ row. tree_seen c.move_in.new.root ≡ entry_moved c.in-Some-holder.from c.in-Some-find_group.to c.in_ok-time.time row d.tree))
    there (rw c.in-Ok.is at c.move_in.ensures)
    in
    move_comes c.args.path.now c.args.group.now c.args.now (doc_seen c.args.doc.now) c.in-Some.id (sym c.find_entry.ensures ∙ c.in-Some.is)
    c.in-Some-holder.from (sym c.holder.ensures ∙ c.in-Some-holder.is) e there
    c.in-Some-find_group.to (sym c.find_group.ensures ∙ c.in-Some-find_group.is) (sym c.is_same.ensures ∙ c.if-is_same.false) c.in_ok-time.time (sym c.time_after.ensures ∙ c.in_ok-time.was)
    ∙ ap (λ t. Ok (record d { tree = t })) (sym moved)

pub returns-in_default : goal.returns-in_default
returns-in_default c = (refl, inl (move_no_path c.args.path.now c.args.group.now c.args.now (doc_seen c.args.doc.now) (sym c.find_entry.ensures ∙ c.in_default.is)))

pub returns-in_default-holder : goal.returns-in_default-holder
returns-in_default-holder c =
    (refl, inl (move_no_holder c.args.path.now c.args.group.now c.args.now (doc_seen c.args.doc.now) c.in-Some.id (sym c.find_entry.ensures ∙ c.in-Some.is) (sym c.holder.ensures ∙ c.in_default-holder.is)))

pub returns-in_default-entry_of : goal.returns-in_default-entry_of
returns-in_default-entry_of c = (
  refl,
  inl (move_no_entry c.args.path.now c.args.group.now c.args.now (doc_seen c.args.doc.now) c.in-Some.id (sym c.find_entry.ensures ∙ c.in-Some.is)
      c.in-Some-holder.from (sym c.holder.ensures ∙ c.in-Some-holder.is) (sym c.entry_of.ensures ∙ ap (option_map (λ found. entry_row found.now)) c.in_default-entry_of.is)),
)

pub returns-in_default-find_group : goal.returns-in_default-find_group
returns-in_default-find_group c = (
  refl,
  inl (move_no_group c.args.path.now c.args.group.now c.args.now (doc_seen c.args.doc.now) c.in-Some.id (sym c.find_entry.ensures ∙ c.in-Some.is)
      c.in-Some-holder.from (sym c.holder.ensures ∙ c.in-Some-holder.is)
      (entry_row c.in-Some-entry_of.entry.now) (sym c.entry_of.ensures ∙ ap (option_map (λ found. entry_row found.now)) c.in-Some-entry_of.is) (sym c.find_group.ensures ∙ c.in_default-find_group.is)),
)

pub returns-then-is_same : goal.returns-then-is_same
returns-then-is_same c = (
  refl,
  inl (move_there_already c.args.path.now c.args.group.now c.args.now (doc_seen c.args.doc.now) c.in-Some.id (sym c.find_entry.ensures ∙ c.in-Some.is)
      c.in-Some-holder.from (sym c.holder.ensures ∙ c.in-Some-holder.is)
      (entry_row c.in-Some-entry_of.entry.now) (sym c.entry_of.ensures ∙ ap (option_map (λ found. entry_row found.now)) c.in-Some-entry_of.is)
      c.in-Some-find_group.to (sym c.find_group.ensures ∙ c.in-Some-find_group.is) (sym c.is_same.ensures ∙ c.if-is_same.true)),
)
