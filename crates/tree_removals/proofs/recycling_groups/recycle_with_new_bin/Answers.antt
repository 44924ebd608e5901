use Rattle.std.proofs.Common.{◌≡◌, ◌∙◌, Ok, Option, IfSome, Some, ap, is_some, subst, sym, refl}
use Rattle.std.proofs.lemmas.Result.{err_from_is_err_and}
use Rattle.std.specs.Prelude.{option_map}
use Rattle.vault_model.proofs.DocumentLaws.{is_doc}
use Rattle.vault_model.proofs.SeenGroups.{seen_group}
use Rattle.vault_model.specs.SeenDoc.{doc_seen}
use Rattle.vault_model.specs.SeenNodes.{tree_seen}
use Rattle.vault_model.specs.Tree.{Tree}
use Rattle.tree_core.specs.declared.fails.Removed.TheVariants.{Recycled}
use Rattle.tree_core.specs.After.{group_recycled, time_after}
use Rattle.tree_core.specs.Changes.{group_moved, group_with, placed_of}
use Rattle.tree_core.specs.NewNodes.{empty_bin}
use Rattle.tree_core.proofs.Around.{found_id}
use Rattle.tree_moves.proofs.GroupParents.{parent_child}
use Rattle.tree_removals.proofs.NewBins.{bin_is_doc, free_absent}
use Rattle.tree_removals.specs.Removes.{Removes, with_bin_in}
use Rattle.tree_removals.proofs.GroupBins.{absent_inside, free_elsewhere, into_bin_is_doc, level_of_last, parent_of_last, u_off_bin}
use Rattle.tree_removals.proofs.GroupsRecycled.{bin_of, fits, new_done, new_refused, new_since, new_taken, new_time, new_too_deep, ready}
use Rattle.tree_removals.proofs.recycling_groups.recycle_with_new_bin.Goals as goal

pub returns-then-not-fits : goal.returns-then-not-fits
returns-then-not-fits c =
    let d = doc_seen c.args.doc.now in
    let g = tree_seen c.in-Some.moving.now in
    let there = sym c.group_of.ensures ∙ ap (option_map (λ found. tree_seen found.now)) c.in-Some.is in
    new_refused d c.args.id g c.args.bin c.args.now _ there
    (new_too_deep d g c.args.now c.args.bin c.requires.absent (absent_inside c.args.id (bin_of d) d.tree g there c.requires.absent) (sym c.fits.ensures ∙ c.if-not-fits.true))

pub returns-then-not-is_free : goal.returns-then-not-is_free
returns-then-not-is_free c =
    let d = doc_seen c.args.doc.now in
    let g = tree_seen c.in-Some.moving.now in
    let there = sym c.group_of.ensures ∙ ap (option_map (λ found. tree_seen found.now)) c.in-Some.is in
    new_refused d c.args.id g c.args.bin c.args.now _ there
    (new_taken d g c.args.now c.args.bin c.requires.absent (absent_inside c.args.id (bin_of d) d.tree g there c.requires.absent) (sym c.fits.ensures ∙ c.if-not-fits.false)
    (sym c.is_free.ensures ∙ c.if-not-is_free.true))

pub returns-in_err-since : goal.returns-in_err-since
returns-in_err-since c =
    let d = doc_seen c.args.doc.now in
    let g = tree_seen c.in-Some.moving.now in
    let there = sym c.group_of.ensures ∙ ap (option_map (λ found. tree_seen found.now)) c.in-Some.is in
    let p = err_from_is_err_and c.from_residual.result c.from_residual.ensures.1 in
    rw (p.1, p.2) (new_refused d c.args.id g c.args.bin c.args.now _ there
    (new_since d g c.args.now c.args.bin c.requires.absent (absent_inside c.args.id (bin_of d) d.tree g there c.requires.absent) (sym c.fits.ensures ∙ c.if-not-fits.false)
    (sym c.is_free.ensures ∙ c.if-not-is_free.false) _ (sym c.time_after.ensures ∙ c.in_err-since.was)))

pub returns-in_err-time : goal.returns-in_err-time
returns-in_err-time c =
    let d = doc_seen c.args.doc.now in
    let g = tree_seen c.in-Some.moving.now in
    let there = sym c.group_of.ensures ∙ ap (option_map (λ found. tree_seen found.now)) c.in-Some.is in
    let free = sym c.is_free.ensures ∙ c.if-not-is_free.false in
    let p = err_from_is_err_and c.from_residual-in_err-time.result c.from_residual-in_err-time.ensures.1 in
    rw (p.1, p.2) (new_refused d c.args.id g c.args.bin c.args.now _ there
    (new_time d g c.args.now c.args.bin c.requires.absent (absent_inside c.args.id (bin_of d) d.tree g there c.requires.absent) (sym c.fits.ensures ∙ c.if-not-fits.false) free
    c.in_ok-since.since (sym c.time_after.ensures ∙ c.in_ok-since.was) (absent_inside c.args.id c.args.bin d.tree g there (free_absent c.args.bin d free))
    (level_of_last c.args.bin (empty_bin c.args.bin c.args.now) d.tree refl (free_absent c.args.bin d free)) _
    (ap (time_after c.args.now) (ap placed_of (seen_group c.in-Some.moving.now)) ∙ sym c.time_after-2.ensures ∙ c.in_err-time.was)))

pub move_to_new_bin-requires-clause-there : goal.move_to_new_bin-requires-clause-there
move_to_new_bin-requires-clause-there c =
    let there = sym c.group_of.ensures ∙ ap (option_map (λ found. tree_seen found.now)) c.in-Some.is in
    ap is_some (parent_child (doc_seen c.args.doc.now) (is_doc c.args.doc.now) c.args.id c.args.from (tree_seen c.in-Some.moving.now) c.requires.parent there)

pub move_to_new_bin-requires-clause-absent : goal.move_to_new_bin-requires-clause-absent
move_to_new_bin-requires-clause-absent c = free_elsewhere c.args.bin (doc_seen c.args.doc.now) (sym c.is_free.ensures ∙ c.if-not-is_free.false)

pub move_to_new_bin-requires-clause-no_nil : goal.move_to_new_bin-requires-clause-no_nil
move_to_new_bin-requires-clause-no_nil c =
    (bin_is_doc (doc_seen c.args.doc.now) (is_doc c.args.doc.now) c.args.bin c.args.now (sym c.is_free.ensures ∙ c.if-not-is_free.false)).no_nil

pub invariant_of-doc-2 : goal.invariant_of-doc-2
invariant_of-doc-2 c =
    let d = doc_seen c.args.doc.now in
    let g = tree_seen c.in-Some.moving.now in
    let there = sym c.group_of.ensures ∙ ap (option_map (λ found. tree_seen found.now)) c.in-Some.is in
    let at = parent_child d (is_doc c.args.doc.now) c.args.id c.args.from g c.requires.parent there in
    let h = into_bin_is_doc d (is_doc c.args.doc.now) c.args.from c.args.id c.args.bin c.args.now c.in_ok-time.time g (tree_seen c.move_to_new_bin.new.root) (sym c.is_free.ensures ∙ c.if-not-is_free.false) at
    (fits d g c.args.now c.args.bin c.requires.absent (absent_inside c.args.id (bin_of d) d.tree g there c.requires.absent) (sym c.fits.ensures ∙ c.if-not-fits.false))
    c.in_ok-move_to_new_bin.ensures in
    record {
      distinct = h.distinct;
      no_nil = h.no_nil;
      levels = h.levels;
      rising_tombs = h.tombs_rise;
      tombs_apart = h.tombs_apart;
      entries_proper = h.entries_proper;
      groups_proper = h.groups_proper;
      rising_icons = h.icons_rise;
      rising_items = h.items_rise;
      meta_texts = h.meta_texts;
    }

pub returns : goal.returns
returns c =
    let d = doc_seen c.args.doc.now in
    let g = tree_seen c.in-Some.moving.now in
    let bin = c.args.bin in
    let there = sym c.group_of.ensures ∙ ap (option_map (λ found. tree_seen found.now)) c.in-Some.is in
    let free = sym c.is_free.ensures ∙ c.if-not-is_free.false in
    let at = parent_child d (is_doc c.args.doc.now) c.args.id c.args.from g c.requires.parent there in
    let outside = absent_inside c.args.id (bin_of d) d.tree g there c.requires.absent in
    let off = free_elsewhere bin d free in
    let parent = parent_of_last c.args.id (empty_bin bin c.args.now) d.tree (u_off_bin c.args.from c.args.id bin c.args.now d.tree (ap is_some at) off) ∙ c.requires.parent in
    let made = subst (λ (o : Option Tree). IfSome o (λ x. tree_seen c.move_to_new_bin.new.root ≡ group_moved c.args.from bin c.in_ok-time.time x (with_bin_in bin c.args.now d.tree))) at
    c.in_ok-move_to_new_bin.ensures in
    let done = new_done d g c.args.now bin c.requires.absent outside (sym c.fits.ensures ∙ c.if-not-fits.false) free c.in_ok-since.since (sym c.time_after.ensures ∙ c.in_ok-since.was)
    (absent_inside c.args.id bin d.tree g there (free_absent bin d free)) (level_of_last bin (empty_bin bin c.args.now) d.tree refl (free_absent bin d free)) c.args.id c.args.from c.in_ok-time.time
    (ap (time_after c.args.now) (ap placed_of (seen_group c.in-Some.moving.now)) ∙ sym c.time_after-2.ensures ∙ c.in_ok-time.was) (found_id c.args.id d.tree g there) parent in
    subst (λ (o : Option Tree). IfSome o (λ x. Removes (group_recycled (Some bin) x c.args.now d) (Ok Recycled) d
    (record (ready d g c.args.now bin c.requires.absent outside c.in_ok-since.since) { tree = tree_seen c.move_to_new_bin.new.root }))) (sym there)
    (done ∙ ap (λ t. Ok (record { removed = Recycled; doc = record (ready d g c.args.now bin c.requires.absent outside c.in_ok-since.since) { tree = t } })) (sym made))
