use Rattle.std.proofs.Common.{List, ℕ, Ok, Some, inl, refl, sym, ap, ◌∙◌}
use Rattle.std.proofs.lemmas.Str.{is_utf8-from_IsUtf8}
use Rattle.std.specs.Str.{is_utf8}
use Rattle.vault_model.proofs.DocumentLaws.{is_doc}
use Rattle.vault_model.specs.Bare.{BareField}
use Rattle.vault_model.specs.SeenDoc.{doc_seen}
use Rattle.vault_model.specs.SeenNodes.{entry_row, tree_seen}
use Rattle.tree_core.specs.Finding.{group_at_path, has_entry_path}
use Rattle.vault_model.proofs.Tests.{apart}
use Rattle.tree_core.proofs.Named.{group_there}
use Rattle.tree_core.specs.Changes.{changed_at, has_group, with_entry}
use Rattle.tree_core.specs.NewNodes.{given_values, new_entry, new_fields}
use Rattle.tree_core.specs.NewPaths.{before_last}
use Rattle.tree_edits.proofs.AddedDoc.{add_is_doc}
use Rattle.tree_edits.proofs.AfterAdd.{add_done, add_id_taken, add_no_path, add_taken}
use Rattle.tree_edits.proofs.adding.add.Goals as goal

pub invariant_of-doc : goal.invariant_of-doc
invariant_of-doc c =
    let d = doc_seen c.args.doc.now in
    let path = c.args.path.now in
    let there = sym (ap (group_at_path d) (c.before_last.ensures ∙ ap before_last c.as_bytes.ensures.value)) ∙ sym c.find_group_at.ensures ∙ c.in-Some.is in
    let row = c.new_entry.ensures ∙ ap (λ (fs : List BareField). (c.args.id, new_entry fs c.args.now)) (c.in_ok-fields.ensures ∙ ap (λ (t : List ℕ). new_fields d.meta.settings.value.protect t (given_values c.args.values.now)) c.name_after.ensures) in
    let title = ap is_utf8 (sym c.name_after.ensures) ∙ is_utf8-from_IsUtf8 c.name_after.result.now c.name_after.utf8 in
    let h = add_is_doc d (is_doc c.args.doc.now) path c.in-Some.group c.args.id (given_values c.args.values.now) c.args.now (entry_row c.new_entry.result) row there
    (sym c.is_free.ensures ∙ c.if-not-is_free.false) title c.values_are_utf8.ensures (tree_seen c.put_entry.new.root) c.put_entry.result c.put_entry.ensures in
    record {
      distinct = h.distinct;
      no_nil = h.no_nil;
      levels = h.levels;
      rising_tombs = h.tombs_rise;
      tombs_apart = h.tombs_apart;
      entries_proper = h.entries_proper;
      groups_proper = h.groups_proper;
      rising_icons = h.icons_rise;
      rising_items = h.items_rise;
      meta_texts = h.meta_texts;
    }

pub returns-in-Some-Ok : goal.returns-in-Some-Ok
returns-in-Some-Ok c =
    let d = doc_seen c.args.doc.now in
    let path = c.args.path.now in
    let there = sym (ap (group_at_path d) (c.before_last.ensures ∙ ap before_last c.as_bytes.ensures.value)) ∙ sym c.find_group_at.ensures ∙ c.in-Some.is in
    let off = sym (ap (has_entry_path d) (c.as_slice.ensures ∙ c.in_ok-new_path.ensures)) ∙ sym c.is_entry_path.ensures ∙ c.if-is_entry_path.false in
    let row = c.new_entry.ensures ∙ ap (λ (fs : List BareField). (c.args.id, new_entry fs c.args.now)) (c.in_ok-fields.ensures ∙ ap (λ (t : List ℕ). new_fields d.meta.settings.value.protect t (given_values c.args.values.now)) c.name_after.ensures) in
    let put = rw (c.in-Some-Ok.is ∙ ap Some c.in-Some-Ok.field-0-is) at c.put_entry.ensures in
    add_done path c.args.id (given_values c.args.values.now) c.args.now d c.in-Some.group there off (sym c.is_free.ensures ∙ c.if-not-is_free.false)
    ∙ ap (λ e. Ok (record d { tree = changed_at c.in-Some.group (with_entry e) d.tree })) (sym row)
    ∙ ap (λ t. Ok (record d { tree = t })) (sym put)

pub returns : goal.returns
returns c =
    let d = doc_seen c.args.doc.now in
    let there = sym (ap (group_at_path d) (c.before_last.ensures ∙ ap before_last c.as_bytes.ensures.value)) ∙ sym c.find_group_at.ensures ∙ c.in-Some.is in
    apart (has_group c.in-Some.group d.tree) (group_there d (before_last c.args.path.now) c.in-Some.group there) (rw c.in-None.is at c.put_entry.ensures).0

pub returns-in_default : goal.returns-in_default
returns-in_default c =
    let d = doc_seen c.args.doc.now in
    let none = sym (ap (group_at_path d) (c.before_last.ensures ∙ ap before_last c.as_bytes.ensures.value)) ∙ sym c.find_group_at.ensures ∙ c.in_default.is in
    (refl, inl (add_no_path c.args.path.now c.args.id (given_values c.args.values.now) c.args.now d none))

pub returns-then-is_entry_path : goal.returns-then-is_entry_path
returns-then-is_entry_path c =
    let d = doc_seen c.args.doc.now in
    let there = sym (ap (group_at_path d) (c.before_last.ensures ∙ ap before_last c.as_bytes.ensures.value)) ∙ sym c.find_group_at.ensures ∙ c.in-Some.is in
    let taken = sym (ap (has_entry_path d) (c.as_slice.ensures ∙ c.in_ok-new_path.ensures)) ∙ sym c.is_entry_path.ensures ∙ c.if-is_entry_path.true in
    (refl, inl (add_taken c.args.path.now c.args.id (given_values c.args.values.now) c.args.now d c.in-Some.group there taken))

pub returns-then-not-is_free : goal.returns-then-not-is_free
returns-then-not-is_free c =
    let d = doc_seen c.args.doc.now in
    let there = sym (ap (group_at_path d) (c.before_last.ensures ∙ ap before_last c.as_bytes.ensures.value)) ∙ sym c.find_group_at.ensures ∙ c.in-Some.is in
    let off = sym (ap (has_entry_path d) (c.as_slice.ensures ∙ c.in_ok-new_path.ensures)) ∙ sym c.is_entry_path.ensures ∙ c.if-is_entry_path.false in
    (refl, inl (add_id_taken c.args.path.now c.args.id (given_values c.args.values.now) c.args.now d c.in-Some.group there off (sym c.is_free.ensures ∙ c.if-not-is_free.true)))
