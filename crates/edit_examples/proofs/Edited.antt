-- The edits of the example, computed.
use Rattle.std.proofs.Common.{◌≡◌, ℕ, false, true, List, [], ◌∷◌, Some, Ok, Err, codes, refl, sym, ap, arith}
use Rattle.std.specs.Str.{chars, is_utf8, trim_end, trim_start}
use Rattle.vault_model.specs.Db.{mark_cmp, nil_id}
use Rattle.vault_model.specs.Proper.{is_proper_content, is_proper_group_content}
use Rattle.vault_model.specs.Shape.{BareVersion, EntryRecord}
use Rattle.vault_model.specs.Tree.{BareDoc, IsDoc}
use Rattle.merge_core.specs.Example.{bank, edited, entry, root, version}
use Rattle.tree_core.specs.After.{after_attach, after_detach, after_edit, after_restore, attachment_in}
use Rattle.tree_core.specs.declared.fails.TreeFail.TheVariants.{NameTaken, NoAttachment, NoField, NoVersion}
use Rattle.tree_core.specs.Changes.{changed_at, changed_entry}
use Rattle.tree_core.specs.Finding.{entry_found}
use Rattle.tree_core.specs.FurtherChanges.{no_further_change}
use Rattle.tree_core.specs.Histories.{rising_versions, within_limits}
use Rattle.tree_core.specs.NewNodes.{GivenValues, edited_version}
use Rattle.tree_edits.proofs.RisingVersions.{all_rising, rises_first, rises_on}
use Rattle.edit_examples.specs.Cases.{ExampleAttachment, ExampleChange, ExampleEdit, ExampleRestore, all_changes, first, key_file, keyed, labelled, new_notes, new_user, one_missing, relabelled, restored, said_keyed, unedited, version_at, with_bank, with_key, with_other_key, without_key}

pub doc_before : IsDoc unedited
unfolding is_proper_content is_proper_group_content is_utf8 chars lib.Utf8.encode
doc_before = record {
  distinct = refl;
  no_nil = refl;
  levels = omega arith;
  tombs_rise = refl;
  tombs_apart = refl;
  entries_proper = refl;
  groups_proper = refl;
  icons_rise = refl;
  items_rise = refl;
  meta_texts = refl;
}

pub doc_after : IsDoc edited
unfolding is_proper_content is_proper_group_content is_utf8 chars lib.Utf8.encode
doc_after = record {
  distinct = refl;
  no_nil = refl;
  levels = omega arith;
  tombs_rise = refl;
  tombs_apart = refl;
  entries_proper = refl;
  groups_proper = refl;
  icons_rise = refl;
  items_rise = refl;
  meta_texts = refl;
}

-- the entry before
abbrev pub old : EntryRecord
old = entry 10 nil_id (version 10 (codes "Bank") (codes "a")) []

one_version : rising_versions old ≡ old.current ∷ []
one_version = sym (all_rising old [] (old.current ∷ []) (rises_first [] [] refl) refl)

-- the version that an edit of the notes makes at a time
abbrev pub made_at : ℕ → GivenValues → BareVersion
made_at time values = edited_version unedited.meta.settings.value.protect values time old.current

-- the document with that version as the current one, and this history
abbrev pub with_history : BareVersion → List BareVersion → BareDoc
with_history v vs = record unedited { tree = changed_at root (changed_entry bank (λ (x : EntryRecord). record x { current = v; history = vs })) unedited.tree }

-- a history within its limits
abbrev kept : List BareVersion → List BareVersion
kept vs = within_limits unedited.meta.settings.value.history_items unedited.meta.settings.value.history_size vs

pub edit_made : after_edit (codes "Bank") new_notes no_further_change 20 unedited ≡ Ok edited
unfolding entry_found
edit_made = ap (λ vs. Ok (with_history (made_at 20 new_notes) (kept vs))) one_version

-- ---- another edit, at 15

abbrev pub other_notes : GivenValues
other_notes = record new_notes { notes = Some (codes "c") }

abbrev pub earlier : BareDoc
earlier = with_history (made_at 15 other_notes) (old.current ∷ [])

pub doc_earlier : IsDoc earlier
unfolding is_proper_content is_proper_group_content is_utf8 chars lib.Utf8.encode
doc_earlier = record {
  distinct = refl;
  no_nil = refl;
  levels = omega arith;
  tombs_rise = refl;
  tombs_apart = refl;
  entries_proper = refl;
  groups_proper = refl;
  icons_rise = refl;
  items_rise = refl;
  meta_texts = refl;
}

pub earlier_made : after_edit (codes "Bank") other_notes no_further_change 15 unedited ≡ Ok earlier
unfolding entry_found
earlier_made = ap (λ vs. Ok (with_history (made_at 15 other_notes) (kept vs))) one_version

pub example_edit : ExampleEdit
example_edit = record { before = doc_before; after = doc_after; made = edit_made }

-- ---- fields, tags and expiry

labelled_alone : rising_versions (entry 10 nil_id labelled []) ≡ labelled ∷ []
labelled_alone = sym (all_rising (entry 10 nil_id labelled []) [] (labelled ∷ []) (rises_first [] [] refl) refl)

doc_labelled : IsDoc (with_bank (entry 10 nil_id labelled []))
unfolding is_proper_content is_proper_group_content is_utf8 chars lib.Utf8.encode
doc_labelled = record {
  distinct = refl;
  no_nil = refl;
  levels = omega arith;
  tombs_rise = refl;
  tombs_apart = refl;
  entries_proper = refl;
  groups_proper = refl;
  icons_rise = refl;
  items_rise = refl;
  meta_texts = refl;
}

doc_relabelled : IsDoc (with_bank (entry 10 nil_id relabelled (labelled ∷ [])))
unfolding is_proper_content is_proper_group_content is_utf8 chars lib.Utf8.encode
doc_relabelled = record {
  distinct = refl;
  no_nil = refl;
  levels = omega arith;
  tombs_rise = refl;
  tombs_apart = refl;
  entries_proper = refl;
  groups_proper = refl;
  icons_rise = refl;
  items_rise = refl;
  meta_texts = refl;
}

change_made : after_edit (codes "Bank") new_user all_changes 20 (with_bank (entry 10 nil_id labelled [])) ≡ Ok (with_bank (entry 10 nil_id relabelled (labelled ∷ [])))
unfolding entry_found trim_start trim_end chars lib.Utf8.encode
change_made = ap (λ vs. Ok (with_bank (entry 10 nil_id relabelled (kept vs)))) labelled_alone

one_is_missing : after_edit (codes "Bank") new_user one_missing 20 (with_bank (entry 10 nil_id labelled [])) ≡ Err (NoField 1)
unfolding entry_found
one_is_missing = refl

pub example_change : ExampleChange
example_change = record { before = doc_labelled; after = doc_relabelled; made = change_made; missing = one_is_missing }

-- ---- attachments

doc_keyed : IsDoc with_key
unfolding is_proper_content is_proper_group_content is_utf8 chars lib.Utf8.encode
doc_keyed = record {
  distinct = refl;
  no_nil = refl;
  levels = omega arith;
  tombs_rise = refl;
  tombs_apart = refl;
  entries_proper = refl;
  groups_proper = refl;
  icons_rise = refl;
  items_rise = refl;
  meta_texts = refl;
}

doc_replaced : IsDoc with_other_key
unfolding is_proper_content is_proper_group_content is_utf8 chars lib.Utf8.encode
doc_replaced = record {
  distinct = refl;
  no_nil = refl;
  levels = omega arith;
  tombs_rise = refl;
  tombs_apart = refl;
  entries_proper = refl;
  groups_proper = refl;
  icons_rise = refl;
  items_rise = refl;
  meta_texts = refl;
}

doc_detached : IsDoc without_key
unfolding is_proper_content is_proper_group_content is_utf8 chars lib.Utf8.encode
doc_detached = record {
  distinct = refl;
  no_nil = refl;
  levels = omega arith;
  tombs_rise = refl;
  tombs_apart = refl;
  entries_proper = refl;
  groups_proper = refl;
  icons_rise = refl;
  items_rise = refl;
  meta_texts = refl;
}

key_attached : after_attach (codes "Bank") (codes "key") (codes "k") false 20 unedited ≡ Ok with_key
unfolding entry_found
key_attached = ap (λ vs. Ok (with_bank (entry 10 nil_id keyed (kept vs)))) one_version

key_taken_out : attachment_in (codes "Bank") (codes "key") with_key ≡ Ok (key_file (codes "k"))
unfolding entry_found
key_taken_out = refl

name_taken : after_attach (codes "Bank") (codes "key") (codes "l") false 30 with_key ≡ Err NameTaken
unfolding entry_found
name_taken = refl

with_keyed : rising_versions (entry 10 nil_id keyed (first ∷ [])) ≡ first ∷ keyed ∷ []
unfolding mark_cmp
with_keyed =
    sym (all_rising (entry 10 nil_id keyed (first ∷ [])) (first ∷ []) (first ∷ keyed ∷ [])
    (rises_on (first ∷ []) (first ∷ []) [] [] (first ∷ []) first refl refl (rises_first (first ∷ []) [] refl)) refl)

key_replaced : after_attach (codes "Bank") (codes "key") (codes "l") true 30 with_key ≡ Ok with_other_key
unfolding entry_found
key_replaced = ap (λ vs. Ok (with_bank (entry 10 nil_id (version_at 30 (said_keyed (codes "l"))) (kept vs)))) with_keyed

key_detached : after_detach (codes "Bank") (codes "key") 30 with_key ≡ Ok without_key
unfolding entry_found
key_detached = ap (λ vs. Ok (with_bank (entry 10 nil_id (version 30 (codes "Bank") (codes "a")) (kept vs)))) with_keyed

no_key : after_detach (codes "Bank") (codes "key") 30 unedited ≡ Err NoAttachment
unfolding entry_found
no_key = refl

pub example_attachment : ExampleAttachment
example_attachment = record {
  attached = doc_keyed;
  attach = key_attached;
  out = key_taken_out;
  taken = name_taken;
  replaced = doc_replaced;
  replace = key_replaced;
  detached = doc_detached;
  detach = key_detached;
  absent = no_key;
}

-- ---- a version restored

-- the entry after the edit
abbrev twice : EntryRecord
twice = entry 10 nil_id (version 20 (codes "Bank") (codes "b")) (old.current ∷ [])

abbrev both : List BareVersion
both = old.current ∷ twice.current ∷ []

both_versions : rising_versions twice ≡ both
unfolding mark_cmp
both_versions =
    sym (all_rising twice (old.current ∷ []) both
    (rises_on (old.current ∷ []) (old.current ∷ []) [] [] (old.current ∷ []) old.current refl refl (rises_first (old.current ∷ []) [] refl)) refl)

-- the edited copy with this history behind the version that is restored
abbrev with_past : List BareVersion → BareDoc
with_past vs = record edited { tree = changed_at root (changed_entry bank (λ (x : EntryRecord). record x { current = version 30 (codes "Bank") (codes "a"); history = vs })) edited.tree }

restore_made : after_restore (codes "Bank") 1 30 edited ≡ Ok restored
unfolding entry_found
restore_made = ap (λ vs. Ok (with_past (kept vs))) both_versions

none_past : after_restore (codes "Bank") 2 30 edited ≡ Err (NoVersion 2)
unfolding entry_found
none_past = refl

doc_restored : IsDoc restored
unfolding is_proper_content is_proper_group_content is_utf8 chars lib.Utf8.encode
doc_restored = record {
  distinct = refl;
  no_nil = refl;
  levels = omega arith;
  tombs_rise = refl;
  tombs_apart = refl;
  entries_proper = refl;
  groups_proper = refl;
  icons_rise = refl;
  items_rise = refl;
  meta_texts = refl;
}

pub example_restore : ExampleRestore
example_restore = record { after = doc_restored; made = restore_made; past = none_past }
