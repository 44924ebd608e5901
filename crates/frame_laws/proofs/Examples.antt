-- Commands on a small database, computed.
use Rattle.std.proofs.Common.{◌≡◌, List, [], ◌∷◌, codes, None, Some, Ok, Err, Result, refl, sym, ap, arith}
use Rattle.std.specs.Str.{chars, is_utf8}
use Rattle.vault_model.specs.Proper.{is_proper_content, is_proper_group_content}
use Rattle.vault_model.specs.Bare.{BareContent}
use Rattle.vault_model.specs.Db.{mark_cmp, nil_id}
use Rattle.vault_model.specs.Shape.{BareVersion, EntryRecord}
use Rattle.vault_model.specs.Tree.{BareDoc}
use Rattle.merge_core.specs.Example.{as_it_was, bank, edited, entry, home, root, version}
use Rattle.tree_core.specs.declared.fails.Removed.TheVariants.{Deleted}
use Rattle.tree_core.specs.declared.fails.TreeFail.{TreeFail}
use Rattle.tree_core.specs.After.{AfterRemoval, after_add, after_make_group, after_move_entry, after_move_group, after_remove_entry, after_remove_group}
use Rattle.tree_core.specs.Attachments.{with_attachment, without_attachment}
use Rattle.tree_core.specs.Changes.{changed_at, changed_entry}
use Rattle.tree_core.specs.Histories.{rising_versions, within_limits}
use Rattle.tree_core.specs.NewNodes.{edited_version, new_version}
use Rattle.tree_core.specs.Finding.{entry_found, group_at_path, group_found, has_entry_path, has_group_path}
use Rattle.tree_edits.proofs.RisingVersions.{all_rising, rises_first, rises_on}
use Rattle.frame_laws.specs.Example.{ExampleChanges, new_notes, no_values, without_bin}

-- what was made
abbrev doc_in : Result BareDoc TreeFail → BareDoc
doc_in (Ok e) = e
doc_in (Err why) = as_it_was

abbrev removal_in : Result AfterRemoval TreeFail → AfterRemoval
removal_in (Ok a) = a
removal_in (Err why) = record { removed = Deleted; doc = as_it_was }

-- ---- an edit

abbrev old : EntryRecord
old = entry 10 nil_id (version 10 (codes "Bank") (codes "a")) []

abbrev new : BareVersion
new = edited_version as_it_was.meta.settings.value.protect new_notes 50 old.current

-- the database with a version as the current one, and this history
abbrev with_history : BareVersion → List BareVersion → BareDoc
with_history v vs = record as_it_was { tree = changed_at root (changed_entry bank (λ (x : EntryRecord). record x { current = v; history = vs })) as_it_was.tree }

one_version : rising_versions old ≡ old.current ∷ []
one_version = sym (all_rising old [] (old.current ∷ []) (rises_first [] [] refl) refl)

-- ---- something attached, and taken away

abbrev key : BareContent
key = with_attachment (codes "key") (codes "k") old.current.mark.content

abbrev keyed : BareVersion
keyed = new_version key 50 old.current

abbrev old_key : EntryRecord
old_key = record old { current = record old.current { mark = record old.current.mark { content = key } } }

abbrev keyless : BareVersion
keyless = new_version (without_attachment (codes "key") key) 50 old.current

one_key : rising_versions old_key ≡ old_key.current ∷ []
one_key = sym (all_rising old_key [] (old_key.current ∷ []) (rises_first [] [] refl) refl)

-- ---- a version restored

abbrev twice : EntryRecord
twice = entry 10 nil_id (version 20 (codes "Bank") (codes "b")) (version 10 (codes "Bank") (codes "a") ∷ [])

abbrev both : List BareVersion
both = old.current ∷ twice.current ∷ []

both_versions : rising_versions twice ≡ both
unfolding mark_cmp
both_versions =
    sym (all_rising twice (old.current ∷ []) both
    (rises_on (old.current ∷ []) (old.current ∷ []) [] [] (old.current ∷ []) old.current refl refl (rises_first (old.current ∷ []) [] refl)) refl)

-- what the first version said, again
abbrev again : BareVersion
again = new_version old.current.mark.content 50 twice.current

-- the database with that version as the current one, and this history
abbrev with_past : List BareVersion → BareDoc
with_past vs = record edited { tree = changed_at root (changed_entry bank (λ (x : EntryRecord). record x { current = again; history = vs })) edited.tree }

pub example_changes : ExampleChanges
unfolding entry_found group_found group_at_path has_entry_path has_group_path is_proper_content is_proper_group_content is_utf8 chars lib.Utf8.encode
example_changes = record {
  doc = record {
    distinct = refl;
    no_nil = refl;
    levels = omega arith;
    tombs_rise = refl;
    tombs_apart = refl;
    entries_proper = refl;
    groups_proper = refl;
    icons_rise = refl;
    items_rise = refl;
    meta_texts = refl;
  };
  wide = record {
    distinct = refl;
    no_nil = refl;
    levels = omega arith;
    tombs_rise = refl;
    tombs_apart = refl;
    entries_proper = refl;
    groups_proper = refl;
    icons_rise = refl;
    items_rise = refl;
    meta_texts = refl;
  };
  bare = record {
    distinct = refl;
    no_nil = refl;
    levels = omega arith;
    tombs_rise = refl;
    tombs_apart = refl;
    entries_proper = refl;
    groups_proper = refl;
    icons_rise = refl;
    items_rise = refl;
    meta_texts = refl;
  };
  keyed = record {
    distinct = refl;
    no_nil = refl;
    levels = omega arith;
    tombs_rise = refl;
    tombs_apart = refl;
    entries_proper = refl;
    groups_proper = refl;
    icons_rise = refl;
    items_rise = refl;
    meta_texts = refl;
  };
  edit = (
    with_history new (old.current ∷ []),
    (
      record {
        distinct = refl;
        no_nil = refl;
        levels = omega arith;
        tombs_rise = refl;
        tombs_apart = refl;
        entries_proper = refl;
        groups_proper = refl;
        icons_rise = refl;
        items_rise = refl;
        meta_texts = refl;
      },
      ap (λ vs. Ok (with_history new (within_limits as_it_was.meta.settings.value.history_items as_it_was.meta.settings.value.history_size vs))) one_version,
    ),
  );
  attach = (
    with_history keyed (old.current ∷ []),
    (
      record {
        distinct = refl;
        no_nil = refl;
        levels = omega arith;
        tombs_rise = refl;
        tombs_apart = refl;
        entries_proper = refl;
        groups_proper = refl;
        icons_rise = refl;
        items_rise = refl;
        meta_texts = refl;
      },
      ap (λ vs. Ok (with_history keyed (within_limits as_it_was.meta.settings.value.history_items as_it_was.meta.settings.value.history_size vs))) one_version,
    ),
  );
  detach = (
    with_history keyless (old_key.current ∷ []),
    (
      record {
        distinct = refl;
        no_nil = refl;
        levels = omega arith;
        tombs_rise = refl;
        tombs_apart = refl;
        entries_proper = refl;
        groups_proper = refl;
        icons_rise = refl;
        items_rise = refl;
        meta_texts = refl;
      },
      ap (λ vs. Ok (with_history keyless (within_limits as_it_was.meta.settings.value.history_items as_it_was.meta.settings.value.history_size vs))) one_key,
    ),
  );
  restore = (
    with_past both,
    (
      record {
        distinct = refl;
        no_nil = refl;
        levels = omega arith;
        tombs_rise = refl;
        tombs_apart = refl;
        entries_proper = refl;
        groups_proper = refl;
        icons_rise = refl;
        items_rise = refl;
        meta_texts = refl;
      },
      ap (λ vs. Ok (with_past (within_limits edited.meta.settings.value.history_items edited.meta.settings.value.history_size vs))) both_versions,
    ),
  );
  add = (
    doc_in (after_add (codes "Work/Chat") home no_values 50 as_it_was),
    (
      record {
        distinct = refl;
        no_nil = refl;
        levels = omega arith;
        tombs_rise = refl;
        tombs_apart = refl;
        entries_proper = refl;
        groups_proper = refl;
        icons_rise = refl;
        items_rise = refl;
        meta_texts = refl;
      },
      refl,
    ),
  );
  make_group = (
    doc_in (after_make_group (codes "Home") home 50 as_it_was),
    (
      record {
        distinct = refl;
        no_nil = refl;
        levels = omega arith;
        tombs_rise = refl;
        tombs_apart = refl;
        entries_proper = refl;
        groups_proper = refl;
        icons_rise = refl;
        items_rise = refl;
        meta_texts = refl;
      },
      refl,
    ),
  );
  move_entry = (
    doc_in (after_move_entry (codes "Bank") (codes "Work") 50 as_it_was),
    (
      record {
        distinct = refl;
        no_nil = refl;
        levels = omega arith;
        tombs_rise = refl;
        tombs_apart = refl;
        entries_proper = refl;
        groups_proper = refl;
        icons_rise = refl;
        items_rise = refl;
        meta_texts = refl;
      },
      refl,
    ),
  );
  move_group = (
    doc_in (after_move_group (codes "Work") (codes "Home") 50 edited),
    (
      record {
        distinct = refl;
        no_nil = refl;
        levels = omega arith;
        tombs_rise = refl;
        tombs_apart = refl;
        entries_proper = refl;
        groups_proper = refl;
        icons_rise = refl;
        items_rise = refl;
        meta_texts = refl;
      },
      refl,
    ),
  );
  needs_none = refl;
  delete_entry = (
    removal_in (after_remove_entry (codes "Mail") None 50 as_it_was),
    (
      record {
        distinct = refl;
        no_nil = refl;
        levels = omega arith;
        tombs_rise = refl;
        tombs_apart = refl;
        entries_proper = refl;
        groups_proper = refl;
        icons_rise = refl;
        items_rise = refl;
        meta_texts = refl;
      },
      refl,
      refl,
    ),
  );
  delete_group = (
    removal_in (after_remove_group (codes "Work") None 50 as_it_was),
    (
      record {
        distinct = refl;
        no_nil = refl;
        levels = omega arith;
        tombs_rise = refl;
        tombs_apart = refl;
        entries_proper = refl;
        groups_proper = refl;
        icons_rise = refl;
        items_rise = refl;
        meta_texts = refl;
      },
      refl,
      refl,
    ),
  );
  needs = refl;
  recycle_entry = (
    removal_in (after_remove_entry (codes "Mail") (Some home) 50 without_bin),
    (
      record {
        distinct = refl;
        no_nil = refl;
        levels = omega arith;
        tombs_rise = refl;
        tombs_apart = refl;
        entries_proper = refl;
        groups_proper = refl;
        icons_rise = refl;
        items_rise = refl;
        meta_texts = refl;
      },
      refl,
      refl,
    ),
  );
  recycle_group = (
    removal_in (after_remove_group (codes "Work") (Some home) 50 without_bin),
    (
      record {
        distinct = refl;
        no_nil = refl;
        levels = omega arith;
        tombs_rise = refl;
        tombs_apart = refl;
        entries_proper = refl;
        groups_proper = refl;
        icons_rise = refl;
        items_rise = refl;
        meta_texts = refl;
      },
      refl,
      refl,
    ),
  );
}
