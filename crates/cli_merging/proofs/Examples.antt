-- What a merge of two copies prints: in each the notes of the entry Bank were edited, in one at 20, in the other at 30.
use Rattle.std.proofs.Common.{◌≡◌, ℕ, Bool, List, [], ◌∷◌, ◌++◌, None, ap, length, refl}
use Rattle.std.specs.Fmt.{digits}
use Rattle.std.specs.Prelude.{codes, false, replicate, true}
use Rattle.uuid.specs.Text.{by_index}
use Rattle.vault_model.specs.Db.{NodeId, mark_cmp, nil_id}
use Rattle.vault_model.specs.Empty.{empty_bare, new_group}
use Rattle.vault_model.specs.Orders.{association_cmp, attachment_cmp, auto_type_cmp, content_cmp, field_cmp, item_cmp}
use Rattle.vault_model.specs.Shape.{BareVersion}
use Rattle.vault_model.specs.Tree.{BareDoc, node, none}
use Rattle.merge_details.specs.DocSpelling.Moments.{moment_at, month_from, year_from}
use Rattle.merge_changes.specs.declared.changes.Change.{Change}
use Rattle.merge_changes.specs.declared.changes.Change.TheVariants.{Deleted, Moved, Updated}
use Rattle.merge_changes.specs.declared.changes.Kind.TheVariants.{Entry}
use Rattle.merge_details.specs.Lines.{conflict_lines}
use Rattle.merge_details.specs.Paths.{path_in}
use Rattle.merge_details.specs.declared.conflict_tables.ConflictTimes.{ConflictTimes}
use Rattle.merge_details.proofs.Computed.{conflicts_are}
use Rattle.cli_merging.specs.Details.{count_line, detail_line, detail_lines, merge_report, merging_words}
use Rattle.cli_merging.specs.Reports.{source_lines}

abbrev id : ℕ → NodeId
id b = replicate 16 b

-- a version of the entry
abbrev version : ℕ → List ℕ → BareVersion
version time notes = record {
  mark = record {
    modified = time;
    content = record {
      created = 10;
      expiry = 10;
      expires = false;
      icon = 0;
      custom_icon = None;
      fields = record { key = codes "Notes"; value = notes; hidden = false }
          ∷ record { key = codes "Title"; value = codes "Bank"; hidden = false } ∷ [];
      attachments = [];
      tags = [];
      fore = [];
      back = [];
      url_override = [];
      auto_type = record { enabled = true; obfuscation = 0; sequence = []; pairs = [] };
      items = [];
      quality = true;
    };
  };
  stats = record { accessed = time; usage = 0 };
}

-- a document with this entry, of this version and those before it
abbrev doc : BareVersion → List BareVersion → BareDoc
doc current history = record (empty_bare (id 1) 10) {
  tree = node (id 1) (new_group (codes "Root") 10)
      ((id 2, record { placed = 10; previous = nil_id; current = current; history = history }) ∷ []) none;
}

-- the target, and what the merge makes of it
abbrev target : BareDoc
target = doc (version 20 (codes "b")) (version 10 (codes "a") ∷ [])

abbrev merged : BareDoc
merged = doc (version 30 (codes "c")) (version 20 (codes "b") ∷ version 10 (codes "a") ∷ [])

edits_are_told : merge_report false false false false (codes "A") (codes "B" ∷ []) target [] merged (Updated Entry (id 2) ∷ [])
    ≡ codes "updated entry Bank [02020202-0202-0202-0202-020202020202]\nSuccessfully merged B into A.\n"
unfolding by_index
edits_are_told = refl

-- an entry that was deleted has the title that it had
deletion_is_told : merge_report false false false false (codes "A") (codes "B" ∷ []) target [] (empty_bare (id 1) 10) (Deleted Entry (id 2) ∷ [])
    ≡ codes "deleted entry Bank [02020202-0202-0202-0202-020202020202]\nSuccessfully merged B into A.\n"
unfolding by_index
deletion_is_told = refl

-- ---- with details

-- the source, in which the entry was edited at 30
abbrev source : BareDoc
source = doc (version 30 (codes "c")) (version 10 (codes "a") ∷ [])

abbrev told : (dry : Bool) → List Change → List ((List ℕ × NodeId) × ConflictTimes) → List ℕ
told dry changes found =
    detail_lines (path_in target) (path_in merged) changes ++ conflict_lines found
    ++ source_lines (merging_words dry) (codes "A") (codes "B" ∷ []) ++ count_line changes (length found)

edits_are_detailed : merge_report false false true false (codes "A") (codes "B" ∷ []) target (source ∷ []) merged (Updated Entry (id 2) ∷ [])
    ≡ codes "updated entry /Bank [02020202-0202-0202-0202-020202020202]\nconflict entry /Bank [02020202-0202-0202-0202-020202020202]: 0001-01-01T00:00:30Z is current, 0001-01-01T00:00:20Z is in its history\nSuccessfully merged B into A.\n0 created, 1 updated, 0 moved, 0 deleted, 1 conflicts\n"
unfolding by_index moment_at year_from month_from digits mark_cmp content_cmp field_cmp item_cmp attachment_cmp association_cmp auto_type_cmp
edits_are_detailed = ap (told false (Updated Entry (id 2) ∷ [])) (conflicts_are target (source ∷ []) merged)

-- in a dry run nothing was merged
dry_is_detailed : merge_report false true true false (codes "A") (codes "B" ∷ []) target (target ∷ []) merged (Updated Entry (id 2) ∷ [])
    ≡ codes "updated entry /Bank [02020202-0202-0202-0202-020202020202]\nWould merge B into A.\n0 created, 1 updated, 0 moved, 0 deleted, 0 conflicts\n"
unfolding by_index moment_at year_from month_from digits mark_cmp content_cmp field_cmp item_cmp attachment_cmp association_cmp auto_type_cmp
dry_is_detailed = ap (told true (Updated Entry (id 2) ∷ [])) (conflicts_are target (target ∷ []) merged)

-- where nothing was changed
same_is_detailed : merge_report false true true true (codes "A") (codes "B" ∷ []) target (target ∷ []) target []
    ≡ codes "Database was not modified by merge operation.\n"
same_is_detailed = refl

-- a node that was moved has the path that it had as well
move_is_detailed : detail_line (λ u. codes "/Old/Bank") (λ u. codes "/New/Bank") (Moved Entry (id 2))
    ≡ codes "moved entry /New/Bank [02020202-0202-0202-0202-020202020202] from /Old/Bank\n"
unfolding by_index
move_is_detailed = refl

-- a quiet merge prints nothing, with details too
quiet_is_detailed : merge_report true false true false (codes "A") (codes "B" ∷ []) target (source ∷ []) merged (Updated Entry (id 2) ∷ []) ≡ []
quiet_is_detailed = refl
