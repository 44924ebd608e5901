-- Worked cases of conflicts and of paths: copies of the entry Bank, which was made at 10, and was edited at 20 or at 30.
use Rattle.std.proofs.Common.{◌≡◌, ◌∙◌, ℕ, List, [], ◌∷◌, ◌++◌, None, refl}
use Rattle.std.specs.Prelude.{codes, false, replicate, true}
use Rattle.uuid.specs.Text.{by_index}
use Rattle.vault_model.specs.Db.{NodeId, mark_cmp, nil_id}
use Rattle.vault_model.specs.Empty.{empty_bare, new_group}
use Rattle.vault_model.specs.Orders.{association_cmp, attachment_cmp, auto_type_cmp, content_cmp, field_cmp, item_cmp}
use Rattle.vault_model.specs.Shape.{BareVersion, EntryRecord}
use Rattle.vault_model.specs.Tree.{BareDoc, beside, node, none}
use Rattle.doc_spelling.specs.Moments.{moment_at, month_from, year_from}
use Rattle.merge_details.specs.Conflicts.{conflicts}
use Rattle.merge_details.specs.Lines.{conflict_lines}
use Rattle.merge_details.specs.Paths.{path_in}
use Rattle.merge_details.proofs.Computed.{computed, conflicts_are}

abbrev pub id : ℕ → NodeId
id b = replicate 16 b

-- a version of an entry of this title
abbrev pub version : List ℕ → ℕ → List ℕ → BareVersion
version title time notes = record {
  mark = record {
    modified = time;
    content = record {
      created = 10;
      expiry = 10;
      expires = false;
      icon = 0;
      custom_icon = None;
      fields = record { key = codes "Notes"; value = notes; hidden = false }
          ∷ record { key = codes "Title"; value = title; hidden = false } ∷ [];
      attachments = [];
      tags = [];
      fore = [];
      back = [];
      url_override = [];
      auto_type = record { enabled = true; obfuscation = 0; sequence = []; pairs = [] };
      items = [];
      quality = true;
    };
  };
  stats = record { accessed = time; usage = 0 };
}

-- an entry of this version and those before it
abbrev pub entry : BareVersion → List BareVersion → EntryRecord
entry current history = record { placed = 10; previous = nil_id; current = current; history = history }

-- a document with these entries in its root
abbrev pub doc : List (NodeId × EntryRecord) → BareDoc
doc entries = record (empty_bare (id 1) 10) { tree = node (id 1) (new_group (codes "Root") 10) entries none }

-- the versions of the entry: as it was made, and edited in two ways
abbrev pub made : BareVersion
made = version (codes "Bank") 10 (codes "a")

abbrev pub edited : BareVersion
edited = version (codes "Bank") 20 (codes "b")

abbrev pub edited_later : BareVersion
edited_later = version (codes "Bank") 30 (codes "c")

-- a document with this entry, of this version and those before it
abbrev pub bank : BareVersion → List BareVersion → BareDoc
bank current history = doc ((id 2, entry current history) ∷ [])

-- edited in two ways, the entry is one conflict
two_edits : conflicts (bank edited (made ∷ [])) (bank edited_later (made ∷ []) ∷ []) (bank edited_later (edited ∷ made ∷ []))
    ≡ ((codes "/Bank", id 2), record { current = 30; older = 20 }) ∷ []
unfolding mark_cmp content_cmp field_cmp item_cmp attachment_cmp association_cmp auto_type_cmp
two_edits = conflicts_are (bank edited (made ∷ [])) (bank edited_later (made ∷ []) ∷ []) (bank edited_later (edited ∷ made ∷ []))

-- edited in the same way in both, it is none
same_edit : conflicts (bank edited (made ∷ [])) (bank edited (made ∷ []) ∷ []) (bank edited (made ∷ [])) ≡ []
unfolding mark_cmp content_cmp field_cmp item_cmp attachment_cmp association_cmp auto_type_cmp
same_edit = conflicts_are (bank edited (made ∷ [])) (bank edited (made ∷ []) ∷ []) (bank edited (made ∷ []))

-- edited in the source after the edit of the target was known there, it is none
edited_again : conflicts (bank edited (made ∷ [])) (bank edited_later (edited ∷ made ∷ []) ∷ []) (bank edited_later (edited ∷ made ∷ [])) ≡ []
unfolding mark_cmp content_cmp field_cmp item_cmp attachment_cmp association_cmp auto_type_cmp
edited_again = conflicts_are (bank edited (made ∷ [])) (bank edited_later (edited ∷ made ∷ []) ∷ []) (bank edited_later (edited ∷ made ∷ []))

-- edited in the source alone, it is none
source_edited : conflicts (bank made []) (bank edited (made ∷ []) ∷ []) (bank edited (made ∷ [])) ≡ []
unfolding mark_cmp content_cmp field_cmp item_cmp attachment_cmp association_cmp auto_type_cmp
source_edited = conflicts_are (bank made []) (bank edited (made ∷ []) ∷ []) (bank edited (made ∷ []))

-- edited in the target alone, it is none
target_edited : conflicts (bank edited (made ∷ [])) (bank made [] ∷ []) (bank edited (made ∷ [])) ≡ []
unfolding mark_cmp content_cmp field_cmp item_cmp attachment_cmp association_cmp auto_type_cmp
target_edited = conflicts_are (bank edited (made ∷ [])) (bank made [] ∷ []) (bank edited (made ∷ []))

-- an entry that only the source held is none
only_source : conflicts (doc []) (bank edited (made ∷ []) ∷ []) (bank edited (made ∷ [])) ≡ []
unfolding mark_cmp content_cmp field_cmp item_cmp attachment_cmp association_cmp auto_type_cmp
only_source = conflicts_are (doc []) (bank edited (made ∷ []) ∷ []) (bank edited (made ∷ []))

-- two entries that were edited in two ways, and a third of the title of the second
abbrev three : (List ℕ → EntryRecord) → BareDoc
three e = doc ((id 2, e (codes "Mail")) ∷ (id 4, e (codes "Bank")) ∷ (id 3, e (codes "Bank")) ∷ [])

abbrev of_target : List ℕ → EntryRecord
of_target title = entry (version title 20 (codes "b")) []

abbrev of_source : List ℕ → EntryRecord
of_source title = entry (version title 30 (codes "c")) []

abbrev of_result : List ℕ → EntryRecord
of_result title = entry (version title 30 (codes "c")) (version title 20 (codes "b") ∷ [])

-- conflicts rise by path, and those of one path by id
by_path : conflicts (three of_target) (three of_source ∷ []) (three of_result)
    ≡ ((codes "/Bank", id 3), record { current = 30; older = 20 }) ∷ ((codes "/Bank", id 4), record { current = 30; older = 20 })
    ∷ ((codes "/Mail", id 2), record { current = 30; older = 20 }) ∷ []
unfolding mark_cmp content_cmp field_cmp item_cmp attachment_cmp association_cmp auto_type_cmp
by_path = conflicts_are (three of_target) (three of_source ∷ []) (three of_result)

-- its line
line_is_told : conflict_lines (((codes "/Bank", id 2), record { current = 63931554000; older = 63931550400 }) ∷ [])
    ≡ codes "conflict entry /Bank [02020202-0202-0202-0202-020202020202]: 2026-11-29T13:00:00Z is current, 2026-11-29T12:00:00Z is in its history\n"
unfolding by_index moment_at year_from month_from
line_is_told = refl

-- the paths of a root, of a group in it, of a group in that, and of an entry there
abbrev nested : BareDoc
nested = record (empty_bare (id 1) 10) {
  tree = node (id 1) (new_group (codes "Root") 10) []
      (beside (node (id 5) (new_group (codes "Work") 10) [] (beside (node (id 6) (new_group (codes "Sub") 10) ((id 2, entry made []) ∷ []) none) none)) none);
}

paths_are_told : path_in nested (id 1) ∷ path_in nested (id 5) ∷ path_in nested (id 6) ∷ path_in nested (id 2) ∷ path_in nested (id 9) ∷ []
    ≡ codes "/" ∷ codes "/Work" ∷ codes "/Work/Sub" ∷ codes "/Work/Sub/Bank" ∷ [] ∷ []
paths_are_told = refl
