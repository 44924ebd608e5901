-- Names in a small tree: the entries Bank and Mail in the root, and below it a group Work with an entry Mail, one whose
-- title is in braces, one whose title is the name of Bank's id, and a group Sub/Deep. And the versions of an entry by
-- their numbers.
use Rattle.std.proofs.Common.{◌≡◌, ℕ, List, [], ◌∷◌, None, Some, map, refl}
use Rattle.std.specs.Prelude.{codes, false, true}
use Rattle.vault_model.specs.Db.{NodeId}
use Rattle.vault_model.specs.Empty.{empty_bare, new_group}
use Rattle.vault_model.specs.Shape.{BareVersion, EntryRecord}
use Rattle.vault_model.specs.Tree.{BareDoc, Tree, beside, node, none}
use Rattle.uuid.specs.Text.{by_index}
use Rattle.tree_core.specs.Finding.{entry_found, group_at_path, group_found}
use Rattle.tree_core.specs.Histories.{version_numbered}

abbrev id : ℕ → NodeId
id n = n ∷ []

-- An entry of this title.
abbrev titled : List ℕ → EntryRecord
titled title = record {
  placed = 0;
  previous = id 0;
  current = record {
    mark = record {
      modified = 0;
      content = record {
        created = 0;
        expiry = 0;
        expires = false;
        icon = 0;
        custom_icon = None;
        fields = record { key = codes "Title"; value = title; hidden = false } ∷ [];
        attachments = [];
        tags = [];
        fore = [];
        back = [];
        url_override = [];
        auto_type = record { enabled = true; obfuscation = 0; sequence = []; pairs = [] };
        items = [];
        quality = true;
      };
    };
    stats = record { accessed = 0; usage = 0 };
  };
  history = [];
}

abbrev work : Tree
work =
    node (id 4) (new_group (codes "Work") 0) ((id 5, titled (codes "Mail")) ∷ (id 7, titled (codes "{Mail}")) ∷ (id 8, titled (codes "{02000000-0000-0000-0000-000000000000}")) ∷ [])
    (beside (node (id 6) (new_group (codes "Sub/Deep") 0) [] none) none)

abbrev doc : BareDoc
doc = record (empty_bare (id 1) 0) {
  tree =
      node (id 1) (new_group (codes "Root") 0)
      ((id 2, titled (codes "Bank")) ∷ (id 3, titled (codes "Mail")) ∷ [])
      (beside work none);
}

-- One slash before an entry's path may be written, and none after it.
entries_named : map (entry_found doc)
    (codes "Bank" ∷ codes "/Mail" ∷ codes "Work/Mail" ∷ codes "/Work/Mail" ∷ [])
    ≡ Some (id 2) ∷ Some (id 3) ∷ Some (id 5) ∷ Some (id 5) ∷ []
unfolding entry_found
entries_named = refl

no_entry_named : map (entry_found doc)
    ([] ∷ codes "/" ∷ codes "Work" ∷ codes "Work/" ∷ codes "//Mail" ∷ codes "Mail/" ∷ codes "Root/Mail" ∷ codes "Work/Bank" ∷ [])
    ≡ None ∷ None ∷ None ∷ None ∷ None ∷ None ∷ None ∷ None ∷ []
unfolding entry_found
no_entry_named = refl

-- One slash before a group's path may be written, and one after it.
groups_named : map (group_found doc)
    ([] ∷ codes "Work" ∷ codes "/Work" ∷ codes "Work/" ∷ codes "/Work/" ∷ codes "Work/Sub/Deep" ∷ [])
    ≡ Some (id 1) ∷ Some (id 4) ∷ Some (id 4) ∷ Some (id 4) ∷ Some (id 4) ∷ Some (id 6) ∷ []
unfolding group_found group_at_path
groups_named = refl

no_group_named : map (group_found doc)
    (codes "Root" ∷ codes "Sub/Deep" ∷ codes "Work/Sub" ∷ codes "//Work" ∷ codes "Work//" ∷ codes "Bank" ∷ codes "work" ∷ [])
    ≡ None ∷ None ∷ None ∷ None ∷ None ∷ None ∷ None ∷ []
unfolding group_found group_at_path
no_group_named = refl

-- An entry by its id in braces, a title that is in braces, and the path of a title that is the name of an id. No
-- group's id names an entry, nor does an id with a slash before it, in part, or without its braces.
entries_with_ids : map (entry_found doc)
    (codes "{02000000-0000-0000-0000-000000000000}" ∷ codes "{05000000-0000-0000-0000-000000000000}"
    ∷ codes "Work/{Mail}" ∷ codes "Work/{02000000-0000-0000-0000-000000000000}" ∷ [])
    ≡ Some (id 2) ∷ Some (id 5) ∷ Some (id 7) ∷ Some (id 8) ∷ []
unfolding entry_found by_index
entries_with_ids = refl

no_entry_with_id : map (entry_found doc)
    (codes "{04000000-0000-0000-0000-000000000000}" ∷ codes "/{02000000-0000-0000-0000-000000000000}"
    ∷ codes "{02000000-0000-0000-0000}" ∷ codes "02000000-0000-0000-0000-000000000000" ∷ codes "{}" ∷ codes "{" ∷ [])
    ≡ None ∷ None ∷ None ∷ None ∷ None ∷ None ∷ []
unfolding entry_found by_index
no_entry_with_id = refl

-- A group by its id in braces, with and without slashes; the root has one too, and no entry's id names a group.
groups_with_ids : map (group_found doc)
    (codes "{04000000-0000-0000-0000-000000000000}" ∷ codes "/{04000000-0000-0000-0000-000000000000}/"
    ∷ codes "{01000000-0000-0000-0000-000000000000}" ∷ codes "{02000000-0000-0000-0000-000000000000}" ∷ [])
    ≡ Some (id 4) ∷ Some (id 4) ∷ Some (id 1) ∷ None ∷ []
unfolding group_found group_at_path by_index
groups_with_ids = refl

-- The group of a new node's path is named by its path alone.
no_group_at_id : group_at_path doc (codes "{04000000-0000-0000-0000-000000000000}") ≡ None
unfolding group_at_path
no_group_at_id = refl

-- ---- versions by their numbers

-- the version of an entry of this title
abbrev version : List ℕ → BareVersion
version title = (titled title).current

-- an entry with two versions before the current one
abbrev changed : EntryRecord
changed = record (titled (codes "New")) { history = version (codes "Old") ∷ version (codes "Newer") ∷ [] }

versions_numbered : map (λ number. version_numbered number changed) (0 ∷ 1 ∷ 2 ∷ 3 ∷ [])
    ≡ Some (version (codes "New")) ∷ Some (version (codes "Newer")) ∷ Some (version (codes "Old")) ∷ None ∷ []
versions_numbered = refl
