-- Twins: two copies of one database of so many entries, each changed by rules of its own, so that a
-- merge of them meets edits, moves and deletions in any number.
use Rattle.std.specs.Prelude.{◌+◌, ◌%◌, ◌==◌, ℕ, Bool, true, false, not, if◌then◌else◌, List, [], ◌∷◌, ◌++◌, Option, None, Some, codes, map}
use Rattle.std.specs.Fmt.{decimal}
use Rattle.std.specs.Int.{to_be_bytes, w128}
use Rattle.std.specs.List.{filter, range_with_len}
use Rattle.vault_model.specs.declared.metas.Meta.{Meta}
use Rattle.vault_model.specs.declared.metas.Timed.{Timed}
use Rattle.vault_model.specs.declared.nodes.Tombstone.{Tombstone}
use Rattle.vault_model.specs.Bare.{BareField}
use Rattle.vault_model.specs.Db.{NodeId, nil_id}
use Rattle.vault_model.specs.Empty.{new_group, new_settings}
use Rattle.vault_model.specs.Shape.{BareVersion, EntryRecord}
use Rattle.vault_model.specs.Tree.{BareDoc, Tree, all_trees, node, none}

-- ---- ids

-- The id of both roots.
abbrev pub root_id : NodeId
root_id = 0x6b ∷ 0x5f ∷ 0x0f ∷ 0x1e ∷ 0x9d ∷ 0x1c ∷ 0x4c ∷ 0x3a
    ∷ 0x8f ∷ 0x57 ∷ 0x0d ∷ 0x2c ∷ 0x1e ∷ 0x4a ∷ 0x7b ∷ 0x90 ∷ []

-- The id that is a number: its 16 bytes, the highest first.
unfoldable pub number_id : ℕ → NodeId
number_id n = to_be_bytes w128 n

-- The id of a group.
abbrev pub group_id : ℕ → NodeId
group_id g = number_id (g + 1)

-- The id of an entry.
abbrev pub entry_id : ℕ → NodeId
entry_id i = number_id (1000 + i)

-- ---- versions

-- A field that is not hidden.
abbrev pub plain_field : List ℕ → List ℕ → BareField
plain_field key value = record { key = key; value = value; hidden = false }

-- The title of an entry: `E` and its number.
abbrev pub title_of : ℕ → BareField
title_of i = plain_field (codes "Title") (codes "E" ++ decimal i)

-- A version that was made at a time and has these fields, and nothing else that is said of it. It was
-- created at 1,000, as its entry was.
abbrev pub version_at : ℕ → List BareField → BareVersion
version_at time fields = record {
  mark = record {
    modified = time;
    content = record {
      created = 1000;
      expiry = 1000;
      expires = false;
      icon = 0;
      custom_icon = None;
      fields = fields;
      attachments = [];
      tags = [];
      fore = [];
      back = [];
      url_override = [];
      auto_type = record { enabled = true; obfuscation = 0; sequence = []; pairs = [] };
      items = [];
      quality = true;
    };
  };
  stats = record { accessed = 1000; usage = 0 };
}

-- The version of an entry that both copies have.
abbrev pub shared_version : ℕ → BareVersion
shared_version i = version_at 1000 (title_of i ∷ [])

-- A version of a later time, with notes.
abbrev pub noted_version : ℕ → ℕ → List ℕ → BareVersion
noted_version i time notes = version_at time (plain_field (codes "Notes") notes ∷ title_of i ∷ [])

-- ---- entries

-- A number divides another.
abbrev pub divides : ℕ → ℕ → Bool
divides d i = i % d == 0

-- An entry that is in its group since a time, with the version that both copies have, and with a
-- later one, if there is one: that one is current then, and the shared one is its history.
abbrev pub entry_with : ℕ → ℕ → Option BareVersion → EntryRecord
entry_with i placed None = record {
  placed = placed;
  previous = nil_id;
  current = shared_version i;
  history = [];
}
entry_with i placed (Some later) = record {
  placed = placed;
  previous = nil_id;
  current = later;
  history = shared_version i ∷ [];
}

-- The rules of a copy: which entries are in it, and of each the group in which it stands, since when,
-- and its later version, if there is one.
pub record Rules : Type 0 where
  pub is_there : ℕ → Bool
  pub group : ℕ → ℕ
  pub placed : ℕ → ℕ
  pub later : ℕ → Option BareVersion

-- In the first copy 3 divides the numbers of entries that were edited, and 5 those that were moved, by
-- one group.
abbrev pub first_rules : Rules
first_rules = record {
  is_there = λ i. true;
  group = λ i. if divides 5 i then (i + 1) % 16 else i % 16;
  placed = λ i. if divides 5 i then 3000 + i else 1000;
  later = λ i. if divides 3 i then Some (noted_version i (2000 + i) (codes "a")) else None;
}

-- In the second copy 2 divides the numbers of entries that were edited, and 7 those that were deleted.
abbrev pub second_rules : Rules
second_rules = record {
  is_there = λ i. not (divides 7 i);
  group = λ i. i % 16;
  placed = λ i. 1000;
  later = λ i. if divides 2 i then Some (noted_version i (2001 + i) (codes "b")) else None;
}

-- ---- copies

-- All entries: the numbers from 0.
abbrev pub numbers : ℕ → List ℕ
numbers count = range_with_len 0 count

-- An entry of a copy, with its id.
abbrev pub row_of : Rules → ℕ → NodeId × EntryRecord
row_of rules i = (entry_id i, entry_with i (rules.placed i) (rules.later i))

-- The entries of a group of a copy, by rising number.
abbrev pub entries_in : Rules → ℕ → ℕ → List (NodeId × EntryRecord)
entries_in rules count g = map (row_of rules)
    (filter (λ i. rules.group i == g) (filter rules.is_there (numbers count)))

-- A group of a copy: `G` and its number.
abbrev pub group_tree : Rules → ℕ → ℕ → Tree
group_tree rules count g =
    node (group_id g) (new_group (codes "G" ++ decimal g) 1000) (entries_in rules count g) none

-- The tree of a copy: 16 groups below the root.
abbrev pub twin_tree : Rules → ℕ → Tree
twin_tree rules count = node root_id (new_group (codes "Root") 1000) []
    (all_trees (map (group_tree rules count) (numbers 16)))

-- The tombstone of an entry.
abbrev pub tomb_of : ℕ → Tombstone
tomb_of i = record { id = entry_id i; deleted = 900_000 }

-- The tombstones of the entries that are not in a copy.
abbrev pub twin_tombs : Rules → ℕ → List Tombstone
twin_tombs rules count = map tomb_of (filter (λ i. not (rules.is_there i)) (numbers count))

-- A value that was last changed at 1,000.
abbrev pub changed_once : {A : Type 0} → A → Timed A
changed_once value = record { changed = 1000; value = value }

-- What both copies say of themselves: what a new database does, at 1,000.
abbrev pub twin_meta : Meta
twin_meta = record {
  name = changed_once [];
  description = changed_once [];
  user = changed_once [];
  bin = changed_once (record { enabled = true; id = nil_id });
  templates = changed_once nil_id;
  settings = changed_once new_settings;
  icons = [];
  items = [];
  view = record { key_changed = 1000; last_group = nil_id; last_top = nil_id };
}

-- A copy of so many entries.
abbrev pub twin : Rules → ℕ → BareDoc
twin rules count = record {
  tree = twin_tree rules count;
  tombs = twin_tombs rules count;
  meta = twin_meta;
}

-- The first copy.
abbrev pub first_twin : ℕ → BareDoc
first_twin count = twin first_rules count

-- The second copy.
abbrev pub second_twin : ℕ → BareDoc
second_twin count = twin second_rules count
