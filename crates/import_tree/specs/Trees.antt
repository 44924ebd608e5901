-- The tree of imported entries: groups by their names.
use Rattle.std.specs.Prelude.{ℕ, if◌then◌else◌, List, [], ◌∷◌, ◌++◌, bytes_eq}
use Rattle.import_ids.specs.Ids.{id_after, named_id}
use Rattle.import_ids.specs.Names.{EntryTexts}
use Rattle.import_tree.specs.Entries.{ImportedEntry, entry_at, texts_of}
use Rattle.vault_model.specs.Db.{NodeId}
use Rattle.vault_model.specs.Empty.{empty_tree, new_group, new_meta}
use Rattle.vault_model.specs.Shape.{EntryRecord}
use Rattle.vault_model.specs.Tree.{BareDoc, Tree, Trees, beside, node, none}
use Rattle.vault_model.specs.Walk.{name_of}

-- The id of the root of every imported database.
abbrev pub root_id : NodeId
root_id = 0x6b ∷ 0x5f ∷ 0x0f ∷ 0x1e ∷ 0x9d ∷ 0x1c ∷ 0x4c ∷ 0x3a
    ∷ 0x8f ∷ 0x57 ∷ 0x0d ∷ 0x2c ∷ 0x1e ∷ 0x4a ∷ 0x7b ∷ 0x90 ∷ []

-- A new group of a name in the group of this id: entries are in it, or in the group to which more
-- names lead from it.
abbrev pub new_groups : ℕ → NodeId → List ℕ → List (List ℕ) → List (NodeId × EntryRecord) → Tree
new_groups now parent name [] rows = node (named_id parent name) (new_group name now) rows none
new_groups now parent name (next ∷ names) rows =
    node (named_id parent name) (new_group name now) []
    (beside (new_groups now (named_id parent name) next names rows) none)

-- A tree with entries more in the group to which names lead, the last in it. A group that is not
-- there is made, as the last in its group.
abbrev mutual
  pub with_rows : ℕ → List (List ℕ) → List (NodeId × EntryRecord) → Tree → Tree
  with_rows now [] rows (node id group entries groups) = node id group (entries ++ rows) groups
  with_rows now (name ∷ names) rows (node id group entries groups) =
      node id group entries (with_rows_among now id name names rows groups)

  -- the same of groups side by side in the group of this id
  pub with_rows_among : ℕ → NodeId → List ℕ → List (List ℕ) → List (NodeId × EntryRecord) → Trees
      → Trees
  with_rows_among now parent name names rows none =
      beside (new_groups now parent name names rows) none
  with_rows_among now parent name names rows (beside tree trees) =
      if bytes_eq (name_of tree) name then beside (with_rows now names rows tree) trees
      else beside tree (with_rows_among now parent name names rows trees)

-- A place in an imported tree: the names of the groups that lead to it from below the root, and the
-- entry that is put there with its id at a moment, or nothing but these groups.
pub record Placed : Type 0 where
  pub now : ℕ
  pub names : List (List ℕ)
  pub rows : List (NodeId × EntryRecord)

-- A tree with such a place more.
abbrev pub with_placed : Placed → Tree → Tree
with_placed placed tree = with_rows placed.now placed.names placed.rows tree

-- A tree with such places more, one after another.
abbrev pub with_all_placed : List Placed → Tree → Tree
with_all_placed [] tree = tree
with_all_placed (placed ∷ rest) tree = with_all_placed rest (with_placed placed tree)

-- An imported entry, put there at a moment, where those before it in its source have these texts.
abbrev pub placed_at : ℕ → List EntryTexts → ImportedEntry → Placed
placed_at now before entry = record {
  now = now;
  names = entry.groups;
  rows = (id_after before entry.id (texts_of entry), entry_at now entry) ∷ [];
}

-- Imported entries, one after another.
abbrev pub placed_after : ℕ → List EntryTexts → List ImportedEntry → List Placed
placed_after now before [] = []
placed_after now before (entry ∷ entries) =
    placed_at now before entry ∷ placed_after now (before ++ texts_of entry ∷ []) entries

-- A tree whose root was never changed.
abbrev pub with_old_root : Tree → Tree
with_old_root (node id group entries groups) =
    node id (record group { state = record group.state { modified = 0 } }) entries groups

-- The tree of no entries at a moment: an empty root, which was never changed, so that it never takes
-- the place of another root's state in a merge. All other times are that moment.
abbrev pub import_root : ℕ → Tree
import_root now = with_old_root (empty_tree root_id now)

-- The document of places at a moment.
abbrev pub placed_document : ℕ → List Placed → BareDoc
placed_document now placed = record {
  tree = with_all_placed placed (import_root now);
  tombs = [];
  meta = new_meta;
}

-- The document of imported entries at a moment.
abbrev pub document_of : ℕ → List ImportedEntry → BareDoc
document_of now entries = placed_document now (placed_after now [] entries)
