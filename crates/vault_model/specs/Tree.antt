-- Documents as trees, without memory, and both ways between a tree and its shape.
use Rattle.std.specs.Prelude.{Bool, if◌then◌else◌, ◌&&◌, ◌≡◌, ◌≤◌, ◌<◌, ℕ, suc, zero, true, false, not, List, [], ◌∷◌, ◌++◌, Option, None, Some, map, max}
use Rattle.std.specs.FinMap.{FinMap, get, contains_key, entries, from_entries}
use Rattle.std.specs.List.{list_all, list_any, filter}
use Rattle.std.specs.Option.{unwrap_or}
use Rattle.vault_model.specs.declared.contents.Item.{Item}
use Rattle.vault_model.specs.declared.contents.Tri.TheVariants.{Inherit}
use Rattle.vault_model.specs.declared.metas.Icon.{Icon}
use Rattle.vault_model.specs.declared.metas.Meta.{Meta}
use Rattle.vault_model.specs.declared.nodes.Tombstone.{Tombstone}
use Rattle.vault_model.specs.Db.{NodeId, id_cmp, nil_id, Place, Db}
use Rattle.vault_model.specs.Join.{is_id}
use Rattle.vault_model.specs.Proper.{rises, is_proper_content, is_proper_group_content, is_text_meta}
use Rattle.vault_model.specs.Shape.{BareVersion, EntryRecord, GroupRecord, Children, Shape, kids, lay, db_of, new_view}

-- a group with its entries and its groups, in their order
mutual
  pub data Tree : Type 0 where
    node : NodeId → GroupRecord → List (NodeId × EntryRecord) → Trees → Tree

  -- groups side by side
  pub data Trees : Type 0 where
    none : Trees
    beside : Tree → Trees → Trees

-- A document.
pub record BareDoc : Type 0 where
  pub tree : Tree
  pub tombs : List Tombstone
  pub meta : Meta

-- the id of a tree's group
abbrev pub id_of : Tree → NodeId
id_of (node u r es ts) = u

-- the ids of groups side by side
abbrev pub ids_of : Trees → List NodeId
ids_of none = []
ids_of (beside t ts) = id_of t ∷ ids_of ts

-- the records of all entries, in document order: the entries of a group, then its groups with all
-- below them
abbrev mutual
  pub entry_rows : Tree → List (NodeId × EntryRecord)
  entry_rows (node u r es ts) = es ++ entry_rows_all ts

  -- the same of groups side by side
  pub entry_rows_all : Trees → List (NodeId × EntryRecord)
  entry_rows_all none = []
  entry_rows_all (beside t ts) = entry_rows t ++ entry_rows_all ts

-- the records of all groups
abbrev mutual
  pub group_rows : Tree → List (NodeId × GroupRecord)
  group_rows (node u r es ts) = (u, r) ∷ group_rows_all ts

  -- the same of groups side by side
  pub group_rows_all : Trees → List (NodeId × GroupRecord)
  group_rows_all none = []
  group_rows_all (beside t ts) = group_rows t ++ group_rows_all ts

-- the children of all groups
abbrev mutual
  pub child_rows : Tree → List (NodeId × Children)
  child_rows (node u r es ts) = (
    u,
    record {
      entries = map (λ (e : NodeId × EntryRecord). e.0) es;
      groups = ids_of ts;
    },
  ) ∷ child_rows_all ts

  -- the same of groups side by side
  pub child_rows_all : Trees → List (NodeId × Children)
  child_rows_all none = []
  child_rows_all (beside t ts) = child_rows t ++ child_rows_all ts

-- the document with its nodes side by side
unfoldable pub shape_of : BareDoc → Shape
shape_of d = record {
  root = id_of d.tree;
  entries = from_entries (entry_rows d.tree);
  groups = from_entries (group_rows d.tree);
  children = from_entries (child_rows d.tree);
  tombs = from_entries (map (λ (t : Tombstone). (t.id, t.deleted)) d.tombs);
  meta = d.meta;
}

-- an id's record before the others, where there is one
abbrev pub with_record : {A : Type 0} → NodeId → Option A → List (NodeId × A) → List (NodeId × A)
with_record u None rows = rows
with_record u (Some r) rows = (u, r) ∷ rows

-- the records of some ids
abbrev pub with_records : {A : Type 0} → FinMap id_cmp A → List NodeId → List (NodeId × A)
with_records m [] = []
with_records m (u ∷ us) = with_record u (get m u) (with_records m us)

-- the trees of a list side by side
abbrev pub all_trees : List Tree → Trees
all_trees [] = none
all_trees (t ∷ ts) = beside t (all_trees ts)

-- the tree of a group down to a number of levels below it
abbrev pub tree_of : Shape → ℕ → NodeId → GroupRecord → Tree
tree_of s zero g r = node g r (with_records s.entries (kids s g).entries) none
tree_of s (suc n) g r = node g r (with_records s.entries (kids s g).entries)
    (all_trees (map (λ (c : NodeId × GroupRecord). tree_of s n c.0 c.1)
    (with_records s.groups (kids s g).groups)))

-- the record of no group
abbrev pub no_group : GroupRecord
no_group = record {
  placed = 0;
  previous = nil_id;
  state = record {
    modified = 0;
    content = record {
      created = 0;
      expiry = 0;
      expires = false;
      name = [];
      notes = [];
      icon = 0;
      custom_icon = None;
      sequence = [];
      auto_type = Inherit;
      searching = Inherit;
      items = [];
      tags = [];
    };
    stats = record { accessed = 0; usage = 0 };
  };
  view = new_view;
}

-- the document of a shape, down to a number of levels below the root
unfoldable pub doc_of : ℕ → Shape → BareDoc
doc_of n s = record {
  tree = tree_of s n s.root (unwrap_or (get s.groups s.root) no_group);
  tombs = map (λ (e : NodeId × ℕ). record { id = e.0; deleted = e.1 }) (entries s.tombs);
  meta = s.meta;
}

-- a database laid over an older document
abbrev pub lay_doc : ℕ → Db → BareDoc → BareDoc
lay_doc n m t = doc_of n (lay m (shape_of t))

-- laid over itself the document is as it was
abbrev pub IsSettled : ℕ → BareDoc → Type 0
IsSettled n t = lay_doc n (db_of (shape_of t)) t ≡ t

-- the database of a document
abbrev pub db_in : BareDoc → Db
db_in d = db_of (shape_of d)

-- ---- a document with another root

-- a tree whose root has another id
abbrev pub with_id : NodeId → Tree → Tree
with_id r (node u g es ts) = node r g es ts

-- a previous parent, which is the new root where it was the old one
abbrev pub new_previous : NodeId → NodeId → NodeId → NodeId
new_previous old r u = if is_id old u then r else u

-- an entry with its previous parent so
abbrev pub with_entry_previous : NodeId → NodeId → NodeId × EntryRecord → NodeId × EntryRecord
with_entry_previous old r e = (e.0, record e.1 { previous = new_previous old r e.1.previous })

-- a tree with all previous parents so
abbrev mutual
  pub with_previous : NodeId → NodeId → Tree → Tree
  with_previous old r (node u g es ts) =
      node u (record g { previous = new_previous old r g.previous })
      (map (with_entry_previous old r) es) (with_previous_all old r ts)

  -- the same of groups side by side
  pub with_previous_all : NodeId → NodeId → Trees → Trees
  with_previous_all old r none = none
  with_previous_all old r (beside t ts) =
      beside (with_previous old r t) (with_previous_all old r ts)

-- the document with its root's id replaced, as a previous parent too (a parent is known by the
-- nesting alone), and without a tombstone of the new id
abbrev pub rooted : BareDoc → NodeId → BareDoc
rooted d r = record {
  tree = with_id r (with_previous (id_of d.tree) r d.tree);
  tombs = filter (λ (t : Tombstone). not (is_id r t.id)) d.tombs;
  meta = d.meta;
}

-- ---- levels

-- the root is at level 1, and a group one below its parent
abbrev mutual
  pub height : Tree → ℕ
  height (node u r es ts) = suc (height_all ts)

  -- the same of groups side by side
  pub height_all : Trees → ℕ
  height_all none = 0
  height_all (beside t ts) = max (height t) (height_all ts)

-- a group d steps below the root
abbrev pub IsDeep : Db → ℕ → NodeId → Type 0
IsDeep m zero u = u ≡ m.root
IsDeep m (suc d) u = (p : Place) × (get m.places u ≡ Some p) × IsDeep m d p.parent

-- no group below level n
abbrev pub FitsLevels : ℕ → Db → Type 0
FitsLevels n m = (d : ℕ) (u : NodeId) → contains_key m.groups u ≡ true → IsDeep m d u → d < n

-- ---- what every document keeps

-- the most levels of groups
abbrev pub LEVELS : ℕ
LEVELS = 128

-- all ids of a tree in document order
abbrev mutual
  pub node_ids : Tree → List NodeId
  node_ids (node u r es ts) = u ∷ (map (λ (e : NodeId × EntryRecord). e.0) es ++ node_ids_all ts)

  -- the same of groups side by side
  pub node_ids_all : Trees → List NodeId
  node_ids_all none = []
  node_ids_all (beside t ts) = node_ids t ++ node_ids_all ts

-- no id occurs twice
abbrev pub are_distinct : List NodeId → Bool
are_distinct [] = true
are_distinct (u ∷ us) = not (list_any (is_id u) us) && are_distinct us

-- an id is none of a tree's
abbrev pub is_elsewhere : Tree → NodeId → Bool
is_elsewhere t u = not (list_any (is_id u) (node_ids t))

-- what each version of an entry says is in order
abbrev pub is_proper_entry : EntryRecord → Bool
is_proper_entry e = list_all (λ (v : BareVersion). is_proper_content v.mark.content)
    (e.current ∷ e.history)

-- A document whose parts are in order.
pub record IsDoc (d : BareDoc) : Type 0 where
  -- ids of nodes are distinct and not nil
  pub distinct : are_distinct (node_ids d.tree) ≡ true
  pub no_nil : is_elsewhere d.tree nil_id ≡ true
  pub levels : height d.tree ≤ LEVELS
  -- tombstones rise by id, and none names a node
  pub tombs_rise : rises (λ (t : Tombstone). t.id) d.tombs ≡ true
  pub tombs_apart : list_all (λ (t : Tombstone). is_elsewhere d.tree t.id) d.tombs ≡ true
  -- what versions, groups, icons and items say is in order
  pub entries_proper : list_all (λ (r : NodeId × EntryRecord). is_proper_entry r.1)
      (entry_rows d.tree) ≡ true
  pub groups_proper : list_all (λ (r : NodeId
      × GroupRecord). is_proper_group_content r.1.state.content) (group_rows d.tree) ≡ true
  pub icons_rise : rises (λ (i : Icon). i.id) d.meta.icons ≡ true
  pub items_rise : rises (λ (i : Item). i.key) d.meta.items ≡ true
  pub meta_texts : is_text_meta d.meta ≡ true
