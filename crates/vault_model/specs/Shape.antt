-- A document with its nodes laid side by side: each node's record, and each group's two lists of
-- children. Between a database, which has no order of siblings, and the tree that a file holds.
use Rattle.std.specs.Prelude.{ℕ, Bool, true, false, not, cond, List, [], ◌∷◌, ◌++◌, Option, None, Some, map}
use Rattle.std.specs.FinMap.{FinMap, empty, get, entries, keys, insert, values, from_entries}
use Rattle.std.specs.List.{list_any, filter, flat_map}
use Rattle.std.specs.Option.{option_map, unwrap_or}
use Rattle.vault_model.specs.declared.contents.Item.{Item}
use Rattle.vault_model.specs.declared.contents.Stats.{Stats}
use Rattle.vault_model.specs.declared.metas.Icon.{Icon}
use Rattle.vault_model.specs.declared.metas.Meta.{Meta}
use Rattle.vault_model.specs.declared.nodes.GroupState.{GroupState}
use Rattle.vault_model.specs.declared.nodes.GroupView.{GroupView}
use Rattle.vault_model.specs.Db.{NodeId, id_cmp, nil_id, Mark, Versions, Place, SharedMeta, Db}
use Rattle.vault_model.specs.Join.{is_id, stats_join}
use Rattle.vault_model.specs.Unite.{tabulate, unite_all}

-- A version: its mark, and how it was used.
pub record BareVersion : Type 0 where
  pub mark : Mark
  pub stats : Stats

-- An entry without its id and its group: since when it is there, its previous parent, its current
-- version, and those before it.
pub record EntryRecord : Type 0 where
  pub placed : ℕ
  pub previous : NodeId
  pub current : BareVersion
  pub history : List BareVersion

-- A group without its children.
pub record GroupRecord : Type 0 where
  pub placed : ℕ
  pub previous : NodeId
  pub state : GroupState
  pub view : GroupView

-- The ids of a group's entries and of its groups, in their order.
pub record Children : Type 0 where
  pub entries : List NodeId
  pub groups : List NodeId

-- A document, its nodes side by side.
pub record Shape : Type 0 where
  pub root : NodeId
  pub entries : FinMap id_cmp EntryRecord
  pub groups : FinMap id_cmp GroupRecord
  pub children : FinMap id_cmp Children
  pub tombs : FinMap id_cmp ℕ
  pub meta : Meta

-- ---- the database of a document

-- all versions of an entry, those of one mark made one
abbrev pub versions_of : EntryRecord → Versions
versions_of e = unite_all stats_join (map (λ (v : BareVersion). insert empty v.mark v.stats)
    (e.current ∷ e.history))

-- the lists of a group without children
abbrev pub no_children : Children
no_children = record { entries = []; groups = [] }

-- Since when a node is in its group, and its previous parent.
pub record Stay : Type 0 where
  pub placed : ℕ
  pub previous : NodeId

-- the stay of what is no node
abbrev pub no_stay : Stay
no_stay = record { placed = 0; previous = nil_id }

-- the stay of an entry or else of a group, or of neither
abbrev pub stay_or : Option EntryRecord → Option GroupRecord → Stay
stay_or (Some e) g = record { placed = e.placed; previous = e.previous }
stay_or None (Some g) = record { placed = g.placed; previous = g.previous }
stay_or None None = no_stay

-- the same of a node of a shape
abbrev pub stay_of : Shape → NodeId → Stay
stay_of s u = stay_or (get s.entries u) (get s.groups u)

-- the place of a stay in a group
abbrev pub place_at : Stay → NodeId → Place
place_at s parent = record { placed = s.placed; parent = parent; previous = s.previous }

-- each child is in the group whose lists have it
abbrev pub place_rows : Shape → List (NodeId × Place)
place_rows s = flat_map (λ (row : NodeId × Children).
    map (λ u. (u, place_at (stay_of s u) row.0))
    (row.1.entries ++ row.1.groups)) (entries s.children)

-- what every copy of a document shares of what it says of itself
abbrev pub shared_of : Meta → SharedMeta
shared_of m = record {
  name = m.name;
  description = m.description;
  user = m.user;
  bin = m.bin;
  templates = m.templates;
  settings = m.settings;
  icons = from_entries (map (λ (i : Icon). (i.id, i)) m.icons);
  items = from_entries (map (λ (i : Item). (i.key, i)) m.items);
}

-- The database of a document: its nodes with their places, and no order of siblings.
unfoldable pub db_of : Shape → Db
db_of s = record {
  root = s.root;
  entries = tabulate (keys s.entries) (λ u. option_map versions_of (get s.entries u));
  groups = tabulate (keys s.groups) (λ u. option_map (λ (g : GroupRecord). g.state)
      (get s.groups u));
  places = from_entries (place_rows s);
  tombs = s.tombs;
  meta = shared_of s.meta;
}

-- ---- a database laid over an older document

-- those that were there before and still are, as they were, and then the newcomers in their order
abbrev pub in_order : List NodeId → List NodeId → List NodeId
in_order old now = filter (λ u. list_any (is_id u) now) old
    ++ filter (λ u. not (list_any (is_id u) old)) now

-- the last of some things
abbrev pub last_of : {A : Type 0} → A → List A → A
last_of x [] = x
last_of x (y ∷ ys) = last_of y ys

-- all of them but the last
abbrev pub but_last : {A : Type 0} → A → List A → List A
but_last x [] = []
but_last x (y ∷ ys) = x ∷ but_last y ys

-- a mark and its stats as a version
abbrev pub version_of : Mark × Stats → BareVersion
version_of v = record { mark = v.0; stats = v.1 }

-- of the versions in rising order the greatest is current, and the others are the history
abbrev pub record_of : Stay → List (Mark × Stats) → Option EntryRecord
record_of stay [] = None
record_of stay (v ∷ vs) = Some (record {
  placed = stay.placed;
  previous = stay.previous;
  current = version_of (last_of v vs);
  history = map version_of (but_last v vs);
})

-- the stay of a place, or `no_stay` without one
abbrev pub stay_at : Option Place → Stay
stay_at None = no_stay
stay_at (Some p) = record { placed = p.placed; previous = p.previous }

-- a node's stay in a database
abbrev pub stay_in : Db → NodeId → Stay
stay_in m u = stay_at (get m.places u)

-- a place is in this group
abbrev pub stands_in : NodeId → Option Place → Bool
stands_in g None = false
stands_in g (Some p) = is_id g p.parent

-- those of some ids, which rise, that are in a group
abbrev pub ids_in_group : Db → NodeId → List NodeId → List NodeId
ids_in_group m g us = filter (λ u. stands_in g (get m.places u)) us

-- a group's children in a shape
abbrev pub kids : Shape → NodeId → Children
kids s g = unwrap_or (get s.children g) no_children

-- a group's children: those that it had in the older document and still has, and then the newcomers
-- by rising id
abbrev pub laid_children : Db → Shape → NodeId → Children
laid_children m t g = record {
  entries = in_order (kids t g).entries (ids_in_group m g (keys m.entries));
  groups = in_order (kids t g).groups (ids_in_group m g (keys m.groups));
}

-- how a group that is new is looked at
abbrev pub new_view : GroupView
new_view = record { expanded = true; top_entry = nil_id }

-- a laid group's stay: that of its place, but the root keeps the one that it has in the older
-- document
abbrev pub laid_stay : Db → Shape → NodeId → Stay
laid_stay m t u = cond (is_id u m.root) (stay_of t u) (stay_in m u)

-- a group as it is in the database, looked at as in the older document, a new one as every new
-- group
abbrev pub laid_group : Db → Shape → NodeId → GroupState → GroupRecord
laid_group m t u state = record {
  placed = (laid_stay m t u).placed;
  previous = (laid_stay m t u).previous;
  state = state;
  view = unwrap_or (option_map (λ (g : GroupRecord). g.view) (get t.groups u)) new_view;
}

-- the shared values of a database, and how the older document was looked at
abbrev pub laid_meta : SharedMeta → Meta → Meta
laid_meta m old = record old {
  name = m.name;
  description = m.description;
  user = m.user;
  bin = m.bin;
  templates = m.templates;
  settings = m.settings;
  icons = values m.icons;
  items = values m.items;
}

-- an entry's versions in rising order
abbrev pub versions_in : Option Versions → List (Mark × Stats)
versions_in None = []
versions_in (Some versions) = entries versions

-- The document of a database over an older document, whose order of siblings and views it keeps.
unfoldable pub lay : Db → Shape → Shape
lay m t = record {
  root = m.root;
  entries = tabulate (keys m.entries) (λ u. record_of (stay_in m u)
      (versions_in (get m.entries u)));
  groups = tabulate (keys m.groups) (λ u. option_map (laid_group m t u) (get m.groups u));
  children = tabulate (keys m.groups) (λ g. Some (laid_children m t g));
  tombs = m.tombs;
  meta = laid_meta m.meta t.meta;
}
