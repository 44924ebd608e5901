-- A database as a value: what it holds of each node, and nothing of the order of nodes.
use Rattle.std.specs.Prelude.{◌≡◌, ◌≢◌, ℕ, suc, zero, Bool, true, false, ◌||◌, List, [], ◌∷◌, Option, None, Some, max, map, replicate}
use Rattle.std.specs.Ordering.{nat_cmp, on}
use Rattle.std.specs.declared.cmp.Ordering.{Ordering}
use Rattle.std.specs.FinMap.{FinMap, get, contains_key, keys}
use Rattle.std.specs.Str.{is_utf8}
use Rattle.vault_model.specs.declared.contents.GroupContent.{GroupContent}
use Rattle.vault_model.specs.declared.contents.Item.{Item}
use Rattle.vault_model.specs.declared.contents.Stats.{Stats}
use Rattle.vault_model.specs.declared.metas.Bin.{Bin}
use Rattle.vault_model.specs.declared.metas.Icon.{Icon}
use Rattle.vault_model.specs.declared.metas.MetaSettings.{MetaSettings}
use Rattle.vault_model.specs.declared.metas.Timed.{Timed}
use Rattle.vault_model.specs.declared.nodes.GroupState.{GroupState}
use Rattle.vault_model.specs.Bare.{BareContent}
use Rattle.vault_model.specs.Orders.{pair_cmp, bytes_cmp, content_cmp, group_content_cmp}
use Rattle.vault_model.specs.Proper.{is_proper_content, is_proper_group_content, is_text_icon, is_text_item}

-- The 16 bytes of an id; ids are ordered by them.
abbrev pub NodeId : Type 0
NodeId = List ℕ

-- ids by their bytes
abbrev pub id_cmp : NodeId → NodeId → Ordering
id_cmp = bytes_cmp

-- the id that names no node
abbrev pub nil_id : NodeId
nil_id = replicate 16 0

-- A version's mark: when it was made and what it says. Versions with equal marks are one.
pub record Mark : Type 0 where
  pub modified : ℕ
  pub content : BareContent

-- marks by time and then by content
unfoldable pub mark_cmp : Mark → Mark → Ordering
mark_cmp = on (λ m. (m.modified, m.content)) (pair_cmp nat_cmp content_cmp)

-- All versions of an entry: to each mark how that version was used.
abbrev pub Versions : Type 0
Versions = FinMap mark_cmp Stats

-- A group's mark, in the same way.
pub record GroupMark : Type 0 where
  pub modified : ℕ
  pub content : GroupContent

-- groups' marks in the same way
unfoldable pub group_mark_cmp : GroupMark → GroupMark → Ordering
group_mark_cmp = on (λ m. (m.modified, m.content)) (pair_cmp nat_cmp group_content_cmp)

-- the mark of a group's state
abbrev pub mark_of : GroupState → GroupMark
mark_of s = record { modified = s.modified; content = s.content }

-- Where a node is: since when, in which group, and its previous parent, which may name anything and
-- is nil where none is known.
pub record Place : Type 0 where
  pub placed : ℕ
  pub parent : NodeId
  pub previous : NodeId

-- the later place is the greater, of one time the one with the greater parent, and of one time and
-- parent the one with the greater previous parent
unfoldable pub place_cmp : Place → Place → Ordering
place_cmp = on (λ p. (p.placed, (p.parent, p.previous)))
    (pair_cmp nat_cmp (pair_cmp id_cmp id_cmp))

-- What a database says of itself in every copy: how a copy was last looked at is left out.
pub record SharedMeta : Type 0 where
  pub name : Timed (List ℕ)
  pub description : Timed (List ℕ)
  pub user : Timed (List ℕ)
  pub bin : Timed Bin
  pub templates : Timed NodeId
  pub settings : Timed MetaSettings
  pub icons : FinMap id_cmp Icon
  pub items : FinMap bytes_cmp Item

-- A database. Each node but the root has a place.
pub record Db : Type 0 where
  pub root : NodeId
  pub entries : FinMap id_cmp Versions
  pub groups : FinMap id_cmp GroupState
  pub places : FinMap id_cmp Place
  pub tombs : FinMap id_cmp ℕ
  pub meta : SharedMeta

-- a database holds a node
abbrev pub holds : Db → NodeId → Bool
holds m u = contains_key m.entries u || contains_key m.groups u

-- the greatest of some numbers, 0 of none
abbrev pub greatest : List ℕ → ℕ
greatest [] = 0
greatest (n ∷ ns) = max n (greatest ns)

-- when the newest version was made
abbrev pub newest : Option Versions → ℕ
newest None = 0
newest (Some versions) = greatest (map (λ (m : Mark). m.modified) (keys versions))

-- when a group was changed, where there is one
abbrev pub state_time : Option GroupState → ℕ
state_time None = 0
state_time (Some s) = s.modified

-- the greatest modification time that a database has of a node
unfoldable pub stamp_in : Db → NodeId → ℕ
stamp_in m u = max (newest (get m.entries u)) (state_time (get m.groups u))

-- the parent of a place; a node without one stays
abbrev pub parent_or : NodeId → Option Place → NodeId
parent_or u None = u
parent_or u (Some p) = p.parent

-- the parent of a node in a database
abbrev pub parent_in : Db → NodeId → NodeId
parent_in m u = parent_or u (get m.places u)

-- n steps up
abbrev pub steps : (NodeId → NodeId) → ℕ → NodeId → NodeId
steps up zero u = u
steps up (suc n) u = steps up n (up u)

-- some number of steps leads up to the root
abbrev pub Reaches : (NodeId → NodeId) → NodeId → NodeId → Type 0
Reaches up u root = (n : ℕ) × (steps up n u ≡ root)

-- Icons are under their own ids, and items under their own keys; all texts are in UTF-8.
pub record IsProperMeta (s : SharedMeta) : Type 0 where
  pub name : is_utf8 s.name.value ≡ true
  pub description : is_utf8 s.description.value ≡ true
  pub user : is_utf8 s.user.value ≡ true
  pub color : is_utf8 s.settings.value.color ≡ true
  pub icons : (u : NodeId) (icon : Icon) → get s.icons u ≡ Some icon → (icon.id ≡ u)
      × (is_text_icon icon ≡ true)
  pub items : (k : List ℕ) (item : Item) → get s.items k ≡ Some item → (item.key ≡ k)
      × (is_text_item item ≡ true)

-- A database whose parts fit together.
pub record Sound (m : Db) : Type 0 where
  -- the root is a group, and has no place
  pub root : contains_key m.groups m.root ≡ true
  pub top : get m.places m.root ≡ None
  -- no id is an entry's and a group's, and none is nil
  pub kinds : (u : NodeId) → contains_key m.entries u ≡ true → contains_key m.groups u ≡ false
  pub no_nil : holds m nil_id ≡ false
  -- each other node has a place and nothing else has one; parents are groups, and lead up to the
  -- root
  pub placed : (u : NodeId) → u ≢ m.root → contains_key m.places u ≡ holds m u
  pub parents : (u : NodeId) (p : Place) → get m.places u ≡ Some p
      → contains_key m.groups p.parent ≡ true
  pub rooted : (u : NodeId) → holds m u ≡ true → Reaches (parent_in m) u m.root
  -- no tombstone names a node, and each entry has a version
  pub alive : (u : NodeId) → holds m u ≡ true → get m.tombs u ≡ None
  pub versions : (u : NodeId) (v : Versions) → get m.entries u ≡ Some v → keys v ≢ []
  -- what versions, groups, icons and items say is in order
  pub contents : (u : NodeId) (v : Versions) (k : Mark) (s : Stats) → get m.entries u ≡ Some v
      → get v k ≡ Some s → is_proper_content k.content ≡ true
  pub group_contents : (u : NodeId) (s : GroupState) → get m.groups u ≡ Some s
      → is_proper_group_content s.content ≡ true
  pub meta : IsProperMeta m.meta
