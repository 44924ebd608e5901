-- Many copies of one database made one: which nodes stay, where each is, and what it holds. All
-- members are looked at together, so no order among them counts.
use Rattle.std.specs.Prelude.{◌≡◌, ◌≤◌, ℕ, suc, zero, Bool, true, false, not, ◌&&◌, ◌||◌, ◌⊎◌, List, [], ◌∷◌, ◌++◌, Option, None, Some, max, map, length, nat_le, pos}
use Rattle.std.specs.declared.cmp.Ordering.{Ordering}
use Rattle.std.specs.FinMap.{empty, get, contains_key, keys, retain_keys}
use Rattle.std.specs.List.{list_any, flat_map}
use Rattle.std.specs.Option.{unwrap_or}
use Rattle.std.specs.Ordering.{nat_cmp, on, eq_by_cmp}
use Rattle.vault_model.specs.declared.contents.Stats.{Stats}
use Rattle.vault_model.specs.declared.metas.Timed.{Timed}
use Rattle.vault_model.specs.declared.nodes.GroupState.{GroupState}
use Rattle.vault_model.specs.Orders.{pair_cmp, bytes_cmp, bin_cmp, settings_cmp, icon_cmp, later_item_cmp}
use Rattle.vault_model.specs.Db.{NodeId, id_cmp, group_mark_cmp, mark_of, Place, place_cmp, SharedMeta, Db, holds, greatest, stamp_in, parent_or, Reaches, Sound}
use Rattle.vault_model.specs.Unite.{by_key, greater, gather, unite, unite_all}

-- ---- what two copies say of one thing, made one

-- the later access and the greater use
abbrev pub stats_join : Stats → Stats → Stats
stats_join s t = record { accessed = max s.accessed t.accessed; usage = max s.usage t.usage }

-- the group with the greater mark; of equal marks the later access and the greater use
abbrev pub state_join : GroupState → GroupState → GroupState
state_join = by_key group_mark_cmp mark_of (λ g h. record g { stats = stats_join g.stats h.stats })

-- the greater by the time of its change, and then by its value
abbrev pub timed_cmp : {A : Type 0} → (A → A → Ordering) → Timed A → Timed A → Ordering
timed_cmp R = on (λ t. (t.changed, t.value)) (pair_cmp nat_cmp R)

-- the later of two values, and of one time the greater
abbrev pub timed_join : {A : Type 0} → (A → A → Ordering) → Timed A → Timed A → Timed A
timed_join R = greater (timed_cmp R)

-- the shared values joined one by one, icons by their ids and items by their keys
abbrev pub meta_join : SharedMeta → SharedMeta → SharedMeta
meta_join m n = record {
  name = timed_join bytes_cmp m.name n.name;
  description = timed_join bytes_cmp m.description n.description;
  user = timed_join bytes_cmp m.user n.user;
  bin = timed_join bin_cmp m.bin n.bin;
  templates = timed_join bytes_cmp m.templates n.templates;
  settings = timed_join settings_cmp m.settings n.settings;
  icons = unite (greater icon_cmp) m.icons n.icons;
  items = unite (greater later_item_cmp) m.items n.items;
}

-- ---- which nodes stay

-- two ids are the same
abbrev pub is_id : NodeId → NodeId → Bool
is_id = eq_by_cmp id_cmp

-- the one root of all members
abbrev pub root_of : List Db → NodeId
root_of [] = []
root_of (m ∷ ms) = m.root

-- the greatest place of a node among the members that hold it
abbrev pub latest : List Db → NodeId → Option Place
latest S u = gather (greater place_cmp) (map (λ m. get m.places u) S)

-- the latest parent; the root has no place, and stays
abbrev pub above : List Db → NodeId → NodeId
above S u = parent_or u (latest S u)

-- the greatest modification time of a node over the members and all their versions
abbrev pub stamp : List Db → NodeId → ℕ
stamp S u = greatest (map (λ m. stamp_in m u) S)

-- a tombstone of that time or a later one
abbrev pub is_from : ℕ → Option ℕ → Bool
is_from time None = false
is_from time (Some deleted) = nat_le time deleted

-- some member holds the node
abbrev pub is_held : List Db → NodeId → Bool
is_held S u = list_any (λ m. holds m u) S

-- some member has a tombstone of the node at or after its stamp
abbrev pub buried : List Db → NodeId → Bool
buried S u = list_any (λ m. is_from (stamp S u) (get m.tombs u)) S

-- The root is own; another node is own where a member holds it and none has a tombstone of it at or
-- after its stamp.
unfoldable pub own : List Db → NodeId → Bool
own S u = is_id u (root_of S) || is_held S u && not (buried S u)

-- all ids that a member holds
abbrev pub ids : List Db → List NodeId
ids S = flat_map (λ m. keys m.entries ++ keys m.groups) S

-- a node, its latest parent, and so on, n steps
abbrev pub trail : List Db → ℕ → NodeId → List NodeId
trail S zero u = u ∷ []
trail S (suc n) u = u ∷ trail S n (above S u)

-- the path of a node: as many steps up as ids are held
abbrev pub path : List Db → NodeId → List NodeId
path S u = trail S (length (ids S)) u

-- A node is kept where it is on the path of an own node.
unfoldable pub kept : List Db → NodeId → Bool
kept S u = list_any (λ v. own S v && list_any (is_id u) (path S v)) (ids S)

-- ---- the members made one

-- the shared values of no member
abbrev pub no_meta : SharedMeta
no_meta = record {
  name = record { changed = 0; value = [] };
  description = record { changed = 0; value = [] };
  user = record { changed = 0; value = [] };
  bin = record { changed = 0; value = record { enabled = false; id = [] } };
  templates = record { changed = 0; value = [] };
  settings = record {
    changed = 0;
    value = record {
      color = [];
      days = 0;
      key_rec = pos 0;
      key_force = pos 0;
      protect = record {
        title = false;
        user = false;
        password = false;
        url = false;
        notes = false;
      };
      history_items = pos 0;
      history_size = pos 0;
      key_force_once = false;
    };
  };
  icons = empty;
  items = empty;
}

-- The nodes are the kept ones. An entry has all versions of all members, a group has the greatest
-- mark, each is at its latest place. What is not kept has its latest tombstone.
unfoldable pub join : List Db → Db
join S = record {
  root = root_of S;
  entries = retain_keys (unite_all (unite stats_join) (map (λ m. m.entries) S)) (kept S);
  groups = retain_keys (unite_all state_join (map (λ m. m.groups) S)) (kept S);
  places = retain_keys (unite_all (greater place_cmp) (map (λ m. m.places) S)) (kept S);
  tombs = retain_keys (unite_all max (map (λ m. m.tombs) S)) (λ u. not (kept S u));
  meta = unwrap_or (gather meta_join (map (λ m. Some m.meta) S)) no_meta;
}

-- ---- which lists of members are joined, and which of them agree

-- x is a member of a list
abbrev pub IsIn : {A : Type 0} → A → List A → Type 0
IsIn x [] = ⊥
IsIn x (y ∷ ys) = (y ≡ x) ⊎ IsIn x ys

-- each member of one list is a member of another
abbrev pub IsWithin : {A : Type 0} → List A → List A → Type 0
IsWithin {A} xs ys = (x : A) → IsIn x xs → IsIn x ys

-- a list has a member
abbrev pub IsNotEmpty : {A : Type 0} → List A → Type 0
IsNotEmpty [] = ⊥
IsNotEmpty (x ∷ xs) = Unit {0}

-- some of the members, perhaps some of them twice
abbrev pub IsPart : List Db → List Db → Type 0
IsPart R S = IsNotEmpty R × IsWithin R S

-- all members have one root
abbrev pub HaveOneRoot : List Db → Type 0
HaveOneRoot S = (m : Db) → IsIn m S → m.root ≡ root_of S

-- no id is an entry in one member and a group in another
abbrev pub HaveOneKind : List Db → Type 0
HaveOneKind S = (m n : Db) (u : NodeId) → IsIn m S → IsIn n S → contains_key m.entries u ≡ true
    → contains_key n.groups u ≡ false

-- the latest parents of each own node lead to the root
abbrev pub IsAcyclic : List Db → Type 0
IsAcyclic S = (u : NodeId) → own S u ≡ true → Reaches (above S) u (root_of S)

-- Members that can be joined.
pub record Allowed (S : List Db) : Type 0 where
  pub some : IsNotEmpty S
  pub root : HaveOneRoot S
  pub kinds : HaveOneKind S
  pub acyclic : IsAcyclic S

-- no member has a tombstone of the latest parent of an own node
abbrev pub KeepsParents : List Db → Type 0
KeepsParents R = (u : NodeId) (p : Place) (m : Db) → own R u ≡ true → latest R u ≡ Some p → IsIn m R
    → get m.tombs p.parent ≡ None

-- Copies of one database in which nothing was changed after it was deleted.
pub record Compatible (S : List Db) : Type 0 where
  pub sound : (m : Db) → IsIn m S → Sound m
  pub root : HaveOneRoot S
  pub kinds : HaveOneKind S
  pub tombs : (m n : Db) (u : NodeId) (deleted : ℕ) → IsIn m S → IsIn n S
      → get m.tombs u ≡ Some deleted → stamp_in n u ≤ deleted

-- Agreed members: nothing deleted is later changed or filled, and latest moves never make a cycle,
-- whichever of the members are looked at.
pub record Agreed (S : List Db) : Type 0 where
  pub compatible : Compatible S
  pub filled : (R : List Db) → IsPart R S → KeepsParents R
  pub acyclic : (R : List Db) → IsPart R S → IsAcyclic R
