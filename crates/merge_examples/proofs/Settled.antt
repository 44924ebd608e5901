-- A document with nothing in its root is settled.
use Rattle.std.proofs.Common.{◌≡◌, ℕ, true, false, cond, inl, inr, List, [], ◌∷◌, ◌++◌, Option, Some, None, map, is_some, refl, sym, ap, subst, ◌∙◌, arith, codes, true≢false}
use Rattle.std.specs.FinMap.{FinMap, entries, get, get-from_entries, keys, values}
use Rattle.std.specs.Option.{option_map, unwrap_or}
use Rattle.std.specs.Str.{chars, is_utf8}
use Rattle.vault_model.specs.declared.nodes.Tombstone.{Tombstone}
use Rattle.vault_model.specs.Db.{Db, NodeId, Place, SharedMeta, id_cmp}
use Rattle.vault_model.specs.Join.{IsIn, is_id}
use Rattle.vault_model.specs.Proper.{is_proper_content, is_proper_group_content}
use Rattle.vault_model.specs.Shape.{Children, GroupRecord, Shape, Stay, db_of, kids, ids_in_group, in_order, laid_children, laid_group, laid_meta, lay, new_view, no_children, shared_of, stands_in, stay_in, stay_of, stay_or, versions_of}
use Rattle.vault_model.specs.Tree.{IsDoc, IsSettled, LEVELS, all_trees, db_in, doc_of, no_group, node, shape_of, tree_of, with_records}
use Rattle.vault_model.proofs.Orders.{bytes_order, id_order}
use Rattle.merge_core.specs.Example.{group, meta, root}
use Rattle.merge_core.proofs.Laid.{db_entries, db_groups, lay_children, lay_groups, lay_meta, lay_root, lay_tombs}
use Rattle.merge_core.proofs.Tables.{entry_get}
use Rattle.merge_core.proofs.Unite.{from_keys}
use Rattle.merge_core.proofs.SoundDoc.{db_root, db_shared, db_tomb, place_kid, shape_entry, shape_group, shape_kids}
use Rattle.run_laws.specs.AgreedLaws.Merges.{IsSettledAs}
use Rattle.merge_examples.specs.Cases.{bare}

pub bare_doc : IsDoc bare
unfolding is_proper_content is_proper_group_content is_utf8 chars lib.Utf8.encode
bare_doc = record {
  distinct = refl;
  no_nil = refl;
  levels = omega arith;
  tombs_rise = refl;
  tombs_apart = refl;
  entries_proper = refl;
  groups_proper = refl;
  icons_rise = refl;
  items_rise = refl;
  meta_texts = refl;
}

abbrev s : Shape
s = shape_of bare

abbrev m : Db
m = db_of s

abbrev laid : Shape
laid = lay m s

root_is : m.root ≡ root
root_is = db_root bare bare_doc

group_is : get s.groups root ≡ Some (group 10 (codes "Root"))
group_is = shape_group bare bare_doc root

no_entry : get s.entries root ≡ None
no_entry = shape_entry bare bare_doc root

state_is : get m.groups root ≡ Some (group 10 (codes "Root")).state
state_is = db_groups s root ∙ ap (option_map (λ (g : GroupRecord). g.state)) group_is

-- a list without members
no_members : {A : Type 0} (xs : List A) → ((x : A) → IsIn x xs → ⊥) → xs ≡ []
no_members [] f = refl
no_members (x ∷ xs) f = absurd (f x (inl refl))

nothing : {A : Type 0} (o : Option A) → o ≡ None → is_some o ≡ true → ⊥
nothing o off some = true≢false (sym some ∙ ap is_some off)

-- ---- what is in no map

no_keys : {A : Type 0} (x : FinMap id_cmp A) → ((u : NodeId) → get x u ≡ None) → keys x ≡ []
no_keys x f = no_members (keys x) (λ u i. nothing (get x u) (f u) (from_keys id_order.total id_order.same x u i))

no_entries : {A : Type 0} (x : FinMap id_cmp A) → ((u : NodeId) → get x u ≡ None) → entries x ≡ []
no_entries x f = no_members (entries x) (λ e i. nothing (get x e.0) (f e.0) (ap is_some (entry_get id_order.total id_order.same x e i)))

kids_are : kids s root ≡ no_children
kids_are = ap (λ o. unwrap_or o no_children) (shape_kids bare bare_doc root)

no_entry_at : (u : NodeId) → get m.entries u ≡ None
no_entry_at u = db_entries s u ∙ ap (option_map versions_of) (shape_entry bare bare_doc u)

no_place : (u : NodeId) (p : Place) → get m.places u ≡ Some p → ⊥
no_place u p e =
    let k = place_kid bare bare_doc u p e in
    elim k.1.0 [ inl is ↦ none_in k.0 (ap (λ (r : NodeId × Children). r.1) is) k.1.1 | inr z ↦ absurd z ]
  where
    none_in : (c : Children) → no_children ≡ c → IsIn u (c.entries ++ c.groups) → ⊥
    none_in c is i = let j = subst (λ (x : Children). IsIn u (x.entries ++ x.groups)) (sym is) i in absurd j

standing : (o : Option Place) (u : NodeId) → get m.places u ≡ o → stands_in root o ≡ false
standing None u e = refl
standing (Some p) u e = absurd (no_place u p e)

none_stand : (us : List NodeId) → ids_in_group m root us ≡ []
none_stand [] = refl
none_stand (u ∷ us) = ap (λ b. cond b (u ∷ ids_in_group m root us) (ids_in_group m root us)) (standing (get m.places u) u refl) ∙ none_stand us

children_are : kids laid root ≡ no_children
children_are =
    ap (λ o. unwrap_or o no_children) (lay_children m s root)
    ∙ ap (λ b. unwrap_or (cond b (Some (laid_children m s root)) None) no_children) (ap is_some state_is)
    ∙ (λ i. record {
      entries = (ap (λ (c : Children). in_order c.entries (ids_in_group m root (keys m.entries))) kids_are ∙ ap (in_order []) (none_stand (keys m.entries))) i;
      groups = (ap (λ (c : Children). in_order c.groups (ids_in_group m root (keys m.groups))) kids_are ∙ ap (in_order []) (none_stand (keys m.groups))) i;
    })

record_is : get laid.groups root ≡ Some (group 10 (codes "Root"))
record_is =
    lay_groups m s root
    ∙ ap (option_map (laid_group m s root)) state_is
    ∙ ap (λ r. Some (group_at (cond (is_id root r) (stay_of s root) (stay_in m root)) (get s.groups root))) root_is
    ∙ ap (λ o. Some (group_at (stay_or o (get s.groups root)) (get s.groups root))) no_entry
    ∙ ap (λ o. Some (group_at (stay_or None o) o)) group_is
  where
    group_at : Stay → Option GroupRecord → GroupRecord
    group_at stay old = record {
      placed = stay.placed;
      previous = stay.previous;
      state = (group 10 (codes "Root")).state;
      view = unwrap_or (option_map (λ (g : GroupRecord). g.view) old) new_view;
    }

tree_is : tree_of laid LEVELS laid.root (unwrap_or (get laid.groups laid.root) no_group) ≡ bare.tree
tree_is =
    ap (λ u. tree_of laid LEVELS u (unwrap_or (get laid.groups u) no_group)) (lay_root m s ∙ root_is)
    ∙ ap (λ o. tree_of laid LEVELS root (unwrap_or o no_group)) record_is
    ∙ ap (λ (k : Children). node root (group 10 (codes "Root")) (with_records laid.entries k.entries)
    (all_trees (map (λ (c : NodeId × GroupRecord). tree_of laid 127 c.0 c.1) (with_records laid.groups k.groups)))) children_are

abbrev tomb_of : NodeId × ℕ → Tombstone
tomb_of e = record { id = e.0; deleted = e.1 }

tombs_are : map tomb_of (entries laid.tombs) ≡ []
tombs_are =
    ap (λ (t : FinMap id_cmp ℕ). map tomb_of (entries t)) (lay_tombs m s)
    ∙ ap (map tomb_of) (no_entries m.tombs (λ u. db_tomb bare bare_doc u))

no_rows : {A : Type 0} (x : FinMap id_cmp A) → ((u : NodeId) → get x u ≡ None) → values x ≡ []
no_rows x f = ap (map (λ e. e.1)) (no_entries x f)

old_meta : laid_meta (shared_of meta) meta ≡ meta
old_meta = λ i. record meta {
  icons = no_rows (shared_of meta).icons (λ u. get-from_entries id_order.total [] u) i;
  items = no_items i;
}
  where
    no_items : values (shared_of meta).items ≡ []
    no_items = ap (map (λ e. e.1)) (no_members (entries (shared_of meta).items) (λ e i. nothing (get (shared_of meta).items e.0) (get-from_entries bytes_order.total [] e.0)
        (ap is_some (entry_get bytes_order.total bytes_order.same (shared_of meta).items e i))))

s_meta : s.meta ≡ meta
unfolding shape_of
s_meta = refl

meta_is : laid.meta ≡ meta
meta_is =
    lay_meta m s
    ∙ ap (λ (n : SharedMeta). laid_meta n s.meta) (db_shared bare bare_doc)
    ∙ ap (laid_meta (shared_of meta)) s_meta
    ∙ old_meta

pub bare_settled : IsSettled LEVELS bare
unfolding doc_of
bare_settled = λ i. record { tree = tree_is i; tombs = tombs_are i; meta = meta_is i }

pub there_is_a_settled_one : IsSettledAs (db_in bare) bare
there_is_a_settled_one = record { is_doc = bare_doc; database = refl; settled = bare_settled }
