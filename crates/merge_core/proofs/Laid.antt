-- A database laid over an older document has that database, and laid over itself stays as it is.
use Rattle.std.proofs.Common.{◌≡◌, ◌≢◌, ℕ, Bool, true, false, not, cond, inl, inr, List, [], ◌∷◌, ◌++◌, Option, Some, None, map, is_some, refl, sym, ap, subst, ◌∙◌}
use Rattle.std.proofs.lemmas.List.{append-nil}
use Rattle.std.proofs.lemmas.Option.{same_Some}
use Rattle.std.specs.FinMap.{FinMap, empty, get, insert, entries, keys, values, contains_key, from_entries, entries_sorted, get-entries, contains_key-keys, same_map}
use Rattle.std.specs.List.{list_any, filter}
use Rattle.std.specs.Option.{option_map, unwrap_or}
use Rattle.std.specs.Ordering.{eq_by_cmp}
use Rattle.vault_model.specs.declared.contents.Item.{Item}
use Rattle.vault_model.specs.declared.contents.Stats.{Stats}
use Rattle.vault_model.specs.declared.metas.Icon.{Icon}
use Rattle.vault_model.specs.declared.nodes.GroupState.{GroupState}
use Rattle.vault_model.specs.Db.{NodeId, id_cmp, Mark, Versions, Place, Db, Sound}
use Rattle.vault_model.specs.Join.{is_id, stats_join, IsIn}
use Rattle.vault_model.specs.Shape.{BareVersion, GroupRecord, Children, Shape, versions_of, no_children, Stay, stay_or, stay_of, place_at, place_rows, shared_of, db_of, in_order, last_of, but_last, version_of, record_of, stay_at, stay_in, stands_in, ids_in_group, kids, laid_children, new_view, laid_stay, laid_group, laid_meta, versions_in, lay}
use Rattle.vault_model.specs.Unite.{join_options, gather, unite_all, tabulate}
use Rattle.vault_model.proofs.Ids.{same_id, id_itself}
use Rattle.merge_core.proofs.Facts.{placed_held}
use Rattle.merge_core.proofs.Joins.{stats_joins}
use Rattle.vault_model.proofs.Orders.{id_order, mark_order, bytes_order}
use Rattle.merge_core.proofs.Semilattice.{merged_join, merged_none, gather-append}
use Rattle.merge_core.proofs.Tables.{get_entry, entry_get, made_from, made_of_entries, gathered_singles}
use Rattle.vault_model.proofs.Tests.{or_cases, not_false, is_false, apart, decide, none_of, any_true, any_found, in_front, in_back, in_either, in_filter, from_filter, in_map, from_map, in_flat, from_flat, map_map, map_append, map_same}
use Rattle.merge_core.proofs.Unite.{get-tabulate, get-unite_all, in_keys}
use Rattle.merge_core.proofs.Versions.{never}

-- ---- what a laid document has at an id

within : {A B : Type 0} (o : Option A) (f : Option A → Option B) (b : Bool) → f None ≡ None → is_some o ≡ b → cond b (f o) None ≡ f o
within None f b e h = ap (λ t. cond t (f None) None) (sym h) ∙ sym e
within (Some x) f b e h = ap (λ t. cond t (f (Some x)) None) (sym h)

module _ {A B : Type 0} where
  tabulated : (m : FinMap id_cmp A) (f : NodeId → Option A → Option B) → ((u : NodeId) → f u None ≡ None) → (u : NodeId)
      → get (tabulate {R = id_cmp} (keys m) (λ v. f v (get m v))) u ≡ f u (get m u)
  tabulated m f none u =
      get-tabulate id_order.total id_order.same (keys m) (λ v. f v (get m v)) u
      ∙ within (get m u) (f u) (list_any (eq_by_cmp id_cmp u) (keys m)) (none u) (contains_key-keys m u)

pub lay_entries : (m : Db) (t : Shape) (u : NodeId) → get (lay m t).entries u ≡ record_of (stay_in m u) (versions_in (get m.entries u))
unfolding lay
lay_entries m t u = tabulated m.entries (λ v o. record_of (stay_in m v) (versions_in o)) (λ v. refl) u

pub lay_groups : (m : Db) (t : Shape) (u : NodeId) → get (lay m t).groups u ≡ option_map (laid_group m t u) (get m.groups u)
unfolding lay
lay_groups m t u = tabulated m.groups (λ v o. option_map (laid_group m t v) o) (λ v. refl) u

pub lay_children : (m : Db) (t : Shape) (g : NodeId) → get (lay m t).children g ≡ cond (contains_key m.groups g) (Some (laid_children m t g)) None
unfolding lay
lay_children m t g =
    get-tabulate id_order.total id_order.same (keys m.groups) (λ v. Some (laid_children m t v)) g
    ∙ ap (λ b. cond b (Some (laid_children m t g)) None) (sym (contains_key-keys m.groups g))

pub lay_root : (m : Db) (t : Shape) → (lay m t).root ≡ m.root
unfolding lay
lay_root m t = refl

pub lay_tombs : (m : Db) (t : Shape) → (lay m t).tombs ≡ m.tombs
unfolding lay
lay_tombs m t = refl

pub lay_meta : (m : Db) (t : Shape) → (lay m t).meta ≡ laid_meta m.meta t.meta
unfolding lay
lay_meta m t = refl

pub db_entries : (s : Shape) (u : NodeId) → get (db_of s).entries u ≡ option_map versions_of (get s.entries u)
unfolding db_of
db_entries s u = tabulated s.entries (λ v o. option_map versions_of o) (λ v. refl) u

pub db_groups : (s : Shape) (u : NodeId) → get (db_of s).groups u ≡ option_map (λ (g : GroupRecord). g.state) (get s.groups u)
unfolding db_of
db_groups s u = tabulated s.groups (λ v o. option_map (λ (g : GroupRecord). g.state) o) (λ v. refl) u

-- ---- of the versions that a map lists the map is made again

rejoin : {A : Type 0} (x : A) (xs : List A) → but_last x xs ++ last_of x xs ∷ [] ≡ x ∷ xs
rejoin x [] = refl
rejoin x (y ∷ ys) = ap (λ zs. x ∷ zs) (rejoin y ys)

-- the last one first
turned : {A : Type 0} (g : A → Option Stats) (x : A) (xs : List A)
    → gather stats_join (map g (last_of x xs ∷ but_last x xs)) ≡ gather stats_join (map g (x ∷ xs))
turned g x xs =
    (merged_join stats_joins).comm (g (last_of x xs)) (gather stats_join (map g (but_last x xs)))
    ∙ ap (join_options stats_join (gather stats_join (map g (but_last x xs)))) (sym (merged_none stats_joins (g (last_of x xs))))
    ∙ sym (gather-append stats_joins (map g (but_last x xs)) (g (last_of x xs) ∷ []))
    ∙ ap (gather stats_join) (sym (map_append g (but_last x xs) (last_of x xs ∷ [])) ∙ ap (map g) (rejoin x xs))

abbrev one_version : BareVersion → Versions
one_version v = insert empty v.mark v.stats

abbrev at_version : Mark → Mark × Stats → Option Stats
at_version k d = get (one_version (version_of d)) k

same_versions : (v : Versions) (e : Mark × Stats) (es : List (Mark × Stats)) → entries v ≡ e ∷ es
    → unite_all stats_join (map one_version (version_of (last_of e es) ∷ map version_of (but_last e es))) ≡ v
same_versions v e es is = same_map mark_order.total mark_order.same _ v (λ k.
    get-unite_all mark_order.total mark_order.same stats_join (map one_version (map version_of (last_of e es ∷ but_last e es))) k
    ∙ ap (gather stats_join) (map_map one_version (λ (m : Versions). get m k) (map version_of (last_of e es ∷ but_last e es))
    ∙ map_map version_of (λ (w : BareVersion). get (one_version w) k) (last_of e es ∷ but_last e es))
    ∙ turned (at_version k) e es
    ∙ ap (λ ds. gather stats_join (map (at_version k) ds)) (sym is)
    ∙ gathered_singles mark_order.total mark_order.same stats_join (entries v) (entries_sorted v) k
    ∙ sym (get-entries v k))

made_again : (stay : Stay) (v : Versions) (es : List (Mark × Stats)) → entries v ≡ es → keys v ≢ [] → option_map versions_of (record_of stay es) ≡ Some v
made_again stay v [] is some = absurd (some (ap (map (λ (e : Mark × Stats). e.0)) is))
made_again stay v (e ∷ es) is some = ap Some (same_versions v e es is)

entry_again : (m : Db) (u : NodeId) (o : Option Versions) → Sound m → get m.entries u ≡ o → option_map versions_of (record_of (stay_in m u) (versions_in o)) ≡ o
entry_again m u None s e = refl
entry_again m u (Some v) s e = made_again (stay_in m u) v (entries v) refl (s.versions u v e)

-- an entry that is laid stays where and since when it is said to
entry_stays : (stay : Stay) (v : Versions) (es : List (Mark × Stats)) → entries v ≡ es → keys v ≢ [] → (g : Option GroupRecord) → stay_or (record_of stay es) g ≡ stay
entry_stays stay v [] is some g = absurd (some (ap (map (λ (e : Mark × Stats). e.0)) is))
entry_stays stay v (e ∷ es) is some g = refl

-- ---- the order of children

pub in_list : (u : NodeId) (us : List NodeId) → list_any (is_id u) us ≡ true → IsIn u us
in_list u us e = let f = any_found (is_id u) us e in subst (λ (v : NodeId). IsIn v us) (sym (same_id u f.0 f.1.1)) f.1.0

pub list_in : (u : NodeId) (us : List NodeId) → IsIn u us → list_any (is_id u) us ≡ true
list_in u us h = any_true (is_id u) us u h (id_itself u)

pub into_order : (old now : List NodeId) (u : NodeId) → IsIn u now → IsIn u (in_order old now)
into_order old now u h =
    elim (decide (list_any (is_id u) old)) [
      | inl e ↦ in_front _ _ u (in_filter (λ v. list_any (is_id v) now) old u (in_list u old e) (list_in u now h))
      | inr e ↦ in_back (filter (λ v. list_any (is_id v) now) old) _ u (in_filter (λ v. not (list_any (is_id v) old)) now u h (not_false _ e))
    ]

pub from_order : (old now : List NodeId) (u : NodeId) → IsIn u (in_order old now) → IsIn u now
from_order old now u h =
    elim (in_either (filter (λ v. list_any (is_id v) now) old) (filter (λ v. not (list_any (is_id v) old)) now) u h) [
      | inl k ↦ in_list u now (from_filter (λ v. list_any (is_id v) now) old u k).1
      | inr k ↦ (from_filter (λ v. not (list_any (is_id v) old)) now u k).0
    ]

filter_all : {A : Type 0} (test : A → Bool) (xs : List A) → ((x : A) → IsIn x xs → test x ≡ true) → filter test xs ≡ xs
filter_all test [] each = refl
filter_all test (x ∷ xs) each =
    ap (λ b. cond b (x ∷ filter test xs) (filter test xs)) (each x (inl refl)) ∙ ap (λ ys. x ∷ ys) (filter_all test xs (λ y h. each y (inr h)))

filter_none : {A : Type 0} (test : A → Bool) (xs : List A) → ((x : A) → IsIn x xs → test x ≡ false) → filter test xs ≡ []
filter_none test [] each = refl
filter_none test (x ∷ xs) each =
    ap (λ b. cond b (x ∷ filter test xs) (filter test xs)) (each x (inl refl)) ∙ filter_none test xs (λ y h. each y (inr h))

-- put in order once, children stay in order
ordered_again : (old now : List NodeId) → in_order (in_order old now) now ≡ in_order old now
ordered_again old now =
    let first = filter_all (λ v. list_any (is_id v) now) (in_order old now) (λ v h. list_in v now (from_order old now v h)) in
    let rest = filter_none (λ v. not (list_any (is_id v) (in_order old now))) now (λ v h. ap not (list_in v (in_order old now) (into_order old now v h))) in
    (λ i. first i ++ rest i) ∙ append-nil (in_order old now)

pub stands : (g : NodeId) (o : Option Place) → stands_in g o ≡ true → (p : Place) × ((o ≡ Some p) × (g ≡ p.parent))
stands g None e = apart false e refl
stands g (Some p) e = (p, (refl, same_id g p.parent e))

pub into_standing : (m : Db) (us : List NodeId) (u : NodeId) (p : Place) → IsIn u us → get m.places u ≡ Some p → IsIn u (ids_in_group m p.parent us)
into_standing m us u p h e = in_filter (λ v. stands_in p.parent (get m.places v)) us u h (ap (stands_in p.parent) e ∙ id_itself p.parent)

pub from_standing : (m : Db) (g : NodeId) (us : List NodeId) (u : NodeId) → IsIn u (ids_in_group m g us) → IsIn u us × ((p : Place) × ((get m.places u ≡ Some p) × (g ≡ p.parent)))
from_standing m g us u h = let f = from_filter (λ v. stands_in g (get m.places v)) us u h in (f.0, stands g (get m.places u) f.1)

-- ---- the database of a laid document

module _ (m : Db) (t : Shape) (s : Sound m) where
  abbrev laid : Shape
  laid = lay m t

  same_entries : (db_of laid).entries ≡ m.entries
  same_entries = same_map id_order.total id_order.same _ _ (λ u.
      db_entries laid u ∙ ap (option_map versions_of) (lay_entries m t u) ∙ entry_again m u (get m.entries u) s refl)

  state_again : (u : NodeId) (o : Option GroupState) → option_map (λ (g : GroupRecord). g.state) (option_map (laid_group m t u) o) ≡ o
  state_again u None = refl
  state_again u (Some g) = refl

  same_groups : (db_of laid).groups ≡ m.groups
  same_groups = same_map id_order.total id_order.same _ _ (λ u.
      db_groups laid u ∙ ap (option_map (λ (g : GroupRecord). g.state)) (lay_groups m t u) ∙ state_again u (get m.groups u))

  -- a node that has a place stays there
  stays_entry : (u : NodeId) (p : Place) (o : Option Versions) → get m.entries u ≡ o → contains_key m.entries u ≡ true → get m.places u ≡ Some p → stay_of laid u ≡ stay_at (Some p)
  stays_entry u p None q e h = apart (contains_key m.entries u) e (ap is_some q)
  stays_entry u p (Some v) q e h =
      ap (λ x. stay_or x (get laid.groups u)) (lay_entries m t u ∙ ap (λ x. record_of (stay_in m u) (versions_in x)) q)
      ∙ entry_stays (stay_in m u) v (entries v) refl (s.versions u v q) (get laid.groups u) ∙ ap stay_at h

  stays_group : (u : NodeId) (p : Place) (o : Option GroupState) → get m.groups u ≡ o → contains_key m.groups u ≡ true → get m.places u ≡ Some p → stay_of laid u ≡ stay_at (Some p)
  stays_group u p None q e h = apart (contains_key m.groups u) e (ap is_some q)
  stays_group u p (Some g) q e h =
      let no_entry : get m.entries u ≡ None = none_of (get m.entries u) (is_false (contains_key m.entries u) (λ x. apart (contains_key m.groups u) e (s.kinds u x))) in
      let off : is_id u m.root ≡ false = is_false (is_id u m.root) (λ x. (placed_held m u p s h).0 (same_id u m.root x)) in
      ap (λ x. stay_or x (get laid.groups u)) (lay_entries m t u ∙ ap (λ x. record_of (stay_in m u) (versions_in x)) no_entry)
      ∙ ap (stay_or None) (lay_groups m t u ∙ ap (option_map (laid_group m t u)) q)
      ∙ ap (λ b. cond b (stay_of t u) (stay_in m u)) off
      ∙ ap stay_at h

  stays_at : (u : NodeId) (p : Place) → get m.places u ≡ Some p → stay_of laid u ≡ stay_at (Some p)
  stays_at u p h =
      elim (or_cases (contains_key m.entries u) (contains_key m.groups u) (placed_held m u p s h).1) [
        | inl e ↦ stays_entry u p (get m.entries u) refl e h
        | inr e ↦ stays_group u p (get m.groups u) refl e h
      ]

  -- what a laid group's lists have
  pub kid_place : (g u : NodeId) → IsIn u ((laid_children m t g).entries ++ (laid_children m t g).groups) → (p : Place) × ((get m.places u ≡ Some p) × (g ≡ p.parent))
  kid_place g u h =
      elim (in_either (laid_children m t g).entries (laid_children m t g).groups u h) [
        | inl k ↦ (from_standing m g (keys m.entries) u (from_order (kids t g).entries (ids_in_group m g (keys m.entries)) u k)).1
        | inr k ↦ (from_standing m g (keys m.groups) u (from_order (kids t g).groups (ids_in_group m g (keys m.groups)) u k)).1
      ]

  pub place_kid : (u : NodeId) (p : Place) → get m.places u ≡ Some p → IsIn u ((laid_children m t p.parent).entries ++ (laid_children m t p.parent).groups)
  place_kid u p h =
      elim (or_cases (contains_key m.entries u) (contains_key m.groups u) (placed_held m u p s h).1) [
        | inl e ↦
            in_front _ _ u (into_order (kids t p.parent).entries (ids_in_group m p.parent (keys m.entries)) u
            (into_standing m (keys m.entries) u p (in_keys id_order.total id_order.same m.entries u e) h))
        | inr e ↦
            in_back (laid_children m t p.parent).entries _ u (into_order (kids t p.parent).groups (ids_in_group m p.parent (keys m.groups)) u
            (into_standing m (keys m.groups) u p (in_keys id_order.total id_order.same m.groups u e) h))
      ]

  children_some : (g : NodeId) (c : Children) → get laid.children g ≡ Some c → (contains_key m.groups g ≡ true) × (c ≡ laid_children m t g)
  children_some g c e = found (contains_key m.groups g) (sym (lay_children m t g) ∙ e)
    where
      found : (b : Bool) → cond b (Some (laid_children m t g)) None ≡ Some c → (b ≡ true) × (c ≡ laid_children m t g)
      found true q = (refl, sym (same_Some _ _ q))
      found false q = never c q

  row_right : (row : NodeId × Place) → IsIn row (place_rows laid) → get m.places row.0 ≡ Some row.1
  row_right row h =
      let f = from_flat (λ (r : NodeId × Children). map (λ u. (u, place_at (stay_of laid u) r.0)) (r.1.entries ++ r.1.groups)) (entries laid.children) row h in
      let c = children_some f.0.0 f.0.1 (entry_get id_order.total id_order.same laid.children f.0 f.1.0) in
      let g = from_map (λ u. (u, place_at (stay_of laid u) f.0.0)) (f.0.1.entries ++ f.0.1.groups) row f.1.1 in
      let k = kid_place f.0.0 g.0 (subst (λ (x : Children). IsIn g.0 (x.entries ++ x.groups)) c.1 g.1.0) in
      let here : get m.places g.0 ≡ Some (place_at (stay_of laid g.0) f.0.0) =
      k.1.0 ∙ (λ i. Some (place_at (sym (stays_at g.0 k.0 k.1.0) i) (sym k.1.1 i))) in
      subst (λ (r : NodeId × Place). get m.places r.0 ≡ Some r.1) g.1.1 here

  row_there : (u : NodeId) (p : Place) → get m.places u ≡ Some p → (q : Place) × IsIn (u, q) (place_rows laid)
  row_there u p h =
      let parent : get laid.children p.parent ≡ Some (laid_children m t p.parent) =
      lay_children m t p.parent ∙ ap (λ b. cond b (Some (laid_children m t p.parent)) None) (s.parents u p h) in (
        place_at (stay_of laid u) p.parent,
        in_flat (λ (r : NodeId × Children). map (λ v. (v, place_at (stay_of laid v) r.0)) (r.1.entries ++ r.1.groups)) (entries laid.children)
            (p.parent, laid_children m t p.parent) (u, place_at (stay_of laid u) p.parent)
            (get_entry id_order.total id_order.same laid.children p.parent (laid_children m t p.parent) parent)
            (in_map (λ v. (v, place_at (stay_of laid v) p.parent)) ((laid_children m t p.parent).entries ++ (laid_children m t p.parent).groups) u (place_kid u p h)),
      )

  db_places : (x : Shape) → (db_of x).places ≡ from_entries (place_rows x)
  unfolding db_of
  db_places x = refl

  same_places : (db_of laid).places ≡ m.places
  same_places = db_places laid ∙ made_from id_order.total id_order.same m.places (place_rows laid) row_right row_there

  -- icons stand under their own ids, and items under their own keys
  icons_again : from_entries (map (λ (i : Icon). (i.id, i)) (values m.meta.icons)) ≡ m.meta.icons
  icons_again =
      ap from_entries (map_map (λ (e : NodeId × Icon). e.1) (λ (i : Icon). (i.id, i)) (entries m.meta.icons)
      ∙ map_same (λ (e : NodeId × Icon). (e.1.id, e.1)) (λ e. e) (entries m.meta.icons) (λ e h i.
      ((s.meta.icons e.0 e.1 (entry_get id_order.total id_order.same m.meta.icons e h)).0 i, e.1))
      ∙ map_id (entries m.meta.icons))
      ∙ made_of_entries id_order.total id_order.same m.meta.icons
    where
      map_id : {A : Type 0} (xs : List A) → map (λ x. x) xs ≡ xs
      map_id [] = refl
      map_id (x ∷ xs) = ap (λ ys. x ∷ ys) (map_id xs)

  items_again : from_entries (map (λ (i : Item). (i.key, i)) (values m.meta.items)) ≡ m.meta.items
  items_again =
      ap from_entries (map_map (λ (e : List ℕ × Item). e.1) (λ (i : Item). (i.key, i)) (entries m.meta.items)
      ∙ map_same (λ (e : List ℕ × Item). (e.1.key, e.1)) (λ e. e) (entries m.meta.items) (λ e h i.
      ((s.meta.items e.0 e.1 (entry_get bytes_order.total bytes_order.same m.meta.items e h)).0 i, e.1))
      ∙ map_id (entries m.meta.items))
      ∙ made_of_entries bytes_order.total bytes_order.same m.meta.items
    where
      map_id : {A : Type 0} (xs : List A) → map (λ x. x) xs ≡ xs
      map_id [] = refl
      map_id (x ∷ xs) = ap (λ ys. x ∷ ys) (map_id xs)

  db_meta : (x : Shape) → (db_of x).meta ≡ shared_of x.meta
  unfolding db_of
  db_meta x = refl

  same_meta : (db_of laid).meta ≡ m.meta
  same_meta = db_meta laid ∙ ap shared_of (lay_meta m t) ∙ (λ i. record m.meta { icons = icons_again i; items = items_again i })

  db_root : (x : Shape) → (db_of x).root ≡ x.root
  unfolding db_of
  db_root x = refl

  db_tombs : (x : Shape) → (db_of x).tombs ≡ x.tombs
  unfolding db_of
  db_tombs x = refl

  -- the database of the laid document is the one that was laid
  pub laid_db : db_of laid ≡ m
  laid_db = λ i. record {
    root = (db_root laid ∙ lay_root m t) i;
    entries = same_entries i;
    groups = same_groups i;
    places = same_places i;
    tombs = (db_tombs laid ∙ lay_tombs m t) i;
    meta = same_meta i;
  }

  -- ---- laid over itself

  group_again : (u : NodeId) (g : GroupState) → get m.groups u ≡ Some g → laid_group m laid u g ≡ laid_group m t u g
  group_again u g q =
      let here : get laid.groups u ≡ Some (laid_group m t u g) = lay_groups m t u ∙ ap (option_map (laid_group m t u)) q in
      let no_entry : get m.entries u ≡ None =
      none_of (get m.entries u) (is_false (contains_key m.entries u) (λ x. apart (contains_key m.groups u) (ap is_some q) (s.kinds u x))) in
      let stays : stay_of laid u ≡ laid_stay m t u =
      (λ i. stay_or ((lay_entries m t u ∙ ap (λ x. record_of (stay_in m u) (versions_in x)) no_entry) i) (here i)) in
      let again = at_root (is_id u m.root) stays in
      λ i. record {
        placed = (again i).placed;
        previous = (again i).previous;
        state = g;
        view = unwrap_or (option_map (λ (r : GroupRecord). r.view) (here i)) new_view;
      }
    where
      at_root : (b : Bool) → stay_of laid u ≡ cond b (stay_of t u) (stay_in m u) → cond b (stay_of laid u) (stay_in m u) ≡ cond b (stay_of t u) (stay_in m u)
      at_root true e = e
      at_root false e = refl

  groups_again : (u : NodeId) (o : Option GroupState) → get m.groups u ≡ o → option_map (laid_group m laid u) o ≡ option_map (laid_group m t u) o
  groups_again u None q = refl
  groups_again u (Some g) q = ap Some (group_again u g q)

  kids_again : (g : NodeId) → contains_key m.groups g ≡ true → kids laid g ≡ laid_children m t g
  kids_again g e = ap (λ o. unwrap_or o no_children) (lay_children m t g ∙ ap (λ b. cond b (Some (laid_children m t g)) None) e)

  children_again : (g : NodeId) (b : Bool) → contains_key m.groups g ≡ b → cond b (Some (laid_children m laid g)) None ≡ cond b (Some (laid_children m t g)) None
  children_again g false e = refl
  children_again g true e =
      let k = kids_again g e in
      λ i. Some (record {
        entries = (ap (λ (c : Children). in_order c.entries (ids_in_group m g (keys m.entries))) k ∙ ordered_again (kids t g).entries (ids_in_group m g (keys m.entries))) i;
        groups = (ap (λ (c : Children). in_order c.groups (ids_in_group m g (keys m.groups))) k ∙ ordered_again (kids t g).groups (ids_in_group m g (keys m.groups))) i;
      })

  -- a laid document that is laid over again stays as it is
  pub laid_again : lay m laid ≡ laid
  laid_again = λ i. record {
    root = (lay_root m laid ∙ sym (lay_root m t)) i;
    entries = same_map id_order.total id_order.same (lay m laid).entries laid.entries (λ u. lay_entries m laid u ∙ sym (lay_entries m t u)) i;
    groups = same_map id_order.total id_order.same (lay m laid).groups laid.groups (λ u.
        lay_groups m laid u ∙ groups_again u (get m.groups u) refl ∙ sym (lay_groups m t u)) i;
    children = same_map id_order.total id_order.same (lay m laid).children laid.children (λ g.
        lay_children m laid g ∙ children_again g (contains_key m.groups g) refl ∙ sym (lay_children m t g)) i;
    tombs = (lay_tombs m laid ∙ sym (lay_tombs m t)) i;
    meta = (lay_meta m laid ∙ ap (laid_meta m.meta) (lay_meta m t) ∙ sym (lay_meta m t)) i;
  }
