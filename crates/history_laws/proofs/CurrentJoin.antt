-- What is current of a join is what is current of the join of what is current of each member.
use Rattle.std.proofs.Common.{◌≡◌, ℕ, Bool, true, false, not, cond, ◌&&◌, ◌||◌, inl, inr, List, [], ◌∷◌, ◌++◌, Option, Some, None, map, max, is_some, length, zero, suc, T, refl, sym, ap, subst, ◌∙◌}
use Rattle.std.specs.FinMap.{FinMap, contains_key, contains_key-keys, entries, entries-from_sorted, entries_sorted, find, from_sorted, get, get-entries, get-from_sorted, is_sorted, keys, same_map}
use Rattle.std.specs.FinMap.Entries.{below_all}
use Rattle.std.specs.List.{list_any}
use Rattle.std.specs.Option.{unwrap_or}
use Rattle.std.specs.Ordering.{is_lt}
use Rattle.vault_model.specs.Db.{Db, NodeId, Versions, greatest, holds, id_cmp, newest, parent_or, place_cmp, stamp_in, state_time, steps}
use Rattle.vault_model.specs.Join.{IsNotEmpty, Allowed, above, buried, ids, is_from, is_held, is_id, join, kept, latest, meta_join, no_meta, own, path, root_of, stamp, state_join, stats_join, trail}
use Rattle.vault_model.specs.Unite.{gather, greater, unite}
use Rattle.vault_model.proofs.Orders.{id_order}
use Rattle.vault_model.proofs.Tests.{any_map, any_same, decide, from_map, in_map, map_map, map_same}
use Rattle.merge_core.proofs.Facts.{join_entries, join_groups, join_places, join_root, join_tombs}
use Rattle.merge_core.proofs.SoundJoin.{join_meta}
use Rattle.merge_core.proofs.Unite.{get-tabulate}
use Rattle.history_laws.specs.Current.{current_view}
use Rattle.history_laws.specs.CurrentLaws.{CurrentIsCurrent}
use Rattle.history_laws.proofs.Newest.{currents, currents_gather, currents_twice, newest_current}

-- ---- one database

some_currents : (o : Option Versions) → is_some (currents o) ≡ is_some o
some_currents None = refl
some_currents (Some v) = refl

pub view_entries : (m : Db) (u : NodeId) → get (current_view m).entries u ≡ currents (get m.entries u)
view_entries m u =
    get-tabulate id_order.total id_order.same (keys m.entries) (λ v. currents (get m.entries v)) u
    ∙ ap (λ b. cond b (currents (get m.entries u)) None) (sym (contains_key-keys m.entries u))
    ∙ at (get m.entries u)
  where
    at : (o : Option Versions) → cond (is_some o) (currents o) None ≡ currents o
    at None = refl
    at (Some v) = refl

pub view_has : (m : Db) (u : NodeId) → contains_key (current_view m).entries u ≡ contains_key m.entries u
view_has m u = ap is_some (view_entries m u) ∙ some_currents (get m.entries u)

pub view_holds : (m : Db) (u : NodeId) → holds (current_view m) u ≡ holds m u
view_holds m u = ap (λ b. b || contains_key m.groups u) (view_has m u)

pub view_stamp : (m : Db) (u : NodeId) → stamp_in (current_view m) u ≡ stamp_in m u
unfolding stamp_in
view_stamp m u = ap (λ n. max n (state_time (get m.groups u))) (ap newest (view_entries m u) ∙ newest_current (get m.entries u))

pub same_view : (m n : Db) → m.root ≡ n.root → ((u : NodeId) → currents (get m.entries u) ≡ currents (get n.entries u)) → m.groups ≡ n.groups → m.places ≡ n.places → m.tombs ≡ n.tombs → m.meta ≡ n.meta
    → current_view m ≡ current_view n
same_view m n root es groups places tombs meta = λ i. record {
  root = root i;
  entries = same_map id_order.total id_order.same (current_view m).entries (current_view n).entries (λ u. view_entries m u ∙ es u ∙ sym (view_entries n u)) i;
  groups = groups i;
  places = places i;
  tombs = tombs i;
  meta = meta i;
}

pub view_twice : CurrentIsCurrent
view_twice m = same_view (current_view m) m refl (λ u. ap currents (view_entries m u) ∙ currents_twice (get m.entries u)) refl refl refl refl

-- ---- maps with the same keys have them in the same order

module _ {X : Type 0} where
  abbrev bare : List (NodeId × X) → List (NodeId × Unit {0})
  bare es = map (λ e. (e.0, tt)) es

  bare_below : (k : NodeId) (es : List (NodeId × X)) → below_all id_cmp k (bare es) ≡ below_all id_cmp k es
  bare_below k [] = refl
  bare_below k (e ∷ es) = ap (λ b. is_lt (id_cmp k e.0) && b) (bare_below k es)

  bare_sorted : (es : List (NodeId × X)) → is_sorted id_cmp (bare es) ≡ is_sorted id_cmp es
  bare_sorted [] = refl
  bare_sorted (e ∷ es) = λ i. bare_below e.0 es i && bare_sorted es i

  bare_found : (q : NodeId) (es : List (NodeId × X)) → find id_cmp q (bare es) ≡ cond (is_some (find id_cmp q es)) (Some tt) None
  bare_found q [] = refl
  bare_found q (e ∷ es) = elim (decide (is_id q e.0)) [
    | inl p ↦ ap (λ b. cond b (Some tt) (find id_cmp q (bare es))) p ∙ sym (ap (λ b. cond (is_some (cond b (Some e.1) (find id_cmp q es))) (Some tt) None) p)
    | inr p ↦ ap (λ b. cond b (Some tt) (find id_cmp q (bare es))) p ∙ bare_found q es ∙ sym (ap (λ b. cond (is_some (cond b (Some e.1) (find id_cmp q es))) (Some tt) None) p)
  ]

  abbrev shell : FinMap id_cmp X → FinMap id_cmp (Unit {0})
  shell m = from_sorted (bare (entries m))

  shell_sorted : (m : FinMap id_cmp X) → T (is_sorted id_cmp (bare (entries m)))
  shell_sorted m = subst T (sym (bare_sorted (entries m))) (entries_sorted m)

  shell_get : (m : FinMap id_cmp X) (q : NodeId) → get (shell m) q ≡ cond (contains_key m q) (Some tt) None
  shell_get m q =
      get-from_sorted id_cmp (bare (entries m)) q (shell_sorted m) ∙ bare_found q (entries m)
      ∙ ap (λ o. cond (is_some o) (Some tt) None) (sym (get-entries m q))

  shell_keys : (m : FinMap id_cmp X) → keys (shell m) ≡ keys m
  shell_keys m =
      ap (map (λ (e : NodeId × Unit {0}). e.0)) (entries-from_sorted id_cmp (bare (entries m)) (shell_sorted m))
      ∙ map_map (λ (e : NodeId × X). (e.0, tt)) (λ (e : NodeId × Unit {0}). e.0) (entries m)

pub keys_same : {X Y : Type 0} (m : FinMap id_cmp X) (n : FinMap id_cmp Y) → ((q : NodeId) → contains_key m q ≡ contains_key n q) → keys m ≡ keys n
keys_same m n same =
    sym (shell_keys m)
    ∙ ap keys (same_map id_order.total id_order.same (shell m) (shell n) (λ q. shell_get m q ∙ ap (λ b. cond b (Some tt) None) (same q) ∙ sym (shell_get n q)))
    ∙ shell_keys n

view_keys : (m : Db) → keys (current_view m).entries ≡ keys m.entries
view_keys m = keys_same (current_view m).entries m.entries (view_has m)

-- ---- many databases

module _ (S : List Db) where
  abbrev now : List Db
  now = map current_view S

  pub now_root : root_of now ≡ root_of S
  now_root = first S
    where
      first : (R : List Db) → root_of (map current_view R) ≡ root_of R
      first [] = refl
      first (m ∷ ms) = refl

  pub now_latest : (u : NodeId) → latest now u ≡ latest S u
  now_latest u = ap (gather (greater place_cmp)) (map_map current_view (λ (m : Db). get m.places u) S)

  now_above : (u : NodeId) → above now u ≡ above S u
  now_above u = ap (parent_or u) (now_latest u)

  pub above_now : above now ≡ above S
  above_now = λ i u. now_above u i

  now_stamp : (u : NodeId) → stamp now u ≡ stamp S u
  now_stamp u = ap greatest (map_map current_view (λ (m : Db). stamp_in m u) S ∙ map_same (λ m. stamp_in (current_view m) u) (λ m. stamp_in m u) S (λ m h. view_stamp m u))

  pub now_held : (u : NodeId) → is_held now u ≡ is_held S u
  now_held u = any_map current_view (λ (m : Db). holds m u) S ∙ any_same (λ m. holds (current_view m) u) (λ m. holds m u) S (λ m h. view_holds m u)

  now_buried : (u : NodeId) → buried now u ≡ buried S u
  now_buried u =
      ap (λ t. list_any (λ (m : Db). is_from t (get m.tombs u)) now) (now_stamp u)
      ∙ any_map current_view (λ (m : Db). is_from (stamp S u) (get m.tombs u)) S

  pub now_own : (u : NodeId) → own now u ≡ own S u
  unfolding own
  now_own u = λ i. is_id u (now_root i) || now_held u i && not (now_buried u i)

  now_ids : ids now ≡ ids S
  now_ids = all S
    where
      all : (R : List Db) → ids (map current_view R) ≡ ids R
      all [] = refl
      all (m ∷ ms) = λ i. (view_keys m i ++ keys m.groups) ++ all ms i

  now_trail : (n : ℕ) (u : NodeId) → trail now n u ≡ trail S n u
  now_trail zero u = refl
  now_trail (suc n) u = ap (λ us. u ∷ us) (now_trail n (above now u) ∙ ap (trail S n) (now_above u))

  now_path : (u : NodeId) → path now u ≡ path S u
  now_path u = now_trail (length (ids now)) u ∙ ap (λ us. trail S (length us) u) now_ids

  pub now_kept : (u : NodeId) → kept now u ≡ kept S u
  unfolding kept
  now_kept u = λ i. list_any (λ v. now_own v i && list_any (is_id u) (now_path v i)) (now_ids i)

  -- what is no version of an entry is joined alike
  alike : {A : Type 0} (f : A → A → A) (field : Db → Option A) → ((m : Db) → field (current_view m) ≡ field m) → gather f (map field now) ≡ gather f (map field S)
  alike f field same = ap (gather f) (map_map current_view field S ∙ map_same (λ m. field (current_view m)) field S (λ m h. same m))

  now_column : (u : NodeId) → map (λ (m : Db). get m.entries u) now ≡ map currents (map (λ (m : Db). get m.entries u) S)
  now_column u =
      map_map current_view (λ (m : Db). get m.entries u) S
      ∙ map_same (λ m. get (current_view m).entries u) (λ m. currents (get m.entries u)) S (λ m h. view_entries m u)
      ∙ sym (map_map (λ (m : Db). get m.entries u) currents S)

  conds : (b : Bool) (o p : Option Versions) → currents o ≡ currents p → currents (cond b o None) ≡ currents (cond b p None)
  conds true o p e = e
  conds false o p e = refl

  -- what is current of a join is what is current of the join of what is current of each member
  pub currents_join : current_view (join S) ≡ current_view (join now)
  currents_join = same_view (join S) (join now)
      (join_root S ∙ sym now_root ∙ sym (join_root now))
      (λ u.
      ap currents (join_entries S u)
      ∙ conds (kept S u) (gather (unite stats_join) (map (λ (m : Db). get m.entries u) S)) (gather (unite stats_join) (map currents (map (λ (m : Db). get m.entries u) S)))
      (currents_gather (map (λ (m : Db). get m.entries u) S))
      ∙ (λ i. currents (cond (sym (now_kept u) i) (gather (unite stats_join) (sym (now_column u) i)) None))
      ∙ ap currents (sym (join_entries now u)))
      (same_map id_order.total id_order.same (join S).groups (join now).groups (λ u.
      join_groups S u ∙ (λ i. cond (sym (now_kept u) i) (sym (alike state_join (λ m. get m.groups u) (λ m. refl)) i) None) ∙ sym (join_groups now u)))
      (same_map id_order.total id_order.same (join S).places (join now).places (λ u.
      join_places S u ∙ (λ i. cond (sym (now_kept u) i) (sym (now_latest u) i) None) ∙ sym (join_places now u)))
      (same_map id_order.total id_order.same (join S).tombs (join now).tombs (λ u.
      join_tombs S u ∙ (λ i. cond (not (sym (now_kept u) i)) (sym (alike max (λ m. get m.tombs u) (λ m. refl)) i) None) ∙ sym (join_tombs now u)))
      (join_meta S ∙ ap (λ o. unwrap_or o no_meta) (sym (alike meta_join (λ m. Some m.meta) (λ m. refl))) ∙ sym (join_meta now))

-- lists whose members are alike in what is current are so joined
pub view_alike : (S R : List Db) → map current_view S ≡ map current_view R → current_view (join S) ≡ current_view (join R)
view_alike S R e = currents_join S ∙ ap (λ Q. current_view (join Q)) e ∙ sym (currents_join R)

-- ---- which can be joined

view_some : (S : List Db) → IsNotEmpty S → IsNotEmpty (map current_view S)
view_some [] e = e
view_some (m ∷ ms) e = e

some_view : (S : List Db) → IsNotEmpty (map current_view S) → IsNotEmpty S
some_view [] e = e
some_view (m ∷ ms) e = e

allowed_now : (S : List Db) → Allowed S → Allowed (map current_view S)
allowed_now S al = record {
  some = view_some S al.some;
  root = λ m h. let f = from_map current_view S m h in ap (λ (x : Db). x.root) (sym f.1.1) ∙ al.root f.0 f.1.0 ∙ sym (now_root S);
  kinds = λ m n u h k e.
      let f = from_map current_view S m h in
      let g = from_map current_view S n k in
      ap (λ (x : Db). contains_key x.groups u) (sym g.1.1)
      ∙ al.kinds f.0 g.0 u f.1.0 g.1.0 (sym (view_has f.0 u) ∙ ap (λ (x : Db). contains_key x.entries u) f.1.1 ∙ e);
  acyclic = λ u e.
      let r = al.acyclic u (sym (now_own S u) ∙ e) in
      (r.0, ap (λ up. steps up r.0 u) (above_now S) ∙ r.1 ∙ sym (now_root S));
}

now_allowed : (S : List Db) → Allowed (map current_view S) → Allowed S
now_allowed S al = record {
  some = some_view S al.some;
  root = λ m h. al.root (current_view m) (in_map current_view S m h) ∙ now_root S;
  kinds = λ m n u h k e. al.kinds (current_view m) (current_view n) u (in_map current_view S m h) (in_map current_view S n k) (view_has m u ∙ e);
  acyclic = λ u e.
      let r = al.acyclic u (now_own S u ∙ e) in
      (r.0, ap (λ up. steps up r.0 u) (sym (above_now S)) ∙ r.1 ∙ now_root S);
}

-- where members are alike in what is current, one list can be joined where the other can
pub allowed_alike : (S R : List Db) → map current_view S ≡ map current_view R → Allowed R → Allowed S
allowed_alike S R e al = now_allowed S (subst Allowed (sym e) (allowed_now R al))
