-- Trees with the same nodes in the same groups, of which one is as it was at an earlier moment.
use Rattle.std.proofs.Common.{◌≡◌, ◌<◌, ◌⊎◌, ℕ, Bool, true, false, cond, inl, inr, List, [], ◌∷◌, ◌++◌, map, refl, sym, subst}
use Rattle.std.specs.Str.{bytes_eq}
use Rattle.history_laws.specs.Current.{current}
use Rattle.import_again_laws.proofs.Newer.{same_entry, same_group}
use Rattle.import_ids.specs.Ids.{named_id}
use Rattle.import_laws.proofs.Bare.{entry_id}
use Rattle.import_tree.specs.Trees.{Placed, new_groups, with_all_placed, with_rows, with_rows_among}
use Rattle.vault_model.specs.Db.{NodeId}
use Rattle.vault_model.specs.Empty.{new_group}
use Rattle.vault_model.specs.Join.{IsIn, state_join, stats_join}
use Rattle.vault_model.specs.Shape.{Children, EntryRecord, GroupRecord, Stay, versions_of}
use Rattle.vault_model.specs.Tree.{Tree, Trees, beside, child_rows, child_rows_all, entry_rows, entry_rows_all, group_rows, group_rows_all, id_of, ids_of, node, none}
use Rattle.vault_model.specs.Unite.{unite}
use Rattle.vault_model.specs.Walk.{name_of}

abbrev pub EntryRow : Type 0
EntryRow = NodeId × EntryRecord

abbrev pub GroupRow : Type 0
GroupRow = NodeId × GroupRecord

abbrev pub entry_stay : EntryRecord → Stay
entry_stay x = record { placed = x.placed; previous = x.previous }

abbrev pub group_stay : GroupRecord → Stay
group_stay g = record { placed = g.placed; previous = g.previous }

-- in a group since a later moment, or the same stay
abbrev pub LaterStay : Stay → Stay → Type 0
LaterStay s t = (s.placed < t.placed) ⊎ (s ≡ t)

pub record LaterEntry (x y : EntryRow) : Type 0 where
  pub id : x.0 ≡ y.0
  pub stay : LaterStay (entry_stay x.1) (entry_stay y.1)
  pub versions : current (unite stats_join (versions_of x.1) (versions_of y.1)) ≡ current (versions_of y.1)

pub record LaterGroup (g h : GroupRow) : Type 0 where
  pub id : g.0 ≡ h.0
  pub name : g.1.state.content.name ≡ h.1.state.content.name
  pub stay : LaterStay (group_stay g.1) (group_stay h.1)
  pub state : state_join g.1.state h.1.state ≡ h.1.state

-- a relation of two lists, one by one
abbrev pub OneByOne : {A : Type 0} → (A → A → Type 0) → List A → List A → Type 0
OneByOne P [] [] = Unit {0}
OneByOne P [] (y ∷ ys) = ⊥
OneByOne P (x ∷ xs) [] = ⊥
OneByOne P (x ∷ xs) (y ∷ ys) = P x y × OneByOne P xs ys

pub one_by_one-append : {A : Type 0} (P : A → A → Type 0) (xs ys us vs : List A) → OneByOne P xs ys → OneByOne P us vs → OneByOne P (xs ++ us) (ys ++ vs)
one_by_one-append P [] [] us vs h k = k
one_by_one-append P [] (y ∷ ys) us vs h k = absurd h
one_by_one-append P (x ∷ xs) [] us vs h k = absurd h
one_by_one-append P (x ∷ xs) (y ∷ ys) us vs h k = (h.0, one_by_one-append P xs ys us vs h.1 k)

-- what is beside one of the first list
pub beside_one : {A : Type 0} (P : A → A → Type 0) (xs ys : List A) → OneByOne P xs ys → (x : A) → IsIn x xs → (y : A) × (IsIn y ys × P x y)
beside_one P [] ys h x i = absurd i
beside_one P (z ∷ xs) [] h x i = absurd h
beside_one P (z ∷ xs) (y ∷ ys) h x (inl is) = (y, (inl refl, subst (λ w. P w y) is h.0))
beside_one P (z ∷ xs) (y ∷ ys) h x (inr i) = let found = beside_one P xs ys h.1 x i in (found.0, (inr found.1.0, found.1.1))

pub same_under : {A B : Type 0} (P : A → A → Type 0) (f : A → B) (same : (x y : A) → P x y → f x ≡ f y) (xs ys : List A) → OneByOne P xs ys → map f xs ≡ map f ys
same_under P f same [] [] h = refl
same_under P f same [] (y ∷ ys) h = absurd h
same_under P f same (x ∷ xs) [] h = absurd h
same_under P f same (x ∷ xs) (y ∷ ys) h = (λ i. same x y h.0 i ∷ same_under P f same xs ys h.1 i)

abbrev mutual
  pub LaterTree : Tree → Tree → Type 0
  LaterTree (node u g es ts) (node w h fs us) = LaterGroup (u, g) (w, h) × (OneByOne LaterEntry es fs × LaterTrees ts us)

  pub LaterTrees : Trees → Trees → Type 0
  LaterTrees none none = Unit {0}
  LaterTrees none (beside u us) = ⊥
  LaterTrees (beside t ts) none = ⊥
  LaterTrees (beside t ts) (beside u us) = LaterTree t u × LaterTrees ts us

-- ---- the nodes

mutual
  pub later_entries : (t u : Tree) → LaterTree t u → OneByOne LaterEntry (entry_rows t) (entry_rows u)
  later_entries (node u g es ts) (node w h fs us) l = one_by_one-append LaterEntry es fs (entry_rows_all ts) (entry_rows_all us) l.1.0 (later_entries_all ts us l.1.1)

  later_entries_all : (ts us : Trees) → LaterTrees ts us → OneByOne LaterEntry (entry_rows_all ts) (entry_rows_all us)
  later_entries_all none none l = tt
  later_entries_all none (beside u us) l = absurd l
  later_entries_all (beside t ts) none l = absurd l
  later_entries_all (beside t ts) (beside u us) l =
      one_by_one-append LaterEntry (entry_rows t) (entry_rows u) (entry_rows_all ts) (entry_rows_all us) (later_entries t u l.0) (later_entries_all ts us l.1)

mutual
  pub later_groups : (t u : Tree) → LaterTree t u → OneByOne LaterGroup (group_rows t) (group_rows u)
  later_groups (node u g es ts) (node w h fs us) l = (l.0, later_groups_all ts us l.1.1)

  later_groups_all : (ts us : Trees) → LaterTrees ts us → OneByOne LaterGroup (group_rows_all ts) (group_rows_all us)
  later_groups_all none none l = tt
  later_groups_all none (beside u us) l = absurd l
  later_groups_all (beside t ts) none l = absurd l
  later_groups_all (beside t ts) (beside u us) l =
      one_by_one-append LaterGroup (group_rows t) (group_rows u) (group_rows_all ts) (group_rows_all us) (later_groups t u l.0) (later_groups_all ts us l.1)

pub later_root : (t u : Tree) → LaterTree t u → id_of t ≡ id_of u
later_root (node u g es ts) (node w h fs us) l = l.0.id

later_name : (t u : Tree) → LaterTree t u → name_of t ≡ name_of u
later_name (node u g es ts) (node w h fs us) l = l.0.name

later_ids : (ts us : Trees) → LaterTrees ts us → ids_of ts ≡ ids_of us
later_ids none none l = refl
later_ids none (beside u us) l = absurd l
later_ids (beside t ts) none l = absurd l
later_ids (beside t ts) (beside u us) l = (λ i. later_root t u l.0 i ∷ later_ids ts us l.1 i)

mutual
  pub later_children : (t u : Tree) → LaterTree t u → child_rows t ≡ child_rows u
  later_children (node u g es ts) (node w h fs us) l =
      let ids = same_under LaterEntry entry_id (λ x y e. e.id) es fs l.1.0 in
      let groups = later_ids ts us l.1.1 in
      let rest = later_children_all ts us l.1.1 in
      (λ i. (l.0.id i, (let c : Children = record { entries = ids i; groups = groups i } in c)) ∷ rest i)

  later_children_all : (ts us : Trees) → LaterTrees ts us → child_rows_all ts ≡ child_rows_all us
  later_children_all none none l = refl
  later_children_all none (beside u us) l = absurd l
  later_children_all (beside t ts) none l = absurd l
  later_children_all (beside t ts) (beside u us) l = (λ i. later_children t u l.0 i ++ later_children_all ts us l.1 i)

-- ---- a tree beside itself

one_by_one-same : {A : Type 0} (P : A → A → Type 0) → ((x : A) → P x x) → (xs : List A) → OneByOne P xs xs
one_by_one-same P same [] = tt
one_by_one-same P same (x ∷ xs) = (same x, one_by_one-same P same xs)

mutual
  pub later_same : (t : Tree) → LaterTree t t
  later_same (node u g es ts) = (
    record { id = refl; name = refl; stay = inr refl; state = same_group g.state },
    (one_by_one-same LaterEntry (λ x. record { id = refl; stay = inr refl; versions = same_entry x.1 }) es, later_same_all ts),
  )

  later_same_all : (ts : Trees) → LaterTrees ts ts
  later_same_all none = tt
  later_same_all (beside t ts) = (later_same t, later_same_all ts)

-- ---- a place more

module _ (now later : ℕ) (made : (id : NodeId) (name : List ℕ) → LaterGroup (id, new_group name now) (id, new_group name later)) (xs ys : List EntryRow) (rows : OneByOne LaterEntry xs ys) where
  later_new : (parent : NodeId) (name : List ℕ) (names : List (List ℕ)) → LaterTree (new_groups now parent name names xs) (new_groups later parent name names ys)
  later_new parent name [] = (made (named_id parent name) name, (rows, tt))
  later_new parent name (next ∷ names) = (made (named_id parent name) name, (tt, (later_new (named_id parent name) next names, tt)))

  either_later : (b : Bool) (ts us vs ws : Trees) → LaterTrees ts us → LaterTrees vs ws → LaterTrees (cond b ts vs) (cond b us ws)
  either_later true ts us vs ws h k = h
  either_later false ts us vs ws h k = k

  mutual
    pub later_with : (names : List (List ℕ)) (t u : Tree) → LaterTree t u → LaterTree (with_rows now names xs t) (with_rows later names ys u)
    later_with [] (node u g es ts) (node w h fs us) l = (l.0, (one_by_one-append LaterEntry es fs xs ys l.1.0 rows, l.1.1))
    later_with (name ∷ names) (node u g es ts) (node w h fs us) l =
        (l.0, (l.1.0, subst (λ (k : NodeId). LaterTrees (with_rows_among now u name names xs ts) (with_rows_among later k name names ys us)) l.0.id (later_among u name names ts us l.1.1)))

    later_among : (parent : NodeId) (name : List ℕ) (names : List (List ℕ)) (ts us : Trees) → LaterTrees ts us
        → LaterTrees (with_rows_among now parent name names xs ts) (with_rows_among later parent name names ys us)
    later_among parent name names none none l = (later_new parent name names, tt)
    later_among parent name names none (beside u us) l = absurd l
    later_among parent name names (beside t ts) none l = absurd l
    later_among parent name names (beside t ts) (beside u us) l =
        let here = later_with names t u l.0 in
        let rest = later_among parent name names ts us l.1 in
        subst (λ (n : List ℕ). LaterTrees (with_rows_among now parent name names xs (beside t ts))
        (cond (bytes_eq n name) (beside (with_rows later names ys u) us) (beside u (with_rows_among later parent name names ys us)))) (later_name t u l.0)
        (either_later (bytes_eq (name_of t) name) (beside (with_rows now names xs t) ts) (beside (with_rows later names ys u) us)
        (beside t (with_rows_among now parent name names xs ts)) (beside u (with_rows_among later parent name names ys us)) (here, l.1) (l.0, rest))

-- a place at a later moment
pub record LaterPlace (now later : ℕ) (p q : Placed) : Type 0 where
  pub moment : p.now ≡ now
  pub after : q.now ≡ later
  pub names : p.names ≡ q.names
  pub rows : OneByOne LaterEntry p.rows q.rows

module _ (now later : ℕ) (made : (id : NodeId) (name : List ℕ) → LaterGroup (id, new_group name now) (id, new_group name later)) where
  one_place : (p q : Placed) → LaterPlace now later p q → (t u : Tree) → LaterTree t u → LaterTree (with_rows p.now p.names p.rows t) (with_rows q.now q.names q.rows u)
  one_place p q place t u l =
      subst (λ (n : ℕ). LaterTree (with_rows n p.names p.rows t) (with_rows q.now q.names q.rows u)) (sym place.moment)
      (subst (λ (n : ℕ). LaterTree (with_rows now p.names p.rows t) (with_rows n q.names q.rows u)) (sym place.after)
      (subst (λ (ns : List (List ℕ)). LaterTree (with_rows now p.names p.rows t) (with_rows later ns q.rows u)) place.names
      (later_with now later made p.rows q.rows place.rows p.names t u l)))

  pub later_places : (ps qs : List Placed) → OneByOne (LaterPlace now later) ps qs → (t u : Tree) → LaterTree t u → LaterTree (with_all_placed ps t) (with_all_placed qs u)
  later_places [] [] h t u l = l
  later_places [] (q ∷ qs) h t u l = absurd h
  later_places (p ∷ ps) [] h t u l = absurd h
  later_places (p ∷ ps) (q ∷ qs) h t u l = later_places ps qs h.1 (with_rows p.now p.names p.rows t) (with_rows q.now q.names q.rows u) (one_place p q h.0 t u l)
