-- Groups that places make, taken apart by the names that lead to the places.
use Rattle.std.proofs.Common.{◌≡◌, ◌≤◌, ◌+◌, ◌-◌, ℕ, suc, zero, Bool, true, false, cond, List, [], ◌∷◌, ◌++◌, None, Some, length, map, append_assoc, append-nil, subst, refl, sym, ap, ◌∙◌, arith}
use Rattle.std.proofs.lemmas.List.{map-append}
use Rattle.std.proofs.lemmas.Slice.Eq.{bytes_eq-Decides}
use Rattle.std.specs.Str.{bytes_eq}
use Rattle.vault_model.specs.Db.{NodeId}
use Rattle.vault_model.specs.Empty.{new_group}
use Rattle.vault_model.specs.Shape.{EntryRecord, GroupRecord}
use Rattle.vault_model.specs.Tree.{Tree, Trees, beside, node, node_ids_all, none}
use Rattle.vault_model.specs.Walk.{name_of}
use Rattle.import_tree.specs.Branches.{deep_id, deep_in, places_below, first_name, first_of, groups_of, ids_in, inside, others, own_ids, own_rows, with_inside, with_named, with_other, with_own, with_way}
use Rattle.import_ids.specs.Ids.{named_id}
use Rattle.import_tree.specs.Outcome.{groups_below_among}
use Rattle.import_tree.specs.SeenBranches.{names_in}
use Rattle.import_tree.specs.Trees.{Placed, new_groups, with_all_placed, with_rows, with_rows_among}

abbrev id_of : NodeId × EntryRecord → NodeId
id_of row = row.0

-- ---- one place after others

own_with : (names : List (List ℕ)) (rows more : List (NodeId × EntryRecord)) → with_own names rows more ≡ with_own names rows [] ++ more
own_with [] rows more = ap (λ xs. xs ++ more) (sym (append-nil rows))
own_with (name ∷ names) rows more = refl

pub own_ids_with : (names : List (List ℕ)) (rows more : List (NodeId × EntryRecord)) → map id_of (with_own names rows more) ≡ map id_of (with_own names rows []) ++ map id_of more
own_ids_with [] rows more = map-append id_of rows more ∙ ap (λ xs. map id_of xs ++ map id_of more) (sym (append-nil rows))
own_ids_with (name ∷ names) rows more = refl

pub named_with : (names : List (List ℕ)) (p : Placed) (ps : List Placed) → with_named names p ps ≡ with_named names p [] ++ ps
named_with [] p ps = refl
named_with (name ∷ names) p ps = refl

either_one : (b : Bool) (p : Placed) (ps : List Placed) → cond b (p ∷ ps) ps ≡ cond b (p ∷ []) [] ++ ps
either_one true p ps = refl
either_one false p ps = refl

either_other : (b : Bool) (p : Placed) (ps : List Placed) → cond b ps (p ∷ ps) ≡ cond b [] (p ∷ []) ++ ps
either_other true p ps = refl
either_other false p ps = refl

pub inside_with : (name : List ℕ) (names : List (List ℕ)) (p : Placed) (ps : List Placed) → with_inside name names p ps ≡ with_inside name names p [] ++ ps
inside_with name [] p ps = refl
inside_with name (first ∷ names) p ps = either_one (bytes_eq name first) (record p { names = names }) ps

pub other_with : (name : List ℕ) (names : List (List ℕ)) (p : Placed) (ps : List Placed) → with_other name names p ps ≡ with_other name names p [] ++ ps
other_with name [] p ps = refl
other_with name (first ∷ names) p ps = either_other (bytes_eq name first) p ps

-- ---- what places make of a group

module _ (id : NodeId) where
  spread_one : (now : ℕ) (names : List (List ℕ)) (rows : List (NodeId × EntryRecord)) (r : GroupRecord) (es : List (NodeId × EntryRecord)) (ts : Trees)
      → with_rows now names rows (node id r es ts) ≡ node id r (es ++ with_own names rows []) (with_way id names (record { now = now; names = names; rows = rows }) ts)
  spread_one now [] rows r es ts = ap (λ xs. node id r (es ++ xs) ts) (sym (append-nil rows))
  spread_one now (name ∷ names) rows r es ts = ap (λ xs. node id r xs (with_rows_among now id name names rows ts)) (sym (append-nil es))

  -- a group has its own entries after them, and its groups have the others
  pub spread : (ps : List Placed) (r : GroupRecord) (es : List (NodeId × EntryRecord)) (ts : Trees) → with_all_placed ps (node id r es ts) ≡ node id r (es ++ own_rows ps) (groups_of id ps ts)
  spread [] r es ts = ap (λ xs. node id r xs ts) (sym (append-nil es))
  spread (p ∷ ps) r es ts =
      ap (with_all_placed ps) (spread_one p.now p.names p.rows r es ts)
      ∙ spread ps r (es ++ with_own p.names p.rows []) (with_way id p.names p ts)
      ∙ ap (λ xs. node id r xs (groups_of id (p ∷ ps) ts))
      (append_assoc es (with_own p.names p.rows []) (own_rows ps) ∙ ap (λ xs. es ++ xs) (sym (own_with p.names p.rows (own_rows ps))))

name_kept : (now : ℕ) (names : List (List ℕ)) (rows : List (NodeId × EntryRecord)) (t : Tree) → name_of (with_rows now names rows t) ≡ name_of t
name_kept now [] rows (node id r es ts) = refl
name_kept now (name ∷ names) rows (node id r es ts) = refl

pub new_is : (now : ℕ) (parent : NodeId) (name : List ℕ) (names : List (List ℕ)) (rows : List (NodeId × EntryRecord))
    → new_groups now parent name names rows ≡ with_rows now names rows (node (named_id parent name) (new_group name now) [] none)
new_is now parent name [] rows = refl
new_is now parent name (next ∷ names) rows = refl

-- ---- the first of some groups takes the places of its name

module _ (id : NodeId) (name : List ℕ) where
  abbrev Takes : List Placed → Type 0
  Takes ps = (t : Tree) (ts : Trees) → name_of t ≡ name → groups_of id ps (beside t ts) ≡ beside (with_all_placed (inside name ps) t) (groups_of id (others name ps) ts)

  takes_either : (ps : List Placed) → Takes ps → (now : ℕ) (first : List ℕ) (names : List (List ℕ)) (rows : List (NodeId × EntryRecord)) (t : Tree) (ts : Trees) → name_of t ≡ name → (b : Bool)
      → groups_of id ps (cond b (beside (with_rows now names rows t) ts) (beside t (with_rows_among now id first names rows ts)))
      ≡ beside (with_all_placed (cond b (record { now = now; names = names; rows = rows } ∷ inside name ps) (inside name ps)) t)
      (groups_of id (cond b (others name ps) (record { now = now; names = first ∷ names; rows = rows } ∷ others name ps)) ts)
  takes_either ps rest now first names rows t ts is true = rest (with_rows now names rows t) ts (name_kept now names rows t ∙ is)
  takes_either ps rest now first names rows t ts is false = rest t (with_rows_among now id first names rows ts) is

  takes_one : (ps : List Placed) → Takes ps → (now : ℕ) (names : List (List ℕ)) (rows : List (NodeId × EntryRecord)) → Takes (record { now = now; names = names; rows = rows } ∷ ps)
  takes_one ps rest now [] rows t ts is = rest t ts is
  takes_one ps rest now (first ∷ names) rows t ts is =
      ap (λ x. groups_of id ps (cond (bytes_eq x first) (beside (with_rows now names rows t) ts) (beside t (with_rows_among now id first names rows ts)))) is
      ∙ takes_either ps rest now first names rows t ts is (bytes_eq name first)

  takes : (ps : List Placed) → Takes ps
  takes [] t ts is = refl
  takes (p ∷ ps) t ts is = takes_one ps (takes ps) p.now p.names p.rows t ts is

same_name : (name : List ℕ) → bytes_eq name name ≡ true
same_name name = (bytes_eq-Decides name name).1 refl

-- the group of the first name has the places of the name, and those beside it have the others
module _ (id : NodeId) (name : List ℕ) (now : ℕ) (names : List (List ℕ)) (rows : List (NodeId × EntryRecord)) (ps : List Placed) where
  abbrev all : List Placed
  all = record { now = now; names = name ∷ names; rows = rows } ∷ ps

  abbrev below : NodeId
  below = named_id id name

  inside_is : inside name all ≡ record { now = now; names = names; rows = rows } ∷ inside name ps
  inside_is = ap (λ b. cond b (record { now = now; names = names; rows = rows } ∷ inside name ps) (inside name ps)) (same_name name)

  others_is : others name all ≡ others name ps
  others_is = ap (λ b. cond b (others name ps) (record { now = now; names = name ∷ names; rows = rows } ∷ others name ps)) (same_name name)

  new_name : name_of (new_groups now id name names rows) ≡ name
  new_name = ap name_of (new_is now id name names rows) ∙ name_kept now names rows (node below (new_group name now) [] none)

  pub first_apart : groups_of id all none
      ≡ beside (node below (new_group name now) (own_rows (inside name all)) (groups_of below (inside name all) none)) (groups_of id (others name all) none)
  first_apart =
      takes id name ps (new_groups now id name names rows) none new_name
      ∙ ap (λ t. beside (with_all_placed (inside name ps) t) (groups_of id (others name ps) none)) (new_is now id name names rows)
      ∙ ap (λ xs. beside (with_all_placed xs (node below (new_group name now) [] none)) (groups_of id (others name ps) none)) (sym inside_is)
      ∙ ap (λ t. beside t (groups_of id (others name ps) none)) (spread below (inside name all) (new_group name now) [] none)
      ∙ ap (λ xs. beside (node below (new_group name now) (own_rows (inside name all)) (groups_of below (inside name all) none)) (groups_of id xs none)) (sym others_is)

deep_one : (levels : ℕ) (id : NodeId) (r : GroupRecord) (es : List (NodeId × EntryRecord)) (ts rest : Trees)
    → groups_below_among levels (beside (node id r es ts) rest) ≡ deep_id levels id ++ (groups_below_among (levels - 1) ts ++ groups_below_among levels rest)
deep_one zero id r es ts rest = ap (λ n. id ∷ (groups_below_among n ts ++ groups_below_among 0 rest)) (let e : 0 ≡ 0 - 1 = omega arith in e)
deep_one (suc n) id r es ts rest = ap (λ m. groups_below_among m ts ++ groups_below_among (suc n) rest) (let e : n ≡ suc n - 1 = omega arith in e)

-- ---- what is found of a branch

module _ (id : NodeId) (name : List ℕ) where
  abbrev child : NodeId
  child = named_id id name

  abbrev Ids : List Placed → Type 0
  Ids ps = node_ids_all (groups_of id ps none) ≡ child ∷ (ids_in child (inside name ps) ++ node_ids_all (groups_of id (others name ps) none))

  abbrev Deep : ℕ → List Placed → Type 0
  Deep levels ps = deep_in levels id ps ≡ deep_id levels child ++ (deep_in (levels - 1) child (inside name ps) ++ deep_in levels id (others name ps))

  abbrev Fewer : List Placed → Type 0
  Fewer ps = 1 + names_in (inside name ps) + names_in (others name ps) ≤ names_in ps

  fewer_either : (b : Bool) (p q : Placed) (ins oth : List Placed) (n : ℕ) → length p.names ≤ length q.names → names_in ins + names_in oth ≤ n
      → names_in (cond b (p ∷ ins) ins) + names_in (cond b oth (q ∷ oth)) ≤ length q.names + n
  fewer_either true p q ins oth n less rest = omega (arith, less, rest)
  fewer_either false p q ins oth n less rest = omega (arith, less, rest)

  no_more_one : (now : ℕ) (names : List (List ℕ)) (rows : List (NodeId × EntryRecord)) (ins oth : List Placed) (n : ℕ) → names_in ins + names_in oth ≤ n
      → names_in (with_inside name names (record { now = now; names = names; rows = rows }) ins) + names_in (with_other name names (record { now = now; names = names; rows = rows }) oth) ≤ length names + n
  no_more_one now [] rows ins oth n rest = omega (arith, rest)
  no_more_one now (first ∷ names) rows ins oth n rest =
      let less : length names ≤ length (first ∷ names) = omega arith in
      fewer_either (bytes_eq name first) (record { now = now; names = names; rows = rows }) (record { now = now; names = first ∷ names; rows = rows }) ins oth n less rest

  no_more : (ps : List Placed) → names_in (inside name ps) + names_in (others name ps) ≤ names_in ps
  no_more [] = omega arith
  no_more (p ∷ ps) = no_more_one p.now p.names p.rows (inside name ps) (others name ps) (names_in ps) (no_more ps)

  fewer_by : (now : ℕ) (names : List (List ℕ)) (rows : List (NodeId × EntryRecord)) (ps : List Placed) → Fewer (record { now = now; names = name ∷ names; rows = rows } ∷ ps)
  fewer_by now names rows ps =
      let ins = ap names_in (inside_is id name now names rows ps) in
      let oth = ap names_in (others_is id name now names rows ps) in
      let rest = no_more ps in
      omega (arith, ins, oth, rest)

  pub record IsApart (levels : ℕ) (ps : List Placed) : Type 0 where
    pub ids : Ids ps
    pub deep : Deep levels ps
    pub fewer : Fewer ps

  apart_by : (levels now : ℕ) (names : List (List ℕ)) (rows : List (NodeId × EntryRecord)) (ps : List Placed) → IsApart levels (record { now = now; names = name ∷ names; rows = rows } ∷ ps)
  apart_by levels now names rows ps =
      let qs : List Placed = record { now = now; names = name ∷ names; rows = rows } ∷ ps in
      let whole = first_apart id name now names rows ps in
      record {
        ids = ap node_ids_all whole;
        deep = ap (groups_below_among levels) whole
            ∙ deep_one levels child (new_group name now) (own_rows (inside name qs)) (groups_of child (inside name qs) none) (groups_of id (others name qs) none);
        fewer = fewer_by now names rows ps;
      }

  apart_first : (levels now : ℕ) (names : List (List ℕ)) (rows : List (NodeId × EntryRecord)) (ps : List Placed) → first_of names ≡ Some name → IsApart levels (record { now = now; names = names; rows = rows } ∷ ps)
  apart_first levels now [] rows ps e = absurd (cc e)
  apart_first levels now (first ∷ names) rows ps e =
      let same : name ≡ first = cc e in
      subst (λ (n : List ℕ). IsApart levels (record { now = now; names = n ∷ names; rows = rows } ∷ ps)) same (apart_by levels now names rows ps)

  pub apart : (levels : ℕ) (ps : List Placed) → first_name ps ≡ Some name → IsApart levels ps
  apart levels [] e = absurd (cc e)
  apart levels (p ∷ ps) e = apart_first levels p.now p.names p.rows ps e

-- ---- the places to which more names lead

own_named_one : (now : ℕ) (names : List (List ℕ)) (rows : List (NodeId × EntryRecord)) (ps : List Placed) → own_rows ps ≡ [] → own_rows (with_named names (record { now = now; names = names; rows = rows }) ps) ≡ []
own_named_one now [] rows ps rest = rest
own_named_one now (name ∷ names) rows ps rest = rest

own_named : (ps : List Placed) → own_rows (places_below ps) ≡ []
own_named [] = refl
own_named (p ∷ ps) = own_named_one p.now p.names p.rows (places_below ps) (own_named ps)

groups_named_one : (id : NodeId) (now : ℕ) (names : List (List ℕ)) (rows : List (NodeId × EntryRecord)) (ps : List Placed) (ts : Trees) → ((us : Trees) → groups_of id (places_below ps) us ≡ groups_of id ps us)
    → groups_of id (with_named names (record { now = now; names = names; rows = rows }) (places_below ps)) ts ≡ groups_of id ps (with_way id names (record { now = now; names = names; rows = rows }) ts)
groups_named_one id now [] rows ps ts rest = rest ts
groups_named_one id now (name ∷ names) rows ps ts rest = rest (with_rows_among now id name names rows ts)

groups_named : (id : NodeId) (ps : List Placed) (ts : Trees) → groups_of id (places_below ps) ts ≡ groups_of id ps ts
groups_named id [] ts = refl
groups_named id (p ∷ ps) ts = groups_named_one id p.now p.names p.rows ps ts (groups_named id ps)

names_named_one : (now : ℕ) (names : List (List ℕ)) (rows : List (NodeId × EntryRecord)) (ps : List Placed) → names_in (with_named names (record { now = now; names = names; rows = rows }) ps) ≡ length names + names_in ps
names_named_one now [] rows ps = omega arith
names_named_one now (name ∷ names) rows ps = refl

names_named : (ps : List Placed) → names_in (places_below ps) ≡ names_in ps
names_named [] = refl
names_named (p ∷ ps) =
    let here = names_named_one p.now p.names p.rows (places_below ps) in
    let rest = names_named ps in
    omega (arith, here, rest)

own_either : (b : Bool) (p : Placed) (oth ps : List Placed) → own_rows oth ≡ own_rows ps → own_rows (p ∷ []) ≡ [] → own_rows (cond b oth (p ∷ oth)) ≡ own_rows ps
own_either true p oth ps rest is = rest
own_either false p oth ps rest is = own_with p.names p.rows (own_rows oth) ∙ ap (λ more. more ++ own_rows oth) is ∙ rest

own_others_one : (name : List ℕ) (now : ℕ) (names : List (List ℕ)) (rows : List (NodeId × EntryRecord)) (oth ps : List Placed) → own_rows oth ≡ own_rows ps
    → own_rows (with_other name names (record { now = now; names = names; rows = rows }) oth) ≡ with_own names rows (own_rows ps)
own_others_one name now [] rows oth ps rest = ap (λ more. rows ++ more) rest
own_others_one name now (first ∷ names) rows oth ps rest = own_either (bytes_eq name first) (record { now = now; names = first ∷ names; rows = rows }) oth ps rest refl

own_others : (name : List ℕ) (ps : List Placed) → own_rows (others name ps) ≡ own_rows ps
own_others name [] = refl
own_others name (p ∷ ps) = own_others_one name p.now p.names p.rows (others name ps) ps (own_others name ps)

none_named_one : (now : ℕ) (names : List (List ℕ)) (rows : List (NodeId × EntryRecord)) (ps : List Placed) → (first_name ps ≡ None → ps ≡ [])
    → first_name (with_named names (record { now = now; names = names; rows = rows }) ps) ≡ None → with_named names (record { now = now; names = names; rows = rows }) ps ≡ []
none_named_one now [] rows ps rest e = rest e
none_named_one now (name ∷ names) rows ps rest e = absurd (cc e)

none_named : (ps : List Placed) → first_name (places_below ps) ≡ None → places_below ps ≡ []
none_named [] e = refl
none_named (p ∷ ps) e = none_named_one p.now p.names p.rows (places_below ps) (none_named ps) e

-- ---- a branch that is taken apart

module _ (levels : ℕ) (id : NodeId) (ps : List Placed) where
  pub only_own : first_name (places_below ps) ≡ None → (ids_in id ps ≡ own_ids ps) × (deep_in levels id ps ≡ [])
  only_own e =
      let nothing : groups_of id ps none ≡ none = sym (groups_named id ps none) ∙ ap (λ qs. groups_of id qs none) (none_named ps e) in (
        ap (λ ts. own_ids ps ++ node_ids_all ts) nothing ∙ append-nil (own_ids ps),
        ap (groups_below_among levels) nothing,
      )

  -- What is found of a branch: its own entries, the group of this name with what is in it, and then the other entries.
  pub record HasFirst (name : List ℕ) : Type 0 where
    pub ids : ids_in id ps ≡ own_ids ps ++ (named_id id name ∷ (ids_in (named_id id name) (inside name (places_below ps)) ++ ids_in id (others name (places_below ps))))
    pub deep : deep_in levels id ps
        ≡ deep_id levels (named_id id name) ++ (deep_in (levels - 1) (named_id id name) (inside name (places_below ps)) ++ deep_in levels id (others name (places_below ps)))
    pub fewer : 1 + names_in (inside name (places_below ps)) + names_in (others name (places_below ps)) ≤ names_in ps

  pub has_first : (name : List ℕ) → first_name (places_below ps) ≡ Some name → HasFirst name
  has_first name e =
      let known = apart id name levels (places_below ps) e in
      let same = groups_named id ps none in
      let no_own : own_ids (others name (places_below ps)) ≡ [] = ap (map id_of) (own_others name (places_below ps) ∙ own_named ps) in
      let count = names_named ps in
      let few = known.fewer in
      record {
        ids = ap (λ ts. own_ids ps ++ node_ids_all ts) (sym same)
            ∙ ap (λ us. own_ids ps ++ us) known.ids
            ∙ ap (λ us. own_ids ps ++ (named_id id name ∷ (ids_in (named_id id name) (inside name (places_below ps)) ++ (us ++ node_ids_all (groups_of id (others name (places_below ps)) none))))) (sym no_own);
        deep = ap (groups_below_among levels) (sym same) ∙ known.deep;
        fewer = omega (arith, count, few);
      }
