-- Groups below the last level, and the least of some ids.
use Rattle.std.proofs.Common.{◌≡◌, ◌≤◌, ◌-◌, true, Result, Ok, Err, OnOk, append_assoc, append-nil, ℕ, suc, zero, List, [], ◌∷◌, ◌++◌, Option, None, Some, map, refl, sym, ap, ◌∙◌, arith}
use Rattle.doc_resolving.specs.DocForms.Ids.{least_duplicate}
use Rattle.doc_resolving.proofs.ResolvedTrees.{distinct_ids}
use Rattle.outside_core.specs.Results.{◌>>=◌}
use Rattle.vault_model.specs.Db.{NodeId}
use Rattle.vault_model.specs.SeenNodes.{tree_seen}
use Rattle.vault_model.specs.Tree.{LEVELS, Tree, Trees, all_trees, are_distinct, beside, height, height_all, node, node_ids, none}
use Rattle.vault_model.specs.declared.nodes.Group.{Group, out-Group}
use Rattle.vault_model.proofs.SeenGroups.{seen_group}
use Rattle.import_tree.specs.declared.fails.TreeFail.{TreeFail}
use Rattle.import_tree.specs.Outcome.{Returns, sound_tree, groups_below, groups_below_among, least_id, refuse_depth, refuse_duplicate}

-- where no group is below so many levels, the tree has no more
none_below : {A : Type 0} (xs ys : List A) → xs ++ ys ≡ [] → (xs ≡ []) × (ys ≡ [])
none_below [] ys e = (refl, e)
none_below (x ∷ xs) ys e = absurd (cc e)

mutual
  pub no_higher : (n : ℕ) (t : Tree) → groups_below n t ≡ [] → height t ≤ n
  no_higher zero (node id group entries groups) e = absurd (cc e)
  no_higher (suc n) (node id group entries groups) e = let below = no_higher_all n groups e in omega (arith, below)

  no_higher_all : (n : ℕ) (ts : Trees) → groups_below_among n ts ≡ [] → height_all ts ≤ n
  no_higher_all n none e = omega arith
  no_higher_all n (beside t ts) e =
      let parts = none_below (groups_below n t) (groups_below_among n ts) e in
      let here = no_higher n t parts.0 in
      let rest = no_higher_all n ts parts.1 in
      omega (arith, here, rest)

pub no_least : (us : List NodeId) → least_id us ≡ None → us ≡ []
no_least [] e = refl
no_least (u ∷ us) e = absurd (cc e)

-- ---- the ids that are pushed

abbrev trees : List Group → Trees
trees gs = all_trees (map tree_seen gs)

-- the id of a group on whose level no group may be
abbrev pub own : ℕ → List NodeId → Group → List NodeId
own zero before g = before ++ (out-Group g).id ∷ []
own (suc n) before g = before

pub own_other : (levels : ℕ) (before : List NodeId) (g : Group) → (levels ≡ 0 → ⊥) → own levels before g ≡ before
own_other zero before g other = absurd (other refl)
own_other (suc n) before g other = refl

pub pushed : (levels below : ℕ) (before here after : List NodeId) (g : Group) (gs rest : List Group) → below ≡ levels - 1 → here ≡ own levels before g → gs ≡ (out-Group g).groups
    → here ++ groups_below_among below (trees gs) ≡ after ++ groups_below_among below (trees rest) → rest ≡ [] → after ≡ before ++ groups_below levels (tree_seen g)
pushed zero below before here after g gs rest b h is loop end =
    sym (append-nil after)
    ∙ ap (λ xs. after ++ groups_below_among below (trees xs)) (sym end)
    ∙ sym loop
    ∙ ap (λ us. us ++ groups_below_among below (trees gs)) h
    ∙ ap (λ n. (before ++ (out-Group g).id ∷ []) ++ groups_below_among n (trees gs)) b
    ∙ ap (λ xs. (before ++ (out-Group g).id ∷ []) ++ groups_below_among 0 (trees xs)) is
    ∙ append_assoc before ((out-Group g).id ∷ []) (groups_below_among 0 (trees (out-Group g).groups))
    ∙ ap (λ t. before ++ groups_below 0 t) (sym (seen_group g))
pushed (suc n) below before here after g gs rest b h is loop end =
    let same : below ≡ n = omega (arith, b) in
    sym (append-nil after)
    ∙ ap (λ xs. after ++ groups_below_among below (trees xs)) (sym end)
    ∙ sym loop
    ∙ ap (λ us. us ++ groups_below_among below (trees gs)) h
    ∙ ap (λ m. before ++ groups_below_among m (trees gs)) same
    ∙ ap (λ xs. before ++ groups_below_among n (trees xs)) is
    ∙ ap (λ t. before ++ groups_below (suc n) t) (sym (seen_group g))

-- ---- a tree that is not refused

pub record IsFine (t : Tree) : Type 0 where
  pub distinct : are_distinct (node_ids t) ≡ true
  pub levels : height t ≤ LEVELS

fine_by : (duplicate deep : Option NodeId) (u : Unit {0}) → (refuse_duplicate duplicate >>= λ _. refuse_depth deep) ≡ Ok u → (duplicate ≡ None) × (deep ≡ None)
fine_by None None u e = (refl, refl)
fine_by None (Some id) u e = absurd (cc e)
fine_by (Some id) deep u e = absurd (cc e)

pub fine : (t : Tree) (u : Unit {0}) → sound_tree t ≡ Ok u → IsFine t
fine t u e =
    let facts = fine_by (least_duplicate (node_ids t)) (least_id (groups_below LEVELS t)) u e in
    record {
      distinct = distinct_ids (node_ids t) facts.0;
      levels = no_higher LEVELS t (no_least (groups_below LEVELS t) facts.1);
    }

pub fits : (t : Tree) (result : Result (Unit {0}) TreeFail) → Returns (λ (u : Unit {0}). u) result (sound_tree t) → OnOk result (height t ≤ LEVELS)
fits t (Ok u) e = (fine t u e).levels
fits t (Err fail) e = tt
