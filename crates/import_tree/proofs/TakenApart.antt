-- Branches of a draft, which are taken apart one after another.
use Rattle.std.proofs.Common.{◌≡◌, ◌+◌, ◌-◌, ℕ, List, [], ◌∷◌, ◌++◌, None, Some, append_assoc, append-nil, sym, ap, ◌∙◌, arith}
use Rattle.vault_model.specs.Db.{NodeId}
use Rattle.import_tree.specs.Branches.{deep_id, deep_in, places_below, first_name, ids_in, inside, others, own_ids}
use Rattle.import_ids.specs.Ids.{named_id}
use Rattle.import_tree.specs.SeenBranches.{TakesApart, all_deep, all_ids, all_steps, branch_deep, branch_ids, branch_steps, names_in, ways_seen}
use Rattle.import_tree.specs.Trees.{Placed, with_all_placed}
use Rattle.import_tree.specs.declared.branches.Branch.{Branch}
use Rattle.import_tree.specs.declared.depths.TreeIds.{TreeIds}
use Rattle.vault_model.specs.Shape.{GroupRecord}
use Rattle.vault_model.specs.Tree.{node, node_ids, none}
use Rattle.import_tree.specs.Outcome.{groups_below}
use Rattle.import_tree.proofs.Apart.{has_first, only_own, spread}

-- ---- one more branch

pub ids_pushed : (bs : List Branch) (b : Branch) → all_ids (bs ++ b ∷ []) ≡ branch_ids b ++ all_ids bs
ids_pushed [] b = sym (append-nil (branch_ids b))
ids_pushed (x ∷ bs) b = ap (λ us. us ++ branch_ids x) (ids_pushed bs b) ∙ append_assoc (branch_ids b) (all_ids bs) (branch_ids x)

pub deep_pushed : (bs : List Branch) (b : Branch) → all_deep (bs ++ b ∷ []) ≡ branch_deep b ++ all_deep bs
deep_pushed [] b = sym (append-nil (branch_deep b))
deep_pushed (x ∷ bs) b = ap (λ us. us ++ branch_deep x) (deep_pushed bs b) ∙ append_assoc (branch_deep b) (all_deep bs) (branch_deep x)

pub steps_pushed : (bs : List Branch) (b : Branch) → all_steps (bs ++ b ∷ []) ≡ branch_steps b + all_steps bs
steps_pushed [] b = omega arith
steps_pushed (x ∷ bs) b = let rest = steps_pushed bs b in omega (arith, rest)

-- ---- a branch that is taken apart

after_own : (new old own all : List NodeId) → new ≡ old ++ own → new ++ all ≡ old ++ (own ++ all)
after_own new old own all e = ap (λ us. us ++ all) e ∙ append_assoc old own all

after_parts : (new old own one ins oth all found : List NodeId) → new ≡ (old ++ own) ++ one → found ≡ own ++ (one ++ (ins ++ oth)) → new ++ (ins ++ (oth ++ all)) ≡ old ++ (found ++ all)
after_parts new old own one ins oth all found e is = simp (e, is, append_assoc)

-- The first of these is the branch of the first name of a branch, and the other has the other entries.
pub record AreParts (branch : Branch) (name : List ℕ) (one rest : Branch) : Type 0 where
  pub one_id : one.id ≡ named_id branch.id name
  pub one_levels : one.levels ≡ branch.levels - 1
  pub one_ways : ways_seen one.ways.items ≡ inside name (places_below (ways_seen branch.ways.items))
  pub rest_id : rest.id ≡ branch.id
  pub rest_levels : rest.levels ≡ branch.levels
  pub rest_ways : ways_seen rest.ways.items ≡ others name (places_below (ways_seen branch.ways.items))

module _ (branch : Branch) (old new : TreeIds) where
  abbrev ps : List Placed
  ps = ways_seen branch.ways.items

  -- nothing but own entries
  pub nothing_left : first_name (places_below ps) ≡ None → new.ids.items ≡ old.ids.items ++ own_ids ps → new.deep.items ≡ old.deep.items → new.branches.items ≡ old.branches.items → TakesApart branch old new
  nothing_left e ids deep left =
      let known = only_own branch.levels branch.id ps e in
      let fewer : all_steps new.branches.items ≡ all_steps old.branches.items = ap all_steps left in
      record {
        ids = ap (λ bs. new.ids.items ++ all_ids bs) left
            ∙ after_own new.ids.items old.ids.items (own_ids ps) (all_ids old.branches.items) ids
            ∙ ap (λ us. old.ids.items ++ (us ++ all_ids old.branches.items)) (sym known.0);
        deep = ap (λ bs. new.deep.items ++ all_deep bs) left
            ∙ ap (λ us. us ++ all_deep old.branches.items) deep
            ∙ ap (λ us. old.deep.items ++ (us ++ all_deep old.branches.items)) (sym known.1);
        fewer = omega (arith, fewer);
      }

  module _ (name : List ℕ) (one rest : Branch) where
    -- its own entries and its first group
    pub parts_left : first_name (places_below ps) ≡ Some name → AreParts branch name one rest → new.ids.items ≡ (old.ids.items ++ own_ids ps) ++ named_id branch.id name ∷ []
        → new.deep.items ≡ old.deep.items ++ deep_id branch.levels (named_id branch.id name) → new.branches.items ≡ (old.branches.items ++ rest ∷ []) ++ one ∷ [] → TakesApart branch old new
    parts_left e are ids deep left =
        let known = has_first branch.levels branch.id ps name e in
        let pushed = old.branches.items ++ rest ∷ [] in
        let one_ids : branch_ids one ≡ ids_in (named_id branch.id name) (inside name (places_below ps)) =
        ap (λ u. ids_in u (ways_seen one.ways.items)) are.one_id ∙ ap (ids_in (named_id branch.id name)) are.one_ways in
        let rest_ids : branch_ids rest ≡ ids_in branch.id (others name (places_below ps)) = ap (λ u. ids_in u (ways_seen rest.ways.items)) are.rest_id ∙ ap (ids_in branch.id) are.rest_ways in
        let one_deep : branch_deep one ≡ deep_in (branch.levels - 1) (named_id branch.id name) (inside name (places_below ps)) =
        ap (λ n. deep_in n one.id (ways_seen one.ways.items)) are.one_levels
        ∙ ap (λ u. deep_in (branch.levels - 1) u (ways_seen one.ways.items)) are.one_id ∙ ap (deep_in (branch.levels - 1) (named_id branch.id name)) are.one_ways in
        let rest_deep : branch_deep rest ≡ deep_in branch.levels branch.id (others name (places_below ps)) =
        ap (λ n. deep_in n rest.id (ways_seen rest.ways.items)) are.rest_levels
        ∙ ap (λ u. deep_in branch.levels u (ways_seen rest.ways.items)) are.rest_id ∙ ap (deep_in branch.levels branch.id) are.rest_ways in
        let open_ids : all_ids new.branches.items ≡ branch_ids one ++ (branch_ids rest ++ all_ids old.branches.items) =
        ap all_ids left ∙ ids_pushed pushed one ∙ ap (λ us. branch_ids one ++ us) (ids_pushed old.branches.items rest) in
        let open_deep : all_deep new.branches.items ≡ branch_deep one ++ (branch_deep rest ++ all_deep old.branches.items) =
        ap all_deep left ∙ deep_pushed pushed one ∙ ap (λ us. branch_deep one ++ us) (deep_pushed old.branches.items rest) in
        let steps : all_steps new.branches.items ≡ branch_steps one + (branch_steps rest + all_steps old.branches.items) =
        ap all_steps left ∙ steps_pushed pushed one ∙ ap (λ n. branch_steps one + n) (steps_pushed old.branches.items rest) in
        let one_steps = ap names_in are.one_ways in
        let rest_steps = ap names_in are.rest_ways in
        let fewer = known.fewer in
        record {
          ids = ap (λ us. new.ids.items ++ us) open_ids
              ∙ after_parts new.ids.items old.ids.items (own_ids ps) (named_id branch.id name ∷ []) (branch_ids one) (branch_ids rest) (all_ids old.branches.items) (branch_ids branch) ids
              (known.ids ∙ ap (λ us. own_ids ps ++ (named_id branch.id name ∷ (us ++ ids_in branch.id (others name (places_below ps))))) (sym one_ids)
              ∙ ap (λ us. own_ids ps ++ (named_id branch.id name ∷ (branch_ids one ++ us))) (sym rest_ids));
          deep = ap (λ us. new.deep.items ++ us) open_deep
              ∙ after_parts new.deep.items old.deep.items [] (deep_id branch.levels (named_id branch.id name)) (branch_deep one) (branch_deep rest) (all_deep old.branches.items) (branch_deep branch)
              (deep ∙ ap (λ us. us ++ deep_id branch.levels (named_id branch.id name)) (sym (append-nil old.deep.items)))
              (known.deep ∙ ap (λ us. deep_id branch.levels (named_id branch.id name) ++ (us ++ deep_in branch.levels branch.id (others name (places_below ps)))) (sym one_deep)
              ∙ ap (λ us. deep_id branch.levels (named_id branch.id name) ++ (branch_deep one ++ us)) (sym rest_deep));
          fewer = omega (arith, steps, one_steps, rest_steps, fewer);
        }

-- ---- the whole draft

module _ (id : NodeId) (r : GroupRecord) (ps : List Placed) where
  pub whole_ids : node_ids (with_all_placed ps (node id r [] none)) ≡ id ∷ ids_in id ps
  whole_ids = ap node_ids (spread id ps r [] none)

  pub whole_deep : groups_below 128 (with_all_placed ps (node id r [] none)) ≡ deep_in 127 id ps
  whole_deep = ap (groups_below 128) (spread id ps r [] none)
