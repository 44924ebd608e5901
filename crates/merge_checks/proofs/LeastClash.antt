-- The least that is found node by node is the least of all that pass the test.
use Rattle.std.proofs.Common.{◌≡◌, Bool, true, false, cond, List, [], ◌∷◌, ◌++◌, Option, None, Some, map, refl, sym, ap, ◌∙◌}
use Rattle.std.specs.List.{filter, flat_map}
use Rattle.vault_model.specs.Db.{NodeId}
use Rattle.vault_model.specs.Shape.{EntryRecord}
use Rattle.vault_model.specs.Tree.{BareDoc, Tree, Trees, node, none, beside, id_of, node_ids, node_ids_all}
use Rattle.vault_model.specs.Unite.{join_options}
use Rattle.merge_core.specs.NodesBelow.{below_ids}
use Rattle.merge_core.proofs.Semilattice.{merged_join}
use Rattle.merge_core.specs.Refusals.{least, lesser}
use Rattle.merge_core.proofs.Refused.{lesser_joins}
use Rattle.merge_checks.specs.Clashes.{least_with, least_with_all, clash_below, clash_in_all, clash_in_docs}

module _ (test : NodeId → Bool) where
  none_more : (o : Option NodeId) → o ≡ join_options lesser o None
  none_more None = refl
  none_more (Some u) = refl

  first_more : (b : Bool) (u : NodeId) (us : List NodeId)
      → join_options lesser (cond b (Some u) None) (least us) ≡ least (cond b (u ∷ us) us)
  first_more true u us = refl
  first_more false u us = refl

  all_least : (us : List NodeId) (so_far : Option NodeId) → least_with_all test us so_far ≡ join_options lesser so_far (least (filter test us))
  all_least [] so_far = none_more so_far
  all_least (u ∷ us) so_far =
      all_least us (least_with test so_far u)
      ∙ (merged_join lesser_joins).assoc so_far (cond (test u) (Some u) None) (least (filter test us))
      ∙ ap (join_options lesser so_far) (first_more (test u) u (filter test us))

  all_append : (us vs : List NodeId) (so_far : Option NodeId) → least_with_all test (us ++ vs) so_far ≡ least_with_all test vs (least_with_all test us so_far)
  all_append [] vs so_far = refl
  all_append (u ∷ us) vs so_far = all_append us vs (least_with test so_far u)

  head_first : (t : Tree) → node_ids t ≡ id_of t ∷ below_ids t
  head_first (node u r es ts) = refl

  mutual
    tree_all : (t : Tree) (so_far : Option NodeId) → clash_below test t so_far ≡ least_with_all test (below_ids t) so_far
    tree_all (node u r es ts) so_far =
        trees_all ts (least_with_all test (map (λ (e : NodeId × EntryRecord). e.0) es) so_far)
        ∙ sym (all_append (map (λ (e : NodeId × EntryRecord). e.0) es) (node_ids_all ts) so_far)

    trees_all : (ts : Trees) (so_far : Option NodeId) → clash_in_all test ts so_far ≡ least_with_all test (node_ids_all ts) so_far
    trees_all none so_far = refl
    trees_all (beside t ts) so_far =
        trees_all ts (clash_below test t (least_with test so_far (id_of t)))
        ∙ ap (least_with_all test (node_ids_all ts)) (tree_all t (least_with test so_far (id_of t)))
        ∙ sym (all_append (id_of t ∷ below_ids t) (node_ids_all ts) so_far)
        ∙ ap (λ us. least_with_all test (us ++ node_ids_all ts) so_far) (sym (head_first t))

  docs_all : (ds : List BareDoc) (so_far : Option NodeId) → clash_in_docs test ds so_far ≡ least_with_all test (flat_map (λ (d : BareDoc). below_ids d.tree) ds) so_far
  docs_all [] so_far = refl
  docs_all (d ∷ ds) so_far =
      docs_all ds (clash_below test d.tree so_far)
      ∙ ap (least_with_all test (flat_map (λ (e : BareDoc). below_ids e.tree) ds)) (tree_all d.tree so_far)
      ∙ sym (all_append (below_ids d.tree) (flat_map (λ (e : BareDoc). below_ids e.tree) ds) so_far)

  pub docs_least : (ds : List BareDoc) → clash_in_docs test ds None ≡ least (filter test (flat_map (λ (d : BareDoc). below_ids d.tree) ds))
  docs_least ds = docs_all ds None ∙ all_least (flat_map (λ (d : BareDoc). below_ids d.tree) ds) None
