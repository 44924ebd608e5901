-- What the members have of one thing, joined one member at a time.
use Rattle.std.proofs.Common.{◌≡◌, Option, None, Some, sym, ap, ◌∙◌}
use Rattle.std.specs.declared.cmp.Ordering.{Ordering}
use Rattle.std.specs.Cmp.{IsTotalOrder}
use Rattle.std.specs.FinMap.{FinMap, IsAntisymmetric, empty}
use Rattle.vault_model.specs.Unite.{join_options, unite}
use Rattle.merge_core.proofs.Semilattice.{IsJoin, merged_join}
use Rattle.merge_tables.proofs.UniteMaps.{unite_with_none}

-- what was joined so far takes in the next
pub gather_next : {A : Type 0} {f : A → A → A} → IsJoin f → (so_far next rest : Option A) → join_options f so_far (join_options f next rest) ≡ join_options f (join_options f next so_far) rest
gather_next {f = f} j so_far next rest =
    let w = merged_join j in
    sym (w.assoc so_far next rest) ∙ ap (λ x. join_options f x rest) (w.comm so_far next)

module _ {K X : Type 0} {R : K → K → Ordering} (o : IsTotalOrder R) (same : IsAntisymmetric R) (f : X → X → X) where
  -- what one more member has, and what there was so far
  pub merge_in : (v all new : FinMap R X) (so_far : Option (FinMap R X)) → new ≡ unite f v all → so_far ≡ Some all → Some new ≡ join_options (unite f) (Some v) so_far
  merge_in v all new so_far e s = ap Some e ∙ sym (ap (join_options (unite f) (Some v)) s)

  pub merge_first : (v all new : FinMap R X) (so_far : Option (FinMap R X)) → new ≡ unite f v all → so_far ≡ None → all ≡ empty → Some new ≡ join_options (unite f) (Some v) so_far
  merge_first v all new so_far e s a = ap Some (e ∙ ap (unite f v) a ∙ unite_with_none o same f v) ∙ sym (ap (join_options (unite f) (Some v)) s)
