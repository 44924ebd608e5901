-- Steps of a definition that may be refused: the first refusal, or the next step.
use Rattle.std.proofs.Common.{◌≡◌, Bool, true, false, Option, None, Some, Result, Ok, Err, ap}
use Rattle.vault_model.specs.OutsideCore.Results.{◌>>=◌}
use Rattle.tree_core.specs.declared.fails.TreeFail.{TreeFail}
use Rattle.tree_core.specs.declared.fails.TreeFail.TheVariants.{NoSuchPath}
use Rattle.tree_core.specs.After.{named_or_refusal, refuse_if}

module _ {A B : Type 0} (next : A → Result B TreeFail) where
  pub goes_on : (r : Result A TreeFail) (a : A) → r ≡ Ok a → (r >>= next) ≡ next a
  goes_on r a e = ap (λ (x : Result A TreeFail). x >>= next) e

  pub ends : (r : Result A TreeFail) (fail : TreeFail) → r ≡ Err fail → (r >>= next) ≡ Err fail
  ends r fail e = ap (λ (x : Result A TreeFail). x >>= next) e

  -- a path that names something
  pub names : (o : Option A) (a : A) → o ≡ Some a → (named_or_refusal o >>= next) ≡ next a
  names o a e = ap (λ (x : Option A). named_or_refusal x >>= next) e

  -- a path that names nothing
  pub names_none : (o : Option A) → o ≡ None → (named_or_refusal o >>= next) ≡ Err NoSuchPath
  names_none o e = ap (λ (x : Option A). named_or_refusal x >>= next) e

module _ {B : Type 0} (next : Unit {0} → Result B TreeFail) where
  -- what would be refused does not hold
  pub passes : (b : Bool) (fail : TreeFail) → b ≡ false → (refuse_if b fail >>= next) ≡ next tt
  passes b fail e = ap (λ (x : Bool). refuse_if x fail >>= next) e

  -- and where it holds, it is refused
  pub refuses : (b : Bool) (fail : TreeFail) → b ≡ true → (refuse_if b fail >>= next) ≡ Err fail
  refuses b fail e = ap (λ (x : Bool). refuse_if x fail >>= next) e
