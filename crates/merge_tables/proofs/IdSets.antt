-- Which ids a table has when one more is put.
use Rattle.std.proofs.Common.{◌≡◌, ◌||◌, Bool, true, false, cond, Some, is_some, refl, ap, ◌∙◌}
use Rattle.std.specs.FinMap.{FinMap, get, contains_key, insert, get-insert}
use Rattle.vault_model.specs.Db.{NodeId, id_cmp}
use Rattle.vault_model.specs.Join.{is_id}
use Rattle.vault_model.proofs.Orders.{id_order}

pub has_put : {X : Type 0} (t : FinMap id_cmp X) (u : NodeId) (x : X) (q : NodeId) → contains_key (insert t u x) q ≡ (is_id q u || contains_key t q)
has_put {X} t u x q = ap is_some (get-insert id_order.total t u x q) ∙ either (is_id q u)
  where
    either : (b : Bool) → is_some (cond b (Some x) (get t q)) ≡ (b || contains_key t q)
    either true = refl
    either false = refl

-- one more id, of those that are left
pub one_more : (a b rest all : Bool) → (b || (a || rest)) ≡ all → ((a || b) || rest) ≡ all
one_more true b rest all e = true_first b ∙ e
  where
    true_first : (c : Bool) → true ≡ (c || true)
    true_first true = refl
    true_first false = refl
one_more false b rest all e = e
