-- When two ids are one.
use Rattle.std.proofs.Common.{◌≡◌, true, ap, subst}
use Rattle.std.specs.Cmp.{Equal-is, tied_itself}
use Rattle.std.specs.Ordering.{is_eq}
use Rattle.vault_model.specs.Db.{NodeId, id_cmp}
use Rattle.vault_model.specs.Join.{is_id}
use Rattle.vault_model.proofs.Orders.{id_order}

-- Ids that are found equal are equal.
pub same_id : (u v : NodeId) → is_id u v ≡ true → u ≡ v
same_id u v found = id_order.same u v ((Equal-is (id_cmp u v)).0 found)

-- An id is found equal to itself.
pub id_itself : (u : NodeId) → is_id u u ≡ true
id_itself u = ap is_eq (tied_itself id_order.total u)

-- Equal ids are found equal.
pub is_same_id : (u v : NodeId) → u ≡ v → is_id u v ≡ true
is_same_id u v p = subst (λ (w : NodeId). is_id u w ≡ true) p (id_itself u)
