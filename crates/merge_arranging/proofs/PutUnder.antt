-- What a table has for each group when an id is taken out and when one more is put.
use Rattle.std.proofs.Common.{◌≡◌, Bool, true, false, cond, inl, inr, List, [], ◌∷◌, ◌++◌, Option, Some, None, refl, sym, ap, ◌∙◌, append-nil}
use Rattle.std.specs.FinMap.{FinMap, empty, get, insert, remove, get-empty, get-insert, get-remove}
use Rattle.std.specs.Option.{unwrap_or}
use Rattle.vault_model.specs.Db.{NodeId, id_cmp}
use Rattle.vault_model.specs.Join.{is_id}
use Rattle.vault_model.proofs.Ids.{same_id}
use Rattle.vault_model.proofs.Orders.{id_order}
use Rattle.vault_model.proofs.Tests.{decide}
use Rattle.merge_arranging.specs.Parents.{ids_under}

abbrev Lists : Type 0
Lists = FinMap id_cmp (List NodeId)

taken : (b : Bool) (o : Option (List NodeId)) → unwrap_or (cond b None o) [] ≡ cond b [] (unwrap_or o [])
taken true o = refl
taken false o = refl

pub ids_removed : (t : Lists) (u g : NodeId) → ids_under (remove t u) g ≡ cond (is_id g u) [] (ids_under t g)
ids_removed t u g = ap (λ o. unwrap_or o []) (get-remove id_order.total t u g) ∙ taken (is_id g u) (get t g)

pub ids_of_none : (g : NodeId) → ids_under empty g ≡ []
ids_of_none g = ap (λ o. unwrap_or o []) (get-empty id_cmp g)

-- with the ids of one group taken out, and put back with one more
pub ids_put : (old rest new : Lists) (u id : NodeId) (ids : List NodeId) → ((g : NodeId) → ids_under rest g ≡ cond (is_id g u) [] (ids_under old g))
    → ids ≡ ids_under old u ++ id ∷ [] → new ≡ insert rest u ids → (g : NodeId) → ids_under new g ≡ ids_under old g ++ cond (is_id g u) (id ∷ []) []
ids_put old rest new u id ids others all put g =
    ap (λ (t : Lists). ids_under t g) put ∙ ap (λ o. unwrap_or o []) (get-insert id_order.total rest u ids g) ∙ elim (decide (is_id g u)) [
      | inl t ↦
          ap (λ b. unwrap_or (cond b (Some ids) (get rest g)) []) t ∙ all ∙ ap (λ v. ids_under old v ++ id ∷ []) (sym (same_id g u t))
          ∙ ap (λ b. ids_under old g ++ cond b (id ∷ []) []) (sym t)
      | inr t ↦
          ap (λ b. unwrap_or (cond b (Some ids) (get rest g)) []) t ∙ others g ∙ ap (λ b. cond b [] (ids_under old g)) t ∙ sym (append-nil (ids_under old g))
          ∙ ap (λ b. ids_under old g ++ cond b (id ∷ []) []) (sym t)
    ]
