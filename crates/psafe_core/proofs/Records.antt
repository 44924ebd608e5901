-- Records, one after another.
use Rattle.std.proofs.Common.{◌≡◌, ◌≢◌, ℕ, ◌+◌, ◌<◌, true, false, List, ◌∷◌, Option, Some, None, length, drop, get_or, subst, ap, ◌∙◌, inl, inr}
use Rattle.std.specs.Option.{ForSome}
use Rattle.std.specs.Borrow.{Bor}
use Rattle.std.proofs.lemmas.Bool.{cases_Bool}
use Rattle.std.proofs.lemmas.List.{drop_more}
use Rattle.psafe_core.specs.Outcome.{is_nil, nil_record}
use Rattle.psafe_core.specs.Records.{own_id}
use Rattle.psafe_file.specs.Fields.{SafeField}
use Rattle.psafe_file.specs.SeenFields.{fields_seen, records_seen}
use Rattle.psafe_file.specs.declared.fields.SafeField as memory
use Rattle.vault_model.specs.Db.{NodeId, nil_id}

-- Where no record has the nil id, the first has not, and no later one has.
pub first_not_nil : (number : ℕ) (r : List SafeField) (rs : List (List SafeField)) → nil_record number (r ∷ rs) ≡ None
    → (is_nil (own_id r) ≡ false) × (nil_record (number + 1) rs ≡ None)
first_not_nil number r rs none = elim (cases_Bool (is_nil (own_id r))) [
  | inl same ↦ absurd (first_nil same)
  | inr other ↦ (other, rw other at none)
] where
  first_nil : is_nil (own_id r) ≡ true → ⊥
  first_nil same = let h = rw same at none in cc

-- an id that is not nil
pub not_nil : (own : Option NodeId) → is_nil own ≡ false → ForSome own (λ id. id ≢ nil_id)
not_nil own other id is same =
    let e : true ≡ false = subst (λ (o : Option NodeId). is_nil o ≡ false) (is ∙ ap Some same) other in cc

module _ (records : List (Bor (List memory.SafeField))) (at : ℕ) (d : Bor (List memory.SafeField)) (within : at < length records) (total : Option ℕ)
    (so_far : nil_record (at + 1) (records_seen (drop at records)) ≡ total) where
  here : nil_record (at + 1) (records_seen (get_or records at d ∷ drop (at + 1) records)) ≡ total
  here = subst (λ (l : List (Bor (List memory.SafeField))). nil_record (at + 1) (records_seen l) ≡ total) (drop_more records at d within) so_far

  -- The record here has the nil id.
  pub nil_here : is_nil (own_id (fields_seen (get_or records at d).now)) ≡ true → Some (at + 1) ≡ total
  nil_here is = rw is at here

  -- It has not.
  pub nil_later : is_nil (own_id (fields_seen (get_or records at d).now)) ≡ false
      → nil_record (at + 1 + 1) (records_seen (drop (at + 1) records)) ≡ total
  nil_later is = rw is at here
