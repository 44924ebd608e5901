-- Items of an export have no nil id.
use Rattle.std.proofs.Common.{◌≡◌, ◌≢◌, ◌+◌, ◌<◌, ℕ, suc, zero, Bool, true, false, true≢false, not, cond, List, [], ◌∷◌, Option, None, Some, Result, Ok, Err, inl, inr, length, map, get_or, nat_lt, refl, sym, ap, subst, ◌∙◌, arith}
use Rattle.std.proofs.lemmas.Bool.{le-ltb, ltb-false}
use Rattle.std.proofs.lemmas.Slice.Eq.{bytes_eq-Decides}
use Rattle.std.specs.List.{list_all, prefix_len}
use Rattle.std.specs.Option.{option_map}
use Rattle.std.specs.Prelude.{codes}
use Rattle.std.specs.Str.{bytes_eq}
use Rattle.bitwarden_forms.specs.Exports.{export_of, fault_in, first_other, folders_in, is_encrypted, items_in, json_of, refuse, refuse_encrypted, refuse_export, refuse_other}
use Rattle.bitwarden_forms.specs.Kinds.{given_id, is_folder, is_item, is_not_nil, is_object, none_or}
use Rattle.bitwarden_forms.specs.declared.fails.BitwardenFail.{BitwardenFail}
use Rattle.bitwarden_forms.specs.declared.fails.BitwardenFail.TheVariants as fail
use Rattle.outside_core.specs.Results.{◌>>=◌}
use Rattle.serde_json.specs.Data.{Data}
use Rattle.serde_json.specs.View.{view}
use Rattle.serde_json.specs.declared.value.Value.{Value}
use Rattle.vault_model.proofs.Tests.{and_both, and_true, decide}
use Rattle.vault_model.specs.Db.{NodeId, nil_id}

other_than_nil : (own : Option NodeId) → none_or (λ id. not (bytes_eq id nil_id)) own ≡ true → (id : NodeId) → own ≡ Some id → id ≢ nil_id
other_than_nil None is id e same = absurd (cc e)
other_than_nil (Some own) is id e same =
    let one : own ≡ id = cc e in
    true≢false (sym is ∙ ap not ((bytes_eq-Decides own nil_id).1 (one ∙ same)))

pub own_not_nil : (item : Data) → is_not_nil item ≡ true → (id : NodeId) → given_id item ≡ Some id → id ≢ nil_id
own_not_nil item is = other_than_nil (given_id item) is

-- each of some items
pub not_nil_at : (items : List Value) (at : ℕ) (item : Value) → list_all is_not_nil (map view items) ≡ true → at < length items → item ≡ get_or items at item → is_not_nil (view item) ≡ true
not_nil_at [] at item all less is = absurd (omega (arith, less))
not_nil_at (x ∷ items) zero item all less is = ap (λ (v : Value). is_not_nil (view v)) is ∙ (and_true (is_not_nil (view x)) (list_all is_not_nil (map view items)) all).0
not_nil_at (x ∷ items) (suc at) item all less is =
    not_nil_at items at item (and_true (is_not_nil (view x)) (list_all is_not_nil (map view items)) all).1 (omega (arith, less)) is

-- ---- no value of a list is other than of a kind

module _ (kind : Data → Bool) where
  abbrev passed : List Data → ℕ
  passed = prefix_len (λ value. not (not (kind value)))

  all_pass : (xs : List Data) → nat_lt (passed xs) (length xs) ≡ false → list_all kind xs ≡ true
  all_pass [] e = refl
  all_pass (x ∷ xs) e =
      let much = ltb-false (passed (x ∷ xs)) (suc (length xs)) e in
      elim (decide (kind x)) [
        | inl p ↦
            let whole : passed (x ∷ xs) ≡ 1 + passed xs = ap (λ b. cond (not (not b)) (1 + passed xs) 0) p in
            and_both (kind x) (list_all kind xs) p (all_pass xs (le-ltb (passed xs) (length xs) (omega (arith, whole, much))))
        | inr p ↦
            let whole : passed (x ∷ xs) ≡ 0 = ap (λ b. cond (not (not b)) (1 + passed xs) 0) p in
            absurd (omega (arith, whole, much))
      ]

  no_number : (b : Bool) (n : ℕ) → option_map (λ at. at + 1) (cond b (Some n) None) ≡ None → b ≡ false
  no_number true n e = absurd (cc e)
  no_number false n e = refl

  no_other : (xs : List Data) → first_other kind xs ≡ None → list_all kind xs ≡ true
  no_other xs e = all_pass xs (no_number (nat_lt (passed xs) (length xs)) (passed xs) e)

-- ---- an export

abbrev Test : Type 0
Test = Result (Unit {0}) BitwardenFail

last_test : (a b c d e : Test) → (a >>= λ _. b >>= λ _. c >>= λ _. d >>= λ _. e) ≡ Ok tt → e ≡ Ok tt
last_test (Ok p) (Ok q) (Ok r) (Ok s) e is = is
last_test (Ok p) (Ok q) (Ok r) (Err f) e is = absurd (cc is)
last_test (Ok p) (Ok q) (Err f) d e is = absurd (cc is)
last_test (Ok p) (Err f) c d e is = absurd (cc is)
last_test (Err f) b c d e is = absurd (cc is)

no_refusal : (number : Option ℕ) → refuse fail.NilId number ≡ Ok tt → number ≡ None
no_refusal None is = refl
no_refusal (Some n) is = absurd (cc is)

kept_value : (test : Test) (value export : Data) → (test >>= λ _. let r : Result Data BitwardenFail = Ok value in r) ≡ Ok export → (value ≡ export) × (test ≡ Ok tt)
kept_value (Ok u) value export is = (cc is, refl)
kept_value (Err f) value export is = absurd (cc is)

tested : (read : Result Data BitwardenFail) (export : Data) → (read >>= λ value. refuse_export value >>= λ _. Ok value) ≡ Ok export → refuse_export export ≡ Ok tt
tested (Ok value) export is =
    let both = kept_value (refuse_export value) value export is in
    subst (λ (v : Data). refuse_export v ≡ Ok tt) both.0 both.1
tested (Err f) export is = absurd (cc is)

pub export_not_nil : (bytes : List ℕ) (export : Data) → export_of bytes ≡ Ok export → list_all is_not_nil (items_in export) ≡ true
export_not_nil bytes export is =
    let last : refuse fail.NilId (first_other is_not_nil (items_in export)) ≡ Ok tt =
    last_test (refuse_other (is_object export)) (refuse_encrypted (is_encrypted export)) (refuse fail.FolderForm (fault_in is_folder (codes "folders") export))
    (refuse fail.Member (fault_in (is_item (folders_in export)) (codes "items") export)) (refuse fail.NilId (first_other is_not_nil (items_in export))) (tested (json_of bytes) export is) in
    no_other is_not_nil (items_in export) (no_refusal (first_other is_not_nil (items_in export)) last)
