-- Fields gathered, one after another.
use Rattle.std.proofs.Common.{◌≡◌, ℕ, zero, suc, ◌+◌, ◌-◌, ◌<◌, Bool, true, false, not, cond, List, [], ◌∷◌, ◌++◌, map, drop, length, get_or, refl, sym, ap, ◌∙◌, arith}
use Rattle.std.proofs.Math.Seq.{drop-cons}
use Rattle.std.proofs.lemmas.List.{drop-map}
use Rattle.std.specs.List.{enumerate_from}
use Rattle.bitwarden_fields.specs.Keys.{first_free, has_key, numbered_key, with_field, with_fields}
use Rattle.bitwarden_fields.specs.Said.{address_field}
use Rattle.serde_json.specs.View.{view}
use Rattle.serde_json.specs.declared.value.Value.{Value}
use Rattle.vault_model.specs.Bare.{BareField}

-- more fields, and then more
pub with_both : (a b s : List BareField) → with_fields (a ++ b) s ≡ with_fields b (with_fields a s)
with_both [] b s = refl
with_both (f ∷ a) b s = with_both a b (with_field f s)

-- ---- free keys

pub is_free : (n number : ℕ) (fields : List BareField) (key : List ℕ) → 0 < n → has_key fields (numbered_key key number) ≡ false → first_free n number fields key ≡ numbered_key key number
is_free zero number fields key some other = absurd (omega (arith, some))
is_free (suc n) number fields key some other = ap (λ b. cond b (first_free n (suc number) fields key) (numbered_key key number)) other

pub is_taken : (n number : ℕ) (fields : List BareField) (key : List ℕ) → 0 < n → has_key fields (numbered_key key number) ≡ true → first_free n number fields key ≡ first_free (n - 1) (number + 1) fields key
is_taken zero number fields key some other = absurd (omega (arith, some))
is_taken (suc n) number fields key some other =
    ap (λ b. cond b (first_free n (suc number) fields key) (numbered_key key number)) other
    ∙ ap (λ m. first_free m (suc number) fields key) (let same : n ≡ suc n - 1 = omega arith in same)
    ∙ ap (λ m. first_free (suc n - 1) m fields key) (let same : suc number ≡ number + 1 = omega arith in same)

-- the test of a negated condition
pub was_true : (b : Bool) → not b ≡ false → b ≡ true
was_true true e = refl
was_true false e = cc e

-- ---- addresses, one after another

pub address_more : (addresses : List Value) (at : ℕ) (a : Value) (s now : List BareField) → at < length addresses → a ≡ get_or addresses at a
    → now ≡ with_fields (address_field (at + 1, view a) ∷ []) s
    → with_fields (map address_field (enumerate_from (at + 1) (drop at (map view addresses)))) s
    ≡ with_fields (map address_field (enumerate_from (at + 1 + 1) (drop (at + 1) (map view addresses)))) now
address_more addresses at a s now less is made =
    let next : suc at ≡ at + 1 = omega arith in
    let rest : drop at (map view addresses) ≡ view a ∷ drop (at + 1) (map view addresses) =
    drop-map view at addresses ∙ ap (map view) (drop-cons addresses at a less) ∙ ap (λ v. view v ∷ map view (drop (suc at) addresses)) (sym is)
    ∙ ap (λ n. view a ∷ map view (drop n addresses)) next ∙ ap (λ ds. view a ∷ ds) (sym (drop-map view (at + 1) addresses)) in
    ap (λ ds. with_fields (map address_field (enumerate_from (at + 1) ds)) s) rest
    ∙ ap (λ t. with_fields (map address_field (enumerate_from (at + 1 + 1) (drop (at + 1) (map view addresses)))) t) (sym made)
