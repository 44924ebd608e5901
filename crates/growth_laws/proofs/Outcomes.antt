-- What a definition that may be refused says where it is not.
use Rattle.std.proofs.Common.{◌≡◌, ◌<◌, ◌+◌, ℕ, Bool, true, false, inl, inr, max, nat_lt, Option, None, Some, Result, Ok, Err, refl, sym, ap, ◌∙◌, arith}
use Rattle.std.specs.Prelude.{if◌then◌else◌}
use Rattle.outside_core.specs.Results.{◌>>=◌}
use Rattle.time_core.specs.Times.{last_stamp}
use Rattle.vault_model.proofs.Tests.{decide}
use Rattle.tree_core.specs.declared.fails.TreeFail.{TreeFail}
use Rattle.tree_core.specs.declared.fails.TreeFail.TheVariants.{StampLimit}
use Rattle.tree_core.specs.After.{named_or_refusal, refuse_if, time_after}

abbrev value : {A E : Type 0} → A → Result A E → A
value x (Ok y) = y
value x (Err e) = x

abbrev fine : {A E : Type 0} → A → Result A E
fine x = Ok x

pub same_ok : {A E : Type 0} (x y : A) → fine {E = E} x ≡ Ok y → x ≡ y
same_ok x y h = ap (value x) h

pub bind_ok : {A B E : Type 0} (r : Result A E) (next : A → Result B E) (y : B) → (r >>= next) ≡ Ok y → (x : A) × ((r ≡ Ok x) × (next x ≡ Ok y))
bind_ok (Ok x) next y h = (x, (refl, h))
bind_ok (Err e) next y h = cc h

-- the rest of a definition whose first step gives this
pub rest_ok : {A B E : Type 0} (r : Result A E) (next : A → Result B E) (x : A) (y : B) → r ≡ Ok x → (r >>= next) ≡ Ok y → next x ≡ Ok y
rest_ok r next x y is h = sym (ap (λ t. t >>= next) is) ∙ h

pub named_ok : {A : Type 0} (o : Option A) (x : A) → named_or_refusal o ≡ Ok x → o ≡ Some x
named_ok None x h = cc h
named_ok (Some y) x h = ap Some (same_ok y x h)

pub refuse_ok : (b : Bool) (fail : TreeFail) (x : Unit {0}) → refuse_if b fail ≡ Ok x → b ≡ false
refuse_ok true fail x h = cc h
refuse_ok false fail x h = refl

pub time_ok : (now time t : ℕ) → time_after now time ≡ Ok t → time < t
time_ok now time t h =
    elim (decide (nat_lt last_stamp (max now (time + 1)))) [
      | inl p ↦ cc (sym (ap (λ (b : Bool). if b then Err (StampLimit (max now (time + 1))) else Ok (max now (time + 1))) p) ∙ h)
      | inr p ↦
          let is = same_ok (max now (time + 1)) t (sym (ap (λ (b : Bool). if b then Err (StampLimit (max now (time + 1))) else Ok (max now (time + 1))) p) ∙ h) in
          omega (arith, is)
    ]
