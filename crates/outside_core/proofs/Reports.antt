-- What is reported after several calls was reported after each of them.
use Rattle.std.proofs.Common.{◌≡◌, ◌∙◌, Bool, true, false, Option, Some, IfSome, refl, ap, subst}
use Rattle.outside_core.specs.Reports.{StaysTruthful, reported}

-- One call after another.
pub stays_on : (first mid last : Bool) → StaysTruthful first mid → StaysTruthful mid last → StaysTruthful first last
stays_on first mid last one other = λ now. one (other now)

-- What is reported was reported at an earlier call.
pub reported_before : {A : Type 0} (before now : Bool) (content : Option A) (it : A) → StaysTruthful before now
    → reported now content ≡ Some it → reported before content ≡ Some it
reported_before before true content it stays is = ap (λ t. reported t content) (stays refl) ∙ is
reported_before before false content it stays is = cc

-- What holds of the content that is reported at a call holds of what is reported later.
pub holds_later : {A : Type 0} (before now : Bool) (content : Option A) (P : A → Type 0) → StaysTruthful before now
    → IfSome (reported before content) P → IfSome (reported now content) P
holds_later before true content P stays holds = subst (λ t. IfSome (reported t content) P) (stays refl) holds
holds_later before false content P stays holds = tt

-- What is reported is the content, and every answer was its.
pub content_is : {A : Type 0} (now : Bool) (content : Option A) (it : A) → reported now content ≡ Some it → content ≡ Some it
content_is true content it is = is
content_is false content it is = cc

pub is_truthful : {A : Type 0} (now : Bool) (content : Option A) (it : A) → reported now content ≡ Some it → now ≡ true
is_truthful true content it is = refl
is_truthful false content it is = cc

-- Content is reported where every answer was its.
pub is_reported : {A : Type 0} (now : Bool) (content : Option A) (it : A) → now ≡ true → content ≡ Some it → reported now content ≡ Some it
is_reported now content it truthful is = ap (λ t. reported t content) truthful ∙ is
