-- Steps on which memory runs out, which say nothing of the element.
use Rattle.std.proofs.Common.{◌≡◌, Result, Ok, Err}
use Rattle.doc_forms.specs.declared.fails.DocFail.{DocFail}
use Rattle.doc_forms.specs.declared.fails.DocFail.TheVariants.{NoMemory}
use Rattle.doc_forms.specs.Refusals.{Fails}
use Rattle.doc_walk.proofs.Pieces.{carried}
use Rattle.doc_walk.specs.Steps.{Course, Rest, Steps}

pub ran_out : {X Y : Type 0} {view : X → Y} {old new : Course} {rest : Rest Y} → new.setting ≡ old.setting → Steps view old new (Err NoMemory) rest
ran_out same = record { gives = tt; left = tt; shorter = tt; setting = same }

-- the refusal of a call for which a value is defined
pub memory_ran_out : {X Y A : Type 0} {view : X → Y} {old new : Course} {rest : Rest Y} {e : DocFail} (x : A)
    → Fails e (Ok x) → new.setting ≡ old.setting → Steps view old new (Err e) rest
memory_ran_out {A = A} {e = e} x fails same = record {
  gives = carried e (let r : Result A DocFail = Ok x in r) _ (λ (never : Ok x ≡ Err e). cc) fails;
  left = tt;
  shorter = tt;
  setting = same;
}
