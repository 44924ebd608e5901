-- What is refused as too large, and what is not.
use Rattle.std.proofs.Common.{◌≡◌, ℕ, ◌≤◌, Bool, cond, List, Some, None, Result, Ok, Err, sym, ◌∙◌, ap, subst}
use Rattle.std.proofs.lemmas.Bool.{le-ltb, lt-ltb}
use Rattle.doc_write.specs.declared.writing.WriteFail.{WriteFail}
use Rattle.kdbx_frame.specs.Fields.{header_limit}
use Rattle.kdbx_seal.specs.PayloadAnswers.{JudgesEnd}
use Rattle.kdbx_seal.specs.declared.payload_fail.SealPayloadFail.{SealPayloadFail}
use Rattle.kdbx_seal.specs.declared.payload_fail.SealPayloadFail.TheVariants as payload
use Rattle.kdbx_seal.specs.Answers.{Refuses, of_payload, refusal_of}
use Rattle.kdbx_seal.specs.declared.fail.SealFail.{SealFail}
use Rattle.kdbx_seal.specs.declared.fail.SealFail.TheVariants.{TooLarge}

-- A header within the limit is not refused.
pub not_refused : (w : Result (List ℕ) WriteFail) (text : List ℕ) (end : ℕ) → w ≡ Ok text → end ≤ header_limit → refusal_of w end ≡ None
not_refused w text end is within =
    ap (λ (r : Result (List ℕ) WriteFail). refusal_of r end) is
    ∙ ap (λ (b : Bool). cond b (Some (TooLarge end)) None) (le-ltb header_limit end within)

refused_by : (r : SealPayloadFail) (w : Result (List ℕ) WriteFail) (text : List ℕ) (end : ℕ) → w ≡ Ok text → JudgesEnd (Err r) end
    → Refuses (Err (of_payload r)) (refusal_of w end)
refused_by (payload.TooLarge n) w text end is h =
    ap (λ (x : Result (List ℕ) WriteFail). refusal_of x end) is
    ∙ ap (λ (b : Bool). cond b (Some (TooLarge end)) None) (lt-ltb header_limit end h.1)
    ∙ ap (λ (k : ℕ). Some (TooLarge k)) (sym h.0)
refused_by payload.FileFault w text end is h = not_refused w text end is h
refused_by payload.NoMemory w text end is h = tt

-- A refusal of the payload is one of the file.
pub refused : (r : SealPayloadFail) (e : SealFail) (w : Result (List ℕ) WriteFail) (text : List ℕ) (end : ℕ) → e ≡ of_payload r → w ≡ Ok text
    → JudgesEnd (Err r) end → Refuses (Err e) (refusal_of w end)
refused r e w text end same is h = subst (λ (x : SealFail). Refuses (Err x) (refusal_of w end)) (sym same) (refused_by r w text end is h)
