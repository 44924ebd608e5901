-- What a step of reading answers: a value of which something holds, or a refusal that has a cause.
use Rattle.std.proofs.Common.{◌≡◌, ◌⊎◌, inl, inr, Bool, true, false, cond, Option, Some, None, Result, Ok, Err, refl, sym, ap, subst}
use Rattle.std.specs.Option.{option_or}
use Rattle.markup_grammar.specs.Answers.{Answer, start, words, stop, finish, form, depth}
use Rattle.outside_core.specs.Results.{◌>>=◌}
use Rattle.doc_forms.specs.declared.fails.DocFail.{DocFail}
use Rattle.doc_forms.specs.declared.fails.DocFail.TheVariants.{Depth, Form, NoMemory}
use Rattle.doc_forms.specs.Refusals.{markup_refusal}

-- the refusal of the markup, as it is passed on
abbrev pub refusal_by : Answer → DocFail
refusal_by (form n) = Form n
refusal_by (depth n) = Depth n
refusal_by (start place name raw) = NoMemory
refusal_by (words place raw) = NoMemory
refusal_by (stop place) = NoMemory
refusal_by finish = NoMemory

-- a refusal is that of the first cut
abbrev pub IsCutBy : Option Answer → DocFail → Type 0
IsCutBy first fail = (answer : Answer) × (first ≡ Some answer) × (refusal_by answer ≡ fail)

-- where this is the first cut, a value comes only where there is none, and is so; a refusal is that
-- of the cut, or has a cause
abbrev pub Answering : {X : Type 0} → Option Answer → (DocFail → Type 0) → (X → Type 0) → Result X DocFail → Type 0
Answering first Cause So (Ok x) = (first ≡ None) × So x
Answering first Cause So (Err fail) = Cause fail ⊎ IsCutBy first fail

-- the same of a step that reads no element
abbrev pub Ending : {X : Type 0} → (DocFail → Type 0) → (X → Type 0) → Result X DocFail → Type 0
Ending Cause So (Ok x) = So x
Ending Cause So (Err fail) = Cause fail

abbrev pub fail_in : {A E : Type 0} → E → Result A E → E
fail_in e (Ok x) = e
fail_in e (Err f) = f

pub same_fail : {A E : Type 0} (e fail : E) → ◌≡◌ {A = Result A E} (Err e) (Err fail) → e ≡ fail
same_fail e fail h = ap (fail_in e) h

module _ {X : Type 0} (first : Option Answer) (Cause : DocFail → Type 0) (So : X → Type 0) where
  -- another cause of the same refusals
  pub with_cause : (Other : DocFail → Type 0) → ((fail : DocFail) → Cause fail → Other fail) → (r : Result X DocFail) → Answering first Cause So r → Answering first Other So r
  with_cause Other f (Ok x) h = h
  with_cause Other f (Err fail) (inl c) = inl (f fail c)
  with_cause Other f (Err fail) (inr c) = inr c

  -- more of the same values
  pub with_more : (More : X → Type 0) → ((x : X) → So x → More x) → (r : Result X DocFail) → Answering first Cause So r → Answering first Cause More r
  with_more More f (Ok x) h = (h.0, f x h.1)
  with_more More f (Err fail) h = h

  -- a step that reads no element, after this one
  pub and_ending : {Y : Type 0} (Then : Y → Type 0) (r : Result X DocFail) (next : X → Result Y DocFail)
      → Answering first Cause So r → ((x : X) → So x → Ending Cause Then (next x)) → Answering first Cause Then (r >>= next)
  and_ending {Y} Then (Ok x) next h f = by (next x) (f x h.1)
    where
      by : (r : Result Y DocFail) → Ending Cause Then r → Answering first Cause Then r
      by (Ok y) k = (h.0, k)
      by (Err fail) k = inl k
  and_ending Then (Err fail) next h f = h

-- elements after an element
pub and_siblings : {X Y : Type 0} (first rest : Option Answer) (Here There Cause : DocFail → Type 0) (So : X → Type 0) (Then : Y → Type 0)
    → ((fail : DocFail) → Here fail → Cause fail) → ((fail : DocFail) → There fail → Cause fail)
    → (r : Result X DocFail) (next : X → Result Y DocFail)
    → Answering first Here So r → ((x : X) → So x → Answering rest There Then (next x)) → Answering (option_or first rest) Cause Then (r >>= next)
and_siblings {X} {Y} first rest Here There Cause So Then here there (Ok x) next h f =
    subst (λ (o : Option Answer). Answering (option_or o rest) Cause Then (next x)) (sym h.0) (with_cause rest There Then Cause there (next x) (f x h.1))
and_siblings first rest Here There Cause So Then here there (Err fail) next (inl c) f = inl (here fail c)
and_siblings first rest Here There Cause So Then here there (Err fail) next (inr c) f = inr (c.0, ap (λ (o : Option Answer). option_or o rest) c.1, c.2)

-- an end after an end
pub ends_then : {X Y : Type 0} (Cause : DocFail → Type 0) (So : X → Type 0) (Then : Y → Type 0) (r : Result X DocFail) (next : X → Result Y DocFail)
    → Ending Cause So r → ((x : X) → So x → Ending Cause Then (next x)) → Ending Cause Then (r >>= next)
ends_then Cause So Then (Ok x) next h f = f x h
ends_then Cause So Then (Err fail) next h f = h

-- another cause of the refusals at an end
pub end_cause : {X : Type 0} (Cause Other : DocFail → Type 0) (So : X → Type 0) → ((fail : DocFail) → Cause fail → Other fail) → (r : Result X DocFail) → Ending Cause So r → Ending Other So r
end_cause Cause Other So f (Ok x) h = h
end_cause Cause Other So f (Err fail) h = f fail h

-- one of two ends
pub end_of_two : {X : Type 0} (Cause : DocFail → Type 0) (So : X → Type 0) (b : Bool) (r t : Result X DocFail)
    → (b ≡ true → Ending Cause So r) → (b ≡ false → Ending Cause So t) → Ending Cause So (cond b r t)
end_of_two Cause So true r t f g = f refl
end_of_two Cause So false r t f g = g refl

-- where reading is cut
pub cut_answers : {X : Type 0} (Cause : DocFail → Type 0) (So : X → Type 0) (answer : Answer) → Answering (Some answer) Cause So (markup_refusal answer)
cut_answers Cause So (form n) = inr (form n, refl, refl)
cut_answers Cause So (depth n) = inr (depth n, refl, refl)
cut_answers Cause So (start place name raw) = inr (start place name raw, refl, refl)
cut_answers Cause So (words place raw) = inr (words place raw, refl, refl)
cut_answers Cause So (stop place) = inr (stop place, refl, refl)
cut_answers Cause So finish = inr (finish, refl, refl)
