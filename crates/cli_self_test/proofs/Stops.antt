-- What a phase gives, from what its parts give.
use Rattle.std.proofs.Common.{◌≡◌, ℕ, List, [], ◌∷◌, Result, Ok, Err, IfOk, map, sym, ap, subst, ◌∙◌}
use Rattle.std.specs.Prelude.{codes, IfErr, IsOk}
use Rattle.vault_model.specs.declared.documents.Doc.{Doc}
use Rattle.vault_model.specs.SeenDoc.{doc_seen}
use Rattle.vault_model.specs.Tree.{BareDoc}
use Rattle.cli_writing.specs.DocWrite.Written.{Writes}
use Rattle.cli_writing.specs.DocWrite.declared.writing.WriteFail.{WriteFail}
use Rattle.cli_writing.specs.DocWrite.declared.writing.WriteFail.TheVariants.{TooMany, TooLarge}
use Rattle.cli_writing.specs.DocWrite.declared.writing.WriteFail.TheVariants as write
use Rattle.merge_again.specs.DocumentMerge.declared.merging.MergeFail.{MergeFail}
use Rattle.merge_again.specs.DocumentMerge.declared.merging.MergeFail.TheVariants.{RootClash, KindClash, MoveCycle, TooDeep}
use Rattle.merge_again.specs.DocumentMerge.declared.merging.MergeFail.TheVariants as merge
use Rattle.merge_again.specs.DocumentMerge.Merging.{IsMergeResult, MergeResult, merge_result}
use Rattle.cli_messages.specs.Messages.{Refuses, refusal_of}
use Rattle.cli_messages.specs.Phases.{IsMemoryStop, IsPlainStop, Returns, Stops}
use Rattle.cli_messages.specs.declared.answers.Refusal.{Refusal}
use Rattle.cli_messages.specs.declared.answers.Stop.{Stop}
use Rattle.cli_messages.specs.declared.answers.Stop.TheVariants.{Refused, FileFault, InputFault, NoMemory}
use Rattle.cli_writing.specs.Writing.{IsUnwritten, write_answer}
use Rattle.cli_self_test.specs.SelfTest.{hash_or_refusal}

-- a part that stops only where memory ran out gives what is defined
pub returned : {X : Type 0} (seen : X → List ℕ) (result : Result X Stop) (defined : Result (List ℕ) Refusal) (text : List ℕ)
    → defined ≡ Ok text → IfOk result (λ x. seen x ≡ text) → IfErr result IsMemoryStop → Returns seen result defined
returned seen (Ok x) defined text e is cause = e ∙ ap Ok (sym is)
returned seen (Err (Refused refusal)) defined text e is cause = absurd cause
returned seen (Err (FileFault name)) defined text e is cause = absurd cause
returned seen (Err InputFault) defined text e is cause = absurd cause
returned seen (Err NoMemory) defined text e is cause = tt

pub plain : {X : Type 0} (result : Result X Stop) → IfErr result IsMemoryStop → IfErr result IsPlainStop
plain (Ok x) cause = tt
plain (Err (Refused refusal)) cause = absurd cause
plain (Err (FileFault name)) cause = absurd cause
plain (Err InputFault) cause = absurd cause
plain (Err NoMemory) cause = tt

memory_stops : (stop : Stop) (defined : Result (List ℕ) Refusal) → IsMemoryStop stop → Stops stop defined
memory_stops (Refused refusal) defined h = absurd h
memory_stops (FileFault name) defined h = absurd h
memory_stops InputFault defined h = absurd h
memory_stops NoMemory defined h = tt

refusal_stops : (stop : Stop) (refusal : Refusal) (defined : Result (List ℕ) Refusal) → defined ≡ Err refusal → Refuses stop refusal → Stops stop defined
refusal_stops (Refused given) refusal defined e h = e ∙ ap Err (sym h)
refusal_stops (FileFault name) refusal defined e h = absurd h
refusal_stops InputFault refusal defined e h = absurd h
refusal_stops NoMemory refusal defined e h = tt

-- a document that is not written is refused by the words
pub unwritten_stops : (why : WriteFail) (stop : Stop) (defined : Result (List ℕ) WriteFail) → Writes (Err why) defined → IsUnwritten why (codes "words") stop
    → Stops stop (hash_or_refusal defined)
unwritten_stops write.NoMemory stop defined e h = memory_stops stop (hash_or_refusal defined) h
unwritten_stops (TooMany count) stop defined e h = refusal_stops stop (refusal_of (write_answer (TooMany count)) (codes "words")) (hash_or_refusal defined) (ap hash_or_refusal e) h
unwritten_stops (TooLarge length) stop defined e h = refusal_stops stop (refusal_of (write_answer (TooLarge length)) (codes "words")) (hash_or_refusal defined) (ap hash_or_refusal e) h

-- of a merge that is not refused only memory is left
no_error : (r : MergeResult) (why : MergeFail) → IsOk r → r ≡ Err why → ⊥
no_error (Ok d) why ok e = cc e
no_error (Err x) why ok e = cc ok

only_memory : (defined : MergeResult) (t : BareDoc) (ss : List BareDoc) (why : MergeFail) → IsOk defined → IsMergeResult defined t ss (Err why) → why ≡ merge.NoMemory
only_memory defined t ss merge.NoMemory ok h = λ i. merge.NoMemory
only_memory defined t ss (RootClash u) ok h = absurd (no_error defined (RootClash u) ok h)
only_memory defined t ss (KindClash u) ok h = absurd (no_error defined (KindClash u) ok h)
only_memory defined t ss (MoveCycle us) ok h = absurd (no_error defined (MoveCycle us) ok h)
only_memory defined t ss (TooDeep u) ok h = absurd (no_error defined (TooDeep u) ok h)

pub is_memory : (t : BareDoc) (source : Doc) (lent : List Doc) (why : MergeFail) → lent ≡ source ∷ [] → IsOk (merge_result t (doc_seen source ∷ []))
    → IsMergeResult (merge_result t (map doc_seen lent)) t (map doc_seen lent) (Err why) → why ≡ merge.NoMemory
is_memory t source lent why one ok h =
    only_memory (merge_result t (map doc_seen lent)) t (map doc_seen lent) why
    (subst (λ (ds : List Doc). IsOk (merge_result t (map doc_seen ds))) (sym one) ok) h
