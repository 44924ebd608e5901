-- A file that is no plain document, as the refusal of its database.
use Rattle.std.proofs.Common.{◌≡◌, ◌≢◌, ℕ, List, refl, inl, inr, sym, ◌∙◌, ap, subst, Result}
use Rattle.std.specs.Prelude.{◌⊎◌}
use Rattle.outside_core.specs.Results.{Fails, Meaning, exact}
use Rattle.doc_forms.specs.Documents.{DocumentAndHash}
use Rattle.doc_forms.specs.Refusals as reader
use Rattle.doc_forms.specs.declared.fails.DocFail.{DocFail}
use Rattle.doc_forms.specs.declared.fails.DocFail.TheVariants as doc
use Rattle.cli_messages.specs.Messages.{refusal_of, Refuses}
use Rattle.cli_messages.specs.Phases.{IsMemoryStop, IsPlainStop, Stops}
use Rattle.cli_messages.specs.declared.answers.Reason.TheVariants.{NoSuchFile}
use Rattle.cli_messages.specs.declared.answers.Refusal.{Refusal}
use Rattle.cli_messages.specs.declared.answers.Stop.{Stop}
use Rattle.cli_messages.specs.declared.answers.Stop.TheVariants.{Refused, FileFault, InputFault, NoMemory}
use Rattle.cli_files.specs.Answers.{document_answer}
use Rattle.cli_databases.specs.Databases.{document_or_refusal}
use Rattle.cli_databases.specs.NoDocument.{IsNoDocument}
use Rattle.cli_databases.proofs.Refusals.{refused_so, without_memory}

-- A refusal is running out of memory, or it is the one that is defined.
abbrev Kind : DocFail → Type 0
Kind fail = (fail ≡ doc.NoMemory) ⊎ ((fail ≢ doc.NoMemory) × (reader.meaning_of fail ≡ exact fail))

kind_of : (fail : DocFail) → Kind fail
kind_of (doc.Form place) = inr ((λ e. cc), refl)
kind_of (doc.Depth place) = inr ((λ e. cc), refl)
kind_of (doc.BadValue place) = inr ((λ e. cc), refl)
kind_of (doc.Compressed place) = inr ((λ e. cc), refl)
kind_of (doc.TooDeep place) = inr ((λ e. cc), refl)
kind_of (doc.TooMany count) = inr ((λ e. cc), refl)
kind_of (doc.NilId place) = inr ((λ e. cc), refl)
kind_of (doc.MissingElement which place) = inr ((λ e. cc), refl)
kind_of (doc.DuplicateId id) = inr ((λ e. cc), refl)
kind_of (doc.BinaryRef number) = inr ((λ e. cc), refl)
kind_of doc.NoMemory = inl refl

stops_by : (fail : DocFail) (stop : Stop) (name : List ℕ) (defined : Result DocumentAndHash DocFail) → IsNoDocument fail name stop
    → Fails (reader.meaning_of fail) defined → Kind fail → Stops stop (document_or_refusal name defined)
stops_by fail stop name defined h is (inl e) = without_memory stop (document_or_refusal name defined) (h.without_memory e)
stops_by fail stop name defined h is (inr (n, e)) =
    refused_so stop (refusal_of (document_answer fail) name) (document_or_refusal name defined) (h.refused n)
    (ap (document_or_refusal name) (subst (λ (m : Meaning DocFail). Fails m defined) e is))

pub no_document_stops : (fail : DocFail) (stop : Stop) (name : List ℕ) (defined : Result DocumentAndHash DocFail) → IsNoDocument fail name stop
    → Fails (reader.meaning_of fail) defined → Stops stop (document_or_refusal name defined)
no_document_stops fail stop name defined h is = stops_by fail stop name defined h is (kind_of fail)

plain_memory : (stop : Stop) → IsMemoryStop stop → IsPlainStop stop
plain_memory (Refused given) h = absurd h
plain_memory (FileFault name) h = absurd h
plain_memory InputFault h = absurd h
plain_memory NoMemory h = tt

plain_refused : (stop : Stop) (refusal : Refusal) → Refuses stop refusal → refusal.reason ≢ NoSuchFile → IsPlainStop stop
plain_refused (Refused given) refusal h n = λ e. n (sym (ap (λ (r : Refusal). r.reason) h) ∙ e)
plain_refused (FileFault name) refusal h n = absurd h
plain_refused InputFault refusal h n = absurd h
plain_refused NoMemory refusal h n = tt

there : (fail : DocFail) → document_answer fail ≢ NoSuchFile
there (doc.Form place) e = cc
there (doc.Depth place) e = cc
there (doc.BadValue place) e = cc
there (doc.Compressed place) e = cc
there (doc.TooDeep place) e = cc
there (doc.TooMany count) e = cc
there (doc.NilId place) e = cc
there (doc.MissingElement which place) e = cc
there (doc.DuplicateId id) e = cc
there (doc.BinaryRef number) e = cc
there doc.NoMemory e = cc

cause_by : (fail : DocFail) (stop : Stop) (name : List ℕ) → IsNoDocument fail name stop → Kind fail → IsPlainStop stop
cause_by fail stop name h (inl e) = plain_memory stop (h.without_memory e)
cause_by fail stop name h (inr (n, e)) = plain_refused stop (refusal_of (document_answer fail) name) (h.refused n) (there fail)

pub no_document_cause : (fail : DocFail) (stop : Stop) (name : List ℕ) → IsNoDocument fail name stop → IsPlainStop stop
no_document_cause fail stop name h = cause_by fail stop name h (kind_of fail)
