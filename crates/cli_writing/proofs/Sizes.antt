-- Why a document is not written: it is too much or too large.
use Rattle.std.proofs.Common.{◌≡◌, ◌≢◌, ℕ, List, refl, sym, ap, subst}
use Rattle.cli_messages.specs.Messages.{Refuses, status_of}
use Rattle.cli_messages.specs.Phases.{IsFault, IsMemoryStop}
use Rattle.cli_messages.specs.declared.answers.Reason.{Reason}
use Rattle.cli_messages.specs.declared.answers.Refusal.{Refusal}
use Rattle.cli_messages.specs.declared.answers.Stop.{Stop}
use Rattle.cli_messages.specs.declared.answers.Stop.TheVariants.{Refused, FileFault, InputFault, NoMemory}
use Rattle.doc_write.specs.declared.writing.WriteFail.{WriteFail}
use Rattle.doc_write.specs.declared.writing.WriteFail.TheVariants as fail
use Rattle.cli_writing.specs.Writing.{IsSizeStop, write_answer}

-- A refusal with this status is one of size.
pub sized : (stop : Stop) (refusal : Refusal) → status_of refusal.reason ≡ 8 → Refuses stop refusal → IsSizeStop stop
sized (Refused given) refusal large h = subst (λ (r : Refusal). status_of r.reason ≡ 8) (sym h) large
sized (FileFault name) refusal large h = tt
sized InputFault refusal large h = tt
sized NoMemory refusal large h = tt

-- Neither a fault nor running out of memory is a refusal.
pub fault_sized : (stop : Stop) (name : List ℕ) → IsFault stop name → IsSizeStop stop
fault_sized (Refused given) name h = absurd h
fault_sized (FileFault file) name h = tt
fault_sized InputFault name h = tt
fault_sized NoMemory name h = tt

pub memory_sized : (stop : Stop) → IsMemoryStop stop → IsSizeStop stop
memory_sized (Refused given) h = absurd h
memory_sized (FileFault file) h = tt
memory_sized InputFault h = tt
memory_sized NoMemory h = tt

pub large_answer : (why : WriteFail) (reason : Reason) → reason ≡ write_answer why → why ≢ fail.NoMemory → status_of reason ≡ 8
large_answer (fail.TooMany count) reason is other = ap status_of is
large_answer (fail.TooLarge length) reason is other = ap status_of is
large_answer fail.NoMemory reason is other = absurd (other refl)
