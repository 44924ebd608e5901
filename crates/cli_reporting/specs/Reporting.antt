-- How a text is printed, and how a stop is reported.
use Rattle.std.specs.Prelude.{◌≡◌, ◌⊎◌, ◌++◌, ℕ, List, Option, codes, option_map}
use Rattle.outside_core.specs.Counts.{Increased}
use Rattle.outside_core.specs.Streams.{GainsPrefix}
use Rattle.outside_core.specs.declared.fails.SinkFail.{SinkFail}
use Rattle.outside_core.specs.declared.fails.SinkFail.TheVariants as sink
use Rattle.cli_messages.specs.declared.answers.Stop.{Stop}
use Rattle.cli_messages.specs.declared.answers.Stop.TheVariants.{Refused, FileFault, InputFault, NoMemory}
use Rattle.cli_messages.specs.Messages.{error_line, reason_text, status_of}

-- The text was written.
abbrev pub Gains : Option (List ℕ) → Option (List ℕ) → List ℕ → Type 0
Gains before now text = now ≡ option_map (λ w. w ++ text) before

-- The status where a text was not written.
abbrev pub IsUnwritten : SinkFail → ℕ → Type 0
IsUnwritten sink.Failed status = status ≡ 10
IsUnwritten sink.NoMemory status = status ≡ 9

-- The line where memory ran out.
abbrev pub memory_line : List ℕ
memory_line = error_line (codes "words") (codes "out of memory")

-- The line where standard output failed.
abbrev pub output_line : List ℕ
output_line = error_line (codes "output") (codes "could not be written")

-- The line of a fault of the store at this file.
abbrev pub file_fault_line : List ℕ → List ℕ
file_fault_line name = error_line name (codes "file fault")

-- The line of a fault of the input or of the dice.
abbrev pub input_fault_line : List ℕ
input_fault_line = error_line (codes "input") (codes "fault")

-- A text was written, and the status is 0; or memory ran out or standard output failed, and a
-- prefix of it was written.
abbrev pub WritesText : List ℕ → ℕ → (written written' : Option (List ℕ)) → (faults faults' : ℕ)
    → Type 0
WritesText text result written written' faults faults' =
    ((result ≡ 0) × Gains written written' text)
    ⊎ (((result ≡ 9) ⊎ ((result ≡ 10) × Increased faults faults'))
    × GainsPrefix written written' text)

-- Standard error gained nothing, or a prefix of the line that standard output failed, which it did.
abbrev pub ReportsUnwritten : ℕ → (errors errors' : Option (List ℕ)) → (faults faults' : ℕ) → Type 0
ReportsUnwritten result errors errors' faults faults' = (errors' ≡ errors)
    ⊎ ((result ≡ 10) × Increased faults faults' × GainsPrefix errors errors' output_line)

-- A text was written, or a prefix of it; and where standard output failed, its line was tried.
abbrev pub IsPrinted : List ℕ → ℕ → (written written' errors errors' : Option (List ℕ))
    → (faults faults' : ℕ) → Type 0
IsPrinted text result written written' errors errors' faults faults' =
    WritesText text result written written' faults faults'
    × ReportsUnwritten result errors errors' faults faults'

-- A line was written and its status given; or memory ran out, or standard error failed, and a prefix
-- of it was written.
abbrev pub ReportsLine : ℕ → List ℕ → ℕ → (errors errors' : Option (List ℕ)) → (faults faults' : ℕ)
    → Type 0
ReportsLine own line result errors errors' faults faults' =
    ((result ≡ own) × Gains errors errors' line)
    ⊎ (((result ≡ 9) ⊎ ((result ≡ 10) × Increased faults faults'))
    × GainsPrefix errors errors' line)

-- The stop has its own status and its own line, or memory ran out, or standard error failed.
abbrev pub IsReported : Stop → ℕ → (errors errors' : Option (List ℕ)) → (faults faults' : ℕ)
    → Type 0
IsReported (Refused refusal) = ReportsLine (status_of refusal.reason)
    (error_line refusal.subject (reason_text refusal.reason))
IsReported (FileFault name) = ReportsLine 7 (file_fault_line name)
IsReported InputFault = ReportsLine 11 input_fault_line
IsReported NoMemory = ReportsLine 9 memory_line
