-- How a call reports its result.
use Rattle.std.specs.Prelude.{◌≡◌, ℕ, List, ◌⊎◌, Contains}
use Rattle.outside_core.specs.Counts.{Increased}
use Rattle.outside_core.specs.Streams.{GainsPrefix}
use Rattle.cli_reporting.specs.Reporting.{IsPrinted, file_fault_line, input_fault_line, memory_line, output_line}
use Rattle.keepass_call.specs.Outcome.{Counts, Outcome, Seen}

-- Standard error gained a prefix of one line, and nothing else: of the outcome's, of that of a fault
-- whose count rose, of the one for memory, or of the one for output that failed.
abbrev pub TellsOneLine : List (List ℕ) → Outcome → Seen → Seen → Counts → Counts → Type 0
TellsOneLine names said before now counts counts' =
    GainsPrefix before.errors now.errors said.line
    ⊎ (Increased counts.files counts'.files × ((name : List ℕ) × Contains names name
    × GainsPrefix before.errors now.errors (file_fault_line name)))
    ⊎ ((Increased counts.input counts'.input ⊎ Increased counts.dice counts'.dice)
    × GainsPrefix before.errors now.errors input_fault_line)
    ⊎ GainsPrefix before.errors now.errors memory_line
    ⊎ (Increased counts.out counts'.out × GainsPrefix before.errors now.errors output_line)

-- A page was printed, or a prefix of it where memory ran out or standard output failed, and nothing
-- but standard output and standard error was touched.
pub record PrintsPage (page : List ℕ) (result : ℕ) (before now : Seen) (counts counts' : Counts) :
    Type 0 where
  pub text : IsPrinted page result before.written now.written before.errors now.errors counts.out
      counts'.out
  pub untouched : now ≡ record before { written = now.written; errors = now.errors }
