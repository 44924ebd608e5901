use Rattle.std.proofs.Common.{◌≡◌, length}
use denote.Text.{Utf8}
use denote.Shadow.{shadow}
use Rattle.table_reading.specs.Cells.{after_last}
use Rattle.table_reading.proofs.cells.after_at.Given as goal

-- what is left has the same after its last `@`
abbrev pub invariant-loop-parts : goal.invariant-loop-parts
invariant-loop-parts l = shadow (Utf8 l.rest) × (after_last 64 l.rest ≡ after_last 64 l.text)

abbrev pub decreases-loop-parts : goal.decreases-loop-parts
decreases-loop-parts l = length l.rest
