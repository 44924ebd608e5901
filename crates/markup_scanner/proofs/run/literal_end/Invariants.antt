use Rattle.std.proofs.Common.{◌≡◌, ◌≤◌, ℕ, List, length, drop}
use Rattle.markup_grammar.specs.Machine.{State}
use Rattle.markup_scanner.specs.Left.{answers_at}
use Rattle.markup_scanner.specs.Scans.{Await}
use Rattle.markup_scanner.proofs.run.literal_end.Given as goal

-- the bytes so far have been passed
abbrev pub invariant-loop-byte : goal.invariant-loop-byte
invariant-loop-byte l =
    (l.at ≤ l.place) × (l.place ≤ length l.text) × ((s : List ℕ → ℕ → State) → Await l.text s l.at → answers_at l.text (s l.bytes l.at) l.at ≡ answers_at l.text (s (drop l.byte-index l.bytes) l.place) l.place)
