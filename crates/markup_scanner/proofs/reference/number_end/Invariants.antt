use Rattle.std.proofs.Common.{◌≡◌, ◌≤◌}
use Rattle.markup_scanner.specs.Left.{answers_at}
use Rattle.markup_scanner.specs.Numbers.{first_of, number_at}
use Rattle.markup_scanner.specs.Scans.{Host, host_begin, host_reference}
use Rattle.markup_scanner.proofs.reference.number_end.Given as goal

-- the digits so far are those of the value
abbrev pub invariant-loop-place : goal.invariant-loop-place
invariant-loop-place l =
    (l.value ≤ 0x10FFFF) × (l.place ≡ l.at → l.value ≡ 0) × ((h : Host) → host_begin h ≤ l.at → answers_at l.text (host_reference l.text h (first_of l.base) l.at) l.at ≡ answers_at l.text (host_reference l.text h (number_at l.base l.at l.place l.value) l.place) l.place)
