use Rattle.std.proofs.Common.{◌≡◌, drop}
use Rattle.std.specs.Prelude.{map, string_bytes}
use denote.Shadow.{shadow}
use denote.Text.{Utf8}
use Rattle.cli_causes.specs.Causes.{cause_from}
use Rattle.cli_options.specs.SaidWords.{reading_seen}
use Rattle.cli_causes.proofs.causes.cause_from.Given as goal

-- What is wrong in the words that are left is what is wrong in all of them.
abbrev pub invariant-loop-word : goal.invariant-loop-word
invariant-loop-word l = record {
  utf8 : shadow (Utf8 l.last);
  same : cause_from l.command l.last (map string_bytes (drop l.word-index l.words)) (reading_seen l.given l.state)
      ≡ cause_from l.command l.previous (map string_bytes l.words) (reading_seen l.initial.given l.initial.state);
}
