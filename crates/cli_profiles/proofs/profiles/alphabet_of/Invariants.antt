use Rattle.std.proofs.Common.{◌≡◌, ◌++◌, drop, filter}
use Rattle.cli_options.specs.SaidWords.{said_seen}
use Rattle.cli_profiles.specs.Profiles.{alphabet_of, is_wanted}
use Rattle.cli_profiles.proofs.profiles.alphabet_of.Given as goal

abbrev pub invariant-loop-c : goal.invariant-loop-c
invariant-loop-c l =
    l.alphabet ++ filter (is_wanted (said_seen l.said)) (drop l.c-index l.c-items) ≡ alphabet_of (said_seen l.said)
