use Rattle.std.proofs.Common.{◌≡◌, ◌++◌, ◌+◌, ◌∙◌, sym, ap, subst, ◌<◌, ℕ, List, drop, encode_utf8, filter}
use Rattle.std.specs.Prelude.{All}
use Rattle.cli_options.specs.SaidWords.{said_seen}
use Rattle.cli_profiles.specs.Profiles.{alphabet_of, is_wanted}
use Rattle.cli_profiles.proofs.Alphabets.{characters_low, none_kept, one_kept}
use Rattle.cli_profiles.proofs.profiles.alphabet_of.Goals as goal
use Rattle.cli_profiles.proofs.profiles.alphabet_of.Goals.{then-is_wanted+in-Ok, else-is_wanted}

pub loop-c-preserved : goal.loop-c-preserved
loop-c-preserved c = elim c.if-is_wanted.branch [
  | then-is_wanted+in-Ok w ↦
      one_kept (is_wanted (said_seen c.args.said.now)) c.as_bytes-c-items.result.now c.loop-c.alphabet _ c.if-is_wanted.alphabet c.loop-c.c-index c.loop-c-test.true
      (subst (All (λ b. b < 128)) (sym c.as_bytes-c-items.ensures.value) characters_low c.loop-c.c-index 0 c.loop-c-test.true)
      (sym c.is_wanted.ensures ∙ w.if-is_wanted.true) (w.alphabet-is ∙ w.in-Ok.ensures.ok ∙ ap (λ (x : ℕ). c.loop-c.alphabet ++ encode_utf8 x) w.from.ensures) c.loop-c.invariant
  | else-is_wanted w ↦
      subst (λ (alphabet : List ℕ). alphabet ++ filter (is_wanted (said_seen c.args.said.now)) (drop (c.loop-c.c-index + 1) c.as_bytes-c-items.result.now) ≡ alphabet_of (said_seen c.args.said.now))
      (sym w.alphabet-is) (none_kept (is_wanted (said_seen c.args.said.now)) c.as_bytes-c-items.result.now c.loop-c.alphabet _ c.loop-c.c-index c.loop-c-test.true
      (sym c.is_wanted.ensures ∙ w.if-is_wanted.false) c.loop-c.invariant)
]
