use Rattle.std.proofs.Common.{◌≡◌, refl, sym, ap, ap₂, slice_index, ◌∙◌, arith, add-one}
use Rattle.stream_core.specs.Words.{add32}
use Rattle.stream_core.specs.Salsa20.{column_round, row_round, double_rounds, salsa_word}
use Rattle.stream_core.proofs.LaneLemmas.{slice_index-lane}
use Rattle.stream_core.proofs.salsa_blocks.four_blocks.Goals as goal

pub rounds-init : goal.rounds-init
unfolding double_rounds
rounds-init c j h = refl

pub rounds-preserved : goal.rounds-preserved
unfolding double_rounds
rounds-preserved c j h =
    rw add-one (c.row_round-states.ensures j h
    ∙ ap row_round (c.column_round.ensures j h ∙ ap column_round (c.rounds.invariant j h)))

pub returns : goal.returns
unfolding salsa_word
returns c j i lane word =
    let done : c.rounds.n ≡ 10 = omega arith in
    let first = c.initial_states-first.ensures j lane in
    c.sums.ensures j i lane word
    ∙ ap₂ add32
    (sym (slice_index-lane c.rounds.states j i word) ∙ ap (λ s. slice_index s i) (c.rounds.invariant j lane ∙ ap₂ double_rounds done first))
    (sym (slice_index-lane c.initial_states-first.result j i word) ∙ ap (λ s. slice_index s i) first)
