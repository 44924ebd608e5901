use Rattle.std.proofs.Common.{◌≡◌, [], slice_index, ap, arith, rules, inl, inr, ◌∙◌}
use Rattle.std.proofs.lemmas.List.{get_or-set_same, get_or-set_other}
use Rattle.std.proofs.lemmas.Bool.{cases_lt}
use Rattle.sha2.proofs.Schedule256.{IsWindow_first}
use Rattle.sha_lanes.specs.Lanes.{lane, one_of}
use Rattle.sha_lanes.proofs.LaneLemmas.{slice_index-lane, length-lane}
use Rattle.sha_lanes.proofs.words.load.Goals as goal

pub words-preserved : goal.words-preserved
words-preserved c = (
  search rules,
  λ j k below lt. elim (cases_lt k c.words.i) [
    | inl before ↦ ap (λ v. slice_index v j) (get_or-set_other c.words.w c.words.i k c.words_of.result [] (omega arith)) ∙ c.words.invariant.1 j k below before
    | inr after ↦
        let here : c.words.i ≡ k = omega arith in
        rw (← here) (ap (λ v. slice_index v j) (get_or-set_same c.words.w c.words.i c.words_of.result [] (omega arith)) ∙ c.words_of.ensures j below)
  ],
)

pub returns : goal.returns
returns c j below =
    let w = c.words.w in
    IsWindow_first (one_of c.args.a.now c.args.b.now c.args.c.now c.args.d.now j) (lane w j) (length-lane w j ∙ c.words.invariant.0)
    (λ k lt. slice_index-lane w j k ∙ c.words.invariant.1 j k below (omega arith))
