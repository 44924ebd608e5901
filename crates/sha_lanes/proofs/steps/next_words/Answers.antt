use Rattle.std.proofs.Common.{◌≡◌, ◌+◌, ◌%◌, arith, refl}
use Rattle.sha_lanes.proofs.LaneLemmas.{slice_index-lane}
use Rattle.sha_lanes.proofs.steps.next_words.Goals as goal

pub returns-clause-words : goal.returns-clause-words
returns-clause-words c j h =
    let w = c.args.w.now in
    let here : c.args.place % 16 ≡ c.args.place = omega arith in
    rw (
      c.add-words.ensures j h,
      c.add.ensures j h,
      c.add-late.ensures j h,
      c.small_sigma1.ensures j h,
      c.small_sigma0.ensures j h,
      here,
      slice_index-lane w j ((c.args.place + 14) % 16),
      slice_index-lane w j ((c.args.place + 9) % 16),
      slice_index-lane w j ((c.args.place + 1) % 16),
      slice_index-lane w j c.args.place,
    ) refl
