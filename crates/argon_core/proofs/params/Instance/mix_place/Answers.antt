use Rattle.argon_core.proofs.Limits.{memory_len-most}
use Rattle.argon_core.proofs.Mixing.{mixed_place}
use Rattle.argon_core.proofs.params.Instance.mix_place.Goals as goal

pub refill-requires-clause-few : goal.refill-requires-clause-few
refill-requires-clause-few c = rw c.requires.len (memory_len-most c.args.self.now.params c.requires.limits)

pub returns : goal.returns
returns c =
    let at = c.args.at in
    mixed_place c.args.self.now c.args.memory.now _ at.pass at.slice at.lane c.args.place _ _ _ _ _ _
    c.segment_len.ensures c.place_of-here.ensures.place c.column_before.ensures.before c.place_of-before.ensures.place
    c.chooser-chooser.ensures c.other_place-other.ensures.other c.refill.ensures
