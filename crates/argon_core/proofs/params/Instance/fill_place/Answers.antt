use Rattle.std.proofs.Common.{◌≡◌, ◌+◌, ◌*◌, ◌<◌, ◌≤◌, refl}
use Rattle.argon_core.specs.Argon2.{segment_len}
use Rattle.argon_core.specs.Memory.{seen_in}
use Rattle.argon_core.proofs.Mixing.{next_first, next_mixed}
use Rattle.argon_core.proofs.params.Instance.fill_place.Goals as goal
use Rattle.argon_core.proofs.params.Instance.fill_place.Goals.{else-at-eq0-via-then-at-eq0+else-column-lt2, else-at-eq0-via-else-at-eq0}

pub returns-then-column-lt2 : goal.returns-then-column-lt2
returns-then-column-lt2 c =
    let i = c.args.self.now in
    let at = c.args.at in
    let seen = seen_in i.params c.args.memory.now in
    let low : at.slice * segment_len i.params + c.args.place < 2 = rw (← c.segment_len.ensures) c.if-column-lt2.true in
    rw (next_first i seen at.pass at.slice at.lane c.args.place c.if-at-eq0.true low, c.place_of-here.ensures.place, c.first_block.ensures, c.segment_len.ensures) refl

pub returns-else-at-eq0 : goal.returns-else-at-eq0
returns-else-at-eq0 c =
    let i = c.args.self.now in
    let at = c.args.at in
    let seen = seen_in i.params c.args.memory.now in
    let later : at.pass ≡ 0 → 2 ≤ at.slice * segment_len i.params + c.args.place =
    λ first. elim c.else-at-eq0.branch [
      | else-at-eq0-via-then-at-eq0+else-column-lt2 w ↦ rw (← c.segment_len.ensures) w.if-column-lt2.false
      | else-at-eq0-via-else-at-eq0 w ↦ absurd (w.if-at-eq0.false first)
    ] in
    rw (next_mixed i seen at.pass at.slice at.lane c.args.place later) c.mix_place.ensures
