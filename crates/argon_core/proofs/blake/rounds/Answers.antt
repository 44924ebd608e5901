use Rattle.std.proofs.Common.{refl}
use Rattle.argon_core.specs.Blake2b.{rounds}
use Rattle.argon_core.proofs.Rounds.{round_next}
use Rattle.argon_core.proofs.blake.rounds.Goals as goal

pub returns : goal.returns
unfolding rounds
returns c =
    let m = c.args.message in
    let s = c.args.v in
    let r1 = round_next m s _ _ _ 0 refl refl c.round-v.ensures in
    let r2 = round_next m s _ _ _ 1 r1 refl c.round-v-2.ensures in
    let r3 = round_next m s _ _ _ 2 r2 refl c.round-v-3.ensures in
    let r4 = round_next m s _ _ _ 3 r3 refl c.round-v-4.ensures in
    let r5 = round_next m s _ _ _ 4 r4 refl c.round-v-5.ensures in
    let r6 = round_next m s _ _ _ 5 r5 refl c.round-v-6.ensures in
    let r7 = round_next m s _ _ _ 6 r6 refl c.round-v-7.ensures in
    let r8 = round_next m s _ _ _ 7 r7 refl c.round-v-8.ensures in
    let r9 = round_next m s _ _ _ 8 r8 refl c.round-v-9.ensures in
    let r10 = round_next m s _ _ _ 9 r9 refl c.round-v-10.ensures in
    let r11 = round_next m s _ _ _ 10 r10 refl c.round-v-11.ensures in
    let r12 = round_next m s _ _ _ 11 r11 refl c.round.ensures in
    r12
