use Rattle.kdbx_writing.proofs.DrawnParts.{draws_all, loses_both}
use Rattle.std.proofs.Common.{◌≡◌, true}
use Rattle.kdbx_writing.proofs.draws.draw.Goals as goal

pub returns-in_err-seed-clause-lost : goal.returns-in_err-seed-clause-lost
returns-in_err-seed-clause-lost g c = loses_both _ _ _ c.in_ok-kdf.ensures.lost c.in_err-seed.ensures.lost

pub returns-in_err-iv-clause-lost : goal.returns-in_err-iv-clause-lost
returns-in_err-iv-clause-lost g c = loses_both _ _ _ (loses_both _ _ _ c.in_ok-kdf.ensures.lost c.in_ok-seed.ensures.lost) c.in_err-iv.ensures.lost

pub returns-in_err-stream-clause-lost : goal.returns-in_err-stream-clause-lost
returns-in_err-stream-clause-lost g c = loses_both _ _ _ (loses_both _ _ _ (loses_both _ _ _ c.in_ok-kdf.ensures.lost c.in_ok-seed.ensures.lost) c.in_ok-iv.ensures.lost) c.in_err-stream.ensures.lost

pub returns-in_err-start-clause-lost : goal.returns-in_err-start-clause-lost
returns-in_err-start-clause-lost g c = loses_both _ _ _ (loses_both _ _ _ (loses_both _ _ _ (loses_both _ _ _ c.in_ok-kdf.ensures.lost c.in_ok-seed.ensures.lost) c.in_ok-iv.ensures.lost) c.in_ok-stream.ensures.lost) c.in_err-start.ensures.lost

pub returns-clause-lost : goal.returns-clause-lost
returns-clause-lost g c = loses_both _ _ _ (loses_both _ _ _ (loses_both _ _ _ (loses_both _ _ _ c.in_ok-kdf.ensures.lost c.in_ok-seed.ensures.lost) c.in_ok-iv.ensures.lost) c.in_ok-stream.ensures.lost) c.in_ok-start.ensures.lost

pub returns-clause-stream : goal.returns-clause-stream
returns-clause-stream g c = λ truthful.
    let fourth : g.D.Dice.truthful c.draw_front-4.new.dice ≡ true = c.in_ok-start.ensures.truthful truthful in
    let third : g.D.Dice.truthful c.draw_front-3.new.dice ≡ true = c.in_ok-stream.ensures.truthful fourth in
    let second : g.D.Dice.truthful c.draw_front-2.new.dice ≡ true = c.in_ok-iv.ensures.truthful third in
    let first : g.D.Dice.truthful c.draw_front.new.dice ≡ true = c.in_ok-seed.ensures.truthful second in
    draws_all c.args.settings.now (record { kdf = c.in_ok-kdf.kdf; seed = c.in_ok-seed.seed; iv = c.in_ok-iv.iv; stream = c.in_ok-stream.stream; start = c.in_ok-start.start }) _ _ _ _ _ _ _ _ _
    c.in_ok-kdf.ensures.drawn.len c.in_ok-seed.ensures.drawn.len c.iv_len.ensures.value c.stream_len.ensures.value c.start_len.ensures.value
    (c.in_ok-kdf.ensures.stream first) (c.in_ok-seed.ensures.stream second) (c.in_ok-iv.ensures.stream third) (c.in_ok-stream.ensures.stream fourth) (c.in_ok-start.ensures.stream truthful)
