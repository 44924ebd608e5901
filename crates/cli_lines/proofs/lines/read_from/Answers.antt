use Rattle.std.proofs.Common.{◌∙◌, ap, ◌∷◌}
use Rattle.outside_core.proofs.Reports.{stays_on}
use Rattle.cli_lines.specs.Cutting.{cut}
use Rattle.cli_lines.specs.Lines.{line_from}
use Rattle.cli_lines.proofs.Bytes.{at_line_feed, came_end, came_next}
use Rattle.cli_lines.proofs.lines.read_from.Goals as goal

pub loop-byte-preserved : goal.loop-byte-preserved
loop-byte-preserved g c =
    record {
      window = c.in_ok-next.ensures.window;
      room = c.put.ensures.room;
      faults = c.in_ok-next.ensures.cause.kept ∙ c.loop-byte.invariant.faults;
      truthful = stays_on _ _ _ c.loop-byte.invariant.truthful c.in_ok-next.ensures.truthful;
      told = λ truthful i is.
          let known = c.loop-byte.invariant.told (c.in_ok-next.ensures.truthful truthful) i is in
          came_next (line_from 0 (c.args.first ∷ i)) c.put.new.line.bytes c.in-Some.now known.0 c.in_ok-next.field-0 c.in-Some-2.next _
          c.in-Some-2.is (c.in_ok-next.ensures.told truthful known.0 known.1.0) (known.1.1 ∙ c.in-Some.ensures.puts known.0);
    }

pub returns-in-None-2-clause-told : goal.returns-in-None-2-clause-told
returns-in-None-2-clause-told g c = λ truthful i is.
    let known = c.loop-byte.invariant.told (c.in_ok-next.ensures.truthful truthful) i is in
    came_end (line_from 0 (c.args.first ∷ i)) c.put.new.line.bytes c.in-Some.now known.0 c.in_ok-next.field-0 _ c.end.result c.end.new.line.bytes
    c.in-None-2.is (c.in_ok-next.ensures.told truthful known.0 known.1.0) (known.1.1 ∙ c.in-Some.ensures.puts known.0) c.end.ensures

pub returns-clause-told : goal.returns-clause-told
returns-clause-told g c = λ truthful i is.
    let known = c.loop-byte.invariant.told truthful i is in (
      known.0,
      (
        known.1.0,
        known.1.1 ∙ ap (λ b. cut c.loop-byte.line.bytes c.loop-byte.returned (b ∷ known.0)) c.loop-byte-test.false
            ∙ at_line_feed c.loop-byte.line.bytes c.loop-byte.returned known.0,
      ),
    )
