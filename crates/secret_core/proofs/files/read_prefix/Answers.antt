use Rattle.std.proofs.Common.{◌≡◌, length, take, ◌+◌, ◌-◌, ◌∙◌, ap, arith, min}
use Rattle.outside_core.specs.Reports.{reported}
use Rattle.outside_core.proofs.Reports.{reported_before, stays_on}
use Rattle.secret_core.proofs.Windows.{lent_part, window_told, window_read, window_empty}
use Rattle.secret_core.proofs.files.read_prefix.Goals as goal

pub loop-at-preserved : goal.loop-at-preserved
loop-at-preserved g c =
    let at = c.loop-at.at in
    let out = c.loop-at.out in
    let part = c.read_at.new.out in
    let kept = c.loop-at.invariant in
    let upto : c.min-end.result ≡ min (length out) (at + 65536) = c.min-end.ensures in
    let lent = lent_part at c.min-end.result out part (omega (arith, upto)) c.read_at.auto.out in
    record {
      within = omega (arith, upto, lent.whole, lent.part, kept.within, c.in_ok-read.ensures.bound);
      front = λ m bytes told found.
          window_read bytes out part at (c.min-end.result - at) c.in_ok-read.read kept.within c.in_ok-read.ensures.bound (kept.front m bytes (reported_before _ _ _ m c.in_ok-read.ensures.truthful told) found)
          (window_told _ m bytes _ _ _ _ (ap (reported _) kept.files ∙ told) found c.in_ok-read.ensures.told);
      files = c.in_ok-read.ensures.files ∙ kept.files;
      draft_name = c.in_ok-read.ensures.draft_name ∙ kept.draft_name;
      draft_bytes = c.in_ok-read.ensures.draft_bytes ∙ kept.draft_bytes;
      truthful = stays_on _ _ _ kept.truthful c.in_ok-read.ensures.truthful;
      faults = c.in_ok-read.ensures.faults.kept ∙ kept.faults;
      absences = c.in_ok-read.ensures.absences.kept ∙ kept.absences;
    }

pub returns-then-read-eq0-clause-told : goal.returns-then-read-eq0-clause-told
returns-then-read-eq0-clause-told g c = λ m bytes told found.
    let at = c.loop-at.at in
    let out = c.loop-at.out in
    let part = c.read_at.new.out in
    let kept = c.loop-at.invariant in
    let upto : c.min-end.result ≡ min (length out) (at + 65536) = c.min-end.ensures in
    let lent = lent_part at c.min-end.result out part (omega (arith, upto)) c.read_at.auto.out in
    window_empty bytes out part at (c.min-end.result - at) _ kept.within
    (omega (arith, lent.whole, kept.within)) (omega (arith, upto, lent.part, c.loop-at-test.true)) (kept.front m bytes (reported_before _ _ _ m c.in_ok-read.ensures.truthful told) found)
    (window_told _ m bytes _ _ _ _ (ap (reported _) kept.files ∙ told) found c.in_ok-read.ensures.told ∙ ap (λ n. take n part) c.if-read-eq0.true)
