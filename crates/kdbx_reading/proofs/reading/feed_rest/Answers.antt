use Rattle.std.proofs.Common.{◌≡◌, ◌≤◌, ◌<◌, ◌∙◌, ◌+◌, ◌-◌, ◌++◌, min, length, take, drop, arith, ap, subst, length-append, length-drop, IfSome, Some}
use Rattle.std.proofs.lemmas.List.{length-take, length-take-le, take-append-le}
use Rattle.outside_core.specs.Files.{window_of}
use Rattle.outside_core.specs.Reports.{reported}
use Rattle.outside_core.proofs.Reports.{stays_on}
use Rattle.kdbx_payload.specs.Reading.{IsFed}
use Rattle.kdbx_reading.specs.Stored.{IsFedFrom}
use Rattle.kdbx_reading.proofs.StoredFiles.{fed_short, fed_whole, fed_window}
use Rattle.kdbx_reading.proofs.StoredLater.{fed_later, size_later}
use Rattle.kdbx_reading.proofs.reading.feed_rest.Goals as goal

pub windows-preserved : goal.windows-preserved
windows-preserved g c =
    let at = c.windows.at in
    let part = c.read_at.new.out in
    let n = c.in_ok-read.read in
    let rest = drop c.min-room.result c.windows.window in
    let content = g.F.FileStore.files c.args.files.now in
    let now = g.F.FileStore.truthful c.read_at.new.self in
    let files = reported now content in
    let start = take c.args.file.now.len c.args.window.now in
    let kept = c.windows.invariant in
    let upto : c.min-room.result ≡ min (length c.windows.window) (c.args.file.now.size - at) = c.min-room.ensures in
    let long : length part ≡ c.min-room.result = omega (arith, c.read_at.auto.out, length-take c.min-room.result c.windows.window, upto) in
    let piece : take n (part ++ rest) ≡ take n part = take-append-le n part rest c.in_ok-read.ensures.bound in
    let short : length (take n part) ≡ n = length-take-le n part c.in_ok-read.ensures.bound in
    record {
      within = omega (arith, upto, long, c.in_ok-read.ensures.bound, kept.within, c.windows-test.true);
      room = omega (arith, length-append part rest, length-drop c.min-room.result c.windows.window, upto, long, kept.room);
      spare = omega (arith, c.feed.ensures.spare, ap length piece, short, kept.spare);
      fed = subst (λ k. IsFedFrom files c.args.file.now.name.now start c.feed.new.self (at + k)) short
          (fed_window files c.args.file.now.name.now start c.windows.reader c.feed.new.self at (length part) (take n part)
          (fed_later _ _ content c.args.file.now.name.now c.in_ok-read.ensures.truthful start c.windows.reader at kept.fed)
          (λ bytes fed. subst (λ l. IsFed c.feed.new.self (bytes ++ l)) piece (c.feed.ensures.fed bytes fed))
          (subst (λ f. IfSome (reported now f) (λ m. window_of m c.args.file.now.name.now at (length part) ≡ Some (take n part))) kept.files c.in_ok-read.ensures.told)
          (omega (arith, short, c.in_ok-read.ensures.bound)));
      keys = c.feed.ensures.keys ∙ kept.keys;
      header = c.feed.ensures.header ∙ kept.header;
      files = c.in_ok-read.ensures.files ∙ kept.files;
      draft_name = c.in_ok-read.ensures.draft_name ∙ kept.draft_name;
      draft_bytes = c.in_ok-read.ensures.draft_bytes ∙ kept.draft_bytes;
      truthful = stays_on _ _ _ kept.truthful c.in_ok-read.ensures.truthful;
      faults = c.in_ok-read.ensures.faults.kept ∙ kept.faults;
      absences = c.in_ok-read.ensures.absences.kept ∙ kept.absences;
    }

pub returns-then-read-eq0-clause-fed : goal.returns-then-read-eq0-clause-fed
returns-then-read-eq0-clause-fed g c =
    let at = c.windows.at in
    let part = c.read_at.new.out in
    let n = c.in_ok-read.read in
    let content = g.F.FileStore.files c.args.files.now in
    let now = g.F.FileStore.truthful c.read_at.new.self in
    let files = reported now content in
    let start = take c.args.file.now.len c.args.window.now in
    let kept = c.windows.invariant in
    let upto : c.min-room.result ≡ min (length c.windows.window) (c.args.file.now.size - at) = c.min-room.ensures in
    let long : length part ≡ c.min-room.result = omega (arith, c.read_at.auto.out, length-take c.min-room.result c.windows.window, upto) in
    let later : c.args.file.now.len ≤ at =
    omega (arith, ap length kept.fed.starts, length-take (length start) kept.fed.bytes, kept.fed.len, length-take-le c.args.file.now.len c.args.window.now c.requires.len) in
    let some : 0 < length c.args.window.now = c.requires.some (omega (arith, later, c.windows-test.true)) in
    fed_short files c.args.file.now.name.now start c.windows.reader at (length part) c.args.file.now.size (take n part)
    (fed_later _ _ content c.args.file.now.name.now c.in_ok-read.ensures.truthful start c.windows.reader at kept.fed)
    (size_later _ _ content c.args.file.now.name.now (stays_on _ _ _ kept.truthful c.in_ok-read.ensures.truthful) c.args.file.now.size c.requires.sized)
    c.windows-test.true
    (omega (arith, upto, long, some, kept.room, c.windows-test.true))
    (subst (λ f. IfSome (reported now f) (λ m. window_of m c.args.file.now.name.now at (length part) ≡ Some (take n part))) kept.files c.in_ok-read.ensures.told)
    (ap (λ k. take k part) c.if-read-eq0.true)

pub returns-clause-fed : goal.returns-clause-fed
returns-clause-fed g c =
    let kept = c.windows.invariant in
    let content = g.F.FileStore.files c.args.files.now in
    let now = g.F.FileStore.truthful c.windows.files in
    fed_whole (reported now content) c.args.file.now.name.now (take c.args.file.now.len c.args.window.now) c.windows.reader c.windows.at c.args.file.now.size kept.fed
    (size_later _ now content c.args.file.now.name.now kept.truthful c.args.file.now.size c.requires.sized)
    (omega (arith, kept.within, c.windows-test.false))
