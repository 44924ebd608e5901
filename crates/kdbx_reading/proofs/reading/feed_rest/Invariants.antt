use Rattle.std.proofs.Common.{◌-◌, ◌+◌, ◌≡◌, ◌≤◌, length, take}
use Rattle.outside_core.specs.Reports.{StaysTruthful, reported}
use Rattle.kdbx_reading.specs.Stored.{IsFedFrom}
use Rattle.kdbx_reading.proofs.reading.feed_rest.Given as goal

-- What was read so far was fed, and the store and its counts are as they were.
abbrev pub invariant-windows : goal.invariant-windows
invariant-windows g l =
    record {
      within : l.at ≤ l.file.size;
      room : length l.window ≡ length l.initial.window;
      spare : l.file.size ≤ l.reader.content.spare + l.at;
      fed : IsFedFrom (reported (g.F.FileStore.truthful l.files) (g.F.FileStore.files l.initial.files)) l.file.name.now (take l.file.len l.initial.window) l.reader l.at;
      keys : l.reader.keys.now ≡ l.initial.reader.keys.now;
      header : l.reader.header.now ≡ l.initial.reader.header.now;
      files : g.F.FileStore.files l.files ≡ g.F.FileStore.files l.initial.files;
      draft_name : g.F.FileStore.draft_name l.files ≡ g.F.FileStore.draft_name l.initial.files;
      draft_bytes : g.F.FileStore.draft_bytes l.files ≡ g.F.FileStore.draft_bytes l.initial.files;
      truthful : StaysTruthful (g.F.FileStore.truthful l.initial.files) (g.F.FileStore.truthful l.files);
      faults : g.F.FileStore.faults l.files ≡ g.F.FileStore.faults l.initial.files;
      absences : g.F.FileStore.absences l.files ≡ g.F.FileStore.absences l.initial.files;
    }

abbrev pub decreases-windows : goal.decreases-windows
decreases-windows g l = l.file.size - l.at
