use Rattle.std.proofs.Common.{length, ◌-◌, ◌≡◌, ◌≤◌, List, Some, take, ℕ}
use Rattle.std.specs.FinMap as map
use Rattle.outside_core.specs.Files.{FileMap}
use Rattle.outside_core.specs.Reports.{StaysTruthful, reported}
use Rattle.secret_core.proofs.files.read_prefix.Given as goal

-- What was read so far is the front of the file, and the store and its counts are as they were.
abbrev pub invariant-loop-at : goal.invariant-loop-at
invariant-loop-at g l =
    record {
      within : l.at ≤ length l.out;
      front : (m : FileMap) (bytes : List ℕ) → reported (g.F.FileStore.truthful l.files) (g.F.FileStore.files l.initial.files) ≡ Some m
          → map.get m l.name ≡ Some bytes
          → take l.at bytes ≡ take l.at l.out;
      files : g.F.FileStore.files l.files ≡ g.F.FileStore.files l.initial.files;
      draft_name : g.F.FileStore.draft_name l.files ≡ g.F.FileStore.draft_name l.initial.files;
      draft_bytes : g.F.FileStore.draft_bytes l.files ≡ g.F.FileStore.draft_bytes l.initial.files;
      truthful : StaysTruthful (g.F.FileStore.truthful l.initial.files) (g.F.FileStore.truthful l.files);
      faults : g.F.FileStore.faults l.files ≡ g.F.FileStore.faults l.initial.files;
      absences : g.F.FileStore.absences l.files ≡ g.F.FileStore.absences l.initial.files;
    }

abbrev pub decreases-loop-at : goal.decreases-loop-at
decreases-loop-at g l = length l.initial.out - l.at
