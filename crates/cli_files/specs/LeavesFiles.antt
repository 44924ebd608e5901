-- What a phase that only reads leaves of a store of files.
use Rattle.std.specs.Prelude.{◌≡◌, ◌≤◌, ℕ, Bool, List, Option}
use Rattle.outside_core.specs.Files.{FileMap}
use Rattle.outside_core.specs.Reports.{StaysTruthful}

-- A store, seen by what it reports: its files and its draft are as they were, it is truthful only if
-- it was before, and its counts of faults and of absences did not fall.
pub record LeavesFiles {S : Type 0} (files_of : S → Option FileMap)
    (draft_name_of : S → Option (List ℕ)) (draft_bytes_of : S → List ℕ)
    (truthful_of : S → Bool)
    (faults_of absences_of : S → ℕ) (before now : S) : Type 0 where
  pub files : files_of now ≡ files_of before
  pub draft_name : draft_name_of now ≡ draft_name_of before
  pub draft_bytes : draft_bytes_of now ≡ draft_bytes_of before
  pub truthful : StaysTruthful (truthful_of before) (truthful_of now)
  pub faults : faults_of before ≤ faults_of now
  pub absences : absences_of before ≤ absences_of now
