-- A history of the three files: two are merged into the first, which the second becomes a copy of.
use Rattle.std.specs.Prelude.{ℕ, zero, suc, List, [], ◌∷◌, None, codes}
use Rattle.merge_examples.specs.Cases.{example_docs}
use Rattle.keepass_call.specs.Call.{IsCall}
use Rattle.keepass_call.specs.Outcome.{Counts, IsWorldOf, Seen}
use Rattle.call_conditions.specs.Copies.{CallSeen, Copies}
use Rattle.call_conditions.specs.Histories.{IsHistory, call, copied}
use Rattle.law_examples.specs.Files.{merge_three, three_files, world_of}

-- the names of the three files
abbrev pub name_of : ℕ → List ℕ
name_of zero = codes "a.xml"
name_of (suc zero) = codes "b.xml"
name_of (suc (suc k)) = codes "c.xml"

-- they are plain, and on one disk
abbrev pub plain_copies : Copies
plain_copies =
    record { count = 3; copy = λ k. record { disk = 0; name = name_of k; key = None } }

-- a call that merges them, with status 0
abbrev pub merging : ℕ → (before now : Seen) → (counts counts' : Counts) → CallSeen
merging time before now counts counts' = record {
  words = merge_three;
  time = time;
  result = 0;
  before = before;
  now = now;
  counts = counts;
  counts' = counts';
  world = world_of three_files;
  disk = 0;
  target = 0;
  sources = 1 ∷ 2 ∷ [];
}

-- each such call of the program, and a copy after it, are a history
abbrev pub MergingIsAHistory : Type 0
MergingIsAHistory = (time : ℕ) (before now : Seen) (counts counts' : Counts)
    → IsCall merge_three time 0 before now counts counts'
    → IsWorldOf merge_three before now (world_of three_files)
    → IsHistory plain_copies example_docs (λ _. three_files)
    (call (merging time before now counts counts') ∷ copied 1 0 ∷ [])
