-- The three copies of the worked example, merged, and a run of merges and copies of them; and a
-- document that merges leave as it is.
use Rattle.std.specs.Prelude.{◌≡◌, ℕ, zero, suc, List, [], ◌∷◌, Ok, codes}
use Rattle.vault_model.specs.Join.{Agreed, IsWithin}
use Rattle.vault_model.specs.Tree.{BareDoc, db_in, node, none}
use Rattle.merge_core.specs.Example.{as_it_was, copies, edited, group, meta, moved, root}
use Rattle.run_laws.specs.DocumentMerge.Merging.{merge_result}
use Rattle.run_laws.specs.AgreedLaws.Merges.{AreDocs, IsSettledAs}
use Rattle.run_laws.specs.TrimmedRuns.{DocEvent, IsRun, joining, overwriting, world_after}
use Rattle.run_laws.specs.WholeRuns.{IsWholeRun}

-- The second and the third copy are merged into the first, which is refused by nothing.
pub record IsMergedExample (doc : BareDoc) : Type 0 where
  pub docs : AreDocs (as_it_was ∷ edited ∷ moved ∷ [])
  pub merged : merge_result as_it_was (edited ∷ moved ∷ []) ≡ Ok doc

-- there is such a merge
abbrev pub ExampleIsMerged : Type 0
ExampleIsMerged = (doc : BareDoc) × IsMergedExample doc

-- replicas that begin with the copies
abbrev pub example_docs : ℕ → BareDoc
example_docs zero = as_it_was
example_docs (suc zero) = edited
example_docs (suc (suc k)) = moved

-- the second and the third are merged into the first, which the second becomes a copy of
abbrev pub merged_and_copied : BareDoc → List DocEvent
merged_and_copied doc = joining 0 (1 ∷ 2 ∷ []) doc ∷ overwriting 1 0 ∷ []

-- A run of them, in which the two have learned what is in the agreed set, and have learned the same.
pub record IsExampleRun (doc : BareDoc) : Type 0 where
  pub agreed : Agreed copies
  pub run : IsRun example_docs (merged_and_copied doc)
  pub whole : IsWholeRun example_docs (merged_and_copied doc)
  pub first : IsWithin (world_after example_docs (merged_and_copied doc) 0).learned copies
  pub second : IsWithin (world_after example_docs (merged_and_copied doc) 1).learned copies

-- there is such a run
abbrev pub ExampleRuns : Type 0
ExampleRuns = (doc : BareDoc) × IsExampleRun doc

-- a document with nothing in its root group
abbrev pub bare : BareDoc
bare = record { tree = node root (group 10 (codes "Root")) [] none; tombs = []; meta = meta }

-- it is settled
abbrev pub BareIsSettled : Type 0
BareIsSettled = IsSettledAs (db_in bare) bare
