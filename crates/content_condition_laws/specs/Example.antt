-- Conditions that hold of small databases, so that each law but that of codes speaks of something.
use Rattle.std.specs.Prelude.{[], ◌∷◌, codes, false, true}
use Rattle.merge_core.specs.Example.{as_it_was, edited, moved}
use Rattle.merge_examples.specs.AgreedLaws.Merges.{AreDocs}
use Rattle.cli_needs.specs.declared.command.ExportFormat.TheVariants.{Csv, Xml}
use Rattle.content_condition_laws.specs.Conditions.{CanBeMerged, CanExport, CanSearch, CanShow, CanShowHistory}

-- An entry can be shown with all its fields, and found by its title in letters of another case; the
-- database can be printed as a table and as a document; and two other copies of it, of which each
-- has what the others lack, can be merged into it.
pub record ExampleConditions : Type 0 where
  pub show : CanShow (codes "Bank") false true [] 0 as_it_was
  pub history : CanShowHistory (codes "Bank") as_it_was
  pub search : CanSearch (codes "bank") as_it_was
  pub table : CanExport Csv as_it_was
  pub document : CanExport Xml as_it_was
  pub docs : AreDocs (as_it_was ∷ edited ∷ moved ∷ [])
  pub merge : CanBeMerged as_it_was (edited ∷ moved ∷ [])
