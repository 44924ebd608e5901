-- Files that are refused, so that each law speaks of something.
use Rattle.std.specs.Prelude.{◌≡◌, [], codes, Err}
use Rattle.psafe_file.specs.declared.fails.PsafeFail.TheVariants.{NotPsafe, Truncated}
use Rattle.psafe_core.specs.Outcome.{psafe_outcome}
use Rattle.table_reading.specs.Documents.{csv_document}
use Rattle.table_reading.specs.declared.fails.TableFail.TheVariants.{BadTime, ColumnMissing, RowWidth}

-- A file of Password Safe of no bytes, and one of its tag alone; a table with a narrow row, one
-- with a bad time, and one without titles.
pub record ExampleRefusals : Type 0 where
  pub empty : psafe_outcome [] (codes "word") 5 ≡ Err NotPsafe
  pub cut : psafe_outcome (codes "PWS3") (codes "word") 5 ≡ Err (Truncated 4)
  pub narrow : csv_document (codes "Title,URL\na\n") 5 ≡ Err (RowWidth 1)
  pub late : csv_document (codes "Title,Created\n\na,\nb,yesterday\n") 5 ≡ Err (BadTime 2)
  pub untitled : csv_document (codes "Group,Notes\na,b\n") 5 ≡ Err ColumnMissing
