-- Refusals of small files, computed.
use Rattle.std.proofs.Common.{refl}
use Rattle.std.specs.Str.{chars, is_utf8, trim_end, trim_start}
use Rattle.csv.proofs.OnLiterals.{csv_on_literals}
use Rattle.csv.specs.Records.{field_at}
use Rattle.doc_forms.specs.Values.{iso_time}
use Rattle.psafe_file.specs.Opened.{safe_outcome}
use Rattle.psafe_file.specs.SafeFiles.{safe_file}
use Rattle.psafe_core.specs.Outcome.{psafe_outcome}
use Rattle.import_cause_laws.specs.Examples.{ExampleRefusals}

pub example_refusals : ExampleRefusals
unfolding psafe_outcome safe_outcome safe_file csv_on_literals is_utf8 chars lib.Utf8.encode field_at iso_time trim_end trim_start
example_refusals = record { empty = refl; cut = refl; narrow = refl; late = refl; untitled = refl }
