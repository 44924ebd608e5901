-- Refusals of small exports, computed.
use Rattle.std.proofs.Common.{refl}
use Rattle.std.specs.Str.{chars, is_utf8}
use Rattle.serde_json.proofs.OnLiterals.{serde_json_on_literals}
use Rattle.doc_forms.specs.Values.{iso_time}
use Rattle.import_ids.specs.Ids.{id_after}
use Rattle.jiff_core.specs.Calendar.{day_count, days_of_months, days_of_years}
use Rattle.uuid.proofs.OnLiterals.{uuid_on_literals}
use Rattle.bitwarden_cause_laws.specs.Examples.{ExampleRefusals}

pub example_refusals : ExampleRefusals
unfolding id_after serde_json_on_literals uuid_on_literals is_utf8 chars lib.Utf8.encode iso_time day_count days_of_years days_of_months
example_refusals = record {
  array = refl;
  encrypted = refl;
  other_folders = refl;
  unnamed = refl;
  other_login = refl;
  nil = refl;
  twice = refl;
  late = refl;
}
