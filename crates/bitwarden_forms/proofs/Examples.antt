-- Bytes that are no export, and one that is.
use Rattle.std.proofs.Common.{◌≡◌, None, Some, Err, codes, refl}
use Rattle.std.specs.Str.{chars, is_utf8}
use Rattle.serde_json.proofs.OnLiterals.{serde_json_on_literals}
use Rattle.table_reading.specs.DocForms.Values.{iso_time}
use Rattle.jiff_core.specs.Calendar.{day_count, days_of_months, days_of_years}
use Rattle.uuid.proofs.OnLiterals.{uuid_on_literals}
use Rattle.bitwarden_forms.specs.Dates.{date}
use Rattle.bitwarden_forms.specs.Exports.{export_of}
use Rattle.bitwarden_forms.specs.declared.fails.BitwardenFail.TheVariants.{Encrypted, FolderForm, JsonForm, Member, NilId}

pub not_json : export_of (codes "[") ≡ Err JsonForm
unfolding serde_json_on_literals is_utf8 chars lib.Utf8.encode
not_json = refl

pub no_object : export_of (codes "[]") ≡ Err JsonForm
unfolding serde_json_on_literals is_utf8 chars lib.Utf8.encode
no_object = refl

pub encrypted : export_of (codes "{\"encrypted\":true}") ≡ Err Encrypted
unfolding serde_json_on_literals is_utf8 chars lib.Utf8.encode
encrypted = refl

pub no_list_of_folders : export_of (codes "{\"encrypted\":false,\"folders\":{}}") ≡ Err (FolderForm 0)
unfolding serde_json_on_literals is_utf8 chars lib.Utf8.encode
no_list_of_folders = refl

pub a_folder_without_name : export_of (codes "{\"folders\":[{\"id\":\"f\",\"name\":\"a\"},{\"id\":\"g\",\"name\":null}]}") ≡ Err (FolderForm 2)
unfolding serde_json_on_literals is_utf8 chars lib.Utf8.encode
a_folder_without_name = refl

pub no_such_folder : export_of (codes "{\"items\":[{\"folderId\":\"f\"}]}") ≡ Err (Member 1)
unfolding serde_json_on_literals is_utf8 chars lib.Utf8.encode
no_such_folder = refl

pub a_nil_id : export_of (codes "{\"items\":[{},{\"id\":\"00000000-0000-0000-0000-000000000000\"}]}") ≡ Err (NilId 2)
unfolding serde_json_on_literals uuid_on_literals is_utf8 chars lib.Utf8.encode
a_nil_id = refl

pub a_fraction : date (codes "2024-01-01T00:00:00.000Z") ≡ Some 63_839_664_000
unfolding iso_time day_count days_of_years days_of_months
a_fraction = refl

pub no_fraction : date (codes "2023-01-01T00:00:00Z") ≡ Some 63_808_128_000
unfolding iso_time day_count days_of_years days_of_months
no_fraction = refl

pub no_digits : date (codes "2024-01-01T00:00:00.Z") ≡ None
unfolding iso_time day_count days_of_years days_of_months
no_digits = refl
