-- Tables that give no document, and what rows give.
use Rattle.std.proofs.Common.{◌≡◌, [], ◌∷◌, None, Some, Ok, Err, codes, refl}
use Rattle.std.specs.Str.{chars, is_utf8, trim_end, trim_start}
use Rattle.csv.proofs.OnLiterals.{csv_on_literals}
use Rattle.csv.specs.Reading.{default_config, records}
use Rattle.csv.specs.Records.{field_at}
use Rattle.import_tree.specs.DocForms.Values.{iso_time}
use Rattle.table_reading.specs.Cells.{host}
use Rattle.table_reading.specs.Columns.{passed_names}
use Rattle.table_reading.specs.Documents.{csv_document, table_of}
use Rattle.table_reading.specs.Groups.{group_names}
use Rattle.table_reading.specs.Rows.{row_entries}
use Rattle.table_reading.specs.declared.fails.TableFail.TheVariants.{BadTime, ColumnMissing, RowWidth}

pub a_narrow_row : csv_document (codes "Title,URL\na\n") 5 ≡ Err (RowWidth 1)
unfolding csv_on_literals is_utf8 chars lib.Utf8.encode field_at trim_end trim_start
a_narrow_row = refl

pub no_time : csv_document (codes "Title,Created\n\na,\nb,yesterday\n") 5 ≡ Err (BadTime 2)
unfolding csv_on_literals is_utf8 chars lib.Utf8.encode field_at trim_end trim_start iso_time
no_time = refl

pub no_title : csv_document (codes "Group,Notes\na,b\n") 5 ≡ Err ColumnMissing
unfolding csv_on_literals is_utf8 chars lib.Utf8.encode field_at trim_end trim_start
no_title = refl

pub an_empty_table : csv_document [] 5 ≡ Err ColumnMissing
unfolding csv_on_literals is_utf8 chars lib.Utf8.encode field_at trim_end trim_start
an_empty_table = refl

pub below_the_root : group_names (codes "/Root//Home/") ≡ codes "Home" ∷ []
below_the_root = refl

pub two_rows : records default_config (codes "Group,Title,Password\nRoot/Home,Wifi,s3\n")
    ≡ (codes "Group" ∷ codes "Title" ∷ codes "Password" ∷ []) ∷ (codes "Root/Home" ∷ codes "Wifi" ∷ codes "s3" ∷ []) ∷ []
unfolding csv_on_literals
two_rows = refl

pub an_entry : row_entries (table_of 5 (codes "Group" ∷ codes "Title" ∷ codes "Password" ∷ [])) 1 ((codes "Root/Home" ∷ codes "Wifi" ∷ codes "s3" ∷ []) ∷ [])
    ≡ Ok (record {
      groups = codes "Home" ∷ [];
      id = None;
      title = codes "Wifi";
      user = [];
      password = codes "s3";
      url = [];
      notes = [];
      history = None;
      otp = None;
      created = 5;
      modified = 5;
    } ∷ [])
unfolding field_at trim_end trim_start chars lib.Utf8.encode
an_entry = refl

pub a_host : host (codes "https://bob@home.example.org:8443/a?b#c") ≡ codes "home.example.org"
a_host = refl

pub no_scheme : host (codes "example.org#c/d") ≡ codes "example.org"
no_scheme = refl

pub by_hosts : row_entries (table_of 5 (codes " URL " ∷ codes "OTPAuth" ∷ [])) 1 ((codes "https://example.org/a" ∷ codes "NBSW" ∷ []) ∷ [])
    ≡ Ok (record {
      groups = [];
      id = None;
      title = codes "example.org";
      user = [];
      password = [];
      url = codes "https://example.org/a";
      notes = [];
      history = None;
      otp = Some (codes "otpauth://totp/?secret=NBSW");
      created = 5;
      modified = 5;
    } ∷ [])
unfolding field_at trim_end trim_start chars lib.Utf8.encode
by_hosts = refl

pub two_passwords : passed_names (codes "name" ∷ codes "Password" ∷ codes "Tags" ∷ codes "password" ∷ []) ≡ codes "Password" ∷ codes "Tags" ∷ []
unfolding trim_end trim_start chars lib.Utf8.encode
two_passwords = refl
