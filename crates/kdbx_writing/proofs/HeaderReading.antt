-- A header that is spelled is read.
use Rattle.std.proofs.Common.{◌≡◌, ℕ, ◌+◌, ◌-◌, ◌<◌, ◌≤◌, false, List, [], ◌∷◌, ◌++◌, length, take, Option, Some, None, Ok, refl, sym, ◌∙◌, ap, subst, arith, append_assoc, length-append}
use Rattle.std.specs.Prelude.{◌==◌}
use Rattle.std.specs.List.{flat_map, AllByRecursion}
use Rattle.std.specs.Int.{w32, to_le_bytes}
use Rattle.std.proofs.Math.Seq.{take-append-add}
use Rattle.sha2.specs.Sha256.{sha256}
use Rattle.sha2.proofs.Facts256.{length-sha256}
use Rattle.key_core.specs.declared.kdf.Kdf.{Kdf}
use Rattle.key_core.specs.declared.kdf.Kdf.TheVariants.{Aes, Argon}
use Rattle.key_core.specs.Kdf.{IsChecked}
use Rattle.vault_model.specs.declared.forms.FileVersion.{FileVersion}
use Rattle.vault_model.specs.declared.forms.FileVersion.TheVariants.{V31, V40, V41}
use Rattle.kdbx_parts.specs.declared.parts.LengthWidth.{LengthWidth}
use Rattle.kdbx_parts.specs.declared.parts.LengthWidth.TheVariants.{Two, Four}
use Rattle.kdbx_frame.specs.declared.settings.Settings.{Settings}
use Rattle.kdbx_frame.specs.Fields.{HeaderFields, header_limit, length_width, no_fields}
use Rattle.kdbx_frame.specs.Header.{check_sums, header_at, header_of, signature}
use Rattle.kdbx_frame.specs.Settings.{CheckedHeader, IsInOrder, IsOfVersion, IsVersion4, checked_header}
use Rattle.kdbx_writing.specs.declared.draws.Draws.{Draws}
use Rattle.kdbx_writing.specs.Draws.{AreDrawn}
use Rattle.kdbx_writing.specs.Fields.{HasRoom, spelled_field_with}
use Rattle.kdbx_writing.specs.Header.{header_end, header_fields, header_with, public_fields, rounds_of, spelled_header, start_with, stream_id_with, stream_key_with, version_number}
use Rattle.kdbx_writing.specs.Kdf.{with_salt}
use Rattle.kdbx_writing.proofs.FieldReading.{CanBeWritten, field_long}
use Rattle.kdbx_writing.proofs.HeaderFields.{add_field}
use Rattle.kdbx_writing.proofs.HeaderParts.{header_at_again, sums_again}
use Rattle.kdbx_writing.proofs.KdfLimits.{checked_again, fits_again}
use Rattle.kdbx_writing.proofs.KdfReading.{Fits}
use Rattle.kdbx_writing.proofs.Readings.{folded}
use Rattle.kdbx_writing.proofs.SettingsReading.{added_31, added_4, fields_31, fields_4, settings_31, settings_4}

take_after : (prefix rest : List ℕ) (n : ℕ) → length prefix ≤ n → take n (prefix ++ rest) ≡ prefix ++ take (n - length prefix) rest
take_after prefix rest n h =
    let sum : n ≡ length prefix + (n - length prefix) = omega (arith, h) in
    ap (λ (k : ℕ). take k (prefix ++ rest)) sum ∙ take-append-add prefix rest (n - length prefix)

-- ---- the fields are short

room_below : (width : LengthWidth) (m n : ℕ) → m ≤ n → HasRoom width n → HasRoom width m
room_below Two m n h room = omega (arith, h, room)
room_below Four m n h room = omega (arith, h, room)

room_in_header : (width : LengthWidth) (n : ℕ) → n < 65536 → HasRoom width n
room_in_header Two n h = omega (arith, h)
room_in_header Four n h = omega (arith, h)

-- Every field is shorter than all of them.
short_fields : (width : LengthWidth) (fields : List (ℕ × List ℕ)) → HasRoom width (length (flat_map (spelled_field_with width) fields))
    → AllByRecursion (λ f. (f.0 == 0) ≡ false) fields → AllByRecursion (CanBeWritten width) fields
short_fields width [] h ids = tt
short_fields width (f ∷ fields) h ids =
    let all = length (flat_map (spelled_field_with width) (f ∷ fields)) in
    let len = length-append (spelled_field_with width f) (flat_map (spelled_field_with width) fields) in (
      (ids.0, room_below width (length f.1) all (omega (arith, len, field_long width f)) h),
      short_fields width fields (room_below width _ all (omega (arith, len)) h) ids.1,
    )

public_id : (public : Option (List ℕ)) → AllByRecursion (λ (f : ℕ × List ℕ). (f.0 == 0) ≡ false) (public_fields public)
public_id None = tt
public_id (Some bytes) = (refl, tt)

-- ---- what the fields of a version give

-- What is read of them.
abbrev checked_with : FileVersion → Settings → Draws → CheckedHeader
checked_with v s d = record {
  settings = record { version = v; cipher = s.cipher; kdf = with_salt s.kdf d.kdf; public = s.public };
  seed = d.seed;
  iv = d.iv;
  stream_id = stream_id_with v;
  stream_key = stream_key_with v d;
  start = start_with v d;
}

-- The fields of a version are read as what they were written from.
record AreRead (v : FileVersion) (s : Settings) (d : Draws) : Type 0 where
  found : HeaderFields
  adds : folded (add_field v) no_fields (header_fields v s d) ≡ Ok found
  checks : checked_header v found ≡ Ok (checked_with v s d)
  ids : AllByRecursion (λ (f : ℕ × List ℕ). (f.0 == 0) ≡ false) (header_fields v s d)

-- Version 3.1 has AES as its key derivation, and no public data.
aes_of : (kdf : Kdf) (public : Option (List ℕ)) (salt : List ℕ) → IsOfVersion V31 kdf public → (with_salt kdf salt ≡ Aes (rounds_of kdf) salt) × (None ≡ public)
aes_of (Aes rounds seed) None salt is = (refl, refl)
aes_of (Aes rounds seed) (Some bytes) salt is = absurd is
aes_of (Argon kind passes memory lanes old) public salt is = absurd is

module _ (s : Settings) (d : Draws) (drawn : AreDrawn s d) (kdf_checked : IsChecked s.kdf) where
  abbrev kdf : Kdf
  kdf = with_salt s.kdf d.kdf

  fits : Fits kdf
  fits = fits_again s.kdf d.kdf kdf_checked drawn.kdf.len

  checked : IsChecked kdf
  checked = checked_again s.kdf d.kdf kdf_checked drawn.kdf.len

  are_read : (v : FileVersion) → IsOfVersion v s.kdf s.public → AreRead v s d
  are_read V31 is =
      let one = aes_of s.kdf s.public d.kdf is in
      let rounds = rounds_of s.kdf in
      let small = subst Fits one.0 fits in
      record {
        found = fields_31 s.cipher rounds d;
        adds = added_31 s.cipher rounds d drawn.seed.len drawn.kdf.len drawn.start.len small.0;
        checks = settings_31 s.cipher rounds d drawn.iv (subst IsChecked one.0 checked)
            ∙ ap (λ (k : Kdf). Ok (record (checked_with V31 s d) { settings = record { version = V31; cipher = s.cipher; kdf = k; public = None } })) (sym one.0)
            ∙ ap (λ (o : Option (List ℕ)). Ok (record (checked_with V31 s d) { settings = record { version = V31; cipher = s.cipher; kdf = kdf; public = o } })) one.1;
        ids = (refl, (refl, (refl, (refl, (refl, (refl, (refl, (refl, (refl, tt)))))))));
      }
  are_read V40 is = record {
    found = fields_4 s.cipher kdf s.public d;
    adds = added_4 s.cipher kdf s.public d drawn.seed.len fits;
    checks = settings_4 V40 s.cipher kdf s.public d drawn.iv checked;
    ids = (refl, (refl, (refl, (refl, (refl, public_id s.public)))));
  }
  are_read V41 is = record {
    found = fields_4 s.cipher kdf s.public d;
    adds = added_4 s.cipher kdf s.public d drawn.seed.len fits;
    checks = settings_4 V41 s.cipher kdf s.public d drawn.iv checked;
    ids = (refl, (refl, (refl, (refl, (refl, public_id s.public)))));
  }

-- ---- a whole header

-- With what must follow it, it is read.
header_read : (s : Settings) (d : Draws) (size : ℕ) (tail : List ℕ) → IsInOrder s → AreDrawn s d → length (spelled_header s d) ≤ header_limit
    → check_sums s.version size (spelled_header s d) tail ≡ Ok tt → header_at size (spelled_header s d ++ tail) ≡ Ok (header_with s d)
unfolding spelled_header
header_read s d size tail order drawn within sums =
    let v = s.version in
    let width = length_width v in
    let read = are_read s d drawn order.kdf v order.version in
    let body = flat_map (spelled_field_with width) (header_fields v s d) in
    let start = signature ++ to_le_bytes w32 (version_number v) in
    let end = spelled_field_with width (0, header_end) in
    let fields_fit : AllByRecursion (CanBeWritten width) (header_fields v s d) =
    short_fields width (header_fields v s d)
    (room_in_header width (length body) (omega (arith, within, length-append start (body ++ end), length-append body end))) read.ids in
    header_at_again size v (header_fields v s d) read.found (checked_with v s d) tail fields_fit read.adds read.checks sums

-- In version 4 its hash and a MAC follow it.
pub header_again : (s : Settings) (d : Draws) (mac rest : List ℕ) → IsVersion4 s.version → IsInOrder s → AreDrawn s d → length mac ≡ 32
    → length (spelled_header s d) + 64 ≤ header_limit
    → header_of (spelled_header s d ++ sha256 (spelled_header s d) ++ mac ++ rest) ≡ Ok (header_with s d)
header_again s d mac rest is order drawn len within =
    let header = spelled_header s d in
    let prefix = header ++ sha256 header ++ mac in
    let size = length (prefix ++ rest) in
    let short : length prefix ≤ 65536 =
    omega (arith, within, length-append (header ++ sha256 header) mac, length-append header (sha256 header), length-sha256 header, len) in
    let left = take (65536 - length prefix) rest in
    ap (header_at size) (take_after prefix rest 65536 short ∙ append_assoc (header ++ sha256 header) mac left ∙ append_assoc header (sha256 header) (mac ++ left))
    ∙ header_read s d size (sha256 header ++ (mac ++ left)) order drawn (omega (arith, within)) (sums_again s.version size header mac left is len)

-- In version 3.1 nothing of its own does.
pub header_again_31 : (s : Settings) (d : Draws) (rest : List ℕ) → s.version ≡ V31 → IsInOrder s → AreDrawn s d
    → length (spelled_header s d) ≤ header_limit → header_of (spelled_header s d ++ rest) ≡ Ok (header_with s d)
header_again_31 s d rest is order drawn within =
    let header = spelled_header s d in
    let size = length (header ++ rest) in
    let left = take (65536 - length header) rest in
    ap (header_at size) (take_after header rest 65536 within)
    ∙ header_read s d size left order drawn within (ap (λ (v : FileVersion). check_sums v size header left) is)
