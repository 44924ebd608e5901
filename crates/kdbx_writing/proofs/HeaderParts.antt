-- A header that is spelled is read, with its version and its hash, by what its fields say.
use Rattle.std.proofs.Common.{◌≡◌, ℕ, ◌+◌, ◌-◌, ◌<◌, Bool, cond, List, ◌++◌, length, take, Result, Ok, Err, refl, ◌∙◌, ap, arith, append_assoc, length-append}
use Rattle.std.specs.List.{flat_map, AllByRecursion}
use Rattle.std.specs.Int.{w32, to_le_bytes, from_le_bytes}
use Rattle.std.proofs.lemmas.List.{take_at}
use Rattle.sha2.specs.Sha256.{sha256}
use Rattle.sha2.proofs.Facts256.{length-sha256}
use Rattle.vault_model.specs.declared.forms.FileVersion.{FileVersion}
use Rattle.vault_model.specs.declared.forms.FileVersion.TheVariants.{V31, V40, V41}
use Rattle.outside_core.specs.Results.{◌>>=◌}
use Rattle.kdbx_parts.specs.declared.fail.FrameFail.{FrameFail}
use Rattle.kdbx_parts.specs.declared.fail.FrameFail.TheVariants.{NotKdbx, HeaderHash}
use Rattle.kdbx_parts.specs.Parts.{out_of_bounds}
use Rattle.kdbx_frame.specs.declared.header.Header.{Header}
use Rattle.kdbx_frame.specs.Fields.{HeaderFields, fields_from, length_width, no_fields}
use Rattle.kdbx_frame.specs.Header.{check_hash, check_sums, header_at, signature, version_and_rest, version_of}
use Rattle.kdbx_frame.specs.Settings.{CheckedHeader, IsVersion4, checked_header}
use Rattle.kdbx_writing.specs.Fields.{spelled_fields_with}
use Rattle.kdbx_writing.specs.Header.{header_end, version_number}
use Rattle.kdbx_writing.proofs.FieldReading.{CanBeWritten, fewer_fields}
use Rattle.kdbx_writing.proofs.HeaderFields.{add_field, at, fields_again, spelled_in}
use Rattle.kdbx_writing.proofs.Readings.{folded, same_bytes, split_again, then_ok}

number_again : (version : FileVersion) → version_of (from_le_bytes w32 (to_le_bytes w32 (version_number version))) ≡ Ok version
number_again V31 = refl
number_again V40 = refl
number_again V41 = refl

version_again : (size : ℕ) (version : FileVersion) (rest : List ℕ)
    → version_and_rest size (signature ++ (to_le_bytes w32 (version_number version) ++ rest)) ≡ Ok (version, rest)
version_again size version rest =
    let number = to_le_bytes w32 (version_number version) in
    then_ok _ _ _ (split_again NotKdbx 8 signature (number ++ rest) refl)
    ∙ then_ok _ _ _ (split_again (out_of_bounds size 12) 4 number rest refl)
    ∙ then_ok _ _ _ (number_again version)

hash_again : (size : ℕ) (header mac rest : List ℕ) → length mac ≡ 32 → check_hash size header (sha256 header ++ (mac ++ rest)) ≡ Ok tt
hash_again size header mac rest len =
    then_ok _ _ _ (split_again (out_of_bounds size (length header + 32)) 32 (sha256 header) (mac ++ rest) (length-sha256 header))
    ∙ then_ok _ _ _ (split_again (out_of_bounds size (length header + 64)) 32 mac rest len)
    ∙ ap (λ (b : Bool). cond b (Ok tt) (Err (HeaderHash (sha256 header) (sha256 header)))) (same_bytes (sha256 header))

-- The hash and a MAC after a header of version 4 are in order.
pub sums_again : (version : FileVersion) (size : ℕ) (header mac rest : List ℕ) → IsVersion4 version → length mac ≡ 32
    → check_sums version size header (sha256 header ++ (mac ++ rest)) ≡ Ok tt
sums_again V31 size header mac rest is len = absurd is
sums_again V40 size header mac rest is len = hash_again size header mac rest len
sums_again V41 size header mac rest is len = hash_again size header mac rest len

-- A header of these fields.
abbrev pub header_of_fields : FileVersion → List (ℕ × List ℕ) → List ℕ
header_of_fields version fields = signature ++ to_le_bytes w32 (version_number version) ++ spelled_fields_with (length_width version) fields header_end

-- What is read once the header's length is known.
abbrev header_of_len : ℕ → FileVersion → List ℕ → List ℕ → HeaderFields → ℕ → Result Header FrameFail
header_of_len size version text tail found len = do
  _ ← check_sums version size (take len text) tail
  checked ← checked_header version found
  Ok (record {
    settings = checked.settings;
    seed = checked.seed;
    iv = checked.iv;
    stream_id = checked.stream_id;
    stream_key = checked.stream_key;
    start = checked.start;
    size = len;
  })

prefix_len : (prefix tail : List ℕ) → length (prefix ++ tail) - length tail ≡ length prefix
prefix_len prefix tail = omega (arith, length-append prefix tail)

-- A header with what follows it.
pub header_at_again : (size : ℕ) (version : FileVersion) (fields : List (ℕ × List ℕ)) (found : HeaderFields) (checked : CheckedHeader) (tail : List ℕ)
    → AllByRecursion (CanBeWritten (length_width version)) fields
    → folded (add_field version) no_fields fields ≡ Ok found → checked_header version found ≡ Ok checked
    → check_sums version size (header_of_fields version fields) tail ≡ Ok tt
    → header_at size (header_of_fields version fields ++ tail)
    ≡ Ok (record { settings = checked.settings; seed = checked.seed; iv = checked.iv; stream_id = checked.stream_id; stream_key = checked.stream_key; start = checked.start; size = length (header_of_fields version fields) })
unfolding header_at
header_at_again size version fields found checked tail are adds checks sums =
    let header = header_of_fields version fields in
    let text = header ++ tail in
    let body = flat_map (spelled_in version) fields in
    let end = spelled_in version (0, header_end) in
    let enough : length fields < length text = omega (arith, fewer_fields (length_width version) fields, length-append header tail, length-append body end) in
    let after : fields_from version size (length text) (body ++ end ++ tail) ≡ Ok (at found tail) =
    ap (fields_from version size (length text)) (append_assoc body end tail) ∙ fields_again version size (length text) fields found tail are enough adds in
    then_ok _ _ _ (version_again size version (body ++ end ++ tail))
    ∙ then_ok _ _ _ after
    ∙ ap (header_of_len size version text tail found) (prefix_len header tail)
    ∙ then_ok _ _ _ (ap (λ (h : List ℕ). check_sums version size h tail) (take_at header tail (length header) refl) ∙ sums)
    ∙ then_ok _ _ _ checks
