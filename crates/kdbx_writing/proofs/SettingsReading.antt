-- The settings that the fields of a written header give.
use Rattle.std.proofs.Common.{◌≡◌, ℕ, ◌-◌, ◌≤◌, Bool, cond, List, [], ◌∷◌, ◌++◌, ◌<◌, ◌^◌, length, take, replicate, Option, Some, None, Ok, Err, refl, sym, ◌∙◌, ap, arith, length-take-le, take-append-drop}
use Rattle.std.specs.Int.{w32, w64, to_le_bytes}
use Rattle.std.proofs.lemmas.Bool.{eq-eqb}
use Rattle.std.proofs.lemmas.Nat.{from_le_bytes-to_le_bytes_8}
use Rattle.vault_model.specs.declared.forms.FileVersion.{FileVersion}
use Rattle.vault_model.specs.declared.forms.FileVersion.TheVariants.{V31, V40}
use Rattle.key_core.specs.declared.kdf.Kdf.{Kdf}
use Rattle.key_core.specs.declared.kdf.Kdf.TheVariants.{Aes, Argon}
use Rattle.key_core.specs.Kdf.{IsChecked}
use Rattle.kdbx_parts.specs.declared.fail.FrameFail.TheVariants.{FieldLength}
use Rattle.kdbx_frame.specs.declared.settings.Cipher.{Cipher}
use Rattle.kdbx_frame.specs.declared.settings.Cipher.TheVariants as cipher
use Rattle.kdbx_frame.specs.Fields.{HeaderFields, no_fields, with_common_field, with_field_31, with_field_4}
use Rattle.kdbx_frame.specs.Settings.{checked_header_31, checked_header_4, cipher_of, iv_len, iv_of, kdf_of, settings_and_iv, within_limits}
use Rattle.kdbx_writing.specs.declared.draws.Draws.{Draws}
use Rattle.kdbx_writing.specs.Draws.{AreFront}
use Rattle.kdbx_writing.specs.Header.{cipher_id, public_fields, salsa20, stream_key_31}
use Rattle.kdbx_writing.specs.Kdf.{spelled_kdf}
use Rattle.kdbx_writing.proofs.FieldReading.{length_again}
use Rattle.kdbx_writing.proofs.HeaderFields.{add_field}
use Rattle.kdbx_writing.proofs.KdfReading.{Fits, described, dictionary_again}
use Rattle.kdbx_writing.proofs.Readings.{folded, then_ok}

id_len : (c : Cipher) → length (cipher_id c) ≡ 16
id_len cipher.Aes = refl
id_len cipher.Twofish = refl
id_len cipher.ChaCha = refl

iv_fits : (c : Cipher) → iv_len c ≤ 16
iv_fits cipher.Aes = omega arith
iv_fits cipher.Twofish = omega arith
iv_fits cipher.ChaCha = omega arith

cipher_again : (c : Cipher) → cipher_of (cipher_id c) ≡ Ok c
cipher_again cipher.Aes = refl
cipher_again cipher.Twofish = refl
cipher_again cipher.ChaCha = refl

iv_again : (c : Cipher) (iv : List ℕ) → AreFront (iv_len c) 16 iv → iv_of c (take (iv_len c) iv) ≡ Ok iv
iv_again c iv front =
    let part = take (iv_len c) iv in
    let part_len : length part ≡ iv_len c = length-take-le (iv_len c) iv (omega (arith, front.len, iv_fits c)) in
    ap (λ (b : Bool). cond b (Ok (part ++ replicate (16 - length part) 0)) (Err (FieldLength 7 (length part)))) (eq-eqb (length part) (iv_len c) part_len)
    ∙ ap (λ (n : ℕ). Ok (part ++ replicate (16 - n) 0)) part_len
    ∙ ap (λ (zeros : List ℕ). Ok (part ++ zeros)) (sym front.rest)
    ∙ ap Ok (take-append-drop (iv_len c) iv)

kdf_again : (kdf : Kdf) → IsChecked kdf → kdf_of (described kdf) ≡ Ok kdf
kdf_again (Aes rounds seed) h = ap (within_limits (Aes rounds seed)) h
kdf_again (Argon kind passes memory lanes salt) h = ap (within_limits (Argon kind passes memory lanes salt)) h

-- ---- version 4

-- What the fields of version 4 say.
abbrev pub fields_4 : Cipher → Kdf → Option (List ℕ) → Draws → HeaderFields
fields_4 c kdf public d = record no_fields {
  cipher = Some (cipher_id c);
  compression = Some 0;
  seed = Some d.seed;
  iv = Some (take (iv_len c) d.iv);
  kdf = Some (described kdf);
  public = public;
}

added : (version : FileVersion) (p : HeaderFields) (f : ℕ × List ℕ) (more : List (ℕ × List ℕ)) (q : HeaderFields) → add_field version p f ≡ Ok q
    → folded (add_field version) p (f ∷ more) ≡ folded (add_field version) q more
unfolding folded
added version p f more q h = then_ok _ _ _ h

nothing_left : (version : FileVersion) (p : HeaderFields) → folded (add_field version) p [] ≡ Ok p
unfolding folded
nothing_left version p = refl

public_added : (public : Option (List ℕ)) (p : HeaderFields) → p.public ≡ None → folded (add_field V40) p (public_fields public) ≡ Ok (record p { public = public })
unfolding folded with_field_4 with_common_field
public_added None p none = ap (λ (o : Option (List ℕ)). Ok (record p { public = o })) none
public_added (Some bytes) p none = rw none refl

pub added_4 : (c : Cipher) (kdf : Kdf) (public : Option (List ℕ)) (d : Draws) → length d.seed ≡ 32 → Fits kdf
    → folded (add_field V40) no_fields ((2, cipher_id c) ∷ (3, to_le_bytes w32 0) ∷ (4, d.seed) ∷ (7, take (iv_len c) d.iv) ∷ (11, spelled_kdf kdf) ∷ public_fields public)
    ≡ Ok (fields_4 c kdf public d)
unfolding with_field_4 with_common_field
added_4 c kdf public d seed_len fits =
    let p1 = record no_fields { cipher = Some (cipher_id c) } in
    let p2 = record p1 { compression = Some 0 } in
    let p3 = record p2 { seed = Some d.seed } in
    let p4 = record p3 { iv = Some (take (iv_len c) d.iv) } in
    let p5 = record p4 { kdf = Some (described kdf) } in
    added V40 no_fields (2, cipher_id c) _ p1 (then_ok _ _ _ (length_again 2 16 (cipher_id c) (id_len c)))
    ∙ added V40 p1 (3, to_le_bytes w32 0) _ p2 refl
    ∙ added V40 p2 (4, d.seed) _ p3 (then_ok _ _ _ (length_again 4 32 d.seed seed_len))
    ∙ added V40 p3 (7, take (iv_len c) d.iv) _ p4 refl
    ∙ added V40 p4 (11, spelled_kdf kdf) _ p5 (then_ok _ _ _ (dictionary_again kdf fits))
    ∙ public_added public p5 refl

pub settings_4 : (version : FileVersion) (c : Cipher) (kdf : Kdf) (public : Option (List ℕ)) (d : Draws) → AreFront (iv_len c) 16 d.iv → IsChecked kdf
    → checked_header_4 version (fields_4 c kdf public d)
    ≡ Ok (record { settings = record { version = version; cipher = c; kdf = kdf; public = public }; seed = d.seed; iv = d.iv; stream_id = 0; stream_key = []; start = replicate 32 0 })
unfolding checked_header_4 settings_and_iv
settings_4 version c kdf public d iv checked =
    then_ok _ _ _ (then_ok _ _ _ (cipher_again c) ∙ then_ok _ _ _ (iv_again c d.iv iv) ∙ then_ok _ _ _ (kdf_again kdf checked))

-- ---- version 3.1

-- What the fields of version 3.1 say.
abbrev pub fields_31 : Cipher → ℕ → Draws → HeaderFields
fields_31 c rounds d = record no_fields {
  cipher = Some (cipher_id c);
  compression = Some 0;
  seed = Some d.seed;
  kdf_seed = Some d.kdf;
  rounds = Some rounds;
  iv = Some (take (iv_len c) d.iv);
  stream_key = Some (stream_key_31 d);
  start = Some d.start;
  stream_id = Some salsa20;
}

pub added_31 : (c : Cipher) (rounds : ℕ) (d : Draws) → length d.seed ≡ 32 → length d.kdf ≡ 32 → length d.start ≡ 32 → rounds < 2 ^ 64
    → folded (add_field V31) no_fields ((2, cipher_id c) ∷ (3, to_le_bytes w32 0) ∷ (4, d.seed) ∷ (5, d.kdf) ∷ (6, to_le_bytes w64 rounds)
    ∷ (7, take (iv_len c) d.iv) ∷ (8, stream_key_31 d) ∷ (9, d.start) ∷ (10, to_le_bytes w32 salsa20) ∷ [])
    ≡ Ok (fields_31 c rounds d)
unfolding with_field_31 with_common_field
added_31 c rounds d seed_len kdf_len start_len small =
    let p1 = record no_fields { cipher = Some (cipher_id c) } in
    let p2 = record p1 { compression = Some 0 } in
    let p3 = record p2 { seed = Some d.seed } in
    let p4 = record p3 { kdf_seed = Some d.kdf } in
    let p5 = record p4 { rounds = Some rounds } in
    let p6 = record p5 { iv = Some (take (iv_len c) d.iv) } in
    let p7 = record p6 { stream_key = Some (stream_key_31 d) } in
    let p8 = record p7 { start = Some d.start } in
    let p9 = record p8 { stream_id = Some salsa20 } in
    added V31 no_fields (2, cipher_id c) _ p1 (then_ok _ _ _ (length_again 2 16 (cipher_id c) (id_len c)))
    ∙ added V31 p1 (3, to_le_bytes w32 0) _ p2 refl
    ∙ added V31 p2 (4, d.seed) _ p3 (then_ok _ _ _ (length_again 4 32 d.seed seed_len))
    ∙ added V31 p3 (5, d.kdf) _ p4 (then_ok _ _ _ (length_again 5 32 d.kdf kdf_len))
    ∙ added V31 p4 (6, to_le_bytes w64 rounds) _ p5 (ap (λ (n : ℕ). Ok (record p4 { rounds = Some n })) (from_le_bytes-to_le_bytes_8 rounds small))
    ∙ added V31 p5 (7, take (iv_len c) d.iv) _ p6 refl
    ∙ added V31 p6 (8, stream_key_31 d) _ p7 refl
    ∙ added V31 p7 (9, d.start) _ p8 (then_ok _ _ _ (length_again 9 32 d.start start_len))
    ∙ added V31 p8 (10, to_le_bytes w32 salsa20) _ p9 refl
    ∙ nothing_left V31 p9

pub settings_31 : (c : Cipher) (rounds : ℕ) (d : Draws) → AreFront (iv_len c) 16 d.iv → IsChecked (Aes rounds d.kdf)
    → checked_header_31 (fields_31 c rounds d)
    ≡ Ok (record { settings = record { version = V31; cipher = c; kdf = Aes rounds d.kdf; public = None }; seed = d.seed; iv = d.iv; stream_id = salsa20; stream_key = stream_key_31 d; start = d.start })
unfolding checked_header_31 settings_and_iv
settings_31 c rounds d iv checked =
    then_ok _ _ _ (then_ok _ _ _ (cipher_again c) ∙ then_ok _ _ _ (iv_again c d.iv iv) ∙ then_ok _ _ _ (kdf_again (Aes rounds d.kdf) checked))
