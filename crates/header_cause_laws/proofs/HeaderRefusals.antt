-- Refusals of headers have their causes.
use Rattle.std.proofs.Common.{◌≡◌, ◌≢◌, ◌⊎◌, ◌+◌, ◌*◌, ◌-◌, ◌<◌, ◌≤◌, ◌||◌, ℕ, Bool, true, false, inl, inr, cond, List, [], ◌∷◌, ◌++◌, length, take, drop, is_some, Option, None, Some, Result, Ok, Err, bytes_eq, nat_lt, refl, sym, ap, subst, ◌∙◌, arith, append_assoc, length-append, length-drop}
use Rattle.std.specs.Prelude.{◌==◌}
use Rattle.std.specs.Int.{from_le_bytes, w32}
use Rattle.std.proofs.lemmas.Bool.{eqb-false, ltb-false, ltb-true}
use Rattle.std.proofs.lemmas.List.{drop_at, length-take, length-take-le, take-append-drop}
use Rattle.outside_core.specs.Results.{◌>>=◌}
use Rattle.sha2.specs.Sha256.{sha256}
use Rattle.argon_core.specs.Argon2.{max_kib, max_lanes, max_salt, min_lane_kib, min_salt}
use Rattle.vault_model.specs.Join.{IsIn}
use Rattle.vault_model.specs.declared.forms.FileVersion.{FileVersion}
use Rattle.vault_model.specs.declared.forms.FileVersion.TheVariants.{V31, V40, V41}
use Rattle.key_core.specs.Kdf.{checked_kdf}
use Rattle.key_core.specs.declared.kdf.Kdf.{Kdf}
use Rattle.key_core.specs.declared.kdf.Kdf.TheVariants as kdf
use Rattle.key_core.specs.declared.kdf.KdfFail.{KdfFail}
use Rattle.key_core.specs.declared.kdf.KdfFail.TheVariants as kdf_fail
use Rattle.kdbx_parts.specs.Dictionary.{KdfDescription, aes, argon, unknown_id, wrong_version}
use Rattle.kdbx_parts.specs.Parts.{Field, out_of_bounds, required, split_bytes}
use Rattle.kdbx_parts.specs.declared.fail.FrameFail.{FrameFail}
use Rattle.kdbx_parts.specs.declared.fail.FrameFail.TheVariants.{CipherUnknown, Compressed, Dictionary, FieldLength, FieldMissing, FieldTwice, HeaderHash, KdfLimit, KdfUnknown, NoMemory, NotKdbx, TooLarge, Truncated, Variant, Version}
use Rattle.kdbx_frame.specs.Fields.{FieldsRead, HeaderFields, fields_from, header_limit, no_fields}
use Rattle.kdbx_frame.specs.Header.{check_hash, check_sums, header_at, header_of, signature, version_of, with_size}
use Rattle.kdbx_frame.specs.Settings.{IsVersion4, aes_id, chacha_id, checked_header, checked_header_31, checked_header_4, cipher_of, iv_len, iv_of, kdf_of, refuse_compression, settings_and_iv, twofish_id, within_limits}
use Rattle.kdbx_frame.specs.declared.header.Header.{Header}
use Rattle.kdbx_frame.specs.declared.settings.Cipher.{Cipher}
use Rattle.header_cause_laws.specs.FieldCauses.{IsWrongField, is_there}
use Rattle.header_cause_laws.specs.HeaderCauses.{Describes, HasWrongField, HasWrongIv, HeaderCause, HeaderRefusalsHaveCauses, IsCompressed, IsOf, IsVariant, Lacks, NamesNoCipher, NamesNoKdf, NamesVariant, PassesLimit, SaysSo, needed_ids}
use Rattle.header_cause_laws.specs.Headers.{HasCutPart, HasFields, HasNumber, IsCut, LeadTo, header_bytes}
use Rattle.header_cause_laws.proofs.FieldFaults.{field_faults}
use Rattle.header_cause_laws.proofs.Fields.{IsCutInto, IsPart, IsRead, IsRefused, cut_made, cut_short, led, read_all}
use Rattle.header_cause_laws.proofs.Steps.{agrees, differs, refused_at, same_fail, which}

-- ---- what is before some bytes

-- Fields lead to the end of the bytes that they lead from.
ends_with : (version : FileVersion) (fs : List Field) (from to : FieldsRead) → LeadTo version fs from to → (front : List ℕ) × (from.rest ≡ front ++ to.rest)
ends_with version [] from to lead = ([], ap (λ (r : FieldsRead). r.rest) lead)
ends_with version (f ∷ fs) from to lead =
    let rest = ends_with version fs (record { fields = lead.0; rest = f.rest }) to lead.4 in (
      f.id ∷ (lead.1.len ++ (f.content ++ rest.0)),
      lead.1.is ∙ ap (λ (t : List ℕ). f.id ∷ (lead.1.len ++ (f.content ++ t))) rest.1
          ∙ ap (λ (t : List ℕ). f.id ∷ (lead.1.len ++ t)) (sym (append_assoc f.content rest.0 to.rest))
          ∙ ap (λ (t : List ℕ). f.id ∷ t) (sym (append_assoc lead.1.len (f.content ++ rest.0) to.rest)),
    )

-- ---- key derivations

-- A number that is out of its limits is no lack of memory.
no_memory : (k : Kdf) → checked_kdf k ≡ Err kdf_fail.NoMemory → ⊥
no_memory (kdf.Aes rounds seed) h = elim (which (nat_lt rounds 0 || nat_lt 4294967296 rounds) _ _ _ h) [ inl a ↦ cc a.1 | inr a ↦ cc a.1 ]
no_memory (kdf.Argon kind passes bytes lanes salt) h = elim (which (nat_lt passes 1 || nat_lt 4294967295 passes) _ _ _ h) [
  | inl a ↦ cc a.1
  | inr a ↦ elim (which (nat_lt bytes (1024 * min_lane_kib * lanes) || nat_lt (1024 * max_kib) bytes) _ _ _ a.1) [
    | inl b ↦ cc b.1
    | inr b ↦ elim (which (nat_lt lanes 1 || nat_lt max_lanes lanes) _ _ _ b.1) [
      | inl c ↦ cc c.1
      | inr c ↦ elim (which (nat_lt (length salt) min_salt || nat_lt max_salt (length salt)) _ _ _ c.1) [ inl d ↦ cc d.1 | inr d ↦ cc d.1 ]
    ]
  ]
]

module _ (file : List ℕ) (why : FrameFail) where
  abbrev Cause : FrameFail → Type 0
  Cause f = HeaderCause f file

  is_so : (f : FrameFail) → f ≡ why → Cause f → Cause why
  is_so f same c = subst (λ (g : FrameFail). Cause g) same c

  abbrev text : List ℕ
  text = header_bytes file

  abbrev size : ℕ
  size = length file

  -- ---- parts that are not whole

  -- a part that is not whole, by where it ends
  cut_cause : (end : ℕ) → HasCutPart file end → length text < end → out_of_bounds size end ≡ why → Cause why
  cut_cause end part past h = by (nat_lt size end) refl h
    where
      within : ℕ
      within = length text

      by : (b : Bool) → nat_lt size end ≡ b → cond b (Truncated size) (TooLarge end) ≡ why → Cause why
      by true e g = is_so (Truncated size) g (record { len_is = refl; end = end; part = part; past = ltb-true size end e })
      by false e g =
          let fits = ltb-false size end e in
          let len = length-take header_limit file in
          is_so (TooLarge end) g (record { part = part; within = omega (arith, fits); past = omega (arith, fits, len, past) })

  past_text : (rest : List ℕ) (n end : ℕ) → IsCut file rest n end → length text < end
  past_text rest n end cut = let short = cut.short in let ends = cut.ends in omega (arith, short, ends)

  -- ---- the signature and the version

  unsigned : (length text < 8) ⊎ (take 8 text ≢ signature) → (rest : List ℕ) → file ≢ signature ++ rest
  unsigned not_so rest same = elim not_so [
    | inl short ↦ let len = ap length begins in absurd (omega (arith, short, len))
    | inr other ↦ other (ap (take 8) begins)
  ]
    where
      begins : text ≡ signature ++ take 65528 rest
      begins = ap (take header_limit) same

  module _ (signed : List ℕ × List ℕ) (cut_is : split_bytes NotKdbx 8 text ≡ Ok signed) (same : signed.0 ≡ signature) where
    abbrev cut : IsCutInto 8 text signed
    cut = cut_made NotKdbx 8 text signed cut_is

    begins : text ≡ signature ++ signed.1
    begins = sym (take-append-drop 8 text) ∙ (λ i. (sym cut.first ∙ same) i ++ sym cut.then i)

    in_number : split_bytes (out_of_bounds size 12) 4 signed.1 ≡ Err why → Cause why
    in_number h =
        let c = cut_short (out_of_bounds size 12) why 4 signed.1 h in
        let len = ap length begins in
        let is_cut : IsCut file signed.1 4 12 = record { short = c.0; ends = omega (arith, len) } in
        cut_cause 12 (inl (record { rest = signed.1; begins = begins; cut = is_cut })) (past_text signed.1 4 12 is_cut) c.1

    module _ (number : List ℕ × List ℕ) (number_is : split_bytes (out_of_bounds size 12) 4 signed.1 ≡ Ok number) where
      abbrev number_cut : IsCutInto 4 signed.1 number
      number_cut = cut_made (out_of_bounds size 12) 4 signed.1 number number_is

      abbrev value : ℕ
      value = from_le_bytes w32 number.0

      parts : signed.1 ≡ number.0 ++ number.1
      parts = sym (take-append-drop 4 signed.1) ∙ (λ i. sym number_cut.first i ++ sym number_cut.then i)

      abbrev has_number : HasNumber value text number.1
      has_number = record {
        written = number.0;
        is = begins ∙ ap (λ (t : List ℕ). signature ++ t) parts;
        len = ap length number_cut.first ∙ length-take-le 4 signed.1 number_cut.enough;
        number_is = refl;
      }

      in_version : version_of value ≡ Err why → Cause why
      in_version h = elim (which (value == 0x00030001) _ _ _ h) [
        | inl a ↦ cc a.1
        | inr a ↦ elim (which (value == 0x00040000) _ _ _ a.1) [
          | inl b ↦ cc b.1
          | inr b ↦ elim (which (value == 0x00040001) _ _ _ b.1) [
            | inl c ↦ cc c.1
            | inr c ↦ is_so (Version value) (same_fail (Version value) why c.1) (record {
              rest = number.1 ++ drop header_limit file;
              has = record {
                written = number.0;
                is = sym (take-append-drop header_limit file) ∙ ap (λ (t : List ℕ). t ++ drop header_limit file) has_number.is ∙ ap (λ (t : List ℕ). signature ++ t) (append_assoc number.0 number.1 (drop header_limit file));
                len = has_number.len;
                number_is = refl;
              };
              no_31 = eqb-false value 0x00030001 a.0;
              no_40 = eqb-false value 0x00040000 b.0;
              no_41 = eqb-false value 0x00040001 c.0;
            })
          ]
        ]
      ]

      -- ---- fields

      module _ (version : FileVersion) (version_is : version_of value ≡ Ok version) where
        abbrev start : FieldsRead
        start = record { fields = no_fields; rest = number.1 }

        front : (fs : List Field) (to : FieldsRead) → LeadTo version fs start to → (before : List ℕ) × (text ≡ before ++ to.rest)
        front fs to lead =
            let e = ends_with version fs start to lead in
            (signature ++ (number.0 ++ e.0), has_number.is ∙ ap (λ (t : List ℕ). signature ++ (number.0 ++ t)) e.1 ∙ ap (λ (t : List ℕ). signature ++ t) (sym (append_assoc number.0 e.0 to.rest)))

        in_fields : fields_from version size (length text) number.1 ≡ Err why → Cause why
        in_fields h =
            let l = led version size (length text) (length text) start why (omega (arith, whole)) h in
            elim l.there [
              | inl p ↦ in_part l.fields l.now l.lead p
              | inr r ↦ in_field l.fields l.now l.lead r
            ]
          where
            whole : length number.1 ≤ length text
            whole = let all = ap length has_number.is in let more = length-append number.0 number.1 in omega (arith, all, more)

            in_part : (fs : List Field) (now : FieldsRead) → LeadTo version fs start now → IsPart version size (length text) now why → Cause why
            in_part fs now lead p =
                let f = front fs now lead in
                let all = ap length f.1 in
                let less = length-append f.0 now.rest in
                let short = p.short in
                let is_cut : IsCut file now.rest p.n (length text - length now.rest + p.n) = record { short = short; ends = omega (arith, all, less) } in
                cut_cause (length text - length now.rest + p.n) (inr (inl (record {
                  version = version;
                  now = now;
                  reads = record { number = value; after = number.1; begins = has_number; version_is = version_is; fields = fs; lead = lead };
                  n = p.n;
                  needs = p.needs;
                  cut = is_cut;
                }))) (past_text now.rest p.n (length text - length now.rest + p.n) is_cut) p.is

            in_field : (fs : List Field) (now : FieldsRead) → LeadTo version fs start now → IsRefused version size (length text) now why → Cause why
            in_field fs now lead r = of why (field_faults version now.fields r.field why r.refused)
              where
                with_wrong : (f : FrameFail) → IsWrongField version now.fields r.field f → HasWrongField f file
                with_wrong f wrong = record {
                  version = version;
                  now = now;
                  reads = record { number = value; after = number.1; begins = has_number; version_is = version_is; fields = fs; lead = lead };
                  field = r.field;
                  is_field = r.is_field;
                  not_last = r.not_last;
                  wrong = wrong;
                }

                of : (f : FrameFail) → IsWrongField version now.fields r.field f → Cause f
                of NotKdbx c = absurd c
                of (Version n) c = absurd c
                of (Truncated n) c = absurd c
                of (TooLarge n) c = absurd c
                of (FieldTwice id) c = with_wrong (FieldTwice id) c
                of (FieldLength id len) c = inl (with_wrong (FieldLength id len) c)
                of (Dictionary offset) c = with_wrong (Dictionary offset) c
                of (HeaderHash kept found) c = absurd c
                of (FieldMissing id) c = absurd c
                of (CipherUnknown id) c = absurd c
                of (Compressed flag) c = absurd c
                of (KdfUnknown id) c = absurd c
                of (Variant n) c = absurd c
                of (KdfLimit field n) c = absurd c
                of NoMemory c = absurd c

        -- ---- what follows the fields

        module _ (read : FieldsRead) (all : fields_from version size (length text) number.1 ≡ Ok read) where
          abbrev is_read : IsRead version size (length text) start read
          is_read = read_all version size (length text) (length text) start read all

          has_fields : (rest : List ℕ) → read.rest ≡ rest → HasFields file version read.fields rest
          has_fields rest same = record {
            before = is_read.before;
            reads = record { number = value; after = number.1; begins = has_number; version_is = version_is; fields = is_read.fields; lead = is_read.lead };
            last = is_read.last;
            is_last = is_read.is_last;
            zero = is_read.zero_id;
            rest_is = is_read.rest_is ∙ same;
          }

          abbrev len : ℕ
          len = length text - length read.rest

          -- the header and the bytes after it
          before_rest : (front : List ℕ) × (text ≡ front ++ read.rest)
          before_rest =
              let f = front is_read.fields (record { fields = read.fields; rest = is_read.before }) is_read.lead in
              let last = is_read.is_last in
              let bytes : is_read.before ≡ (is_read.last.id ∷ (last.len ++ is_read.last.content)) ++ read.rest =
              last.is ∙ ap (λ (t : List ℕ). is_read.last.id ∷ t) (sym (append_assoc last.len is_read.last.content is_read.last.rest)) ∙ ap (λ (t : List ℕ). (is_read.last.id ∷ (last.len ++ is_read.last.content)) ++ t) is_read.rest_is in (
                f.0 ++ (is_read.last.id ∷ (last.len ++ is_read.last.content)),
                f.1 ∙ ap (λ (t : List ℕ). f.0 ++ t) bytes ∙ sym (append_assoc f.0 (is_read.last.id ∷ (last.len ++ is_read.last.content)) read.rest),
              )

          rest_len : length text ≡ len + length read.rest
          rest_len = let f = before_rest in let all_len = ap length f.1 in let two = length-append f.0 read.rest in omega (arith, all_len, two)

          header_len : length (take len text) ≡ len
          header_len = let l = rest_len in length-take-le len text (omega (arith, l))

          split_text : text ≡ take len text ++ read.rest
          split_text =
              let f = before_rest in
              let l = rest_len in
              let all_len = ap length f.1 in
              let two = length-append f.0 read.rest in
              let same : length f.0 ≡ len = omega (arith, l, all_len, two) in
              sym (take-append-drop len text) ∙ ap (λ (t : List ℕ). take len text ++ t) (ap (drop len) f.1 ∙ drop_at f.0 read.rest len same)

          module _ (four : IsVersion4 version) where
            cut_sum : (n : ℕ) → (n ≡ 32) ⊎ (n ≡ 64) → length read.rest < n → out_of_bounds size (length (take len text) + n) ≡ why → Cause why
            cut_sum n is short h =
                let l = rest_len in
                let header = header_len in
                let is_cut : IsCut file read.rest n (length (take len text) + n) = record { short = short; ends = omega (arith, l, header) } in
                cut_cause (length (take len text) + n) (inr (inr (record { version = version; four = four; said = read.fields; rest = read.rest; has = has_fields read.rest refl; n = n; which = is; cut = is_cut })))
                (past_text read.rest n (length (take len text) + n) is_cut) h

            in_hash : check_hash size (take len text) read.rest ≡ Err why → Cause why
            in_hash h = elim (refused_at (split_bytes (out_of_bounds size (length (take len text) + 32)) 32 read.rest) _ why h) [
              | inl a ↦ let c = cut_short (out_of_bounds size (length (take len text) + 32)) why 32 read.rest a in cut_sum 32 (inl refl) c.0 c.1
              | inr a ↦ after_hash a.0 (cut_made (out_of_bounds size (length (take len text) + 32)) 32 read.rest a.0 a.1.0) a.1.1
            ]
              where
                wrong : (kept : List ℕ × List ℕ) → IsCutInto 32 read.rest kept → (b : Bool) → bytes_eq kept.0 (sha256 (take len text)) ≡ b
                    → ◌≡◌ {A = Result (Unit {0}) FrameFail} (cond b (Ok tt) (Err (HeaderHash kept.0 (sha256 (take len text))))) (Err why) → Cause why
                wrong kept c true e g = cc g
                wrong kept c false e g =
                    let parts_of : read.rest ≡ kept.0 ++ kept.1 = sym (take-append-drop 32 read.rest) ∙ (λ i. sym c.first i ++ sym c.then i) in
                    is_so (HeaderHash kept.0 (sha256 (take len text))) (same_fail (HeaderHash kept.0 (sha256 (take len text))) why g) (record {
                      version = version;
                      four = four;
                      said = read.fields;
                      rest = kept.1;
                      has = has_fields (kept.0 ++ kept.1) parts_of;
                      header = take len text;
                      bytes_are = split_text ∙ ap (λ (t : List ℕ). take len text ++ t) parts_of;
                      kept_len = ap length c.first ∙ length-take-le 32 read.rest c.enough;
                      found_is = refl;
                      apart = differs kept.0 (sha256 (take len text)) e;
                    })

                after_hash : (kept : List ℕ × List ℕ) → IsCutInto 32 read.rest kept
                    → ◌≡◌ {A = Result (Unit {0}) FrameFail} (split_bytes (out_of_bounds size (length (take len text) + 64)) 32 kept.1 >>= λ mac. cond (bytes_eq kept.0 (sha256 (take len text))) (Ok tt) (Err (HeaderHash kept.0 (sha256 (take len text))))) (Err why) → Cause why
                after_hash kept c g = elim (refused_at (split_bytes (out_of_bounds size (length (take len text) + 64)) 32 kept.1) _ why g) [
                  | inl b ↦
                      let s = cut_short (out_of_bounds size (length (take len text) + 64)) why 32 kept.1 b in
                      let short = s.0 in
                      let left = ap length c.then ∙ length-drop 32 read.rest in
                      cut_sum 64 (inr refl) (omega (arith, short, left)) s.1
                  | inr b ↦ wrong kept c (bytes_eq kept.0 (sha256 (take len text))) refl b.1.1
                ]

          in_sums : (v : FileVersion) → version ≡ v → check_sums v size (take len text) read.rest ≡ Err why → Cause why
          in_sums V31 is h = cc h
          in_sums V40 is h = in_hash (subst IsVersion4 (sym is) tt) h
          in_sums V41 is h = in_hash (subst IsVersion4 (sym is) tt) h

          -- ---- what the fields say

          says : (is_so : FileVersion → HeaderFields → Type 0) → is_so version read.fields → SaysSo is_so file
          says so it = record { version = version; said = read.fields; rest = read.rest; has = has_fields read.rest refl; so = it }

          missing : {A : Type 0} (id : ℕ) (o : Option A) → IsIn id (needed_ids version) → (o ≡ None → is_there read.fields id ≡ false) → required id o ≡ Err why → Cause why
          missing id None needed gone h = is_so (FieldMissing id) (same_fail (FieldMissing id) why h) (says (Lacks id) (needed, gone refl))
          missing id (Some x) needed gone h = cc h

          found : {A : Type 0} (id : ℕ) (o : Option A) (x : A) → required id o ≡ Ok x → o ≡ Some x
          found id None x h = cc h
          found id (Some y) x h = cc h

          module _ (id : List ℕ) (cipher_said : read.fields.cipher ≡ Some id) where
            in_cipher : cipher_of id ≡ Err why → Cause why
            in_cipher h = elim (which (bytes_eq id aes_id) _ _ _ h) [
              | inl a ↦ cc a.1
              | inr a ↦ elim (which (bytes_eq id twofish_id) _ _ _ a.1) [
                | inl b ↦ cc b.1
                | inr b ↦ elim (which (bytes_eq id chacha_id) _ _ _ b.1) [
                  | inl c ↦ cc c.1
                  | inr c ↦ is_so (CipherUnknown id) (same_fail (CipherUnknown id) why c.1)
                      (says (NamesNoCipher id) (cipher_said, differs id aes_id a.0, differs id twofish_id b.0, differs id chacha_id c.0))
                ]
              ]
            ]

            in_iv : (c : Cipher) → cipher_of id ≡ Ok c → (iv : List ℕ) → read.fields.iv ≡ Some iv → iv_of c iv ≡ Err why → Cause why
            in_iv c cipher_is iv iv_said h = elim (which (length iv == iv_len c) _ _ _ h) [
              | inl a ↦ cc a.1
              | inr a ↦ is_so (FieldLength 7 (length iv)) (same_fail (FieldLength 7 (length iv)) why a.1) (inr (
                refl,
                says (HasWrongIv (length iv)) (record {
                  id = id;
                  cipher = c;
                  iv = iv;
                  names = cipher_said;
                  cipher_is = cipher_is;
                  iv_is = iv_said;
                  len_is = refl;
                  apart = eqb-false (length iv) (iv_len c) a.0;
                }),
              ))
            ]

          in_flag : (flag : ℕ) → read.fields.compression ≡ Some flag → refuse_compression flag ≡ Err why → Cause why
          in_flag flag said h = elim (which (flag == 0) _ _ _ h) [
            | inl a ↦ cc a.1
            | inr a ↦ is_so (Compressed flag) (same_fail (Compressed flag) why a.1) (says (IsCompressed flag) (said, eqb-false flag 0 a.0))
          ]

          module _ (described : KdfDescription) (describes : Describes version read.fields described) where
            in_limits : (k : Kdf) → IsOf described k → (r : Result (Unit {0}) KdfFail) → checked_kdf k ≡ r → within_limits k r ≡ Err why → Cause why
            in_limits k is (Ok x) checked h = cc h
            in_limits k is (Err (kdf_fail.KdfLimit field n)) checked h =
                is_so (KdfLimit field n) (same_fail (KdfLimit field n) why h) (says (PassesLimit field n) (described, k, describes, is, checked))
            in_limits k is (Err kdf_fail.NoMemory) checked h = absurd (no_memory k checked)

            in_kdf : (d : KdfDescription) → described ≡ d → kdf_of d ≡ Err why → Cause why
            in_kdf (wrong_version n) same h = is_so (Variant n) (same_fail (Variant n) why h) (says (NamesVariant n) (described, describes, subst (IsVariant n) (sym same) refl))
            in_kdf (unknown_id id) same h = is_so (KdfUnknown id) (same_fail (KdfUnknown id) why h) (says (NamesNoKdf id) (subst (Describes version read.fields) same describes))
            in_kdf (aes rounds seed) same h = in_limits (kdf.Aes rounds seed) (subst (λ d. IsOf d (kdf.Aes rounds seed)) (sym same) refl) (checked_kdf (kdf.Aes rounds seed)) refl h
            in_kdf (argon kind passes memory lanes salt number extra) same h = elim (which (number == 0x13) _ _ _ h) [
              | inl a ↦ elim (which extra _ _ _ a.1) [
                | inl b ↦ is_so (Variant 0) (same_fail (Variant 0) why b.1) (says (NamesVariant 0) (described, describes, subst (IsVariant 0) (sym same) (inr (refl, b.0))))
                | inr b ↦ in_limits (kdf.Argon kind passes memory lanes salt) (subst (λ d. IsOf d (kdf.Argon kind passes memory lanes salt)) (sym same) refl) (checked_kdf (kdf.Argon kind passes memory lanes salt)) refl b.1
              ]
              | inr a ↦ is_so (Variant number) (same_fail (Variant number) why a.1) (says (NamesVariant number) (described, describes, subst (IsVariant number) (sym same) (inl (refl, eqb-false number 0x13 a.0))))
            ]

          in_settings : (id : List ℕ) → read.fields.cipher ≡ Some id → (flag : ℕ) → read.fields.compression ≡ Some flag → (iv : List ℕ) → read.fields.iv ≡ Some iv → (described : KdfDescription) → Describes version read.fields described
              → (v : FileVersion) (public : Option (List ℕ)) → settings_and_iv v id flag iv described public ≡ Err why → Cause why
          unfolding settings_and_iv
          in_settings id cipher_said flag flag_said iv iv_said described describes v public h = elim (refused_at (cipher_of id) _ why h) [
            | inl a ↦ in_cipher id cipher_said a
            | inr a ↦ elim (refused_at (iv_of a.0 iv) _ why a.1.1) [
              | inl b ↦ in_iv id cipher_said a.0 a.1.0 iv iv_said b
              | inr b ↦ elim (refused_at (refuse_compression flag) _ why b.1.1) [
                | inl c ↦ in_flag flag flag_said c
                | inr c ↦ elim (refused_at (kdf_of described) _ why c.1.1) [
                  | inl d ↦ in_kdf described describes described refl d
                  | inr d ↦ cc d.1.1
                ]
              ]
            ]
          ]

          abbrev said : HeaderFields
          said = read.fields

          gone : {A : Type 0} (o : Option A) → o ≡ None → is_some o ≡ false
          gone o none = ap is_some none

          in_checked_4 : (v : FileVersion) → ((id : ℕ) → IsIn id (2 ∷ 3 ∷ 4 ∷ 7 ∷ 11 ∷ []) → IsIn id (needed_ids version)) → ((d : KdfDescription) → said.kdf ≡ Some d → Describes version said d) → checked_header_4 v said ≡ Err why → Cause why
          unfolding checked_header_4
          in_checked_4 v needed describes h = elim (refused_at (required 2 said.cipher) _ why h) [
            | inl e ↦ missing 2 said.cipher (needed 2 (inl refl)) (gone said.cipher) e
            | inr a ↦ elim (refused_at (required 3 said.compression) _ why a.1.1) [
              | inl e ↦ missing 3 said.compression (needed 3 (inr (inl refl))) (gone said.compression) e
              | inr b ↦ elim (refused_at (required 4 said.seed) _ why b.1.1) [
                | inl e ↦ missing 4 said.seed (needed 4 (inr (inr (inl refl)))) (gone said.seed) e
                | inr c ↦ elim (refused_at (required 7 said.iv) _ why c.1.1) [
                  | inl e ↦ missing 7 said.iv (needed 7 (inr (inr (inr (inl refl))))) (gone said.iv) e
                  | inr d ↦ elim (refused_at (required 11 said.kdf) _ why d.1.1) [
                    | inl e ↦ missing 11 said.kdf (needed 11 (inr (inr (inr (inr (inl refl)))))) (gone said.kdf) e
                    | inr k ↦ elim (refused_at (settings_and_iv v a.0 b.0 d.0 k.0 said.public) _ why k.1.1) [
                      | inl e ↦ in_settings a.0 (found 2 said.cipher a.0 a.1.0) b.0 (found 3 said.compression b.0 b.1.0) d.0 (found 7 said.iv d.0 d.1.0) k.0 (describes k.0 (found 11 said.kdf k.0 k.1.0)) v said.public e
                      | inr e ↦ cc e.1.1
                    ]
                  ]
                ]
              ]
            ]
          ]

          in_checked_31 : version ≡ V31 → checked_header_31 said ≡ Err why → Cause why
          unfolding checked_header_31
          in_checked_31 three h = elim (refused_at (required 2 said.cipher) _ why h) [
            | inl e ↦ missing 2 said.cipher (needed 2 (inl refl)) (gone said.cipher) e
            | inr a ↦ elim (refused_at (required 3 said.compression) _ why a.1.1) [
              | inl e ↦ missing 3 said.compression (needed 3 (inr (inl refl))) (gone said.compression) e
              | inr b ↦ elim (refused_at (required 4 said.seed) _ why b.1.1) [
                | inl e ↦ missing 4 said.seed (needed 4 (inr (inr (inl refl)))) (gone said.seed) e
                | inr c ↦ elim (refused_at (required 5 said.kdf_seed) _ why c.1.1) [
                  | inl e ↦ missing 5 said.kdf_seed (needed 5 (inr (inr (inr (inl refl))))) (gone said.kdf_seed) e
                  | inr f ↦ elim (refused_at (required 6 said.rounds) _ why f.1.1) [
                    | inl e ↦ missing 6 said.rounds (needed 6 (inr (inr (inr (inr (inl refl)))))) (gone said.rounds) e
                    | inr g ↦ elim (refused_at (required 7 said.iv) _ why g.1.1) [
                      | inl e ↦ missing 7 said.iv (needed 7 (inr (inr (inr (inr (inr (inl refl))))))) (gone said.iv) e
                      | inr d ↦ elim (refused_at (required 8 said.stream_key) _ why d.1.1) [
                        | inl e ↦ missing 8 said.stream_key (needed 8 (inr (inr (inr (inr (inr (inr (inl refl)))))))) (gone said.stream_key) e
                        | inr s ↦ elim (refused_at (required 9 said.start) _ why s.1.1) [
                          | inl e ↦ missing 9 said.start (needed 9 (inr (inr (inr (inr (inr (inr (inr (inl refl))))))))) (gone said.start) e
                          | inr t ↦ elim (refused_at (required 10 said.stream_id) _ why t.1.1) [
                            | inl e ↦ missing 10 said.stream_id (needed 10 (inr (inr (inr (inr (inr (inr (inr (inr (inl refl)))))))))) (gone said.stream_id) e
                            | inr k ↦ elim (refused_at (settings_and_iv V31 a.0 b.0 d.0 (aes g.0 f.0) None) _ why k.1.1) [
                              | inl e ↦ in_settings a.0 (found 2 said.cipher a.0 a.1.0) b.0 (found 3 said.compression b.0 b.1.0) d.0 (found 7 said.iv d.0 d.1.0) (aes g.0 f.0)
                                  (subst (λ v. Describes v said (aes g.0 f.0)) (sym three) (g.0, f.0, found 6 said.rounds g.0 g.1.0, found 5 said.kdf_seed f.0 f.1.0, refl)) V31 None e
                              | inr e ↦ cc e.1.1
                            ]
                          ]
                        ]
                      ]
                    ]
                  ]
                ]
              ]
            ]
          ]
            where
              needed : (id : ℕ) → IsIn id (needed_ids V31) → IsIn id (needed_ids version)
              needed id there = subst (λ v. IsIn id (needed_ids v)) (sym three) there

          in_checked : (v : FileVersion) → version ≡ v → checked_header v said ≡ Err why → Cause why
          in_checked V31 is h = in_checked_31 is h
          in_checked V40 is h = in_checked_4 V40 (λ id there. subst (λ v. IsIn id (needed_ids v)) (sym is) there) (λ d e. subst (λ v. Describes v said d) (sym is) e) h
          in_checked V41 is h = in_checked_4 V41 (λ id there. subst (λ v. IsIn id (needed_ids v)) (sym is) there) (λ d e. subst (λ v. Describes v said d) (sym is) e) h

  -- ---- the whole header

  -- what follows the version
  abbrev after_start : FileVersion × List ℕ → Result Header FrameFail
  after_start start =
      fields_from start.0 size (length text) start.1 >>= λ read. check_sums start.0 size (take (length text - length read.rest) text) read.rest >>= λ sums. checked_header start.0 read.fields >>= λ checked.
      Ok (with_size checked (length text - length read.rest))

  module _ (signed : List ℕ × List ℕ) (cut_is : split_bytes NotKdbx 8 text ≡ Ok signed) (same : signed.0 ≡ signature) (number : List ℕ × List ℕ) (number_is : split_bytes (out_of_bounds size 12) 4 signed.1 ≡ Ok number) where
    in_rest : (version : FileVersion) → version_of (from_le_bytes w32 number.0) ≡ Ok version → after_start (version, number.1) ≡ Err why → Cause why
    in_rest version version_is h = elim (refused_at (fields_from version size (length text) number.1) _ why h) [
      | inl a ↦ in_fields signed cut_is same number number_is version version_is a
      | inr a ↦ elim (refused_at (check_sums version size (take (length text - length a.0.rest) text) a.0.rest) _ why a.1.1) [
        | inl b ↦ in_sums signed cut_is same number number_is version version_is a.0 a.1.0 version refl b
        | inr b ↦ elim (refused_at (checked_header version a.0.fields) _ why b.1.1) [
          | inl c ↦ in_checked signed cut_is same number number_is version version_is a.0 a.1.0 version refl c
          | inr c ↦ cc c.1.1
        ]
      ]
    ]

    in_numbered : (version_of (from_le_bytes w32 number.0) >>= λ version. after_start (version, number.1)) ≡ Err why → Cause why
    in_numbered h = elim (refused_at (version_of (from_le_bytes w32 number.0)) _ why h) [
      | inl a ↦ in_version signed cut_is same number number_is a
      | inr a ↦ in_rest a.0 a.1.0 a.1.1
    ]

  -- two steps within a first one are steps one after another
  regroup : {A B C : Type 0} (r : Result A FrameFail) (f : A → Result B FrameFail) (g : B → Result C FrameFail) → ((r >>= f) >>= g) ≡ (r >>= λ x. f x >>= g)
  regroup (Ok x) f g = refl
  regroup (Err e) f g = refl

  in_signed : (signed : List ℕ × List ℕ) → split_bytes NotKdbx 8 text ≡ Ok signed → (b : Bool) → bytes_eq signed.0 signature ≡ b
      → (cond b (split_bytes (out_of_bounds size 12) 4 signed.1 >>= λ number. version_of (from_le_bytes w32 number.0) >>= λ version. Ok (version, number.1)) (Err NotKdbx) >>= after_start) ≡ Err why → Cause why
  in_signed signed cut_is false e h =
      let c = cut_made NotKdbx 8 text signed cut_is in
      is_so NotKdbx (same_fail NotKdbx why h) (unsigned (inr (λ is. differs signed.0 signature e (c.first ∙ is))))
  in_signed signed cut_is true e h =
      let same = agrees signed.0 signature e in
      let steps = sym (regroup (split_bytes (out_of_bounds size 12) 4 signed.1) (λ number. version_of (from_le_bytes w32 number.0) >>= λ version. Ok (version, number.1)) after_start) ∙ h in
      elim (refused_at (split_bytes (out_of_bounds size 12) 4 signed.1) _ why steps) [
        | inl a ↦ in_number signed cut_is same a
        | inr a ↦ in_numbered signed cut_is same a.0 a.1.0 (sym (regroup (version_of (from_le_bytes w32 a.0.0)) (λ version. Ok (version, a.0.1)) after_start) ∙ a.1.1)
      ]

  in_header : header_of file ≡ Err why → Cause why
  unfolding header_at
  in_header h =
      let steps = sym (regroup (split_bytes NotKdbx 8 text) (λ signed. cond (bytes_eq signed.0 signature) (split_bytes (out_of_bounds size 12) 4 signed.1 >>= λ number. version_of (from_le_bytes w32 number.0) >>= λ version. Ok (version, number.1)) (Err NotKdbx)) after_start) ∙ h in
      elim (refused_at (split_bytes NotKdbx 8 text) _ why steps) [
        | inl a ↦ let c = cut_short NotKdbx why 8 text a in is_so NotKdbx c.1 (unsigned (inl c.0))
        | inr a ↦ in_signed a.0 a.1.0 (bytes_eq a.0.0 signature) refl a.1.1
      ]

pub header_refusals_have_causes : HeaderRefusalsHaveCauses
header_refusals_have_causes file why h = in_header file why h
