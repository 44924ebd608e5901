-- Refusals to import a file of Password Safe have their causes.
use Rattle.std.proofs.Common.{◌≡◌, ◌≢◌, ◌+◌, ◌*◌, ◌/◌, ◌<◌, ◌≤◌, ℕ, zero, suc, Bool, true, false, inl, inr, cond, List, [], ◌∷◌, ◌++◌, length, take, drop, Option, None, Some, Result, Ok, Err, bytes_eq, nat_le, nat_lt, refl, sym, ap, subst, ◌∙◌, arith, length-drop}
use Rattle.std.specs.List.{position_from}
use Rattle.std.specs.Option.{option_or}
use Rattle.std.proofs.lemmas.Bool.{le-leb, ltb-false, ltb-true}
use Rattle.std.proofs.lemmas.Iterator.Adapters.{position_from-zero}
use Rattle.std.proofs.lemmas.List.{drop-drop, take-append-drop, take_at}
use Rattle.std.proofs.lemmas.Slice.Eq.{bytes_eq-Decides}
use Rattle.outside_core.specs.Results.{◌>>=◌}
use Rattle.sha2.specs.Sha256.{sha256}
use Rattle.block_core.specs.Cbc.{blocks}
use Rattle.mac_core.specs.Hmac.{hmac}
use Rattle.vault_model.specs.Db.{NodeId, nil_id}
use Rattle.vault_model.specs.Join.{IsIn}
use Rattle.vault_model.specs.Tree.{BareDoc}
use Rattle.vault_model.proofs.Tests.{apart}
use Rattle.import_tree.specs.Outcome.{imported_document}
use Rattle.import_tree.specs.Trees.{document_of}
use Rattle.import_tree.specs.declared.fails.TreeFail.{TreeFail}
use Rattle.import_tree.specs.declared.fails.TreeFail.TheVariants as tree
use Rattle.psafe_file.specs.Faults.{faultless, first_fault, first_faulty, sound_fields, unended_at}
use Rattle.psafe_file.specs.Fields.{SafeField, after_header, contents_of, fields_of, is_ended, records_of}
use Rattle.psafe_file.specs.Keys.{max_iterations, stretched_key}
use Rattle.psafe_file.specs.Kinds.{is_faulty}
use Rattle.psafe_file.specs.Macs.{mac_check}
use Rattle.psafe_file.specs.Opened.{SafeContent, file_mac_key, iterations_check, opened_with, password_check, safe_outcome}
use Rattle.psafe_file.specs.SafeFiles.{SafeFile, blocks_before_mark, end_mark, marked_file, parts_of, preamble_len, safe_file, tag}
use Rattle.psafe_file.specs.SafeForms.{IsOpened}
use Rattle.psafe_file.specs.declared.fails.PsafeFail.{PsafeFail}
use Rattle.psafe_file.specs.declared.fails.PsafeFail.TheVariants as fail
use Rattle.psafe_file.proofs.Marks.{IsFirstMark, block_at, found, is_mark}
use Rattle.psafe_file.proofs.Openings.{opened}
use Rattle.psafe_file.proofs.SafeForms.{divided}
use Rattle.psafe_core.specs.Outcome.{content_outcome, is_nil, nil_check, nil_record, of_tree, or_field_form, or_tree_fail, psafe_outcome, records_outcome}
use Rattle.psafe_core.specs.Records.{imported_records, own_id}
use Rattle.import_cause_laws.specs.SafeCauses.{HasNoEnd, IsWrongAt, SafeCause, SafeRefusalsHaveCauses, fields_in, records_in_content}
use Rattle.import_cause_laws.proofs.TreeRefusals.{TreeCause, refused_at, same_fail, tree_refusals}

-- ---- the mark of the end

differs : (a b : List ℕ) → bytes_eq a b ≡ false → a ≢ b
differs a b off = λ same. apart (bytes_eq a b) ((bytes_eq-Decides a b).1 same) off

next_block : (bytes : List ℕ) (k : ℕ) → block_at bytes (suc k) ≡ block_at (drop 16 bytes) k
next_block bytes k =
    let later : 16 * suc k ≡ 16 + 16 * k = omega arith in
    ap (λ d. take 16 (drop d bytes)) later ∙ ap (take 16) (sym (drop-drop (16 * k) 16 bytes))

-- Where no mark is found, none is there.
unmarked : (n i : ℕ) (bytes : List ℕ) → position_from is_mark i (blocks n bytes) ≡ None → (k : ℕ) → k < n → block_at bytes k ≢ end_mark
unfolding blocks
unmarked zero i bytes h k l = absurd (omega (arith, l))
unmarked (suc n) i bytes h k l = by (unmarked n (i + 1) (drop 16 bytes)) (is_mark (take 16 bytes)) refl h k l
  where
    by : (position_from is_mark (i + 1) (blocks n (drop 16 bytes)) ≡ None → (k : ℕ) → k < n → block_at (drop 16 bytes) k ≢ end_mark) → (b : Bool) → is_mark (take 16 bytes) ≡ b → cond b (Some i) (position_from is_mark (i + 1) (blocks n (drop 16 bytes))) ≡ None → (k : ℕ) → k < suc n → block_at bytes k ≢ end_mark
    by later true e g k l = cc g
    by later false e g zero l = differs (take 16 bytes) end_mark e
    by later false e g (suc k) l = λ same. later g k (omega (arith, l)) (sym (next_block bytes k) ∙ same)

-- a block with a whole MAC after it is one of the whole blocks
within_blocks : (bytes : List ℕ) (k : ℕ) → preamble_len + 16 * k + 48 ≤ length bytes → k < length (drop preamble_len bytes) / 16
within_blocks bytes k most = let len = length-drop preamble_len bytes in over (length (drop preamble_len bytes)) k (omega (arith, len, most))
  where
    over : (n k : ℕ) → 16 * k + 16 ≤ n → k < n / 16
    over n k l = omega (arith, l)

module _ (bytes password : List ℕ) (now : ℕ) (why : PsafeFail) where
  abbrev Cause : PsafeFail → Type 0
  Cause f = SafeCause f bytes password now

  is_so : (f : PsafeFail) → f ≡ why → Cause f → Cause why
  is_so f same c = subst (λ (g : PsafeFail). Cause g) same c

  -- ---- the parts

  module _ (tagged : take 4 bytes ≡ tag) where
    begins : bytes ≡ tag ++ drop 4 bytes
    begins = sym (take-append-drop 4 bytes) ∙ ap (λ t. t ++ drop 4 bytes) tagged

    no_end : ((k : ℕ) → preamble_len + 16 * k + 48 ≤ length bytes → block_at (drop preamble_len bytes) k ≢ end_mark) → HasNoEnd (length bytes) bytes
    no_end none = record { len_is = refl; rest = drop 4 bytes; begins = begins; unmarked = none }

    truncated : ◌≡◌ {A = Result SafeFile PsafeFail} (Err (fail.Truncated (length bytes))) (Err why) → ((k : ℕ) → preamble_len + 16 * k + 48 ≤ length bytes → block_at (drop preamble_len bytes) k ≢ end_mark) → Cause why
    truncated h none = is_so (fail.Truncated (length bytes)) (same_fail (fail.Truncated (length bytes)) why h) (no_end none)

    in_marks : (o : Option ℕ) → blocks_before_mark (drop preamble_len bytes) ≡ o → marked_file bytes o ≡ Err why → Cause why
    in_marks None is h = truncated h (λ k most. unmarked n 0 (drop preamble_len bytes) (sym (position_from-zero is_mark (blocks n (drop preamble_len bytes))) ∙ is) k (within_blocks bytes k most))
      where
        n : ℕ
        n = length (drop preamble_len bytes) / 16
    in_marks (Some count) is h = by (nat_le (preamble_len + 16 * count + 48) (length bytes)) refl h
      where
        first : IsFirstMark (drop preamble_len bytes) (length (drop preamble_len bytes) / 16) 0 count
        first = found (length (drop preamble_len bytes) / 16) 0 count (drop preamble_len bytes)
            (sym (position_from-zero is_mark (blocks (length (drop preamble_len bytes) / 16) (drop preamble_len bytes))) ∙ is)

        by : (b : Bool) → nat_le (preamble_len + 16 * count + 48) (length bytes) ≡ b → ◌≡◌ {A = Result SafeFile PsafeFail} (cond b (Ok (parts_of bytes count)) (Err (fail.Truncated (length bytes)))) (Err why) → Cause why
        by true e g = cc g
        by false e g = truncated g (λ k most. first.before k (earlier k most (nat_lt k first.j) refl))
          where
            earlier : (k : ℕ) → preamble_len + 16 * k + 48 ≤ length bytes → (b : Bool) → nat_lt k first.j ≡ b → k < first.j
            earlier k most true l = ltb-true k first.j l
            earlier k most false l =
                let over = ltb-false k first.j l in
                let same = first.is in
                apart (nat_le (preamble_len + 16 * count + 48) (length bytes)) (le-leb (preamble_len + 16 * count + 48) (length bytes) (omega (arith, over, same, most))) e

  in_parts : safe_file bytes ≡ Err why → Cause why
  unfolding safe_file
  in_parts h = by (bytes_eq (take 4 bytes) tag) refl h
    where
      long : (b : Bool) → nat_le preamble_len (length bytes) ≡ b → take 4 bytes ≡ tag → ◌≡◌ {A = Result SafeFile PsafeFail} (cond b (marked_file bytes (blocks_before_mark (drop preamble_len bytes))) (Err (fail.Truncated (length bytes)))) (Err why) → Cause why
      long true e tagged g = in_marks tagged (blocks_before_mark (drop preamble_len bytes)) refl g
      long false e tagged g = truncated tagged g (λ k most. apart (nat_le preamble_len (length bytes)) (le-leb preamble_len (length bytes) (omega (arith, most))) e)

      untagged : bytes_eq (take 4 bytes) tag ≡ false → (rest : List ℕ) → bytes ≢ tag ++ rest
      untagged e rest same = differs (take 4 bytes) tag e (ap (take 4) same ∙ take_at tag rest 4 refl)

      by : (b : Bool) → bytes_eq (take 4 bytes) tag ≡ b
          → ◌≡◌ {A = Result SafeFile PsafeFail}
          (cond b (cond (nat_le preamble_len (length bytes)) (marked_file bytes (blocks_before_mark (drop preamble_len bytes))) (Err (fail.Truncated (length bytes)))) (Err fail.NotPsafe)) (Err why) → Cause why
      by true e g = long (nat_le preamble_len (length bytes)) refl ((bytes_eq-Decides (take 4 bytes) tag).0 e) g
      by false e g = is_so fail.NotPsafe (same_fail fail.NotPsafe why g) (untagged e)

  -- ---- the key

  module _ (file : SafeFile) (is_file : safe_file bytes ≡ Ok file) where
    in_count : iterations_check file.preamble.iterations ≡ Err why → Cause why
    in_count h = by (nat_lt max_iterations file.preamble.iterations) refl h
      where
        by : (b : Bool) → nat_lt max_iterations file.preamble.iterations ≡ b → ◌≡◌ {A = Result (Unit {0}) PsafeFail} (cond b (Err (fail.IterLimit file.preamble.iterations)) (Ok tt)) (Err why) → Cause why
        by true e g = is_so (fail.IterLimit file.preamble.iterations) (same_fail (fail.IterLimit file.preamble.iterations) why g)
            (record { file = file; is_file = divided bytes file is_file; count_is = refl; more = ltb-true max_iterations file.preamble.iterations e })
        by false e g = cc g

    abbrev kept : List ℕ
    kept = file.preamble.check

    abbrev found_hash : List ℕ
    found_hash = sha256 (stretched_key password file.preamble)

    in_key : opened_with (stretched_key password file.preamble) file ≡ Err why → Cause why
    unfolding opened_with
    in_key h = elim (refused_at (password_check kept found_hash) _ why h) [
      | inl a ↦ by (bytes_eq kept found_hash) refl a
      | inr a ↦ cc a.1.1
    ]
      where
        by : (b : Bool) → bytes_eq kept found_hash ≡ b → ◌≡◌ {A = Result (Unit {0}) PsafeFail} (cond b (Ok tt) (Err (fail.WrongPassword kept found_hash))) (Err why) → Cause why
        by true e g = cc g
        by false e g = is_so (fail.WrongPassword kept found_hash) (same_fail (fail.WrongPassword kept found_hash) why g)
            (record { file = file; is_file = divided bytes file is_file; kept_is = refl; found_is = refl; apart = differs kept found_hash e })

  in_opening : safe_outcome bytes password ≡ Err why → Cause why
  unfolding safe_outcome
  in_opening h = elim (refused_at (safe_file bytes) _ why h) [
    | inl a ↦ in_parts a
    | inr a ↦ elim (refused_at (iterations_check a.0.preamble.iterations) _ why a.1.1) [
      | inl b ↦ in_count a.0 a.1.0 b
      | inr b ↦ in_key a.0 a.1.0 b.1.1
    ]
  ]

  -- ---- the content

  module _ (content : SafeContent) (opens : safe_outcome bytes password ≡ Ok content) where
    abbrev is_opened : IsOpened bytes password content
    is_opened = opened bytes password content opens

    abbrev fields : List SafeField
    fields = fields_in content.bytes

    in_field : (fs : List SafeField) (place : ℕ) → first_faulty fs ≡ Some place → (field : SafeField) × IsIn field fs × (field.offset ≡ place) × (is_faulty field.kind field.content ≡ true)
    in_field [] place h = cc h
    in_field (f ∷ fs) place h = by (in_field fs place) (is_faulty f.kind f.content) refl h
      where
        later : (field : SafeField) × IsIn field fs × (field.offset ≡ place) × (is_faulty field.kind field.content ≡ true)
            → (field : SafeField) × IsIn field (f ∷ fs) × (field.offset ≡ place) × (is_faulty field.kind field.content ≡ true)
        later r = (r.0, inr r.1, r.2, r.3)

        same_place : (a b : ℕ) → ◌≡◌ {A = Option ℕ} (Some a) (Some b) → a ≡ b
        same_place a b g = cc g

        by : (first_faulty fs ≡ Some place → (field : SafeField) × IsIn field fs × (field.offset ≡ place) × (is_faulty field.kind field.content ≡ true)) → (b : Bool) → is_faulty f.kind f.content ≡ b → cond b (Some f.offset) (first_faulty fs) ≡ Some place → (field : SafeField) × IsIn field (f ∷ fs) × (field.offset ≡ place) × (is_faulty field.kind field.content ≡ true)
        by rest true e g = (f, inl refl, same_place f.offset place g, e)
        by rest false e g = later (rest g)

    in_end : (b : Bool) → is_ended fields ≡ b → (place : ℕ) → cond b None (Some (length content.bytes)) ≡ Some place → IsWrongAt place content.bytes
    in_end true e place g = cc g
    in_end false e place g = inr (inr (e, same (length content.bytes) place g))
      where
        same : (a b : ℕ) → ◌≡◌ {A = Option ℕ} (Some a) (Some b) → b ≡ a
        same a b k = cc k

    in_cut : (o : Option ℕ) → (fields_of content.bytes).cut_off ≡ o → (place : ℕ) → option_or o (unended_at (length content.bytes) fields) ≡ Some place → IsWrongAt place content.bytes
    in_cut (Some at) is place g = inr (inl (is ∙ g))
    in_cut None is place g = in_end (is_ended fields) refl place g

    in_faults : (o : Option ℕ) → first_faulty (after_header fields) ≡ o → (place : ℕ) → option_or o (option_or (fields_of content.bytes).cut_off (unended_at (length content.bytes) fields)) ≡ Some place → IsWrongAt place content.bytes
    in_faults (Some at) is place g =
        let f = in_field (after_header fields) place (is ∙ g) in
        inl (record { field = f.0; is_there = f.1; begins = f.2; faulty = f.3 })
    in_faults None is place g = in_cut (fields_of content.bytes).cut_off refl place g

    in_fields : (o : Option ℕ) → first_fault (length content.bytes) (fields_of content.bytes) ≡ o → or_field_form (faultless fields o) ≡ Err why → Cause why
    in_fields None is h = cc h
    in_fields (Some place) is h = is_so (fail.FieldForm place) (same_fail (fail.FieldForm place) why h)
        (record { content = content; opened = is_opened; wrong = in_faults (first_faulty (after_header fields)) refl place is })

    fields_are : (o : Option ℕ) (fs : List SafeField) → or_field_form (faultless fields o) ≡ Ok fs → fs ≡ fields
    fields_are None fs h = cc h
    fields_are (Some place) fs h = cc h

    abbrev found_mac : List ℕ
    found_mac = hmac (file_mac_key bytes password) (contents_of fields)

    in_mac : mac_check content.mac found_mac ≡ Err why → Cause why
    in_mac h = by (bytes_eq content.mac found_mac) refl h
      where
        by : (b : Bool) → bytes_eq content.mac found_mac ≡ b → ◌≡◌ {A = Result (Unit {0}) PsafeFail} (cond b (Ok tt) (Err (fail.Mac content.mac found_mac))) (Err why) → Cause why
        by true e g = cc g
        by false e g = is_so (fail.Mac content.mac found_mac) (same_fail (fail.Mac content.mac found_mac) why g)
            (record { content = content; opened = is_opened; kept_is = refl; found_is = refl; apart = differs content.mac found_mac e })

    -- ---- the records

    -- an id that is there, and is the nil id
    nil_own : (own : Option NodeId) → is_nil own ≡ true → own ≡ Some nil_id
    nil_own None e = cc e
    nil_own (Some id) e = ap (λ (u : NodeId). Some u) ((bytes_eq-Decides id nil_id).0 e)

    -- the record of a number that has the nil id
    record NilAt (first number : ℕ) (rs : List (List SafeField)) : Type 0 where
      before : List (List SafeField)
      nil : List SafeField
      after : List (List SafeField)
      are : rs ≡ before ++ nil ∷ after
      number_is : number ≡ first + length before
      is_nil : own_id nil ≡ Some nil_id

    nil_at : (first number : ℕ) (rs : List (List SafeField)) → nil_record first rs ≡ Some number → NilAt first number rs
    nil_at first number [] h = cc h
    nil_at first number (r ∷ rs) h = by (nil_at (first + 1) number rs) (is_nil (own_id r)) refl h
      where
        same_number : (a b : ℕ) → ◌≡◌ {A = Option ℕ} (Some a) (Some b) → a ≡ b
        same_number a b g = cc g

        later : NilAt (first + 1) number rs → NilAt first number (r ∷ rs)
        later l = record { before = r ∷ l.before; nil = l.nil; after = l.after; are = ap (λ x. r ∷ x) l.are; number_is = counted l.number_is; is_nil = l.is_nil }
          where
            counted : number ≡ first + 1 + length l.before → number ≡ first + suc (length l.before)
            counted is = omega (arith, is)

        by : (nil_record (first + 1) rs ≡ Some number → NilAt (first + 1) number rs) → (b : Bool) → is_nil (own_id r) ≡ b → cond b (Some first) (nil_record (first + 1) rs) ≡ Some number → NilAt first number (r ∷ rs)
        by rest true e g =
            let same = same_number first number g in
            record { before = []; nil = r; after = rs; are = refl; number_is = omega (arith, same); is_nil = nil_own (own_id r) e }
        by rest false e g = later (rest g)

    in_nil : (o : Option ℕ) → nil_record 1 (records_in_content content) ≡ o → nil_check o ≡ Err why → Cause why
    in_nil None is h = cc h
    in_nil (Some number) is h =
        let n = nil_at 1 number (records_in_content content) is in
        let counted = n.number_is in
        is_so (fail.NilId number) (same_fail (fail.NilId number) why h)
        (record { content = content; opened = is_opened; before = n.before; nil = n.nil; after = n.after; records_are = n.are; number_is = omega (arith, counted); is_nil = n.is_nil })

    in_tree : (r : Result BareDoc TreeFail) → imported_document now (imported_records now (records_in_content content)) ≡ r → or_tree_fail r ≡ Err why → Cause why
    in_tree (Ok doc) is h = cc h
    in_tree (Err f) is h = is_so (of_tree f) (same_fail (of_tree f) why h) (of f (tree_refusals now (imported_records now (records_in_content content)) f is))
      where
        of : (f : TreeFail) → TreeCause f (document_of now (imported_records now (records_in_content content))).tree → Cause (of_tree f)
        of (tree.DuplicateId id) c = record { content = content; opened = is_opened; so = c }
        of (tree.TooDeep id) c = record { content = content; opened = is_opened; so = c }
        of tree.NoMemory c = c

    in_records : records_outcome now (records_in_content content) ≡ Err why → Cause why
    unfolding records_outcome
    in_records h = elim (refused_at (nil_check (nil_record 1 (records_in_content content))) _ why h) [
      | inl a ↦ in_nil (nil_record 1 (records_in_content content)) refl a
      | inr a ↦ in_tree (imported_document now (imported_records now (records_in_content content))) refl a.1.1
    ]

    in_content : content_outcome (file_mac_key bytes password) now content ≡ Err why → Cause why
    unfolding content_outcome sound_fields
    in_content h = elim (refused_at (or_field_form (sound_fields content.bytes)) _ why h) [
      | inl a ↦ in_fields (first_fault (length content.bytes) (fields_of content.bytes)) refl a
      | inr a ↦
          let are = fields_are (first_fault (length content.bytes) (fields_of content.bytes)) a.0 a.1.0 in
          let rest = subst (λ fs. (mac_check content.mac (hmac (file_mac_key bytes password) (contents_of fs)) >>= λ checked. records_outcome now (records_of fs)) ≡ Err why) are a.1.1 in
          elim (refused_at (mac_check content.mac found_mac) (λ checked. records_outcome now (records_in_content content)) why rest) [
            | inl b ↦ in_mac b
            | inr b ↦ in_records b.1.1
          ]
    ]

  in_file : psafe_outcome bytes password now ≡ Err why → Cause why
  unfolding psafe_outcome
  in_file h = elim (refused_at (safe_outcome bytes password) _ why h) [
    | inl a ↦ in_opening a
    | inr a ↦ in_content a.0 a.1.0 a.1.1
  ]

pub safe_refusals_have_causes : SafeRefusalsHaveCauses
safe_refusals_have_causes bytes password now why h = in_file bytes password now why h
