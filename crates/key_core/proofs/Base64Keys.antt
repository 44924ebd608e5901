-- Decoding base64 into the room of a key takes exactly what writes 32 bytes.
use Rattle.std.proofs.Common.{ℕ, ◌≡◌, ◌≤◌, ◌*◌, ◌/◌, ◌∙◌, sym, ap, refl, arith, false, nat_lt, ◌==◌, if◌then◌else◌, Option, Some, None, Result, Ok, Err, List, [], ◌++◌, length, drop}
use Rattle.std.proofs.lemmas.Bool.{eq-eqb}
use Rattle.std.proofs.lemmas.Bool.Decides.{nat_tests}
use Rattle.std.proofs.lemmas.List.{length-append, drop_all, append-nil}
use Rattle.std.specs.Option.{option_and_then}
use Rattle.std.specs.Result.{result_ok}
use Rattle.base64.specs.declared.decode.DecodeError.{DecodeError}
use Rattle.base64.specs.declared.decode.DecodeSliceError.{DecodeSliceError}
use Rattle.base64.specs.declared.decode.DecodeSliceError.TheVariants.{OutputSliceTooSmall}
use Rattle.base64.specs.Decode.{or_else, or_error, bytes_fit, decode_outcome, groups_before_last}
use Rattle.base64.specs.GeneralPurpose.{decoded_of, decode_slice_of, decoded_bytes_of}
use Rattle.base64.specs.Engines.{standard}
use Rattle.base64.proofs.Decoding.{length-groups_bytes}
use Rattle.key_core.specs.KeyTexts.{whole_key, base64_key}

-- what decoding into room for 32 bytes answers, by the errors, the groups before the last, and the bytes
abbrev sliced : Option DecodeError → Option DecodeError → ℕ → ℕ → Result ℕ DecodeSliceError
sliced lone groups before n =
    or_error lone (if nat_lt (32 / 3) before then Err OutputSliceTooSmall else or_error groups (bytes_fit n 32))

-- the key, by the same
abbrev key_by : Option DecodeError → Option DecodeError → List ℕ → Option (List ℕ)
key_by lone groups bytes = option_and_then whole_key (result_ok (decode_outcome (or_else lone groups) bytes))

room : (before n : ℕ) → sliced None None before n ≡ Ok 32 → n ≡ 32
room before n h = grind (arith, nat_tests)

whole : (bytes : List ℕ) → length bytes ≡ 32 → whole_key bytes ≡ Some bytes
whole bytes h = ap (λ t. if t then Some bytes else None) (eq-eqb (length bytes) 32 h)

taken : (lone groups : Option DecodeError) (before : ℕ) (bytes : List ℕ) → sliced lone groups before (length bytes) ≡ Ok 32
    → key_by lone groups bytes ≡ Some bytes
taken None None before bytes h = whole bytes (room before (length bytes) h)
taken None (Some e) before bytes h = grind (arith, nat_tests)
taken (Some e) groups before bytes h = cc

taken_len : (lone groups : Option DecodeError) (before : ℕ) (bytes : List ℕ) → sliced lone groups before (length bytes) ≡ Ok 32
    → length bytes ≡ 32
taken_len None None before bytes h = room before (length bytes) h
taken_len None (Some e) before bytes h = grind (arith, nat_tests)
taken_len (Some e) groups before bytes h = cc

not_whole : (bytes : List ℕ) → (length bytes ≡ 32 → ⊥) → whole_key bytes ≡ None
not_whole bytes h = grind (arith, nat_tests)

fits : (before n : ℕ) → before ≤ 10 → n ≡ 32 → sliced None None before n ≡ Ok 32
fits before n few same = grind (arith, nat_tests)

left_out : (lone groups : Option DecodeError) (before : ℕ) (bytes : List ℕ) → 3 * before ≤ length bytes
    → (sliced lone groups before (length bytes) ≡ Ok 32 → ⊥) → key_by lone groups bytes ≡ None
left_out None None before bytes most h =
    not_whole bytes (λ same. h (fits before (length bytes) (omega arith) same))
left_out None (Some e) before bytes most h = refl
left_out (Some e) groups before bytes most h = refl

-- the groups before the last give three bytes each
groups_least : (text : List ℕ) → 3 * groups_before_last (length text) ≤ length (decoded_bytes_of standard text)
groups_least text =
    omega (arith, length-append {A = ℕ}, length-groups_bytes standard.decode_table text (groups_before_last (length text)))

pub decoded_key : (text : List ℕ) → decode_slice_of standard text 32 ≡ Ok 32 → base64_key text ≡ Some (decoded_bytes_of standard text)
unfolding base64_key decoded_of
decoded_key text h = taken _ _ (groups_before_last (length text)) (decoded_bytes_of standard text) h

pub no_key : (text : List ℕ) → (decode_slice_of standard text 32 ≡ Ok 32 → ⊥) → base64_key text ≡ None
unfolding base64_key decoded_of
no_key text h = left_out _ _ (groups_before_last (length text)) (decoded_bytes_of standard text) (groups_least text) h

-- what then stands in the room is the key
pub written_key : (text old new : List ℕ) → length old ≡ 32 → decode_slice_of standard text 32 ≡ Ok 32
    → new ≡ decoded_bytes_of standard text ++ drop (length (decoded_bytes_of standard text)) old
    → Some new ≡ base64_key text
unfolding base64_key decoded_of
written_key text old new room_len h written =
    let key : base64_key text ≡ Some (decoded_bytes_of standard text) = decoded_key text h in
    let size : length (decoded_bytes_of standard text) ≡ 32 = taken_len _ _ (groups_before_last (length text)) (decoded_bytes_of standard text) h in
    let rest : drop (length (decoded_bytes_of standard text)) old ≡ [] = drop_all _ old (omega arith) in
    ap Some (written ∙ ap (λ xs. decoded_bytes_of standard text ++ xs) rest ∙ append-nil (decoded_bytes_of standard text)) ∙ sym key

differ : (r : Result ℕ DecodeSliceError) (n : ℕ) → r ≡ Ok n → r ≡ Ok 32 → (n == 32) ≡ false → ⊥
differ r n one other h =
    let same : n ≡ 32 = cc in
    cc (eq-eqb n 32 same)

-- another number of bytes, or an error, gives no key
pub other_len : (text : List ℕ) (n : ℕ) → decode_slice_of standard text 32 ≡ Ok n → (n == 32) ≡ false → base64_key text ≡ None
other_len text n d t = no_key text (λ h. differ (decode_slice_of standard text 32) n d h t)

failed : (r : Result ℕ DecodeSliceError) (e : DecodeSliceError) → r ≡ Err e → r ≡ Ok 32 → ⊥
failed r e one other = cc

pub no_bytes : (text : List ℕ) (e : DecodeSliceError) → decode_slice_of standard text 32 ≡ Err e → base64_key text ≡ None
no_bytes text e d = no_key text (λ h. failed (decode_slice_of standard text 32) e d h)
