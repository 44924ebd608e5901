-- Decoding base64 into room for so many bytes succeeds with that number just where the text spells so many.
use Rattle.std.proofs.Common.{ℕ, ◌≡◌, ◌≤◌, ◌*◌, ◌/◌, ◌∙◌, sym, ap, refl, arith, nat_lt, ◌==◌, if◌then◌else◌, Option, Some, None, Result, Ok, Err, List, [], ◌++◌, length, drop}
use Rattle.std.proofs.lemmas.Bool.{eq-eqb}
use Rattle.std.proofs.lemmas.Bool.Decides.{nat_tests}
use Rattle.std.proofs.lemmas.List.{length-append, drop_all, append-nil}
use Rattle.std.specs.Option.{option_and_then}
use Rattle.std.specs.Result.{result_ok}
use Rattle.base64.specs.declared.decode.DecodeError.{DecodeError}
use Rattle.base64.specs.declared.decode.DecodeSliceError.{DecodeSliceError}
use Rattle.base64.specs.declared.decode.DecodeSliceError.TheVariants.{OutputSliceTooSmall}
use Rattle.base64.specs.Decode.{or_else, or_error, bytes_fit, decode_outcome, groups_before_last}
use Rattle.base64.specs.GeneralPurpose.{decode_slice_of, decoded_bytes_of}
use Rattle.base64.specs.Engines.{standard}
use Rattle.base64.proofs.Decoding.{length-groups_bytes}
use Rattle.text_forms.specs.Texts.{base64_bytes, bytes_of_length}

-- bytes, where they are so many
abbrev whole : ℕ → List ℕ → Option (List ℕ)
whole size bytes = if length bytes == size then Some bytes else None

-- the answer of decoding into room of this size, by the errors, the groups before the last, and the number of bytes
abbrev sliced : ℕ → Option DecodeError → Option DecodeError → ℕ → ℕ → Result ℕ DecodeSliceError
sliced size lone groups before n =
    or_error lone (if nat_lt (size / 3) before then Err OutputSliceTooSmall else or_error groups (bytes_fit n size))

-- the bytes, by the same
abbrev array_by : ℕ → Option DecodeError → Option DecodeError → List ℕ → Option (List ℕ)
array_by size lone groups bytes = option_and_then (whole size) (result_ok (decode_outcome (or_else lone groups) bytes))

room : (size before n : ℕ) → sliced size None None before n ≡ Ok size → n ≡ size
room size before n h = grind (arith, nat_tests)

is_whole : (size : ℕ) (bytes : List ℕ) → length bytes ≡ size → whole size bytes ≡ Some bytes
is_whole size bytes h = ap (λ t. if t then Some bytes else None) (eq-eqb (length bytes) size h)

array_is : (size : ℕ) (lone groups : Option DecodeError) (before : ℕ) (bytes : List ℕ)
    → sliced size lone groups before (length bytes) ≡ Ok size → array_by size lone groups bytes ≡ Some bytes
array_is size None None before bytes h = is_whole size bytes (room size before (length bytes) h)
array_is size None (Some e) before bytes h = grind (arith, nat_tests)
array_is size (Some e) groups before bytes h = cc

array_length : (size : ℕ) (lone groups : Option DecodeError) (before : ℕ) (bytes : List ℕ)
    → sliced size lone groups before (length bytes) ≡ Ok size → length bytes ≡ size
array_length size None None before bytes h = room size before (length bytes) h
array_length size None (Some e) before bytes h = grind (arith, nat_tests)
array_length size (Some e) groups before bytes h = cc

not_whole : (size : ℕ) (bytes : List ℕ) → (length bytes ≡ size → ⊥) → whole size bytes ≡ None
not_whole size bytes h = grind (arith, nat_tests)

third : (size before : ℕ) → 3 * before ≤ size → before ≤ size / 3
third size before h = omega arith

fits : (size before n : ℕ) → before ≤ size / 3 → n ≡ size → sliced size None None before n ≡ Ok size
fits size before n few same = grind (arith, nat_tests)

no_array : (size : ℕ) (lone groups : Option DecodeError) (before : ℕ) (bytes : List ℕ) → 3 * before ≤ length bytes
    → (sliced size lone groups before (length bytes) ≡ Ok size → ⊥) → array_by size lone groups bytes ≡ None
no_array size None None before bytes most h =
    not_whole size bytes
    (λ same. h (fits size before (length bytes) (third size before (omega arith)) same))
no_array size None (Some e) before bytes most h = refl
no_array size (Some e) groups before bytes most h = refl

-- the groups before the last have three bytes each
groups_least : (text : List ℕ) → 3 * groups_before_last (length text) ≤ length (decoded_bytes_of standard text)
groups_least text =
    omega (arith, length-append {A = ℕ}, length-groups_bytes standard.decode_table text (groups_before_last (length text)))

array_decoded : (size : ℕ) (text : List ℕ) → decode_slice_of standard text size ≡ Ok size
    → bytes_of_length size text ≡ Some (decoded_bytes_of standard text)
unfolding base64_bytes
array_decoded size text h = array_is size _ _ (groups_before_last (length text)) (decoded_bytes_of standard text) h

array_refused : (size : ℕ) (text : List ℕ) → (decode_slice_of standard text size ≡ Ok size → ⊥)
    → bytes_of_length size text ≡ None
unfolding base64_bytes
array_refused size text h =
    no_array size _ _ (groups_before_last (length text)) (decoded_bytes_of standard text) (groups_least text) h

-- what the room then holds are the bytes
pub array_written : (size : ℕ) (text old new : List ℕ) (r : Result ℕ DecodeSliceError) (n : ℕ) → length old ≡ size
    → r ≡ decode_slice_of standard text (length old) → r ≡ Ok n → n ≡ size
    → new ≡ decoded_bytes_of standard text ++ drop (length (decoded_bytes_of standard text)) old
    → Some new ≡ bytes_of_length size text
unfolding base64_bytes
array_written size text old new r n room_length is ok same written =
    let h : decode_slice_of standard text size ≡ Ok size = cc in
    let bytes : bytes_of_length size text ≡ Some (decoded_bytes_of standard text) = array_decoded size text h in
    let whole : length (decoded_bytes_of standard text) ≡ size =
    array_length size _ _ (groups_before_last (length text)) (decoded_bytes_of standard text) h in
    let rest : drop (length (decoded_bytes_of standard text)) old ≡ [] = drop_all _ old (omega arith) in
    ap Some (written ∙ ap (λ xs. decoded_bytes_of standard text ++ xs) rest ∙ append-nil (decoded_bytes_of standard text))
    ∙ sym bytes

-- another number of bytes makes no array
pub other_length : (size : ℕ) (text old : List ℕ) (r : Result ℕ DecodeSliceError) (n : ℕ) → length old ≡ size
    → r ≡ decode_slice_of standard text (length old) → r ≡ Ok n → (n ≡ size → ⊥)
    → None ≡ bytes_of_length size text
other_length size text old r n room_length is ok other =
    sym (array_refused size text (λ h. other (differ h)))
  where
    differ : decode_slice_of standard text size ≡ Ok size → n ≡ size
    differ h = cc

-- nor does an error
pub no_bytes : (size : ℕ) (text old : List ℕ) (r : Result ℕ DecodeSliceError) (e : DecodeSliceError) → length old ≡ size
    → r ≡ decode_slice_of standard text (length old) → r ≡ Err e → None ≡ bytes_of_length size text
no_bytes size text old r e room_length is err = sym (array_refused size text (λ h. failed h))
  where
    failed : decode_slice_of standard text size ≡ Ok size → ⊥
    failed h = cc
