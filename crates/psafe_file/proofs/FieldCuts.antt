-- Cutting bytes into fields, one after another.
use Rattle.std.proofs.Common.{◌≡◌, ℕ, zero, suc, ◌+◌, ◌-◌, ◌<◌, ◌≤◌, true, false, Some, List, [], ◌∷◌, length, take, drop, refl, ap, ◌∙◌, inl, inr, arith, length-drop}
use Rattle.std.specs.Prelude.{nat_lt}
use Rattle.std.specs.Int.{from_le_bytes, w32}
use Rattle.std.proofs.lemmas.Bool.{cases_Bool, ltb-false}
use Rattle.psafe_file.specs.Fields.{SafeField, field_at, field_before, field_room, fields_from}

-- How many bytes the field at the first of some bytes takes.
abbrev pub room_of : List ℕ → ℕ
room_of bytes = field_room (from_le_bytes w32 (take 4 bytes))

-- Every number that is enough gives the same fields.
pub enough : (n m offset : ℕ) (bytes : List ℕ) → length bytes ≤ n → length bytes ≤ m → fields_from n offset bytes ≡ fields_from m offset bytes
enough zero zero offset bytes l r = refl
enough zero (suc m) offset [] l r = refl
enough zero (suc m) offset (b ∷ bs) l r = absurd (omega (arith, l))
enough (suc n) zero offset [] l r = refl
enough (suc n) zero offset (b ∷ bs) l r = absurd (omega (arith, r))
enough (suc n) (suc m) offset [] l r = refl
enough (suc n) (suc m) offset (b ∷ bs) l r =
    let bytes : List ℕ = b ∷ bs in
    let left : length (drop (room_of bytes) bytes) ≤ n = omega (arith, length-drop (room_of bytes) bytes, l) in
    let right : length (drop (room_of bytes) bytes) ≤ m = omega (arith, length-drop (room_of bytes) bytes, r) in
    elim (cases_Bool (nat_lt (length bytes) (room_of bytes))) [
      | inl past ↦ rw past refl
      | inr whole ↦ rw whole (ap (field_before (field_at offset bytes)) (enough n m (offset + room_of bytes) (drop (room_of bytes) bytes) left right))
    ]

-- A field that passes the end.
pub field_cut : (offset : ℕ) (bytes : List ℕ) → 0 < length bytes → nat_lt (length bytes) (room_of bytes) ≡ true
    → fields_from (length bytes) offset bytes ≡ record { fields = []; cut_off = Some offset }
field_cut offset [] some past = absurd (omega (arith, some))
field_cut offset (b ∷ bs) some past = rw past refl

-- A field, and those after it.
pub field_whole : (offset : ℕ) (bytes : List ℕ) → 0 < length bytes → nat_lt (length bytes) (room_of bytes) ≡ false
    → fields_from (length bytes) offset bytes
    ≡ field_before (field_at offset bytes) (fields_from (length (drop (room_of bytes) bytes)) (offset + room_of bytes) (drop (room_of bytes) bytes))
field_whole offset [] some whole = absurd (omega (arith, some))
field_whole offset (b ∷ bs) some whole =
    let bytes : List ℕ = b ∷ bs in
    let left : length (drop (room_of bytes) bytes) ≤ length bs = omega (arith, length-drop (room_of bytes) bytes) in
    rw whole (ap (field_before (field_at offset bytes)) (enough (length bs) (length (drop (room_of bytes) bytes)) (offset + room_of bytes) (drop (room_of bytes) bytes) left (omega arith)))

-- The fields of what is left of some bytes, of which one more is cut off.
pub one_more : (bytes rest after : List ℕ) (field : SafeField) → 0 < length rest → length rest ≤ length bytes
    → nat_lt (length rest) (room_of rest) ≡ false → field ≡ field_at (length bytes - length rest) rest → after ≡ drop (room_of rest) rest
    → fields_from (length rest) (length bytes - length rest) rest ≡ field_before field (fields_from (length after) (length bytes - length after) after)
one_more bytes rest after field some within whole is cut =
    let room = room_of rest in
    let fits : room ≤ length rest = omega (arith, ltb-false (length rest) room whole) in
    let place : ((length bytes - length rest) + room) ≡ (length bytes - length (drop room rest)) = omega (arith, length-drop room rest, fits, within) in
    rw (cut, is) (field_whole (length bytes - length rest) rest some whole
    ∙ ap (λ (n : ℕ). field_before (field_at (length bytes - length rest) rest) (fields_from (length (drop room rest)) n (drop room rest))) place)
