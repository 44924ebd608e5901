-- The records of a text, one after another, are the rows of the whole text.
use Rattle.std.proofs.Common.{◌≡◌, ◌<◌, ◌≤◌, ◌+◌, ℕ, suc, zero, Bool, true, false, true≢false, cond, List, [], ◌∷◌, ◌++◌, Some, inl, inr, length, refl, sym, ap, subst, ◌∙◌, arith, Result, Ok, Err}
use Rattle.std.specs.Prelude.{◌==◌, ◌||◌, IsOkAnd}
use Rattle.vault_model.proofs.Tests.{decide}
use Rattle.csv.specs.Machine.{Read, ends_at_end, fields_after, field_after, in_field, is_end, next_record, start_field, start_record, step}
use Rattle.csv.specs.Reading.{AreRecords, Reached, default_config, records, records_from, records_next}
use Rattle.csv.specs.declared.parser.Action.{Action}
use Rattle.csv.specs.declared.parser.Action.TheVariants as act
use Rattle.csv.specs.declared.parser.State.{State}
use Rattle.csv.specs.declared.parser.State.TheVariants as st

-- what was made, with what is known of it
pub made_row : {A E : Type 0} {Q : A → Type 0} (r : Result A E) → IsOkAnd r Q → (y : A) × (r ≡ Ok y) × Q y
made_row (Ok y) is = (y, refl, is)
made_row (Err e) is = absurd is

-- after a record the machine is at a start
abbrev EndsWell : State × Action → Type 0
EndsWell x = is_end x.1 ≡ true → ends_at_end x.0 ≡ false

either : (b : Bool) (x y : State × Action) → EndsWell x → EndsWell y → EndsWell (cond b x y)
either true x y p q = p
either false x y p q = q

at_start : (b : Bool) → ends_at_end (cond b st.AfterCr st.StartRecord) ≡ false
at_start true = refl
at_start false = refl

goes_on : {A : Type 0} → false ≡ true → A
goes_on e = absurd (true≢false (sym e))

in_field_ends : (c : ℕ) → EndsWell (in_field default_config c)
in_field_ends c =
    either (c == 44) (st.StartField, act.EndField) _ goes_on
    (either ((c == 13) || (c == 10)) (cond (c == 13) st.AfterCr st.StartRecord, act.EndRecord) (st.InField, act.Copy) (λ e. at_start (c == 13)) goes_on)

start_field_ends : (c : ℕ) → EndsWell (start_field default_config c)
start_field_ends c = either (c == 34) (st.InQuoted, act.Skip) (in_field default_config c) goes_on (in_field_ends c)

start_record_ends : (c : ℕ) → EndsWell (start_record default_config c)
start_record_ends c = either ((c == 13) || (c == 10)) (st.StartRecord, act.Skip) (start_field default_config c) goes_on (start_field_ends c)

step_ends : (s : State) (c : ℕ) → EndsWell (step default_config s c)
step_ends st.StartRecord c = start_record_ends c
step_ends st.StartField c = start_field_ends c
step_ends st.InField c = in_field_ends c
step_ends st.InQuoted c = either (c == 34) (st.AfterQuote, act.Skip) (st.InQuoted, act.Copy) goes_on goes_on
step_ends st.InEscape c = goes_on
step_ends st.AfterQuote c = either (c == 34) (st.InQuoted, act.Copy) (in_field default_config c) goes_on (in_field_ends c)
step_ends st.InComment c = either (c == 10) (st.StartRecord, act.Skip) (st.InComment, act.Skip) goes_on goes_on
step_ends st.AfterCr c = either (c == 10) (st.StartRecord, act.Skip) (start_record default_config c) goes_on (start_record_ends c)

-- What a read leaves: a start, and no more bytes than there were.
record Leaves (xs : List ℕ) (r : Read) : Type 0 where
  start : ends_at_end r.1 ≡ false
  shorter : length r.2 ≤ length xs

same_read : (x y : Read) → Some x ≡ Some y → x ≡ y
same_read x y e = cc e

read_leaves : (s : State) (fields : List (List ℕ)) (field : List ℕ) (xs : List ℕ) (r : Read) → next_record default_config s fields field xs ≡ Some r → Leaves xs r
unfolding next_record
read_leaves s fields field [] r e =
    elim (decide (ends_at_end s)) [
      | inl p ↦
          let is = same_read (fields ++ (field ∷ []), st.StartRecord, []) r (rw p at e) in
          subst (Leaves []) is (record { start = refl; shorter = omega arith })
      | inr p ↦ absurd (cc (rw p at e))
    ]
read_leaves s fields field (c ∷ rest) r e =
    let x = step default_config s c in
    elim (decide (is_end x.1)) [
      | inl p ↦
          let is = same_read (fields_after x.1 fields field, x.0, rest) r (rw p at e) in
          subst (Leaves (c ∷ rest)) is (record { start = step_ends s c p; shorter = omega arith })
      | inr p ↦
          let after = read_leaves x.0 (fields_after x.1 fields field) (field_after x.1 c field) rest r (rw p at e) in
          let less = after.shorter in
          record { start = after.start; shorter = omega (arith, less) }
    ]

-- a read from a start takes a byte
read_takes : (s : State) (xs : List ℕ) (r : Read) → ends_at_end s ≡ false → next_record default_config s [] [] xs ≡ Some r → length r.2 < length xs
unfolding next_record
read_takes s [] r start e = absurd (cc (rw start at e))
read_takes s (c ∷ rest) r start e =
    let x = step default_config s c in
    elim (decide (is_end x.1)) [
      | inl p ↦
          let is = ap (λ (y : Read). length y.2) (same_read (fields_after x.1 [] [], x.0, rest) r (rw p at e)) in
          omega (arith, is)
      | inr p ↦
          let after = read_leaves x.0 (fields_after x.1 [] []) (field_after x.1 c []) rest r (rw p at e) in
          let less = after.shorter in
          omega (arith, less)
    ]

rows_from : (n : ℕ) (s : State) (xs : List ℕ) (rows : List (List (List ℕ))) → length xs < n → ends_at_end s ≡ false → AreRecords default_config s xs rows → records_from default_config n s xs ≡ rows
unfolding records_from Reached
rows_from zero s xs rows fuel start are = absurd (omega (arith, fuel))
rows_from (suc n) s xs [] fuel start are =
    let (s2, ys, here, none) = are in
    ap (records_next (records_from default_config n)) (rw (sym here.0, sym here.1) at none)
rows_from (suc n) s xs (row ∷ rows) fuel start are =
    let (s2, ys, reached, none) = are in
    let (p, read, is, after) = reached in
    let leaves = read_leaves s [] [] xs p read in
    let less = read_takes s xs p start read in
    ap (records_next (records_from default_config n)) read
    ∙ ap (λ rs. p.0 ∷ rs) (rows_from n p.1 p.2 rows (omega (arith, fuel, less)) leaves.start (s2, ys, after, none))
    ∙ ap (λ r. r ∷ rows) (sym is)

pub are_rows : (xs : List ℕ) (rows : List (List (List ℕ))) → AreRecords default_config st.StartRecord xs rows → rows ≡ records default_config xs
are_rows xs rows are = sym (rows_from (length xs + 1) st.StartRecord xs rows (omega arith) refl are)
