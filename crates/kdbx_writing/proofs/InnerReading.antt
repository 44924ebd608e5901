-- Inner fields that are spelled are read.
use Rattle.std.proofs.Common.{◌≡◌, ℕ, ◌+◌, ◌-◌, ◌<◌, ◌^◌, Bool, true, false, List, [], ◌∷◌, ◌++◌, length, map, Some, Result, Ok, refl, sym, ◌∙◌, ap, arith, append_assoc, append-nil, length-append}
use Rattle.std.specs.Prelude.{◌==◌, bit_and, if◌then◌else◌}
use Rattle.std.specs.List.{flat_map, AllByRecursion}
use Rattle.outside_core.specs.Results.{◌>>=◌, repeat_steps}
use Rattle.kdbx_parts.specs.declared.fail.FrameFail.{FrameFail}
use Rattle.kdbx_parts.specs.declared.fail.FrameFail.TheVariants.{Truncated}
use Rattle.kdbx_parts.specs.declared.parts.LengthWidth.TheVariants.{Four}
use Rattle.kdbx_inner.specs.Inner.{Binary, InnerRead, PartialInner, inner_end_missing, inner_from, inner_of, inner_step, no_inner_fields, with_inner_field}
use Rattle.kdbx_writing.specs.Fields.{spelled_field}
use Rattle.kdbx_writing.specs.Inner.{FitsField, binary_field, inner_fields, inner_with, spelled_inner}
use Rattle.kdbx_writing.proofs.FieldReading.{CanBeWritten, fewer_fields, field_again}
use Rattle.kdbx_writing.proofs.Readings.{folded, spelled_steps, then_ok}

-- How far the reading has come.
abbrev at : PartialInner → List ℕ → InnerRead
at found rest = record { fields = found; rest = rest }

-- What a field adds.
abbrev add_inner : PartialInner → ℕ × List ℕ → Result PartialInner FrameFail
add_inner found field = with_inner_field found (record { id = field.0; content = field.1; rest = [] })

inner_step_again : (whole : ℕ) (found : PartialInner) (field : ℕ × List ℕ) (rest : List ℕ) → CanBeWritten Four field
    → inner_step whole (at found (spelled_field field ++ rest)) ≡ (add_inner found field >>= λ q. Ok (false, at q rest))
unfolding inner_step with_inner_field
inner_step_again whole found field rest is =
    then_ok _ _ _ (field_again Four (λ _. Truncated whole) field.0 field.1 rest is.1) ∙ rw is.0 refl

end_step_again : (whole : ℕ) (found : PartialInner) (rest : List ℕ) → inner_step whole (at found (spelled_field (0, []) ++ rest)) ≡ Ok (true, at found rest)
unfolding inner_step
end_step_again whole found rest = then_ok _ _ _ (field_again Four (λ _. Truncated whole) 0 [] rest (omega arith))

hidden_again : (h : Bool) → (bit_and (if h then 1 else 0) 1 == 1) ≡ h
hidden_again true = refl
hidden_again false = refl

pool_added : (p : PartialInner) (pool : List Binary) → folded add_inner p (map binary_field pool) ≡ Ok (record p { pool = p.pool ++ pool })
unfolding folded with_inner_field
pool_added p [] = ap (λ (l : List Binary). Ok (record p { pool = l })) (sym (append-nil p.pool))
pool_added p (b ∷ pool) =
    let q : Bool → PartialInner = λ h. record p { pool = p.pool ++ (record { bytes = b.bytes; hidden = h }) ∷ [] } in
    ap (λ (h : Bool). folded add_inner (q h) (map binary_field pool)) (hidden_again b.hidden)
    ∙ pool_added (q b.hidden) pool
    ∙ ap (λ (l : List Binary). Ok (record p { pool = l })) (append_assoc p.pool (b ∷ []) pool)

all_added : (key : List ℕ) (pool : List Binary) → folded add_inner no_inner_fields (inner_fields key pool)
    ≡ Ok (record { stream_id = Some 3; stream_key = Some key; pool = pool })
unfolding folded with_inner_field
all_added key pool = pool_added (record { stream_id = Some 3; stream_key = Some key; pool = [] }) pool

pool_fits : (pool : List Binary) → AllByRecursion FitsField pool → AllByRecursion (CanBeWritten Four) (map binary_field pool)
pool_fits [] h = tt
pool_fits (b ∷ pool) h = ((refl, omega (arith, h.0)), pool_fits pool h.1)

-- Written inner fields are read.
pub inner_again : (key text : List ℕ) (pool : List Binary) → length key < 2 ^ 32 → AllByRecursion FitsField pool
    → inner_of (spelled_inner key pool ++ text) ≡ Ok (inner_with key pool)
unfolding inner_of spelled_inner
inner_again key text pool key_fits pool_small =
    let fields = inner_fields key pool in
    let body = flat_map (spelled_field) fields in
    let end = spelled_field (0, []) in
    let whole = length (body ++ end ++ text) in
    let len : whole ≡ length (body ++ end) + length text = length-append (body ++ end) text in
    let enough : length fields < whole = omega (arith, fewer_fields Four fields, len, length-append body end) in
    let found : PartialInner = record { stream_id = Some 3; stream_key = Some key; pool = pool } in
    let read : inner_from (body ++ end ++ text) ≡ Ok (at found text) =
    ap (λ (t : List ℕ). repeat_steps (inner_step whole) (inner_end_missing whole) whole (at no_inner_fields t)) (append_assoc body end text)
    ∙ spelled_steps (inner_step whole) (inner_end_missing whole) at (spelled_field) add_inner end (CanBeWritten Four)
    (inner_step_again whole) (end_step_again whole) whole fields no_inner_fields text
    ((refl, omega arith), ((refl, key_fits), pool_fits pool pool_small)) enough
    ∙ then_ok _ _ _ (all_added key pool) in
    let size : whole - length text ≡ length (body ++ end) = omega (arith, len) in
    then_ok _ _ _ read
    ∙ ap (λ (n : ℕ). Ok (record { stream_id = 3; stream_key = key; pool = pool; size = n })) size
