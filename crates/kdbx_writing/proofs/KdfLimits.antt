-- The limits of a key derivation with a salt of its own.
use Rattle.std.proofs.Common.{◌≡◌, ℕ, ◌*◌, ◌≤◌, Bool, true, false, cond, List, length, Result, Ok, Err, refl, arith}
use Rattle.std.specs.Prelude.{◌||◌, nat_lt}
use Rattle.std.proofs.lemmas.Bool.{le-ltb, ltb-false}
use Rattle.key_core.specs.declared.kdf.Kdf.{Kdf}
use Rattle.key_core.specs.declared.kdf.Kdf.TheVariants.{Aes, Argon}
use Rattle.key_core.specs.Kdf.{IsChecked, check_range, checked_argon}
use Rattle.key_core.specs.declared.kdf.KdfField.{KdfField}
use Rattle.key_core.specs.declared.kdf.KdfField.TheVariants.{Rounds, Passes, Memory, Lanes}
use Rattle.key_core.specs.declared.kdf.KdfFail.{KdfFail}
use Rattle.key_core.specs.declared.kdf.KdfFail.TheVariants.{KdfLimit}
use Rattle.kdbx_writing.specs.Kdf.{with_salt}
use Rattle.kdbx_writing.proofs.KdfReading.{Fits}

within_parts_by : (field : KdfField) (least most n : ℕ) (next : Result Unit KdfFail) (a b : Bool) → nat_lt n least ≡ a → nat_lt most n ≡ b
    → cond (a || b) (Err (KdfLimit field n)) next ≡ Ok tt → (least ≤ n) × (n ≤ most) × (next ≡ Ok tt)
within_parts_by field least most n next false false low high h = (ltb-false n least low, ltb-false most n high, h)
within_parts_by field least most n next false true low high h = cc
within_parts_by field least most n next true b low high h = cc

within_parts : (field : KdfField) (least most n : ℕ) (next : Result Unit KdfFail) → check_range field least most n next ≡ Ok tt → (least ≤ n) × (n ≤ most) × (next ≡ Ok tt)
within_parts field least most n next h = within_parts_by field least most n next (nat_lt n least) (nat_lt most n) refl refl h

pub fits_again : (kdf : Kdf) (salt : List ℕ) → IsChecked kdf → length salt ≡ 32 → Fits (with_salt kdf salt)
fits_again (Aes rounds seed) salt h len =
    let r = within_parts Rounds 0 4294967296 rounds (Ok tt) h in
    (omega (arith, r.1), len)
fits_again (Argon kind passes memory lanes old) salt h len =
    let p = within_parts Passes 1 4294967295 passes _ h in
    let m = within_parts Memory (8192 * lanes) 1073741824 memory _ p.2 in
    let l = within_parts Lanes 1 1024 lanes _ m.2 in
    (omega (arith, p.1), omega (arith, m.1), omega (arith, l.1), omega (arith, len))

checked_salt : (passes memory lanes old_len new_len : ℕ) → checked_argon passes memory lanes old_len ≡ Ok tt → new_len ≡ 32 → checked_argon passes memory lanes new_len ≡ Ok tt
checked_salt passes memory lanes old_len new_len h len =
    let p = within_parts Passes 1 4294967295 passes _ h in
    let m = within_parts Memory (8192 * lanes) 1073741824 memory _ p.2 in
    let l = within_parts Lanes 1 1024 lanes _ m.2 in
    rw (le-ltb passes 1 p.0, le-ltb 4294967295 passes p.1, le-ltb memory (8192 * lanes) m.0, le-ltb 1073741824 memory m.1, le-ltb lanes 1 l.0, le-ltb 1024 lanes l.1, len) refl

pub checked_again : (kdf : Kdf) (salt : List ℕ) → IsChecked kdf → length salt ≡ 32 → IsChecked (with_salt kdf salt)
checked_again (Aes rounds seed) salt h len = h
checked_again (Argon kind passes memory lanes old) salt h len = checked_salt passes memory lanes (length old) (length salt) h len
