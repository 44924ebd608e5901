-- Which costs of a key derivation function are allowed.
use Rattle.std.specs.Prelude.{◌≡◌, ℕ, ◌*◌, length, Result, Ok, Err, if◌then◌else◌, ◌||◌, nat_lt}
use Rattle.argon_core.specs.Argon2.{max_kib, max_lanes, max_salt, min_lane_kib, min_salt}
use Rattle.key_core.specs.declared.kdf.Kdf.{Kdf}
use Rattle.key_core.specs.declared.kdf.Kdf.TheVariants.{Aes, Argon}
use Rattle.key_core.specs.declared.kdf.KdfField.{KdfField}
use Rattle.key_core.specs.declared.kdf.KdfField.TheVariants.{Rounds, Passes, Memory, Lanes, Salt}
use Rattle.key_core.specs.declared.kdf.KdfFail.{KdfFail}
use Rattle.key_core.specs.declared.kdf.KdfFail.TheVariants.{KdfLimit}

-- a number that must be from `least` to `most`, and what follows where it is
abbrev pub check_range : KdfField → ℕ → ℕ → ℕ → Result Unit KdfFail → Result Unit KdfFail
check_range field least most n next = if nat_lt n least
    || nat_lt most n then Err (KdfLimit field n) else next

-- the passes, memory, lanes and length of salt of Argon2, or the first that is out of its limits
abbrev pub checked_argon : ℕ → ℕ → ℕ → ℕ → Result Unit KdfFail
checked_argon passes bytes lanes salt_len =
    check_range Passes 1 4294967295 passes (
    check_range Memory (1024 * min_lane_kib * lanes) (1024 * max_kib) bytes (
    check_range Lanes 1 max_lanes lanes (
    check_range Salt min_salt max_salt salt_len (Ok tt))))

-- whether all numbers are within their limits, or the first that is not
abbrev pub checked_kdf : Kdf → Result Unit KdfFail
checked_kdf (Aes rounds seed) = check_range Rounds 0 4294967296 rounds (Ok tt)
checked_kdf (Argon kind passes bytes lanes salt) = checked_argon passes bytes lanes (length salt)

-- all numbers are within their limits
abbrev pub IsChecked : Kdf → Type 0
IsChecked kdf = checked_kdf kdf ≡ Ok tt
