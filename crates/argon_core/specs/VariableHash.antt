-- The hash of any length that Argon2 makes of BLAKE2b (RFC 9106, 3.3).
use Rattle.std.specs.Prelude.{ℕ, zero, suc, ◌+◌, ◌-◌, ◌*◌, ◌/◌, nat_le, if◌then◌else◌, List, [], ◌++◌, take}
use Rattle.std.specs.Int.{w32, to_le_bytes}
use Rattle.argon_core.specs.Blake2b.{blake2b}

-- the four bytes of a number below 2 ^ 32, the low one first
abbrev pub le32 : ℕ → List ℕ
le32 n = to_le_bytes w32 n

-- V (i + 1), from V 1: each is the hash of the one before
unfoldable pub hash_chain : List ℕ → ℕ → List ℕ
hash_chain v zero = v
hash_chain v (suc i) = blake2b 64 (hash_chain v i)

-- the first halves of V 1 to V r, from V 1
unfoldable pub first_halves : List ℕ → ℕ → List ℕ
first_halves v zero = []
first_halves v (suc r) = first_halves v r ++ take 32 (hash_chain v r)

-- H': a hash of n bytes, for n from 1 on
unfoldable pub variable_hash : ℕ → List ℕ → List ℕ
variable_hash n message =
    if nat_le n 64
    then blake2b n (le32 n ++ message)
    else
    let r = (n + 31) / 32 - 2 in
    let v = blake2b 64 (le32 n ++ message) in
    first_halves v r ++ blake2b (n - 32 * r) (hash_chain v (r - 1))
