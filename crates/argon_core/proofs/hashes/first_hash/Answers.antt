use Rattle.argon_core.specs.Argon2.{first_hash}
use Rattle.argon_core.proofs.hashes.first_hash.Goals as goal

pub returns : goal.returns
unfolding first_hash
returns c =
    let lanes = c.update_number.ensures.holds 64 _ c.new-hasher.ensures.holds in
    let len = c.update_number-2.ensures.holds 64 _ lanes in
    let memory = c.update_number-3.ensures.holds 64 _ len in
    let passes = c.update_number-4.ensures.holds 64 _ memory in
    let version = c.update_number-5.ensures.holds 64 _ passes in
    let kind = c.update_number-6.ensures.holds 64 _ version in
    let password = c.update_with_len.ensures.holds 64 _ kind in
    let salt = c.update_with_len-2.ensures.holds 64 _ password in
    let secret = c.update_with_len-3.ensures.holds 64 _ salt in
    let extra = c.update_with_len-4.ensures.holds 64 _ secret in
    rw c.type_number.ensures at (c.digest_of.ensures _ extra)
