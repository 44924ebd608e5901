use Rattle.std.proofs.Common.{◌≡◌, ◌++◌, ◌∙◌, List, ℕ, ap, arith, length}
use Rattle.argon_core.specs.Blake2b.{blake2b}
use Rattle.argon_core.specs.VariableHash.{le32, variable_hash}
use Rattle.argon_core.proofs.hashes.tag.Goals as goal

pub returns : goal.returns
unfolding variable_hash
returns c =
    let message = c.to_le_bytes.result ++ c.store_words.new.into in
    let len : length c.bytes_mut.result.now ≡ 32 = omega arith in
    c.blake2b.ensures
    ∙ ap (λ (n : ℕ). blake2b n message) len
    ∙ ap (λ (x : List ℕ). blake2b 32 (x ++ c.store_words.new.into)) c.to_le_bytes.ensures
    ∙ ap (λ (x : List ℕ). blake2b 32 (le32 32 ++ x)) c.store_words.ensures
