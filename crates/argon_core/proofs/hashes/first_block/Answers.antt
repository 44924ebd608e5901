use Rattle.std.proofs.Common.{◌++◌, ap, ◌∙◌, List, ℕ}
use Rattle.argon_core.specs.Words.{words}
use Rattle.argon_core.specs.Blake2b.{blake2b}
use Rattle.argon_core.specs.VariableHash.{first_halves, hash_chain, variable_hash}
use Rattle.argon_core.proofs.hashes.first_block.Goals as goal

pub returns : goal.returns
unfolding variable_hash
returns c =
    let len = c.update_number.ensures.holds 64 _ c.new-hasher.ensures.holds in
    let first = rw c.bytes.ensures at (c.update.ensures.holds 64 _ len) in
    let column = c.update_number-2.ensures.holds 64 _ first in
    let lane = c.update_number-3.ensures.holds 64 _ column in
    c.load_words.ensures
    ∙ ap (λ (bytes : List ℕ). words 128 bytes) (c.lengthen-bytes.ensures
    ∙ ap (λ (v : List ℕ). first_halves v 30 ++ blake2b 64 (hash_chain v 29)) (c.digest_of.ensures _ lane))
