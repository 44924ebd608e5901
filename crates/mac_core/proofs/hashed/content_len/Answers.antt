use Rattle.std.proofs.Common.{◌≡◌, ℕ, List, ◌+◌, ◌-◌, length, take, drop, sym, ◌∙◌, ap, arith, length-drop, Ok}
use Rattle.std.proofs.lemmas.List.{length-take-le}
use Rattle.std.specs.Int.{w32, to_le_bytes}
use Rattle.mac_core.specs.HashedBlocks.{content_hash, hashed_size_in}
use Rattle.mac_core.proofs.HashedBlocks.{hashed_other, hashed_right, hashed_short, hashed_wrong}
use Rattle.mac_core.proofs.BlockMoves.{block_of_len}
use Rattle.mac_core.proofs.hashed.content_len.Goals as goal

-- the content that was hashed is the one that the head's size gives
same_content : (rest : List ℕ) (len : ℕ) → len ≡ hashed_size_in rest
    → content_hash (take (40 + len - 40) (drop 40 rest)) ≡ content_hash (take (hashed_size_in rest) (drop 40 rest))
same_content rest len told =
    let same : 40 + len - 40 ≡ hashed_size_in rest = omega (arith, told) in
    ap (λ (n : ℕ). content_hash (take n (drop 40 rest))) same

pub returns-then-rest-lt-HEAD-clause-gives : goal.returns-then-rest-lt-HEAD-clause-gives
returns-then-rest-lt-HEAD-clause-gives c = hashed_short c.args.size c.args.index c.args.rest.now (omega arith)

pub returns-then-rest-len-clause-gives : goal.returns-then-rest-len-clause-gives
returns-then-rest-len-clause-gives c =
    let told = c.number_at-len.ensures.number in
    hashed_short c.args.size c.args.index c.args.rest.now (omega (arith, told))

pub returns-then-not-is_same-clause-gives : goal.returns-then-not-is_same-clause-gives
returns-then-not-is_same-clause-gives c =
    let told = c.number_at-len.ensures.number in
    let index : take 4 c.to_le_bytes.result ≡ to_le_bytes w32 c.args.index = ap (λ (xs : List ℕ). take 4 xs) c.to_le_bytes.ensures in
    hashed_other c.args.size c.args.index c.args.rest.now (omega (arith, told)) (λ e. let t = c.is_same.ensures.1 (e ∙ sym index) in cc)

pub returns-then-not-is_same-2-clause-gives : goal.returns-then-not-is_same-2-clause-gives
returns-then-not-is_same-2-clause-gives c =
    let rest = c.args.rest.now in
    let told = c.number_at-len.ensures.number in
    let index : take 4 c.to_le_bytes.result ≡ to_le_bytes w32 c.args.index = ap (λ (xs : List ℕ). take 4 xs) c.to_le_bytes.ensures in
    hashed_wrong c.args.size c.args.index rest (omega (arith, told)) (c.is_same.ensures.0 c.if-not-is_same.false ∙ index)
    (λ e. let t = c.is_same-2.ensures.1 (e ∙ sym (same_content rest c.number_at-len.result told) ∙ sym c.content_hash.ensures) in cc)

pub returns-clause-gives : goal.returns-clause-gives
returns-clause-gives c =
    let rest = c.args.rest.now in
    let len = c.number_at-len.result in
    let told = c.number_at-len.ensures.number in
    let index : take 4 c.to_le_bytes.result ≡ to_le_bytes w32 c.args.index = ap (λ (xs : List ℕ). take 4 xs) c.to_le_bytes.ensures in
    let long : length (take (hashed_size_in rest) (drop 40 rest)) ≡ hashed_size_in rest =
    length-take-le (hashed_size_in rest) (drop 40 rest) (omega (arith, told, length-drop 40 rest)) in
    hashed_right c.args.size c.args.index rest (omega (arith, told)) (c.is_same.ensures.0 c.if-not-is_same.false ∙ index)
    (c.is_same-2.ensures.0 c.if-not-is_same-2.false ∙ c.content_hash.ensures ∙ same_content rest len told)
    (sym c.number_at-len.ensures.bytes ∙ ap (to_le_bytes w32) (told ∙ sym long))
    ∙ ap (λ (n : ℕ). Ok (block_of_len 40 n rest)) (sym told)
