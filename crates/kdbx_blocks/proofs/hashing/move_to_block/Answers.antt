use Rattle.std.proofs.Common.{◌≡◌, ℕ, ◌+◌, ◌-◌, List, ◌++◌, length, take, drop, refl, ap, ◌∙◌, arith, length-drop}
use Rattle.mac_core.specs.HashedBlocks.{hashed_head}
use Rattle.kdbx_blocks.proofs.HashedPieces.{head_long}
use Rattle.kdbx_blocks.proofs.HashedMoves.{block_put, rest_kept}
use Rattle.kdbx_blocks.proofs.hashing.move_to_block.Goals as goal

-- the head that was made is that of the piece, and has 40 bytes
head_is : (i at len : ℕ) (text head : List ℕ) → head ≡ hashed_head i (take (at + len - at) (drop at text)) → head ≡ hashed_head i (take len (drop at text))
head_is i at len text head made =
    let same : at + len - at ≡ len = omega arith in
    made ∙ ap (λ (n : ℕ). hashed_head i (take n (drop at text))) same

head_len : (i : ℕ) (piece head : List ℕ) → head ≡ hashed_head i piece → length head ≡ 40
head_len i piece head is = ap length is ∙ head_long i piece

pub returns-clause-block : goal.returns-clause-block
returns-clause-block c =
    let text = c.args.text.now in
    let to = c.args.to in
    let at = c.args.at in
    let len = c.args.len in
    let head = c.copy_from_slice.new.self in
    let made = c.copy_from_slice.ensures.after ∙ head_is c.args.index at len text c.hashed_head-head.result c.hashed_head-head.ensures in
    block_put text c.copy_within.new.self _ (drop at text) head to len (at + len - at) (to + 40 - to)
    (omega (arith, c.requires.room, c.requires.within)) (omega (arith, c.requires.within, length-drop at text)) c.copy_within.ensures.len (omega arith)
    c.copy_within.ensures.after (head_len c.args.index _ head made) (omega arith) refl
    ∙ ap (λ (xs : List ℕ). take to text ++ (xs ++ take len (drop at text))) made

pub returns-clause-rest : goal.returns-clause-rest
returns-clause-rest c =
    let text = c.args.text.now in
    let to = c.args.to in
    let at = c.args.at in
    let len = c.args.len in
    let head = c.copy_from_slice.new.self in
    let made = c.copy_from_slice.ensures.after ∙ head_is c.args.index at len text c.hashed_head-head.result c.hashed_head-head.ensures in
    rest_kept text c.copy_within.new.self _ (drop at text) head to len (at + len - at) (to + 40 - to)
    (omega (arith, c.requires.room, c.requires.within)) (omega (arith, c.requires.within, length-drop at text)) c.copy_within.ensures.len (omega arith)
    c.copy_within.ensures.after (head_len c.args.index _ head made) (omega arith) refl (at + len) (omega (arith, c.requires.room))
