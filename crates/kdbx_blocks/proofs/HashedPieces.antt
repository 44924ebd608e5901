-- A text in hashed blocks, piece by piece.
use Rattle.std.proofs.Common.{◌≡◌, ℕ, zero, suc, ◌+◌, ◌-◌, ◌*◌, ◌/◌, ◌<◌, ◌≤◌, List, [], ◌∷◌, ◌++◌, length, take, drop, refl, sym, ◌∙◌, ap, arith, append_assoc, length-append, length-drop, length-take, min}
use Rattle.std.specs.Int.{w32, to_le_bytes}
use Rattle.mac_core.specs.HashedBlocks.{content_hash, hashed_block, hashed_blocks, hashed_head}
use Rattle.mac_core.proofs.HashedBlocks.{content_hash_long}
use Rattle.mac_core.specs.Joining.{written_blocks}
use Rattle.kdbx_blocks.specs.Pieces.{hashed_to_end, pieces, pieces_of}
use Rattle.kdbx_blocks.proofs.Pieces.{pieces_more}

-- The first block, and the blocks of what is left.
hashed_more : (i : ℕ) (text : List ℕ) → 0 < length text
    → hashed_to_end i (pieces text) ≡ hashed_block i (take 1048576 text) ++ hashed_to_end (i + 1) (pieces (drop 1048576 text))
unfolding written_blocks
hashed_more i text some =
    let piece = take 1048576 text in
    let more = pieces (drop 1048576 text) in
    let next : i + length (piece ∷ more) ≡ i + 1 + length more = omega arith in
    let next_index : suc i ≡ i + 1 = omega arith in
    ap (hashed_to_end i) (pieces_more text some)
    ∙ append_assoc (hashed_block i piece) (hashed_blocks (suc i) more) (hashed_block (i + length (piece ∷ more)) [])
    ∙ ap (λ k. hashed_block i piece ++ (hashed_blocks (suc i) more ++ hashed_block k [])) next
    ∙ ap (λ k. hashed_block i piece ++ (hashed_blocks k more ++ hashed_block (i + 1 + length more) [])) next_index

-- The end block is left at the end.
hashed_end : (i : ℕ) (text : List ℕ) → length text ≡ 0 → hashed_to_end i (pieces text) ≡ hashed_block i []
unfolding written_blocks pieces_of
hashed_end i [] none = ap (λ k. hashed_block k []) (let e : i + 0 ≡ i = omega arith in e)
hashed_end i (x ∷ xs) none = absurd (omega (arith, none))

-- One block was put; what is left of the whole follows.
pub hashed_put : (old new whole left piece rest : List ℕ) (i j : ℕ) → 0 < length left → j ≡ i + 1 → piece ≡ take 1048576 left → rest ≡ drop 1048576 left
    → new ≡ old ++ hashed_block i piece → old ++ hashed_to_end i (pieces left) ≡ whole → new ++ hashed_to_end j (pieces rest) ≡ whole
hashed_put old new whole left piece rest i j some next is_piece is_rest put so_far =
    ap (λ (k : ℕ). new ++ hashed_to_end k (pieces rest)) next
    ∙ ap (λ (xs : List ℕ). new ++ hashed_to_end (i + 1) (pieces xs)) is_rest
    ∙ ap (λ (xs : List ℕ). xs ++ hashed_to_end (i + 1) (pieces (drop 1048576 left))) (put ∙ ap (λ (xs : List ℕ). old ++ hashed_block i xs) is_piece)
    ∙ append_assoc old (hashed_block i (take 1048576 left)) (hashed_to_end (i + 1) (pieces (drop 1048576 left)))
    ∙ ap (λ (xs : List ℕ). old ++ xs) (sym (hashed_more i left some)) ∙ so_far

-- The end block was put.
pub hashed_ended : (old new whole left : List ℕ) (i : ℕ) → length left ≡ 0 → new ≡ old ++ hashed_block i [] → old ++ hashed_to_end i (pieces left) ≡ whole
    → new ≡ whole
hashed_ended old new whole left i none put so_far = put ∙ ap (λ (xs : List ℕ). old ++ xs) (sym (hashed_end i left none)) ∙ so_far

-- ---- how long they are

pub head_long : (i : ℕ) (content : List ℕ) → length (hashed_head i content) ≡ 40
head_long i content = omega (
  arith,
  length-append (to_le_bytes w32 i ++ content_hash content) (to_le_bytes w32 (length content)),
  length-append (to_le_bytes w32 i) (content_hash content),
  content_hash_long content,
)

block_len : (i : ℕ) (content : List ℕ) → length (hashed_block i content) ≡ 40 + length content
block_len i content = omega (arith, length-append (hashed_head i content) content, head_long i content)

-- Of a text of so many bytes, which is not empty, one piece and the rest.
rest_below : (rest whole f : ℕ) → rest ≡ whole - 1048576 → 0 < whole → whole ≤ suc f → rest ≤ f
rest_below rest whole f is some within = omega (arith, is, some, within)

one_more : (all block more piece rest whole : ℕ) → all ≡ block + more → block ≡ 40 + piece → more ≡ rest + 40 * ((rest + 1048575) / 1048576)
    → piece ≡ min 1048576 whole → rest ≡ whole - 1048576 → 0 < whole → all ≡ whole + 40 * ((whole + 1048575) / 1048576)
one_more all block more piece rest whole a b c d e some = omega (arith, a, b, c, d, e, some)

blocks_len : (f i : ℕ) (xs : List ℕ) → length xs ≤ f
    → length (hashed_blocks i (pieces_of f 1048576 xs)) ≡ length xs + 40 * ((length xs + 1048575) / 1048576)
unfolding written_blocks pieces_of
blocks_len zero i [] within = refl
blocks_len zero i (x ∷ xs) within = absurd (omega (arith, within))
blocks_len (suc f) i [] within = refl
blocks_len (suc f) i (x ∷ xs) within =
    let piece = take 1048576 (x ∷ xs) in
    let rest = drop 1048576 (x ∷ xs) in
    let some : 0 < length (x ∷ xs) = omega arith in
    one_more _ _ _ (length piece) (length rest) (length (x ∷ xs)) (length-append (hashed_block i piece) (hashed_blocks (suc i) (pieces_of f 1048576 rest)))
    (block_len i piece) (blocks_len f (suc i) rest (rest_below (length rest) (length (x ∷ xs)) f (length-drop 1048576 (x ∷ xs)) some within))
    (length-take 1048576 (x ∷ xs)) (length-drop 1048576 (x ∷ xs)) some

-- A text in hashed blocks, with the end block.
pub hashed_to_end_len : (text : List ℕ) → length (hashed_to_end 0 (pieces text)) ≡ length text + 40 * ((length text + 1048575) / 1048576) + 40
hashed_to_end_len text =
    let count = 0 + length (pieces text) in
    omega (
      arith,
      length-append (hashed_blocks 0 (pieces text)) (hashed_block count []),
      blocks_len (length text) 0 text (omega arith),
      block_len count [],
    )
