-- A content in pieces.
use Rattle.std.proofs.Common.{◌≡◌, ℕ, zero, suc, ◌+◌, ◌<◌, ◌≤◌, List, [], ◌∷◌, ◌++◌, length, take, drop, refl, ◌∙◌, ap, arith, append_assoc, length-drop}
use Rattle.mac_core.specs.Blocks.{block, blocks}
use Rattle.kdbx_blocks.specs.Pieces.{pieces_of, pieces, blocks_to_end}

pieces_fuel : (f g n : ℕ) (xs : List ℕ) → 0 < n → length xs ≤ f → length xs ≤ g → pieces_of f n xs ≡ pieces_of g n xs
unfolding pieces_of
pieces_fuel zero zero n xs some lf lg = refl
pieces_fuel zero (suc g) n [] some lf lg = refl
pieces_fuel zero (suc g) n (x ∷ xs) some lf lg = absurd (omega (arith, lf))
pieces_fuel (suc f) zero n [] some lf lg = refl
pieces_fuel (suc f) zero n (x ∷ xs) some lf lg = absurd (omega (arith, lg))
pieces_fuel (suc f) (suc g) n [] some lf lg = refl
pieces_fuel (suc f) (suc g) n (x ∷ xs) some lf lg =
    let len = length-drop n (x ∷ xs) in
    ap (λ l. take n (x ∷ xs) ∷ l) (pieces_fuel f g n (drop n (x ∷ xs)) some (omega (arith, len, lf, some)) (omega (arith, len, lg, some)))

-- The first piece, and the pieces of what is left.
pub pieces_more : (text : List ℕ) → 0 < length text → pieces text ≡ take 1048576 text ∷ pieces (drop 1048576 text)
unfolding pieces_of
pieces_more [] some = absurd (omega (arith, some))
pieces_more (x ∷ xs) some =
    let rest = drop 1048576 (x ∷ xs) in
    ap (λ l. take 1048576 (x ∷ xs) ∷ l) (pieces_fuel (length xs) (length rest) 1048576 rest (omega arith) (omega (arith, length-drop 1048576 (x ∷ xs))) (omega arith))

-- The first block, and the blocks of what is left.
pub blocks_more : (base : List ℕ) (i : ℕ) (text : List ℕ) → 0 < length text
    → blocks_to_end base i (pieces text) ≡ block base i (take 1048576 text) ++ blocks_to_end base (i + 1) (pieces (drop 1048576 text))
unfolding blocks
blocks_more base i text some =
    let piece = take 1048576 text in
    let more = pieces (drop 1048576 text) in
    let next : i + length (piece ∷ more) ≡ i + 1 + length more = omega arith in
    let next_index : suc i ≡ i + 1 = omega arith in
    ap (blocks_to_end base i) (pieces_more text some)
    ∙ append_assoc (block base i piece) (blocks base (suc i) more) (block base (i + length (piece ∷ more)) [])
    ∙ ap (λ k. block base i piece ++ (blocks base (suc i) more ++ block base k [])) next
    ∙ ap (λ k. block base i piece ++ (blocks base k more ++ block base (i + 1 + length more) [])) next_index

-- The end block is left at the end.
pub blocks_end : (base : List ℕ) (i : ℕ) (text : List ℕ) → length text ≡ 0 → blocks_to_end base i (pieces text) ≡ block base i []
unfolding blocks pieces_of
blocks_end base i [] none = ap (λ k. block base k []) (let e : i + 0 ≡ i = omega arith in e)
blocks_end base i (x ∷ xs) none = absurd (omega (arith, none))
