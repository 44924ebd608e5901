-- Words whose bytes change places are words rotated by whole bytes.
use Rattle.std.proofs.Common.{◌≡◌, ℕ, ◌<◌, ◌+◌, ◌-◌, ◌*◌, ◌/◌, ◌%◌, ◌^◌, List, [], ◌∷◌, length, slice_index, bit_or, arith, refl, ap, ap₂, sym, ◌∙◌, w8}
use Rattle.std.specs.Int.{w32, rotate_left}
use Rattle.std.specs.Int.Bits.{or_self}
use Rattle.std.specs.Simd.Lanes.{Each1, chunk, number_l, digits_l}
use Rattle.std.proofs.lemmas.Nat.{or_shifted}
use Rattle.std.proofs.lemmas.Simd.{swz_l, SwzOk, SwzOk-from_below, Each1-from_get_or, Each1-get_or, length-swz_l, get_or-swz_l_below, get_or_narrower, get_or_wider, length-chunk, get_or-chunk}
use Rattle.stream_core.specs.Lanes.{IsTurn}
use Rattle.stream_core.proofs.LaneLemmas.{below_four, four_lanes}

-- a turn has places below 16 only
turn_below : (k : ℕ) (turn : List ℕ) → IsTurn k turn → (i : ℕ) → i < 16 → slice_index turn i < 16
turn_below k turn is i h =
    let place = is.places i h in
    let short = is.short in omega arith

pub turn_ok : (k : ℕ) (turn : List ℕ) → IsTurn k turn → length turn ≡ 16 → SwzOk w8 16 16 0 turn
turn_ok k turn is long =
    SwzOk-from_below w8 16 1 16 0 turn refl (omega arith)
    (Each1-from_get_or (λ j. j < 16) turn 0 (λ i h. turn_below k turn is i (omega arith)))

-- byte r of a word that is rotated left by q bytes
abbrev byte_of : ℕ → ℕ → ℕ → ℕ
byte_of q w r = w / 256 ^ ((r + (4 - q)) % 4) % 256

-- the bytes of a word that is rotated left by q bytes are the rotated word's
word_turned : (w : ℕ) → w < 2 ^ 32 → (q : ℕ) → q < 4
    → number_l 256 (byte_of q w 0 ∷ byte_of q w 1 ∷ byte_of q w 2 ∷ byte_of q w 3 ∷ []) ≡ rotate_left w32 w (8 * q)
word_turned w h =
    let high0 : w * 1 % 2 ^ 32 ≡ w = omega arith in
    let low0 : w / 1 ≡ w = omega arith in
    let high1 : w * 2 ^ 8 % 2 ^ 32 ≡ w % 2 ^ 24 * 2 ^ 8 = omega arith in
    let high2 : w * 2 ^ 16 % 2 ^ 32 ≡ w % 2 ^ 16 * 2 ^ 16 = omega arith in
    let high3 : w * 2 ^ 24 % 2 ^ 32 ≡ w % 2 ^ 8 * 2 ^ 24 = omega arith in
    let all0 = ap₂ bit_or high0 low0 ∙ or_self w in
    let all1 = ap (λ x. bit_or x (w / 2 ^ 24)) high1 ∙ or_shifted (w % 2 ^ 24) 8 (w / 2 ^ 24) (omega arith) in
    let all2 = ap (λ x. bit_or x (w / 2 ^ 16)) high2 ∙ or_shifted (w % 2 ^ 16) 16 (w / 2 ^ 16) (omega arith) in
    let all3 = ap (λ x. bit_or x (w / 2 ^ 8)) high3 ∙ or_shifted (w % 2 ^ 8) 24 (w / 2 ^ 8) (omega arith) in
    below_four _ (omega arith ∙ sym all0) (omega arith ∙ sym all1) (omega arith ∙ sym all2) (omega arith ∙ sym all3)

-- four bytes are those at their places
four_same : (xs : List ℕ) → length xs ≡ 4 → xs ≡ slice_index xs 0 ∷ slice_index xs 1 ∷ slice_index xs 2 ∷ slice_index xs 3 ∷ []
four_same = four_lanes (λ xs. xs ≡ slice_index xs 0 ∷ slice_index xs 1 ∷ slice_index xs 2 ∷ slice_index xs 3 ∷ []) (λ a b c d. refl)

-- the bytes of four words, each taken from its place
abbrev pub bytes_turned : List ℕ → List ℕ → List ℕ
bytes_turned turn x = swz_l w8 16 (digits_l 256 16 (number_l (2 ^ 32) x)) 0 turn

byte_turned : (k : ℕ) (turn x : List ℕ) → IsTurn k turn → length turn ≡ 16 → Each1 (λ w. w < 2 ^ 32) x
    → (j r : ℕ) → j < 4 → r < 4 → slice_index (bytes_turned turn x) (4 * j + r) ≡ byte_of (k / 8) (slice_index x j) r
byte_turned k turn x is long fit j r lane byte =
    let short = is.short in
    let place = is.places (4 * j + r) (omega arith) in
    let from = (r + (4 - k / 8)) % 4 in
    let bytes = digits_l 256 16 (number_l (2 ^ 32) x) in
    let same : 16 * ((0 + (4 * j + r)) / 16) + slice_index turn (4 * j + r) ≡ 4 * j + from = omega arith in
    get_or-swz_l_below w8 16 bytes 0 turn (4 * j + r) (omega arith) (turn_below k turn is (4 * j + r) (omega arith))
    ∙ ap (slice_index bytes) same
    ∙ get_or_narrower (2 ^ 32) 4 256 16 x j from refl fit (omega arith) (omega arith)

-- words whose bytes change places are rotated
pub words_turned : (k : ℕ) (turn x : List ℕ) → IsTurn k turn → length turn ≡ 16 → length x ≡ 4 → Each1 (λ w. w < 2 ^ 32) x
    → (j : ℕ) → j < 4 → slice_index (digits_l (2 ^ 32) 4 (number_l 256 (bytes_turned turn x))) j ≡ rotate_left w32 (slice_index x j) k
words_turned k turn x is long four fit j lane =
    let whole = is.whole in
    let short = is.short in
    let ys = bytes_turned turn x in
    let many : length ys ≡ 16 = length-swz_l w8 16 (digits_l 256 16 (number_l (2 ^ 32) x)) 0 turn ∙ long in
    let here : (r : ℕ) → r < 4 → slice_index ys (4 * j + r) ≡ byte_of (k / 8) (slice_index x j) r =
    (λ r byte. byte_turned k turn x is long fit j r lane byte) in
    let bytes : Each1 (λ b. b < 256) ys = Each1-from_get_or (λ b. b < 256) ys 0 (λ i h.
    (let at : i ≡ 4 * (i / 4) + i % 4 = omega arith in
    let is_byte = byte_turned k turn x is long fit (i / 4) (i % 4) (omega arith) (omega arith) in
    let b : slice_index ys i ≡ byte_of (k / 8) (slice_index x (i / 4)) (i % 4) = ap (slice_index ys) at ∙ is_byte in
    omega arith)) in
    let part = chunk (4 * j) 4 ys in
    let at : (r : ℕ) → r < 4 → slice_index part r ≡ byte_of (k / 8) (slice_index x j) r =
    (λ r byte. get_or-chunk (4 * j) 4 ys r 0 byte ∙ here r byte) in
    let b0 = at 0 (omega arith) in
    let b1 = at 1 (omega arith) in
    let b2 = at 2 (omega arith) in
    let b3 = at 3 (omega arith) in
    let word : slice_index x j < 2 ^ 32 = Each1-get_or (λ w. w < 2 ^ 32) x j 0 (omega arith) fit in
    let bits : 8 * (k / 8) ≡ k = omega arith in
    get_or_wider 256 4 (2 ^ 32) 4 ys j refl bytes lane
    ∙ ap (number_l 256) (four_same part (length-chunk (4 * j) 4 ys (omega arith)))
    ∙ (λ i. number_l 256 (b0 i ∷ b1 i ∷ b2 i ∷ b3 i ∷ []))
    ∙ word_turned (slice_index x j) word (k / 8) (omega arith)
    ∙ ap (rotate_left w32 (slice_index x j)) bits
