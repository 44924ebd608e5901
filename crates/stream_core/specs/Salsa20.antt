-- The keystream of Salsa20/20 with a key of 32 bytes (Bernstein, "Salsa20 specification"): each
-- byte as a function of key, nonce and place.
use Rattle.std.specs.Prelude.{ℕ, zero, suc, ◌/◌, ◌%◌, ◌^◌, List, [], ◌∷◌, bit_xor, slice_index}
use Rattle.std.specs.Int.{w32, rotate_left}
use Rattle.stream_core.specs.Words.{add32, word_at, byte_in}

-- the quarterround function on four words (section 3)
unfoldable pub quarter_round : ℕ → ℕ → ℕ → ℕ → ℕ × ℕ × ℕ × ℕ
quarter_round a b c d =
    let b1 = bit_xor b (rotate_left w32 (add32 a d) 7) in
    let c1 = bit_xor c (rotate_left w32 (add32 b1 a) 9) in
    let d1 = bit_xor d (rotate_left w32 (add32 c1 b1) 13) in
    let a1 = bit_xor a (rotate_left w32 (add32 d1 c1) 18) in
    (a1, b1, c1, d1)

-- the quarterround function on the words of a state at four places
abbrev pub quarter_round_at : List ℕ → ℕ → ℕ → ℕ → ℕ → ℕ × ℕ × ℕ × ℕ
quarter_round_at s a b c d = quarter_round (slice_index s a) (slice_index s b) (slice_index s c)
    (slice_index s d)

-- the columnround function: each column of four rows of four words, from its diagonal word down
-- (section 5)
unfoldable pub column_round : List ℕ → List ℕ
column_round s =
    let q0 = quarter_round_at s 0 4 8 12 in
    let q1 = quarter_round_at s 5 9 13 1 in
    let q2 = quarter_round_at s 10 14 2 6 in
    let q3 = quarter_round_at s 15 3 7 11 in
    q0.0 ∷ q1.3 ∷ q2.2 ∷ q3.1
    ∷ q0.1 ∷ q1.0 ∷ q2.3 ∷ q3.2
    ∷ q0.2 ∷ q1.1 ∷ q2.0 ∷ q3.3
    ∷ q0.3 ∷ q1.2 ∷ q2.1 ∷ q3.0 ∷ []

-- the rowround function: each row, from its diagonal word on (section 4)
unfoldable pub row_round : List ℕ → List ℕ
row_round s =
    let q0 = quarter_round_at s 0 1 2 3 in
    let q1 = quarter_round_at s 5 6 7 4 in
    let q2 = quarter_round_at s 10 11 8 9 in
    let q3 = quarter_round_at s 15 12 13 14 in
    q0.0 ∷ q0.1 ∷ q0.2 ∷ q0.3
    ∷ q1.3 ∷ q1.0 ∷ q1.1 ∷ q1.2
    ∷ q2.2 ∷ q2.3 ∷ q2.0 ∷ q2.1
    ∷ q3.1 ∷ q3.2 ∷ q3.3 ∷ q3.0 ∷ []

-- a state after n doublerounds (section 6)
unfoldable pub double_rounds : ℕ → List ℕ → List ℕ
double_rounds zero s = s
double_rounds (suc n) s = row_round (column_round (double_rounds n s))

-- the state that a block starts with: constants on the diagonal, the key's halves, the nonce, and
-- the block's number in 64 bits, low word first (sections 9 and 10)
abbrev pub salsa_state : List ℕ → List ℕ → ℕ → List ℕ
salsa_state key nonce counter =
    0x61707865 ∷ word_at key 0 ∷ word_at key 1 ∷ word_at key 2
    ∷ word_at key 3 ∷ 0x3320646e ∷ word_at nonce 0 ∷ word_at nonce 1
    ∷ counter % 2 ^ 32 ∷ counter / 2 ^ 32 ∷ 0x79622d32 ∷ word_at key 4
    ∷ word_at key 5 ∷ word_at key 6 ∷ word_at key 7 ∷ 0x6b206574 ∷ []

-- word i of a block: the state after ten doublerounds, plus the state that it started with (section
-- 8)
unfoldable pub salsa_word : List ℕ → List ℕ → ℕ → ℕ → ℕ
salsa_word key nonce counter i =
    let s = salsa_state key nonce counter in
    add32 (slice_index (double_rounds 10 s) i) (slice_index s i)

-- the byte at a place of the stream of a key and a nonce, which starts with block 0 (section 10)
abbrev pub salsa_byte : List ℕ → List ℕ → ℕ → ℕ
salsa_byte key nonce place = byte_in (salsa_word key nonce) place
