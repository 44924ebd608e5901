-- The keystream of ChaCha20 (RFC 8439, sections 2.1 to 2.4): each byte as a function of key, nonce
-- and place.
use Rattle.std.specs.Prelude.{ℕ, zero, suc, List, [], ◌∷◌, bit_xor, slice_index}
use Rattle.std.specs.Int.{w32, rotate_left}
use Rattle.stream_core.specs.Words.{add32, word_at, byte_in}

-- half a quarter round, which rotates by k and then by m: a += b; d = (d ^ a) <<< k; c += d; b = (b
-- ^ c) <<< m
unfoldable pub half_round : ℕ → ℕ → ℕ → ℕ → ℕ → ℕ → ℕ × ℕ × ℕ × ℕ
half_round k m a b c d =
    let a1 = add32 a b in
    let d1 = rotate_left w32 (bit_xor d a1) k in
    let c1 = add32 c d1 in
    let b1 = rotate_left w32 (bit_xor b c1) m in
    (a1, b1, c1, d1)

-- the quarter round on four words (2.1)
abbrev pub quarter_round : ℕ → ℕ → ℕ → ℕ → ℕ × ℕ × ℕ × ℕ
quarter_round a b c d =
    let h = half_round 16 12 a b c d in
    half_round 8 7 h.0 h.1 h.2 h.3

-- the quarter round on the words of a state at four places (2.2)
abbrev pub quarter_round_at : List ℕ → ℕ → ℕ → ℕ → ℕ → ℕ × ℕ × ℕ × ℕ
quarter_round_at s a b c d = quarter_round (slice_index s a) (slice_index s b) (slice_index s c)
    (slice_index s d)

-- the four column rounds of a state, which is four rows of four words (2.3)
unfoldable pub column_round : List ℕ → List ℕ
column_round s =
    let q0 = quarter_round_at s 0 4 8 12 in
    let q1 = quarter_round_at s 1 5 9 13 in
    let q2 = quarter_round_at s 2 6 10 14 in
    let q3 = quarter_round_at s 3 7 11 15 in
    q0.0 ∷ q1.0 ∷ q2.0 ∷ q3.0
    ∷ q0.1 ∷ q1.1 ∷ q2.1 ∷ q3.1
    ∷ q0.2 ∷ q1.2 ∷ q2.2 ∷ q3.2
    ∷ q0.3 ∷ q1.3 ∷ q2.3 ∷ q3.3 ∷ []

-- the four diagonal rounds (2.3)
unfoldable pub diagonal_round : List ℕ → List ℕ
diagonal_round s =
    let q0 = quarter_round_at s 0 5 10 15 in
    let q1 = quarter_round_at s 1 6 11 12 in
    let q2 = quarter_round_at s 2 7 8 13 in
    let q3 = quarter_round_at s 3 4 9 14 in
    q0.0 ∷ q1.0 ∷ q2.0 ∷ q3.0
    ∷ q3.1 ∷ q0.1 ∷ q1.1 ∷ q2.1
    ∷ q2.2 ∷ q3.2 ∷ q0.2 ∷ q1.2
    ∷ q1.3 ∷ q2.3 ∷ q3.3 ∷ q0.3 ∷ []

-- a state after n double rounds (2.3)
unfoldable pub double_rounds : ℕ → List ℕ → List ℕ
double_rounds zero s = s
double_rounds (suc n) s = diagonal_round (column_round (double_rounds n s))

-- the state that a block starts with: the constants, the key, the block's number, below 2^32, and
-- the nonce (2.3)
abbrev pub chacha_state : List ℕ → List ℕ → ℕ → List ℕ
chacha_state key nonce counter =
    0x61707865 ∷ 0x3320646e ∷ 0x79622d32 ∷ 0x6b206574
    ∷ word_at key 0 ∷ word_at key 1 ∷ word_at key 2 ∷ word_at key 3
    ∷ word_at key 4 ∷ word_at key 5 ∷ word_at key 6 ∷ word_at key 7
    ∷ counter ∷ word_at nonce 0 ∷ word_at nonce 1 ∷ word_at nonce 2 ∷ []

-- word i of a block: the state after ten double rounds, plus the state that it started with (2.3)
unfoldable pub chacha_word : List ℕ → List ℕ → ℕ → ℕ → ℕ
chacha_word key nonce counter i =
    let s = chacha_state key nonce counter in
    add32 (slice_index (double_rounds 10 s) i) (slice_index s i)

-- the byte at a place of the stream of a key and a nonce, which starts with block 0 (2.4)
abbrev pub chacha_byte : List ℕ → List ℕ → ℕ → ℕ
chacha_byte key nonce place = byte_in (chacha_word key nonce) place
