-- BLAKE2b without a key (RFC 7693) on lists of bytes. The numbers in brackets are the sections of
-- the RFC.
use Rattle.std.specs.Prelude.{ℕ, zero, suc, ◌+◌, ◌-◌, ◌*◌, ◌/◌, ◌%◌, ◌^◌, Bool, true, false, List, [], ◌∷◌, ◌++◌, length, take, drop, replicate, map, bit_xor, slice_index, slice_index_or, if◌then◌else◌}
use Rattle.argon_core.specs.Words.{add64, xor_rotate, words, bytes_of}

-- the initialization vector (2.6)
abbrev pub initialization_vector : List ℕ
initialization_vector =
    0x6a09e667f3bcc908 ∷ 0xbb67ae8584caa73b ∷ 0x3c6ef372fe94f82b ∷ 0xa54ff53a5f1d36f1
    ∷ 0x510e527fade682d1 ∷ 0x9b05688c2b3e6c1f ∷ 0x1f83d9abfb41bd6b ∷ 0x5be0cd19137e2179 ∷ []

-- the message schedule: the order of the message words in each of ten rounds (2.7)
abbrev pub message_schedule : List (List ℕ)
message_schedule =
    (0 ∷ 1 ∷ 2 ∷ 3 ∷ 4 ∷ 5 ∷ 6 ∷ 7 ∷ 8 ∷ 9 ∷ 10 ∷ 11 ∷ 12 ∷ 13 ∷ 14 ∷ 15 ∷ [])
    ∷ (14 ∷ 10 ∷ 4 ∷ 8 ∷ 9 ∷ 15 ∷ 13 ∷ 6 ∷ 1 ∷ 12 ∷ 0 ∷ 2 ∷ 11 ∷ 7 ∷ 5 ∷ 3 ∷ [])
    ∷ (11 ∷ 8 ∷ 12 ∷ 0 ∷ 5 ∷ 2 ∷ 15 ∷ 13 ∷ 10 ∷ 14 ∷ 3 ∷ 6 ∷ 7 ∷ 1 ∷ 9 ∷ 4 ∷ [])
    ∷ (7 ∷ 9 ∷ 3 ∷ 1 ∷ 13 ∷ 12 ∷ 11 ∷ 14 ∷ 2 ∷ 6 ∷ 5 ∷ 10 ∷ 4 ∷ 0 ∷ 15 ∷ 8 ∷ [])
    ∷ (9 ∷ 0 ∷ 5 ∷ 7 ∷ 2 ∷ 4 ∷ 10 ∷ 15 ∷ 14 ∷ 1 ∷ 11 ∷ 12 ∷ 6 ∷ 8 ∷ 3 ∷ 13 ∷ [])
    ∷ (2 ∷ 12 ∷ 6 ∷ 10 ∷ 0 ∷ 11 ∷ 8 ∷ 3 ∷ 4 ∷ 13 ∷ 7 ∷ 5 ∷ 15 ∷ 14 ∷ 1 ∷ 9 ∷ [])
    ∷ (12 ∷ 5 ∷ 1 ∷ 15 ∷ 14 ∷ 13 ∷ 4 ∷ 10 ∷ 0 ∷ 7 ∷ 6 ∷ 3 ∷ 9 ∷ 2 ∷ 8 ∷ 11 ∷ [])
    ∷ (13 ∷ 11 ∷ 7 ∷ 14 ∷ 12 ∷ 1 ∷ 3 ∷ 9 ∷ 5 ∷ 0 ∷ 15 ∷ 4 ∷ 8 ∷ 6 ∷ 2 ∷ 10 ∷ [])
    ∷ (6 ∷ 15 ∷ 14 ∷ 9 ∷ 11 ∷ 3 ∷ 0 ∷ 8 ∷ 12 ∷ 2 ∷ 13 ∷ 7 ∷ 1 ∷ 4 ∷ 10 ∷ 5 ∷ [])
    ∷ (10 ∷ 2 ∷ 8 ∷ 4 ∷ 7 ∷ 6 ∷ 1 ∷ 5 ∷ 15 ∷ 11 ∷ 9 ∷ 14 ∷ 3 ∷ 12 ∷ 13 ∷ 0 ∷ []) ∷ []

-- the mixing function G on four words of the local vector, with two of the message (3.1)
unfoldable pub mix : ℕ → ℕ → ℕ → ℕ → ℕ → ℕ → ℕ × ℕ × ℕ × ℕ
mix a b c d x y =
    let a1 = add64 (add64 a b) x in
    let d1 = xor_rotate d a1 32 in
    let c1 = add64 c d1 in
    let b1 = xor_rotate b c1 24 in
    let a2 = add64 (add64 a1 b1) y in
    let d2 = xor_rotate d1 a2 16 in
    let c2 = add64 c1 d2 in
    let b2 = xor_rotate b1 c2 63 in
    (a2, b2, c2, d2)

-- G at four places of the local vector v, with two words of the ordered message s
abbrev pub mix_at : List ℕ → List ℕ → ℕ → ℕ → ℕ → ℕ → ℕ → ℕ × ℕ × ℕ × ℕ
mix_at s v a b c d i =
    mix (slice_index v a) (slice_index v b) (slice_index v c) (slice_index v d)
    (slice_index s (2 * i)) (slice_index s (2 * i + 1))

-- the columns of the local vector mixed, with the first eight words of the ordered message (3.2)
unfoldable pub column_step : List ℕ → List ℕ → List ℕ
column_step s v =
    let q0 = mix_at s v 0 4 8 12 0 in
    let q1 = mix_at s v 1 5 9 13 1 in
    let q2 = mix_at s v 2 6 10 14 2 in
    let q3 = mix_at s v 3 7 11 15 3 in
    q0.0 ∷ q1.0 ∷ q2.0 ∷ q3.0
    ∷ q0.1 ∷ q1.1 ∷ q2.1 ∷ q3.1
    ∷ q0.2 ∷ q1.2 ∷ q2.2 ∷ q3.2
    ∷ q0.3 ∷ q1.3 ∷ q2.3 ∷ q3.3 ∷ []

-- its diagonals mixed, with the other eight (3.2)
unfoldable pub diagonal_step : List ℕ → List ℕ → List ℕ
diagonal_step s v =
    let q0 = mix_at s v 0 5 10 15 4 in
    let q1 = mix_at s v 1 6 11 12 5 in
    let q2 = mix_at s v 2 7 8 13 6 in
    let q3 = mix_at s v 3 4 9 14 7 in
    q0.0 ∷ q1.0 ∷ q2.0 ∷ q3.0
    ∷ q3.1 ∷ q0.1 ∷ q1.1 ∷ q2.1
    ∷ q2.2 ∷ q3.2 ∷ q0.2 ∷ q1.2
    ∷ q1.3 ∷ q2.3 ∷ q3.3 ∷ q0.3 ∷ []

-- the message words m in the order of round r (2.7)
abbrev pub ordered : List ℕ → ℕ → List ℕ
ordered m r = map (λ i. slice_index m i) (slice_index_or message_schedule (r % 10) [])

-- the local vector v after n rounds with the message words m (3.2)
unfoldable pub rounds : List ℕ → ℕ → List ℕ → List ℕ
rounds m zero v = v
rounds m (suc n) v = diagonal_step (ordered m n) (column_step (ordered m n) (rounds m n v))

-- the local vector before the first round: the state h, and the initialization vector with the
-- count of bytes t and the flag of the last block in it (3.2)
abbrev pub local_vector : List ℕ → ℕ → Bool → List ℕ
local_vector h t is_last =
    slice_index h 0 ∷ slice_index h 1 ∷ slice_index h 2 ∷ slice_index h 3
    ∷ slice_index h 4 ∷ slice_index h 5 ∷ slice_index h 6 ∷ slice_index h 7
    ∷ 0x6a09e667f3bcc908 ∷ 0xbb67ae8584caa73b ∷ 0x3c6ef372fe94f82b ∷ 0xa54ff53a5f1d36f1
    ∷ bit_xor 0x510e527fade682d1 (t % 2 ^ 64) ∷ bit_xor 0x9b05688c2b3e6c1f (t / 2 ^ 64)
    ∷ (if is_last then bit_xor 0x1f83d9abfb41bd6b 0xffffffffffffffff else 0x1f83d9abfb41bd6b)
    ∷ 0x5be0cd19137e2179 ∷ []

-- word i of the state h with both halves of the local vector v in it (3.2)
abbrev pub folded_word : List ℕ → List ℕ → ℕ → ℕ
folded_word h v i = bit_xor (bit_xor (slice_index h i) (slice_index v i)) (slice_index v (i + 8))

-- the compression function F: the state h after the message words m (3.2)
unfoldable pub compress : List ℕ → List ℕ → ℕ → Bool → List ℕ
compress h m t is_last =
    let v = rounds m 12 (local_vector h t is_last) in
    folded_word h v 0 ∷ folded_word h v 1 ∷ folded_word h v 2 ∷ folded_word h v 3
    ∷ folded_word h v 4 ∷ folded_word h v 5 ∷ folded_word h v 6 ∷ folded_word h v 7 ∷ []

-- the state before the first block, for a digest of this many bytes and no key (3.3)
abbrev pub initial_state : ℕ → List ℕ
initial_state size =
    bit_xor (bit_xor 0x6a09e667f3bcc908 0x01010000) size ∷ 0xbb67ae8584caa73b ∷ 0x3c6ef372fe94f82b ∷
    0xa54ff53a5f1d36f1
    ∷ 0x510e527fade682d1 ∷ 0x9b05688c2b3e6c1f ∷ 0x1f83d9abfb41bd6b ∷ 0x5be0cd19137e2179 ∷ []

-- block n of a message, filled up with zeros where the message ends in it
unfoldable pub block_at : List ℕ → ℕ → List ℕ
block_at message n = take 128 (drop (128 * n) message ++ replicate 128 0)

-- the state after the first n blocks of a message, of which none is its last (3.3)
unfoldable pub state_after : ℕ → List ℕ → ℕ → List ℕ
state_after size message zero = initial_state size
state_after size message (suc n) =
    compress (state_after size message n) (words 16 (block_at message n)) (128 * (n + 1)) false

-- how many blocks of a message come before its last; an empty one has one block
abbrev pub blocks_before_last : List ℕ → ℕ
blocks_before_last message = (length message - 1) / 128

-- the state after the last block (3.3)
abbrev pub final_state : ℕ → List ℕ → List ℕ
final_state size message =
    let n = blocks_before_last message in
    compress (state_after size message n) (words 16 (block_at message n)) (length message) true

-- the digest of a message, of 1 to 64 bytes (3.3)
unfoldable pub blake2b : ℕ → List ℕ → List ℕ
blake2b size message = take size (bytes_of (final_state size message))
