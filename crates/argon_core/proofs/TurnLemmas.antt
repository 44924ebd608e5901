-- Words whose bytes change places are words rotated by whole bytes.
use Rattle.std.proofs.Common.{◌≡◌, ℕ, ◌<◌, ◌+◌, ◌-◌, ◌*◌, ◌/◌, ◌%◌, ◌^◌, List, [], ◌∷◌, length, slice_index, bit_or, arith, refl, ap, ap₂, sym, ◌∙◌, w8}
use Rattle.std.specs.Int.{w64, rotate_right}
use Rattle.std.specs.Int.Bits.{or_self}
use Rattle.std.specs.Simd.Lanes.{Each1, chunk, number_l, digits_l}
use Rattle.std.proofs.lemmas.Nat.{or_comm, or_shifted}
use Rattle.std.proofs.lemmas.Simd.{swz_l, SwzOk, SwzOk-from_below, Each1-from_get_or, Each1-get_or, length-swz_l, get_or-swz_l_below, get_or_narrower, get_or_wider, length-chunk, get_or-chunk}
use Rattle.argon_core.specs.Pairs.{IsTurn}
use Rattle.argon_core.proofs.PairLemmas.{below_eight}

-- a turn has places below 16 only
turn_below : (k : ℕ) (turn : List ℕ) → IsTurn k turn → (i : ℕ) → i < 16 → slice_index turn i < 16
turn_below k turn is i h =
    let place = is.places i h in
    let short = is.short in omega arith

pub turn_ok : (k : ℕ) (turn : List ℕ) → IsTurn k turn → length turn ≡ 16 → SwzOk w8 16 16 0 turn
turn_ok k turn is long =
    SwzOk-from_below w8 16 1 16 0 turn refl (omega arith)
    (Each1-from_get_or (λ j. j < 16) turn 0 (λ i h. turn_below k turn is i (omega arith)))

-- byte r of a word that is rotated right by q bytes
abbrev byte_of : ℕ → ℕ → ℕ → ℕ
byte_of q w r = w / 256 ^ ((r + q) % 8) % 256

-- the two parts of a word, exchanged
abbrev exchanged : ℕ → ℕ → ℕ
exchanged q w = w % 2 ^ (8 * q) * 2 ^ (64 - 8 * q) + w / 2 ^ (8 * q)

-- the bytes of a word that is rotated right by q bytes are the rotated word's
abbrev bytes_rotated : ℕ → ℕ → List ℕ
bytes_rotated q w =
    byte_of q w 0 ∷ byte_of q w 1 ∷ byte_of q w 2 ∷ byte_of q w 3 ∷ byte_of q w 4 ∷ byte_of q w 5 ∷ byte_of q w 6 ∷ byte_of q w 7 ∷ []

-- an or of the two parts is their sum
parts : (w q : ℕ) → 0 < q → q < 8 → w < 2 ^ 64 → w * 2 ^ (64 - 8 * q) % 2 ^ 64 ≡ w % 2 ^ (8 * q) * 2 ^ (64 - 8 * q) → w / 2 ^ (8 * q) < 2 ^ (64 - 8 * q)
    → bit_or (w / 2 ^ (8 * q)) (w * 2 ^ (64 - 8 * q) % 2 ^ 64) ≡ exchanged q w
parts w q some few h high low =
    ap (bit_or (w / 2 ^ (8 * q))) high
    ∙ or_comm (w / 2 ^ (8 * q)) (w % 2 ^ (8 * q) * 2 ^ (64 - 8 * q))
    ∙ or_shifted (w % 2 ^ (8 * q)) (64 - 8 * q) (w / 2 ^ (8 * q)) low

word_turned : (w : ℕ) → w < 2 ^ 64 → (q : ℕ) → q < 8 → number_l 256 (bytes_rotated q w) ≡ rotate_right w64 w (8 * q)
word_turned w h =
    let low0 : w / 1 ≡ w = omega arith in
    let high0 : w * 1 % 2 ^ 64 ≡ w = omega arith in
    let all0 : bit_or (w / 1) (w * 1 % 2 ^ 64) ≡ w = ap₂ bit_or low0 high0 ∙ or_self w in
    below_eight (λ q. number_l 256 (bytes_rotated q w) ≡ rotate_right w64 w (8 * q))
    (omega arith ∙ sym all0)
    (omega arith ∙ sym (parts w 1 (omega arith) (omega arith) h (omega arith) (omega arith)))
    (omega arith ∙ sym (parts w 2 (omega arith) (omega arith) h (omega arith) (omega arith)))
    (omega arith ∙ sym (parts w 3 (omega arith) (omega arith) h (omega arith) (omega arith)))
    (omega arith ∙ sym (parts w 4 (omega arith) (omega arith) h (omega arith) (omega arith)))
    (omega arith ∙ sym (parts w 5 (omega arith) (omega arith) h (omega arith) (omega arith)))
    (omega arith ∙ sym (parts w 6 (omega arith) (omega arith) h (omega arith) (omega arith)))
    (omega arith ∙ sym (parts w 7 (omega arith) (omega arith) h (omega arith) (omega arith)))

-- eight bytes are those at their places
abbrev IsItself : List ℕ → Type 0
IsItself xs = xs ≡ slice_index xs 0 ∷ slice_index xs 1 ∷ slice_index xs 2 ∷ slice_index xs 3 ∷ slice_index xs 4 ∷ slice_index xs 5 ∷ slice_index xs 6 ∷ slice_index xs 7 ∷ []

eight_same : (xs : List ℕ) → length xs ≡ 8 → IsItself xs
eight_same (a ∷ b ∷ c ∷ d ∷ e ∷ f ∷ g ∷ h ∷ []) l = refl
eight_same [] l = absurd (omega arith)
eight_same (a ∷ []) l = absurd (omega arith)
eight_same (a ∷ b ∷ []) l = absurd (omega arith)
eight_same (a ∷ b ∷ c ∷ []) l = absurd (omega arith)
eight_same (a ∷ b ∷ c ∷ d ∷ []) l = absurd (omega arith)
eight_same (a ∷ b ∷ c ∷ d ∷ e ∷ []) l = absurd (omega arith)
eight_same (a ∷ b ∷ c ∷ d ∷ e ∷ f ∷ []) l = absurd (omega arith)
eight_same (a ∷ b ∷ c ∷ d ∷ e ∷ f ∷ g ∷ []) l = absurd (omega arith)
eight_same (a ∷ b ∷ c ∷ d ∷ e ∷ f ∷ g ∷ h ∷ i ∷ xs) l = absurd (omega arith)

-- the bytes of two words, each taken from its place
abbrev pub bytes_turned : List ℕ → List ℕ → List ℕ
bytes_turned turn x = swz_l w8 16 (digits_l 256 16 (number_l (2 ^ 64) x)) 0 turn

byte_turned : (k : ℕ) (turn x : List ℕ) → IsTurn k turn → length turn ≡ 16 → Each1 (λ w. w < 2 ^ 64) x
    → (j r : ℕ) → j < 2 → r < 8 → slice_index (bytes_turned turn x) (8 * j + r) ≡ byte_of (k / 8) (slice_index x j) r
byte_turned k turn x is long fit j r lane byte =
    let short = is.short in
    let place = is.places (8 * j + r) (omega arith) in
    let from = (r + k / 8) % 8 in
    let bytes = digits_l 256 16 (number_l (2 ^ 64) x) in
    let same : 16 * ((0 + (8 * j + r)) / 16) + slice_index turn (8 * j + r) ≡ 8 * j + from = omega arith in
    get_or-swz_l_below w8 16 bytes 0 turn (8 * j + r) (omega arith) (turn_below k turn is (8 * j + r) (omega arith))
    ∙ ap (slice_index bytes) same
    ∙ get_or_narrower (2 ^ 64) 8 256 16 x j from refl fit (omega arith) (omega arith)

-- words whose bytes change places are rotated
pub words_turned : (k : ℕ) (turn x : List ℕ) → IsTurn k turn → length turn ≡ 16 → length x ≡ 2 → Each1 (λ w. w < 2 ^ 64) x
    → (j : ℕ) → j < 2 → slice_index (digits_l (2 ^ 64) 2 (number_l 256 (bytes_turned turn x))) j ≡ rotate_right w64 (slice_index x j) k
words_turned k turn x is long two fit j lane =
    let whole = is.whole in
    let short = is.short in
    let ys = bytes_turned turn x in
    let many : length ys ≡ 16 = length-swz_l w8 16 (digits_l 256 16 (number_l (2 ^ 64) x)) 0 turn ∙ long in
    let here : (r : ℕ) → r < 8 → slice_index ys (8 * j + r) ≡ byte_of (k / 8) (slice_index x j) r =
    (λ r byte. byte_turned k turn x is long fit j r lane byte) in
    let bytes : Each1 (λ b. b < 256) ys = Each1-from_get_or (λ b. b < 256) ys 0 (λ i h.
    (let at : i ≡ 8 * (i / 8) + i % 8 = omega arith in
    let is_byte = byte_turned k turn x is long fit (i / 8) (i % 8) (omega arith) (omega arith) in
    let b : slice_index ys i ≡ byte_of (k / 8) (slice_index x (i / 8)) (i % 8) = ap (slice_index ys) at ∙ is_byte in
    omega arith)) in
    let part = chunk (8 * j) 8 ys in
    let at : (r : ℕ) → r < 8 → slice_index part r ≡ byte_of (k / 8) (slice_index x j) r =
    (λ r byte. get_or-chunk (8 * j) 8 ys r 0 byte ∙ here r byte) in
    let b0 = at 0 (omega arith) in
    let b1 = at 1 (omega arith) in
    let b2 = at 2 (omega arith) in
    let b3 = at 3 (omega arith) in
    let b4 = at 4 (omega arith) in
    let b5 = at 5 (omega arith) in
    let b6 = at 6 (omega arith) in
    let b7 = at 7 (omega arith) in
    let word : slice_index x j < 2 ^ 64 = Each1-get_or (λ w. w < 2 ^ 64) x j 0 (omega arith) fit in
    let bits : 8 * (k / 8) ≡ k = omega arith in
    get_or_wider 256 8 (2 ^ 64) 2 ys j refl bytes lane
    ∙ ap (number_l 256) (eight_same part (length-chunk (8 * j) 8 ys (omega arith)))
    ∙ (λ i. number_l 256 (b0 i ∷ b1 i ∷ b2 i ∷ b3 i ∷ b4 i ∷ b5 i ∷ b6 i ∷ b7 i ∷ []))
    ∙ word_turned (slice_index x j) word (k / 8) (omega arith)
    ∙ ap (rotate_right w64 (slice_index x j)) bits
