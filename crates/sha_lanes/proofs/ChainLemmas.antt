-- A hash value after blocks that follow others, and after the padding.
use Rattle.std.proofs.Common.{◌≡◌, ℕ, zero, suc, ◌+◌, ◌-◌, ◌*◌, ◌/◌, ◌%◌, ◌^◌, ◌<◌, ◌≤◌, List, [], ◌∷◌, ◌++◌, length, take, drop, replicate, refl, sym, ap, ◌∙◌, arith, length-append, length-drop}
use Rattle.std.proofs.lemmas.List.{append_assoc, take-append-drop, length-take-le}
use Rattle.std.specs.Int.{w64, to_be_bytes}
use Rattle.sha2.specs.Sha256.{final_hash, hash_after, padded_message, padding}
use Rattle.sha2.proofs.Absorbing256.{hash_after-append, padding-take}
use Rattle.sha_lanes.specs.Hashing.{last_blocks, padding_after}

-- what follows a list, from a place on
drop-past : (m x : List ℕ) (k : ℕ) → drop (length m + k) (m ++ x) ≡ drop k x
drop-past [] x k =
    let same : 0 + k ≡ k = omega arith in
    ap (λ n. drop n x) same
drop-past (y ∷ m) x k =
    let more : length (y ∷ m) + k ≡ suc (length m + k) = omega arith in
    ap (λ n. drop n ((y ∷ m) ++ x)) more ∙ drop-past m x k

-- blocks after whole blocks
pub hash_after-chain : (ini m x : List ℕ) (n : ℕ) → length m % 64 ≡ 0
    → hash_after ini (m ++ x) (length m / 64 + n) ≡ hash_after (hash_after ini m (length m / 64)) x n
unfolding hash_after
hash_after-chain ini m x zero whole =
    let none : length m / 64 + 0 ≡ length m / 64 = omega arith in
    ap (hash_after ini (m ++ x)) none ∙ hash_after-append ini m x (length m / 64) (omega arith)
hash_after-chain ini m x (suc n) whole =
    let q = length m / 64 in
    let next : q + suc n ≡ suc (q + n) = omega arith in
    let place : (q + n) * 64 ≡ length m + n * 64 = omega arith in
    let block : drop ((q + n) * 64) (m ++ x) ≡ drop (n * 64) x = ap (λ k. drop k (m ++ x)) place ∙ drop-past m x (n * 64) in
    ap (hash_after ini (m ++ x)) next ∙ rw (hash_after-chain ini m x n whole, block) refl

-- the last blocks, as the two steps of a hash make them
pub message-last : (m x : List ℕ) (bits : ℕ) → length m % 64 ≡ 0 → bits ≡ length (m ++ x) * 8 % 2 ^ 64
    → padded_message (m ++ x) ≡ (m ++ take (length x / 64 * 64) x) ++ last_blocks (drop (length x / 64 * 64) x) bits
message-last m x bits whole count =
    let w = take (length x / 64 * 64) x in
    let t = drop (length x / 64 * 64) x in
    let used : length (m ++ x) % 64 ≡ length t % 64 = omega (arith, length-append m x, length-drop (length x / 64 * 64) x) in
    let same : padding (length (m ++ x)) ≡ padding_after (length t) bits = rw (used, count) refl in
    let text : (m ++ w) ++ t ≡ m ++ x = append_assoc m w t ∙ ap (λ y. m ++ y) (take-append-drop (length x / 64 * 64) x) in
    ap (λ p. (m ++ x) ++ p) same ∙ ap (λ y. y ++ padding_after (length t) bits) (sym text)
    ∙ append_assoc (m ++ w) t (padding_after (length t) bits)

-- the hash value of a message after its whole blocks, the whole blocks of what follows, and the last blocks
pub final_hash-steps : (ini m x h g : List ℕ) (bits : ℕ) → length m % 64 ≡ 0 → bits ≡ length (m ++ x) * 8 % 2 ^ 64
    → h ≡ hash_after (hash_after ini m (length m / 64)) x (length x / 64)
    → g ≡ hash_after h (last_blocks (drop (length x / 64 * 64) x) bits) (length (last_blocks (drop (length x / 64 * 64) x) bits) / 64)
    → g ≡ final_hash ini (m ++ x)
final_hash-steps ini m x h g bits whole count first second =
    let q = length x / 64 in
    let w = take (q * 64) x in
    let l = last_blocks (drop (q * 64) x) bits in
    let long_w : length w ≡ q * 64 = length-take-le (q * 64) x (omega arith) in
    let long_mw : length (m ++ w) ≡ length m + q * 64 = omega (arith, length-append m w) in
    let whole_mw : length (m ++ w) % 64 ≡ 0 = omega arith in
    let blocks_mw : length (m ++ w) / 64 ≡ length m / 64 + q = omega arith in
    let blocks : length ((m ++ w) ++ l) / 64 ≡ length (m ++ w) / 64 + length l / 64 = omega (arith, length-append (m ++ w) l) in
    let taken : hash_after (hash_after ini m (length m / 64)) x q ≡ hash_after (hash_after ini m (length m / 64)) w q =
    ap (λ y. hash_after (hash_after ini m (length m / 64)) y q) (sym (take-append-drop (q * 64) x))
    ∙ hash_after-append (hash_after ini m (length m / 64)) w (drop (q * 64) x) q (omega arith) in
    let before : hash_after ini (m ++ w) (length (m ++ w) / 64) ≡ h =
    ap (hash_after ini (m ++ w)) blocks_mw ∙ hash_after-chain ini m w q whole ∙ sym (first ∙ taken) in
    let all : hash_after ini ((m ++ w) ++ l) (length ((m ++ w) ++ l) / 64) ≡ hash_after h l (length l / 64) =
    ap (hash_after ini ((m ++ w) ++ l)) blocks ∙ hash_after-chain ini (m ++ w) l (length l / 64) whole_mw
    ∙ ap (λ s. hash_after s l (length l / 64)) before in
    second ∙ sym (ap (λ p. hash_after ini p (length p / 64)) (message-last m x bits whole count) ∙ all)

-- three parts written one after another are a list's bytes, the padding's first bytes and its length field
pub last-written : (tail one two three bytes first : List ℕ) (at : ℕ) → length tail < at → at ≤ length tail + 64 → length bytes ≡ 8
    → first ≡ take (at - length tail) (0x80 ∷ replicate 63 0)
    → take (0 + length tail) one ≡ tail
    → take (length tail + length first) two ≡ take (length tail) one ++ first
    → take (at + length bytes) three ≡ take at two ++ bytes
    → take (at + 8) three ≡ (tail ++ 0x80 ∷ replicate (at - length tail - 1) 0) ++ bytes
last-written tail one two three bytes first at low short eight is e1 e2 e3 =
    let z = at - length tail - 1 in
    let more : at - length tail ≡ z + 1 = omega arith in
    let zeros : first ≡ 0x80 ∷ replicate z 0 = is ∙ ap (λ n. take n (0x80 ∷ replicate 63 0)) more ∙ padding-take 0x80 0 z (omega arith) in
    let none : length tail ≡ 0 + length tail = omega arith in
    let start : take (length tail) one ≡ tail = ap (λ n. take n one) none ∙ e1 in
    let count : length first ≡ at - length tail = ap length is ∙ length-take-le (at - length tail) (0x80 ∷ replicate 63 0) (omega arith) in
    let place : at ≡ length tail + length first = omega arith in
    let middle : take at two ≡ tail ++ 0x80 ∷ replicate z 0 = ap (λ n. take n two) place ∙ e2 ∙ (λ i. start i ++ zeros i) in
    let end : at + 8 ≡ at + length bytes = omega arith in
    ap (λ n. take n three) end ∙ e3 ∙ ap (λ y. y ++ bytes) middle

-- those are the last blocks
pub last-blocks : (x out : List ℕ) (bits at : ℕ) → length x < 64 → at ≡ length x + (119 - length x) % 64 + 1
    → take (at + 8) out ≡ (x ++ 0x80 ∷ replicate (at - length x - 1) 0) ++ to_be_bytes w64 bits
    → take (at + 8) out ≡ last_blocks x bits
last-blocks x out bits at short place is =
    let zeros : at - length x - 1 ≡ (119 - length x % 64) % 64 = omega arith in
    is ∙ append_assoc x (0x80 ∷ replicate (at - length x - 1) 0) (to_be_bytes w64 bits)
    ∙ ap (λ n. x ++ (0x80 ∷ replicate n 0 ++ to_be_bytes w64 bits)) zeros

-- the last blocks of as many bytes are as long
pub length-last : (x y : List ℕ) (bits : ℕ) → length x ≡ length y → length (last_blocks x bits) ≡ length (last_blocks y bits)
length-last x y bits same =
    length-append x (padding_after (length x) bits) ∙ (λ i. same i + length (padding_after (same i) bits))
    ∙ sym (length-append y (padding_after (length y) bits))

-- the hash value after the last blocks, where their bytes are given by an equation
pub last-of : (h g t u : List ℕ) (bits : ℕ) → g ≡ hash_after h (last_blocks t bits) (length (last_blocks t bits) / 64) → t ≡ u
    → g ≡ hash_after h (last_blocks u bits) (length (last_blocks u bits) / 64)
last-of h g t u bits is same = is ∙ ap (λ x. hash_after h (last_blocks x bits) (length (last_blocks x bits) / 64)) same
