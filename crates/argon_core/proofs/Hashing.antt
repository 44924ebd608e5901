-- What a BLAKE2b hasher holds as it is fed.
use Rattle.std.proofs.Common.{◌≡◌, ℕ, zero, suc, ◌+◌, ◌-◌, ◌*◌, ◌/◌, ◌<◌, ◌≤◌, true, false, List, [], ◌++◌, length, take, drop, replicate, refl, sym, ap, ◌∙◌, arith, length-append, length-drop}
use Rattle.std.proofs.lemmas.List.{take-append-le, drop-append-le, take_all, drop_all, append_assoc, append-nil, length-take-le, take-replicate}
use Rattle.std.proofs.lemmas.List.{take-take, take-append-drop, drop-take}
use Rattle.std.proofs.Math.Seq.{take-append-add}
use borrow.Rule.Slice.PartMut.{put_mid, mid_of, post_of}
use Rattle.argon_core.specs.Words.{words, bytes_of}
use Rattle.argon_core.specs.Blake2b.{block_at, blocks_before_last, blake2b, compress, final_state, state_after}
use Rattle.argon_core.specs.Hasher.{HasAbsorbed, HasAbsorbedFrom}
use Rattle.argon_core.specs.declared.blake.Hasher.{Hasher}

-- a whole block reads nothing after it
block_at-append : (m d : List ℕ) (n : ℕ) → 128 * n + 128 ≤ length m → block_at (m ++ d) n ≡ block_at m n
unfolding block_at
block_at-append m d n h =
    let long : 128 ≤ length (drop (128 * n) m) = omega (arith, length-drop (128 * n) m) in
    ap (λ (x : List ℕ). take 128 (x ++ replicate 128 0)) (drop-append-le (128 * n) m d (omega arith))
    ∙ ap (λ (x : List ℕ). take 128 x) (append_assoc (drop (128 * n) m) d (replicate 128 0))
    ∙ take-append-le 128 (drop (128 * n) m) (d ++ replicate 128 0) long
    ∙ sym (take-append-le 128 (drop (128 * n) m) (replicate 128 0) long)

-- the state after whole blocks reads nothing after them
state_after-append : (size : ℕ) (m d : List ℕ) (n : ℕ) → 128 * n ≤ length m → state_after size (m ++ d) n ≡ state_after size m n
unfolding state_after
state_after-append size m d zero h = refl
state_after-append size m d (suc n) h =
    rw (state_after-append size m d n (omega arith), block_at-append m d n (omega arith)) refl

state_after_next : (size : ℕ) (m : List ℕ) (n : ℕ) → state_after size m (n + 1) ≡ compress (state_after size m n) (words 16 (block_at m n)) (128 * (n + 1)) false
unfolding state_after
state_after_next size m n =
    let next : n + 1 ≡ suc n = omega arith in
    ap (λ (k : ℕ). state_after size m k) next

-- the block that begins with the rest of a message
block_at_rest : (m b : List ℕ) (n : ℕ) → drop (128 * n) m ≡ b → length b ≤ 128 → block_at m n ≡ b ++ replicate (128 - length b) 0
unfolding block_at
block_at_rest m b n rest short =
    let whole : 128 ≡ length b + (128 - length b) = omega arith in
    ap (λ (x : List ℕ). take 128 (x ++ replicate 128 0)) rest
    ∙ ap (λ (k : ℕ). take k (b ++ replicate 128 0)) whole
    ∙ take-append-add b (replicate 128 0) (128 - length b)
    ∙ ap (λ (x : List ℕ). b ++ x) (take-replicate (128 - length b) 128 0 (omega arith))

-- the buffer as the block that it begins
buffer_block : (size : ℕ) (h : Hasher) (m : List ℕ) (n : ℕ) → HasAbsorbedFrom size h m n → length h.buffer ≡ 128 → h.filled ≤ 128
    → block_at m n ≡ take h.filled h.buffer ++ replicate (128 - h.filled) 0
buffer_block size h m n held len short =
    let filled : length (take h.filled h.buffer) ≡ h.filled = length-take-le h.filled h.buffer (omega arith) in
    let rest : drop (128 * n) m ≡ take h.filled h.buffer = ap (λ (k : ℕ). drop k m) (sym held.counted) ∙ sym held.last in
    block_at_rest m (take h.filled h.buffer) n rest (omega arith)
    ∙ ap (λ (k : ℕ). take h.filled h.buffer ++ replicate (128 - k) 0) filled

-- a full buffer, taken into the state
pub full_buffer : (size : ℕ) (h n : Hasher) (m : List ℕ) → HasAbsorbed size h m → length h.buffer ≡ 128 → h.filled ≡ 128
    → n.absorbed ≡ h.absorbed + 128 → n.filled ≡ 0 → n.state ≡ compress h.state (words 16 h.buffer) n.absorbed false
    → HasAbsorbedFrom size n m (n.absorbed / 128)
full_buffer size h n m held len full absorbed filled state =
    let k : ℕ = blocks_before_last m in
    let counted : h.absorbed ≡ 128 * k = held.counted in
    let whole : h.absorbed + h.filled ≡ length m = held.whole in
    let count : n.absorbed / 128 ≡ k + 1 = omega arith in
    let to : n.absorbed ≡ 128 * (k + 1) = omega arith in
    let none : 128 - h.filled ≡ 0 = omega arith in
    let block : block_at m k ≡ h.buffer =
    buffer_block size h m k held len (omega arith)
    ∙ ap (λ (z : ℕ). take h.filled h.buffer ++ replicate z 0) none
    ∙ append-nil (take h.filled h.buffer) ∙ take_all h.filled h.buffer (omega arith) in
    let next : n.state ≡ state_after size m (k + 1) =
    state ∙ rw (held.state, to, ← block) (sym (state_after_next size m k)) in
    record {
      counted = omega arith;
      whole = omega arith;
      state = rw count next;
      last = rw filled (sym (drop_all n.absorbed m (omega arith)));
    }

-- the bytes of one more piece, for which the buffer has room
pub more_bytes : (size : ℕ) (h n : Hasher) (m d : List ℕ) → HasAbsorbedFrom size h m (h.absorbed / 128) → 0 < length d → h.filled + length d ≤ 128
    → n.absorbed ≡ h.absorbed → n.filled ≡ h.filled + length d → n.state ≡ h.state
    → take n.filled n.buffer ≡ take h.filled h.buffer ++ d → HasAbsorbed size n (m ++ d)
more_bytes size h n m d held some fits absorbed filled state buffer =
    let k : ℕ = h.absorbed / 128 in
    let counted : h.absorbed ≡ 128 * k = held.counted in
    let whole : h.absorbed + h.filled ≡ length m = held.whole in
    let len : length (m ++ d) ≡ length m + length d = length-append m d in
    let blocks : blocks_before_last (m ++ d) ≡ k = omega arith in
    record {
      counted = omega arith;
      whole = omega arith;
      state = rw blocks (state ∙ held.state ∙ sym (state_after-append size m d k (omega arith)));
      last = buffer ∙ ap (λ (x : List ℕ). x ++ d) held.last
          ∙ sym (rw absorbed (drop-append-le h.absorbed m d (omega arith)));
    }

-- the state after the last block, which the zeros after the message's bytes fill up
pub last_state : (size : ℕ) (h : Hasher) (m buffer state : List ℕ) → HasAbsorbed size h m → length h.buffer ≡ 128 → h.filled ≤ 128
    → buffer ≡ take h.filled h.buffer ++ replicate (128 - h.filled) 0
    → state ≡ compress h.state (words 16 buffer) (h.absorbed + h.filled) true → state ≡ final_state size m
last_state size h m buffer state held len short same e =
    let k : ℕ = blocks_before_last m in
    let block : block_at m k ≡ buffer = buffer_block size h m k held len short ∙ sym same in
    e ∙ rw (held.state, held.whole, ← block) refl

-- the digest of a message from its last state
pub digest_is : (size : ℕ) (m state out : List ℕ) → state ≡ final_state size m → out ≡ take size (bytes_of state) → out ≡ blake2b size m
unfolding blake2b
digest_is size m state out e d = d ∙ ap (λ (s : List ℕ). take size (bytes_of s)) e

-- a buffer whose rest is overwritten with zeros
pub zero_filled : (n k : ℕ) (b ys : List ℕ) → length b ≡ 128 → n ≤ 128 → k ≡ 128 - n → ys ≡ replicate (length (mid_of n k b)) 0
    → put_mid n k b ys ≡ take n b ++ replicate (128 - n) 0
zero_filled n k b ys len short rest same =
    let left : length (drop n b) ≡ 128 - n = omega (arith, length-drop n b) in
    let after : post_of n k b ≡ [] = drop_all k (drop n b) (omega arith) in
    let count : length (mid_of n k b) ≡ 128 - n = length-take-le k (drop n b) (omega arith) ∙ rest in
    rw (after, append-nil, same, count) refl

-- the first bytes of a piece, and then more of them
pub take_further : (piece : List ℕ) (done more n : ℕ) → n ≡ length piece - done → more ≤ n
    → take done piece ++ take more (take n (drop done piece)) ≡ take (done + more) piece
take_further piece done more n e fits =
    let whole : take done (take (done + more) piece) ++ drop done (take (done + more) piece) ≡ take (done + more) piece =
    take-append-drop done (take (done + more) piece) in
    rw (take-take more n (drop done piece) fits) (rw (take-take done (done + more) piece (omega arith), drop-take done more piece) at whole)
