-- A block's MAC from the parts that are hashed side by side with those of other blocks.
use Rattle.std.proofs.Common.{◌≡◌, ℕ, ◌+◌, ◌-◌, ◌%◌, ◌^◌, ◌≤◌, List, ◌++◌, length, take, drop, map, replicate, bit_xor, nat_lt, sym, ap, ◌∙◌, arith, length-append}
use Rattle.std.specs.Prelude.{if◌then◌else◌}
use Rattle.std.proofs.lemmas.List.{append-nil, append_assoc, length-map, length-take-le, take-append-drop}
use Rattle.std.specs.Int.{w32, w64, to_le_bytes}
use Rattle.sha2.specs.Sha256.{sha256}
use Rattle.sha2.proofs.Facts512.{length-sha512}
use Rattle.mac_core.specs.Blocks.{block_key, length_prefixed, mac_of}
use Rattle.mac_core.specs.FourMacs.{first_bytes}
use Rattle.mac_core.specs.Hmac.{hmac, inner_pad, key_block, outer_pad, short_key}

-- a block's key has 64 bytes
key_long : (base : List ℕ) (i : ℕ) → length (block_key base i) ≡ 64
unfolding block_key
key_long base i = length-sha512 (to_le_bytes w64 i ++ base)

-- a key of 64 bytes is a whole block
whole_key : (key : List ℕ) → length key ≡ 64 → key_block key ≡ key
unfolding key_block
whole_key key long =
    let short : short_key key ≡ key = ap (λ (n : ℕ). if nat_lt 64 n then sha256 key else key) long in
    ap (λ (s : List ℕ). s ++ replicate (64 - length s) 0) short ∙ ap (λ (n : ℕ). key ++ replicate (64 - n) 0) long ∙ append-nil key

-- a block's key, each byte XORed
abbrev pub xored_key : List ℕ → ℕ → ℕ → List ℕ
xored_key base i byte = map (λ b. bit_xor b byte) (block_key base i)

key_is_pad : (base : List ℕ) (i byte : ℕ) → map (λ b. bit_xor b byte) (key_block (block_key base i)) ≡ xored_key base i byte
key_is_pad base i byte = ap (map (λ b. bit_xor b byte)) (whole_key (block_key base i) (key_long base i))

-- how many bytes were hashed before the rest of the content
pub count_outer : (base : List ℕ) (i byte : ℕ) → 64 ≡ length (xored_key base i byte) % 2 ^ 64
count_outer base i byte =
    let long = key_long base i in
    omega (arith, length-map (block_key base i) (λ b. bit_xor b byte), long)

pub count_inner : (base x : List ℕ) (i byte : ℕ) → 52 ≤ length x → 128 ≡ length (xored_key base i byte ++ first_bytes i x) % 2 ^ 64
count_inner base x i byte long =
    let key = key_long base i in
    let first : length (take 52 x) ≡ 52 = length-take-le 52 x long in
    let more : length (first_bytes i x) ≡ 12 + length (take 52 x) = omega arith in
    omega (arith, length-append (xored_key base i byte) (first_bytes i x), length-map (block_key base i) (λ b. bit_xor b byte), key)

-- the two hashes are the MAC
pub mac-parts : (base x found result : List ℕ) (i : ℕ)
    → found ≡ sha256 ((xored_key base i 0x36 ++ first_bytes i x) ++ drop 52 x)
    → result ≡ sha256 (xored_key base i 0x5c ++ found)
    → result ≡ mac_of base i x
unfolding mac_of hmac inner_pad outer_pad
mac-parts base x found result i inner outer =
    let message = to_le_bytes w64 i ++ length_prefixed x in
    let parts : (xored_key base i 0x36 ++ first_bytes i x) ++ drop 52 x ≡ xored_key base i 0x36 ++ message =
    append_assoc (xored_key base i 0x36) (first_bytes i x) (drop 52 x)
    ∙ ap (λ (y : List ℕ). xored_key base i 0x36 ++ (to_le_bytes w64 i ++ (to_le_bytes w32 (length x) ++ y))) (take-append-drop 52 x) in
    let hashed : found ≡ sha256 (inner_pad (block_key base i) ++ message) =
    inner ∙ ap sha256 (parts ∙ ap (λ (y : List ℕ). y ++ message) (sym (key_is_pad base i 0x36))) in
    let pad = sym (key_is_pad base i 0x5c) in
    outer ∙ (λ k. sha256 (pad k ++ hashed k))
