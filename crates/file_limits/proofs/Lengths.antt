-- How long the parts of a file are.
use Rattle.std.proofs.Common.{◌≡◌, ℕ, zero, suc, ◌+◌, ◌-◌, ◌*◌, ◌/◌, ◌%◌, ◌<◌, ◌≤◌, List, [], ◌∷◌, ◌++◌, length, take, drop, replicate, map, refl, ap, arith, length-append, length-drop, length-take}
use Rattle.std.proofs.lemmas.List.{length-replicate}
use Rattle.std.specs.Int.{w32, to_le_bytes}
use Rattle.std.specs.List.{concat, flat_map}
use Rattle.sha2.proofs.Facts256.{length-sha256}
use Rattle.mac_core.specs.Blocks.{block, blocks, length_prefixed, mac_of}
use Rattle.mac_core.specs.Hmac.{hmac}
use Rattle.block_core.specs.Aes as aes
use Rattle.block_core.specs.Twofish as twofish
use Rattle.block_core.specs.Aes.{aes256_encipher}
use Rattle.block_core.specs.Twofish.{twofish256_encipher}
use Rattle.block_core.specs.Blocks.{xor_block}
use Rattle.block_core.specs.Laws.WordFacts.{bytes_of_is_block}
use Rattle.block_core.specs.Cbc as cbc
use Rattle.block_core.specs.Cbc.{cbc_enciphered, chain}
use Rattle.block_core.specs.Padding.{padded}
use Rattle.stream_core.specs.ChaCha20.{chacha_byte}
use Rattle.stream_core.proofs.StreamLemmas.{length-xored}
use Rattle.doc_spelling.specs.Pool.{PoolPair}
use Rattle.doc_spelling.specs.Ranges.{count_all}
use Rattle.doc_write.specs.Written.{binary_len}
use Rattle.kdbx_frame.specs.declared.settings.Cipher.{Cipher}
use Rattle.kdbx_frame.specs.declared.settings.Cipher.TheVariants.{Aes, ChaCha, Twofish}
use Rattle.kdbx_payload.specs.HeaderMacs.{header_mac}
use Rattle.kdbx_writing.specs.Fields.{spelled_field}
use Rattle.kdbx_writing.specs.Inner.{binary_field, inner_fields, spelled_inner}
use Rattle.cli_sealing.specs.KdbxSeal.Enciphered.{enciphered_text}
use Rattle.cli_sealing.specs.KdbxSeal.Made.{attached_file}
use Rattle.kdbx_blocks.specs.Pieces.{blocks_to_end, pieces, pieces_of}

-- ---- blocks of a file of version 4

mac_long : (base : List ℕ) (i : ℕ) (content : List ℕ) → length (mac_of base i content) ≡ 32
unfolding mac_of hmac
mac_long base i content = length-sha256 _

block_long : (base : List ℕ) (i : ℕ) (content : List ℕ) → length (block base i content) ≡ 36 + length content
block_long base i content = omega (
  arith,
  length-append (mac_of base i content) (length_prefixed content),
  mac_long base i content,
  length-append (to_le_bytes w32 (length content)) content,
)

blocks_more : (all first more piece rest whole count : ℕ) → all ≡ first + more → first ≡ 36 + piece → more ≡ rest + 36 * count → whole ≡ piece + rest → all ≡ whole + 36 * suc count
blocks_more all first more piece rest whole count a b c d = omega (arith, a, b, c, d)

parts_long : (n : ℕ) (xs : List ℕ) → length xs ≡ length (take n xs) + length (drop n xs)
parts_long n xs = omega (arith, length-take n xs, length-drop n xs)

blocks_long : (base : List ℕ) (f i : ℕ) (xs : List ℕ) → length xs ≤ f
    → length (blocks base i (pieces_of f 1048576 xs)) ≡ length xs + 36 * length (pieces_of f 1048576 xs)
unfolding blocks pieces_of
blocks_long base zero i [] within = refl
blocks_long base zero i (x ∷ xs) within = absurd (omega (arith, within))
blocks_long base (suc f) i [] within = refl
blocks_long base (suc f) i (x ∷ xs) within =
    let piece = take 1048576 (x ∷ xs) in
    let rest = drop 1048576 (x ∷ xs) in
    let short : length rest ≤ f = omega (arith, length-drop 1048576 (x ∷ xs), within) in
    blocks_more _ _ _ (length piece) (length rest) (length (x ∷ xs)) (length (pieces_of f 1048576 rest))
    (length-append (block base i piece) (blocks base (suc i) (pieces_of f 1048576 rest)))
    (block_long base i piece) (blocks_long base f (suc i) rest short) (parts_long 1048576 (x ∷ xs))

one_piece_more : (count rest whole : ℕ) → 1048576 * count ≤ rest + 1048575 → rest ≡ whole - 1048576 → 0 < whole → 1048576 * suc count ≤ whole + 1048575
one_piece_more count rest whole a b some = omega (arith, a, b, some)

no_pieces_few : (len : ℕ) → 1048576 * 0 ≤ len + 1048575
no_pieces_few len = omega arith

pieces_few : (f : ℕ) (xs : List ℕ) → 1048576 * length (pieces_of f 1048576 xs) ≤ length xs + 1048575
unfolding pieces_of
pieces_few zero xs = no_pieces_few (length xs)
pieces_few (suc f) [] = no_pieces_few 0
pieces_few (suc f) (x ∷ xs) =
    let rest = drop 1048576 (x ∷ xs) in
    one_piece_more (length (pieces_of f 1048576 rest)) (length rest) (length (x ∷ xs)) (pieces_few f rest) (length-drop 1048576 (x ∷ xs)) (omega arith)

-- A content of at most 128 pieces, in blocks, with the end block.
pub blocks_within : (base content : List ℕ) → length content ≤ 134217728 → length (blocks_to_end base 0 (pieces content)) ≤ length content + 4644
blocks_within base content most =
    let count = length (pieces content) in
    let few = pieces_few (length content) content in
    let long = blocks_long base (length content) 0 content (omega arith) in
    let end = block_long base (0 + count) [] in
    let all = length-append (blocks base 0 (pieces content)) (block base (0 + count) []) in
    few_blocks _ _ _ count (length content) all long end few most
  where
    few_blocks : (all first last count len : ℕ) → all ≡ first + last → first ≡ len + 36 * count → last ≡ 36 → 1048576 * count ≤ len + 1048575 → len ≤ 134217728 → all ≤ len + 4644
    few_blocks all first last count len a b c d e = omega (arith, a, b, c, d, e)

pub header_mac_long : (base header : List ℕ) → length (header_mac base header) ≡ 32
unfolding header_mac hmac
header_mac_long base header = length-sha256 _

-- ---- enciphered texts

xor_long : (a b : List ℕ) → length (xor_block a b) ≡ 16
unfolding xor_block
xor_long a b = refl

aes_block : (key s : List ℕ) → length (aes256_encipher key s) ≡ 16
unfolding aes256_encipher aes.cipher
aes_block key s = xor_long _ _

twofish_block : (key s : List ℕ) → length (twofish256_encipher key s) ≡ 16
unfolding twofish256_encipher twofish.cipher
twofish_block key s = (bytes_of_is_block _).whole

module _ (e : List ℕ → List ℕ) (gives : (s : List ℕ) → length (e s) ≡ 16) where
  chain_long : (before : List ℕ) (ps : List (List ℕ)) → length (concat (chain e before ps)) ≡ 16 * length ps
  unfolding chain
  chain_long before [] = refl
  chain_long before (p ∷ ps) =
      let c = e (xor_block p before) in
      let more = chain_long c ps in
      let first = gives (xor_block p before) in
      omega (arith, length-append c (concat (chain e c ps)), first, more)

  blocks_count : (n : ℕ) (text : List ℕ) → length (cbc.blocks n text) ≡ n
  unfolding cbc.blocks
  blocks_count zero text = refl
  blocks_count (suc n) text = ap suc (blocks_count n (drop 16 text))

  chained_within : (iv text : List ℕ) → length (cbc_enciphered e iv text) ≤ length text
  unfolding cbc_enciphered
  chained_within iv text =
      let n = length text / 16 in
      let long = chain_long iv (cbc.blocks n text) in
      let count = blocks_count n text in
      omega (arith, long, count)

padded_within : (text : List ℕ) → length (padded text) ≤ length text + 16
padded_within text =
    let n = 16 - length text % 16 in
    omega (arith, length-append text (replicate n n), length-replicate n n)

-- A text under a cipher is longer by at most its padding.
pub enciphered_within : (c : Cipher) (key iv text : List ℕ) → length (enciphered_text c key iv text) ≤ length text + 16
enciphered_within Aes key iv text = omega (arith, chained_within (aes256_encipher key) (aes_block key) iv (padded text), padded_within text)
enciphered_within Twofish key iv text = omega (arith, chained_within (twofish256_encipher key) (twofish_block key) iv (padded text), padded_within text)
enciphered_within ChaCha key iv text = omega (arith, length-xored (chacha_byte key (take 12 iv)) 0 text)

-- ---- inner fields

field_long : (id : ℕ) (content : List ℕ) → length (spelled_field (id, content)) ≡ 5 + length content
field_long id content = omega (arith, length-append (to_le_bytes w32 (length content)) content)

pool_long : (pool : List PoolPair) → length (flat_map spelled_field (map binary_field (map attached_file pool))) ≡ count_all binary_len pool
pool_long [] = refl
pool_long (p ∷ pool) =
    let rest = flat_map spelled_field (map binary_field (map attached_file pool)) in
    let field = binary_field (attached_file p) in
    omega (arith, length-append (spelled_field field) rest, field_long 3 field.1, pool_long pool)

inner_parts : (all fields rest one two files last key pool : ℕ) → all ≡ fields + last → fields ≡ one + rest → rest ≡ two + files → one ≡ 9 → two ≡ 5 + key → files ≡ pool → last ≡ 5
    → all ≡ 19 + key + pool
inner_parts all fields rest one two files last key pool a b c d e f g = omega (arith, a, b, c, d, e, f, g)

-- The inner fields of a file with such attached files.
pub inner_long : (key : List ℕ) (pool : List PoolPair) → length (spelled_inner key (map attached_file pool)) ≡ 19 + length key + count_all binary_len pool
unfolding spelled_inner
inner_long key pool =
    let files = flat_map spelled_field (map binary_field (map attached_file pool)) in
    let one = spelled_field (1, to_le_bytes w32 3) in
    let two = spelled_field (2, key) in
    inner_parts _ _ _ _ _ _ _ (length key) (count_all binary_len pool)
    (length-append (flat_map spelled_field (inner_fields key (map attached_file pool))) (spelled_field (0, [])))
    (length-append one (two ++ files)) (length-append two files) (field_long 1 (to_le_bytes w32 3)) (field_long 2 key) (pool_long pool) (field_long 0 [])
