-- What the sinks are after a whole text.
use Rattle.std.proofs.Common.{◌≡◌, ℕ, ◌+◌, ◌-◌, ◌^◌, ◌≤◌, ◌<◌, List, [], ◌∷◌, ◌++◌, length, min, refl, ap, sym, ◌∙◌, arith, true, append-nil, append_assoc}
use Rattle.std.proofs.lemmas.List.{length-append}
use Rattle.std.proofs.lemmas.Bool.Decides.{nat_tests}
use Rattle.std.specs.Prelude.{nat_le}
use Rattle.stream_core.proofs.StreamLemmas.{length-xored}
use Rattle.stream_core.specs.InnerStream.{Keystream, keystream_byte}
use Rattle.stream_core.specs.Stream.{xor_stream}
use Rattle.doc_spelling.specs.Pieces.{Piece, element_of, hidden_text}
use Rattle.doc_sinks.proofs.Base64Groups.{coded_length}
use Rattle.doc_sinks.proofs.Spelling.{spelled_is}
use Rattle.markup_grammar.specs.Tree as tree
use Rattle.doc_sinks.specs.States.{after_chunks, after_piece}
use Rattle.doc_sinks.specs.Chunks.{Chunk, plain, hidden, chunks, chunk_bytes, chunk_hides, bytes_of, hides}
use Rattle.doc_sinks.specs.Sinks.{TextState, chunk_len, coded_len, count_with, with_chunk}

-- how long chunks are written
abbrev pub len_of : List Chunk → ℕ
len_of [] = 0
len_of (c ∷ cs) = chunk_len c + len_of cs

pub length_chunk : (k : Keystream) (p : ℕ) (c : Chunk) → length (chunk_bytes k p c) ≡ chunk_len c
length_chunk k p (plain bytes) = refl
length_chunk k p (hidden bytes) = coded_length (xor_stream (keystream_byte k) p bytes) ∙ ap coded_len (length-xored (keystream_byte k) p bytes)

pub length_bytes : (k : Keystream) (p : ℕ) (cs : List Chunk) → length (bytes_of k p cs) ≡ len_of cs
length_bytes k p [] = refl
length_bytes k p (c ∷ cs) =
    length-append (chunk_bytes k p c) (bytes_of k (p + chunk_hides c) cs)
    ∙ ap (λ n. n + length (bytes_of k (p + chunk_hides c) cs)) (length_chunk k p c)
    ∙ ap (λ n. chunk_len c + n) (length_bytes k (p + chunk_hides c) cs)

pub min_more : (n a b m : ℕ) → min (min (n + a) m + b) m ≡ min (n + (a + b)) m
min_more n a b m = omega arith

pub count_after : (n : ℕ) (cs : List Chunk) → n ≤ 18446744073709551615 → after_chunks count_with n cs ≡ min (n + len_of cs) 18446744073709551615
count_after n [] below = omega arith
count_after n (c ∷ cs) below = count_after (count_with n c) cs (omega arith) ∙ min_more n (chunk_len c) (len_of cs) 18446744073709551615

pub hides_chunk : (c : Chunk) → chunk_hides c ≤ chunk_len c
hides_chunk (plain bytes) = omega arith
hides_chunk (hidden bytes) = omega arith

pub hides_within : (cs : List Chunk) → hides cs ≤ len_of cs
hides_within [] = omega arith
hides_within (c ∷ cs) = omega (arith, hides_chunk c, hides_within cs)

-- the text so far with more chunks after it
abbrev pub with_all : TextState → List Chunk → TextState
with_all s cs = record { bytes = s.bytes ++ bytes_of s.key s.offset cs; spare = s.spare - len_of cs; key = s.key; offset = s.offset + hides cs }

abbrev pub with_one : TextState → Chunk → TextState
with_one s c = record { bytes = s.bytes ++ chunk_bytes s.key s.offset c; spare = s.spare - chunk_len c; key = s.key; offset = s.offset + chunk_hides c }

pub same_filled : (key : Keystream) (b b' : List ℕ) (n n' p p' : ℕ) → b ≡ b' → n ≡ n' → p ≡ p'
    → ◌≡◌ {A = TextState} (record { bytes = b; spare = n; key = key; offset = p }) (record { bytes = b'; spare = n'; key = key; offset = p' })
same_filled key b b' n n' p p' e f g = cc

pub is_le : (a b : ℕ) → a ≤ b → nat_le a b ≡ true
is_le a b h = grind (arith, nat_tests)

pub filled_one : (s : TextState) (c : Chunk) → chunk_len c ≤ s.spare → s.offset + chunk_hides c ≤ 2 ^ 38 → with_chunk s c ≡ with_one s c
unfolding with_chunk
filled_one s (plain bytes) room left =
    rw (is_le (length bytes) s.spare room) (same_filled s.key _ _ _ _ s.offset (s.offset + 0) refl refl (omega arith))
filled_one s (hidden bytes) room left =
    rw (is_le (coded_len (length bytes)) s.spare room, is_le (s.offset + length bytes) (2 ^ 38) left) refl

pub fill_after : (s : TextState) (cs : List Chunk) → len_of cs ≤ s.spare → s.offset + hides cs ≤ 2 ^ 38 → after_chunks with_chunk s cs ≡ with_all s cs
fill_after s [] room left = same_filled s.key s.bytes (s.bytes ++ []) s.spare (s.spare - 0) s.offset (s.offset + 0) (sym (append-nil s.bytes)) (omega arith) (omega arith)
fill_after s (c ∷ cs) room left =
    ap (λ x. after_chunks with_chunk x cs) (filled_one s c (omega arith) (omega arith))
    ∙ fill_after (with_one s c) cs (omega arith) (omega arith)
    ∙ same_filled s.key _ _ _ _ _ _
    (append_assoc s.bytes (chunk_bytes s.key s.offset c) (bytes_of s.key (s.offset + chunk_hides c) cs)) (omega arith) (omega arith)

-- ---- the two passes

pub count_put : (n : ℕ) (p : Piece) → n ≡ after_piece count_with 0 p → n ≡ min (len_of (chunks p)) 18446744073709551615
unfolding after_piece
count_put n p e = e ∙ count_after 0 (chunks p) (omega arith) ∙ ap (λ k. min k 18446744073709551615) (omega arith)

pub too_long : (n : ℕ) (k : Keystream) (p : Piece) → n ≡ after_piece count_with 0 p → 2 ^ 38 < n → 2 ^ 38 < length (tree.spelled (element_of k 0 p))
too_long n k p e more = let f = count_put n p e in rw (← spelled_is k 0 p, length_bytes k 0 (chunks p)) (omega (arith, f))

pub fill_put : (n : ℕ) (s t : TextState) (p : Piece) → n ≡ after_piece count_with 0 p → n ≤ 2 ^ 38 → s.spare ≡ n → s.offset ≡ 0 → t ≡ after_piece with_chunk s p → t ≡ with_all s (chunks p)
unfolding after_piece
fill_put n s t p e within room start end =
    let f = count_put n p e in
    let same : len_of (chunks p) ≡ n = omega (arith, f) in
    let most = hides_within (chunks p) in
    end ∙ fill_after s (chunks p) (omega (arith, same)) (omega (arith, same, most))

pub fill_bytes : (n : ℕ) (s t : TextState) (p : Piece) → n ≡ after_piece count_with 0 p → n ≤ 2 ^ 38 → s.bytes ≡ [] → s.spare ≡ n → s.offset ≡ 0 → t ≡ after_piece with_chunk s p
    → t.bytes ≡ tree.spelled (element_of s.key 0 p)
fill_bytes n s t p e within empty room start end =
    ap (λ (x : TextState). x.bytes) (fill_put n s t p e within room start end)
    ∙ ap (λ (b : List ℕ). b ++ bytes_of s.key s.offset (chunks p)) empty
    ∙ ap (λ (k : ℕ). bytes_of s.key k (chunks p)) start
    ∙ spelled_is s.key 0 p

pub fill_spare : (n : ℕ) (s t : TextState) (p : Piece) → n ≡ after_piece count_with 0 p → n ≤ 2 ^ 38 → s.spare ≡ n → s.offset ≡ 0 → t ≡ after_piece with_chunk s p → t.spare ≡ 0
fill_spare n s t p e within room start end =
    let f = count_put n p e in
    ap (λ (x : TextState). x.spare) (fill_put n s t p e within room start end) ∙ omega (arith, f)
