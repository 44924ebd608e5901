-- The bytes that are put are the spelling of an element of the grammar.
use Rattle.std.proofs.Common.{◌≡◌, ℕ, ◌+◌, List, [], ◌∷◌, ◌++◌, refl, ap, sym, ◌∙◌, arith, append-nil, append_assoc, map}
use Rattle.std.specs.Prelude.{codes, flat_map}
use Rattle.doc_sinks.specs.Chunks.{Chunk, plain, hidden, attribute_chunks, start_chunks, end_chunks, chunks, chunks_all, chunk_bytes, chunk_hides, bytes_of, hides}
use Rattle.doc_sinks.proofs.Puts.{Attributes}
use Rattle.doc_spelling.specs.Pieces.{Piece, Pieces, leaf, secret, box, none, beside, protected_attribute, attribute_of, attributes_text, hidden_text, hidden_len, hidden_len_all, element_of, content_of}
use Rattle.markup_grammar.specs.Escapes.{escaped}
use Rattle.markup_grammar.specs.Tags.{attribute_then}
use Rattle.markup_grammar.specs.Tree as tree
use Rattle.stream_core.specs.InnerStream.{Keystream}

hides_append : (xs ys : List Chunk) → hides (xs ++ ys) ≡ hides xs + hides ys
hides_append [] ys = omega arith
hides_append (x ∷ xs) ys = omega (arith, hides_append xs ys)

bytes_append : (k : Keystream) (p : ℕ) (xs ys : List Chunk) → bytes_of k p (xs ++ ys) ≡ bytes_of k p xs ++ bytes_of k (p + hides xs) ys
bytes_append k p [] ys = ap (λ (n : ℕ). bytes_of k n ys) (omega arith)
bytes_append k p (x ∷ xs) ys =
    ap (λ (b : List ℕ). chunk_bytes k p x ++ b) (bytes_append k (p + chunk_hides x) xs ys)
    ∙ sym (append_assoc (chunk_bytes k p x) (bytes_of k (p + chunk_hides x) xs) (bytes_of k (p + chunk_hides x + hides xs) ys))
    ∙ ap (λ (n : ℕ). (chunk_bytes k p x ++ bytes_of k (p + chunk_hides x) xs) ++ bytes_of k n ys) (omega arith)

attributes_hide : (attributes : Attributes) → hides (flat_map attribute_chunks attributes) ≡ 0
attributes_hide [] = refl
attributes_hide (a ∷ attributes) = omega (arith, attributes_hide attributes)

attributes_bytes : (k : Keystream) (p : ℕ) (attributes : Attributes) → bytes_of k p (flat_map attribute_chunks attributes) ≡ attributes_text attributes
attributes_bytes k p [] = refl
attributes_bytes k p (a ∷ attributes) = ap (attribute_then (attribute_of a)) (attributes_bytes k (p + 0 + 0 + 0 + 0 + 0) attributes)

start_hides : (name : List ℕ) (attributes : Attributes) → hides (start_chunks name attributes) ≡ 0
start_hides name attributes = omega (arith, hides_append (flat_map attribute_chunks attributes) (plain (codes ">") ∷ []), attributes_hide attributes)

start_bytes : (k : Keystream) (p : ℕ) (name : List ℕ) (attributes : Attributes) → bytes_of k p (start_chunks name attributes) ≡ tree.start_tag name (attributes_text attributes)
start_bytes k p name attributes =
    ap (λ (b : List ℕ). 60 ∷ (name ++ b)) (bytes_append k (p + 0 + 0) (flat_map attribute_chunks attributes) (plain (codes ">") ∷ [])
    ∙ ap (λ (b : List ℕ). b ++ 62 ∷ []) (attributes_bytes k (p + 0 + 0) attributes))

end_bytes : (k : Keystream) (p : ℕ) (name : List ℕ) → bytes_of k p (end_chunks name) ≡ tree.end_tag name []
end_bytes k p name = refl

-- between two tags
tagged : (k : Keystream) (p : ℕ) (name : List ℕ) (attributes : Attributes) (inner : List Chunk)
    → bytes_of k p (start_chunks name attributes ++ (inner ++ end_chunks name)) ≡ tree.start_tag name (attributes_text attributes) ++ (bytes_of k p inner ++ tree.end_tag name [])
tagged k p name attributes inner =
    bytes_append k p (start_chunks name attributes) (inner ++ end_chunks name)
    ∙ ap (λ (b : List ℕ). b ++ bytes_of k (p + hides (start_chunks name attributes)) (inner ++ end_chunks name)) (start_bytes k p name attributes)
    ∙ ap (λ (n : ℕ). tree.start_tag name (attributes_text attributes) ++ bytes_of k n (inner ++ end_chunks name)) (omega (arith, start_hides name attributes))
    ∙ ap (λ (b : List ℕ). tree.start_tag name (attributes_text attributes) ++ b) (bytes_append k p inner (end_chunks name)
    ∙ ap (λ (b : List ℕ). bytes_of k p inner ++ b) (end_bytes k (p + hides inner) name))

tagged_hide : (name : List ℕ) (attributes : Attributes) (inner : List Chunk) → hides (start_chunks name attributes ++ (inner ++ end_chunks name)) ≡ hides inner
tagged_hide name attributes inner = omega (arith, hides_append (start_chunks name attributes) (inner ++ end_chunks name), start_hides name attributes, hides_append inner (end_chunks name))

mutual
  pub hides_is : (piece : Piece) → hides (chunks piece) ≡ hidden_len piece
  hides_is (leaf name attributes text) = tagged_hide name attributes (plain (escaped text) ∷ [])
  hides_is (secret name attributes bytes) = omega (arith, tagged_hide name (attributes ++ protected_attribute ∷ []) (hidden bytes ∷ []))
  hides_is (box name ps) = tagged_hide name [] (chunks_all ps) ∙ hides_all_is ps

  hides_all_is : (ps : Pieces) → hides (chunks_all ps) ≡ hidden_len_all ps
  hides_all_is none = refl
  hides_all_is (beside q qs) = omega (arith, hides_append (chunks q) (chunks_all qs), hides_is q, hides_all_is qs)

mutual
  pub spelled_is : (k : Keystream) (p : ℕ) (piece : Piece) → bytes_of k p (chunks piece) ≡ tree.spelled (element_of k p piece)
  spelled_is k p (leaf name attributes text) =
      tagged k p name attributes (plain (escaped text) ∷ [])
      ∙ ap (λ (b : List ℕ). tree.start_tag name (attributes_text attributes) ++ (b ++ tree.end_tag name [])) (append-nil (escaped text))
  spelled_is k p (secret name attributes bytes) =
      tagged k p name (attributes ++ protected_attribute ∷ []) (hidden bytes ∷ [])
      ∙ ap (λ (b : List ℕ). tree.start_tag name (attributes_text (attributes ++ protected_attribute ∷ [])) ++ (b ++ tree.end_tag name [])) (append-nil (hidden_text k p bytes))
  spelled_is k p (box name ps) =
      tagged k p name [] (chunks_all ps)
      ∙ ap (λ (b : List ℕ). tree.start_tag name [] ++ (b ++ tree.end_tag name [])) (content_is k p ps)

  content_is : (k : Keystream) (p : ℕ) (ps : Pieces) → bytes_of k p (chunks_all ps) ≡ tree.spelled_all (content_of k p ps)
  content_is k p none = refl
  content_is k p (beside q qs) =
      bytes_append k p (chunks q) (chunks_all qs)
      ∙ ap (λ (b : List ℕ). b ++ bytes_of k (p + hides (chunks q)) (chunks_all qs)) (spelled_is k p q)
      ∙ ap (λ (b : List ℕ). tree.spelled (element_of k p q) ++ b) (content_is k (p + hides (chunks q)) qs)
      ∙ ap (λ (n : ℕ). tree.spelled (element_of k p q) ++ tree.spelled_all (content_of k (p + n) qs)) (hides_is q)
