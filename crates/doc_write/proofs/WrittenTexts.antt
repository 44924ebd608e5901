-- The two passes over a document: what is counted is the length of its text, and what is filled is its text.
use Rattle.std.proofs.Common.{◌≡◌, ℕ, ◌+◌, ◌-◌, ◌^◌, ◌≤◌, ◌<◌, Bool, true, false, Option, List, [], ◌∷◌, ◌++◌, length, min, refl, ap, sym, ◌∙◌, arith, append-nil, Result, Ok, Err}
use Rattle.std.proofs.lemmas.Bool.Decides.{nat_tests}
use Rattle.std.specs.Prelude.{nat_lt}
use Rattle.doc_forms.specs.MarkupGrammar.Tree as tree
use Rattle.stream_core.specs.InnerStream.{Keystream}
use Rattle.vault_model.specs.Tree.{BareDoc}
use Rattle.vault_model.specs.declared.forms.DocForm.{DocForm}
use Rattle.doc_sinks.proofs.Spelling.{spelled_is}
use Rattle.doc_sinks.proofs.WholeTexts.{count_after, fill_after, hides_within, len_of, length_bytes, with_all}
use Rattle.doc_sinks.specs.Chunks.{Chunk, plain, bytes_of, chunks, hides}
use Rattle.doc_sinks.specs.Sinks.{TextState, count_with, with_chunk}
use Rattle.doc_sinks.specs.States.{after_piece}
use Rattle.doc_spelling.specs.Documents.{file_piece, spelled_document}
use Rattle.doc_spelling.specs.Pieces.{Piece, element_of}
use Rattle.doc_spelling.specs.Pool.{PoolPair, pool_of}
use Rattle.doc_spelling.specs.Ranges.{tree_nodes}
use Rattle.doc_write.specs.Written.{Measures, Writes, front_text, pool_len, up_to_u64, text_or, write_outcome, written_len}
use Rattle.doc_write.specs.declared.writing.WriteFail.{WriteFail}
use Rattle.doc_write.specs.declared.writing.WriteFail.TheVariants.{NoMemory, TooMany, TooLarge}

-- ---- a text and its length

-- the chunks of a document
abbrev pub whole : Piece → List Chunk
whole p = plain front_text ∷ chunks p

whole_bytes : (form : DocForm) (k : Keystream) (hash : Option (List ℕ)) (d : BareDoc) → bytes_of k 0 (whole (file_piece form hash (pool_of d) d)) ≡ spelled_document form k hash d
whole_bytes form k hash d =
    let p = file_piece form hash (pool_of d) d in
    ap (λ (b : List ℕ). front_text ++ b) (spelled_is k 0 p ∙ sym (append-nil (tree.spelled (element_of k 0 p))))

pub whole_length : (form : DocForm) (k : Keystream) (hash : Option (List ℕ)) (d : BareDoc) → length (spelled_document form k hash d) ≡ len_of (whole (file_piece form hash (pool_of d) d))
whole_length form k hash d =
    ap length (sym (whole_bytes form k hash d)) ∙ length_bytes k 0 (whole (file_piece form hash (pool_of d) d))

count_whole : (n : ℕ) (p : Piece) → n ≡ after_piece count_with (count_with 0 (plain front_text)) p → n ≡ min (len_of (whole p)) 18446744073709551615
unfolding after_piece
count_whole n p e = e ∙ count_after 0 (whole p) (omega arith) ∙ ap (λ (m : ℕ). min m 18446744073709551615) (omega arith)

fill_whole : (s t : TextState) (p : Piece) → len_of (whole p) ≤ 2 ^ 38 → len_of (whole p) ≤ s.spare → s.offset ≡ 0
    → t ≡ after_piece with_chunk (with_chunk s (plain front_text)) p → t ≡ with_all s (whole p)
unfolding after_piece
fill_whole s t p within room start end = end ∙ fill_after s (whole p) room (omega (arith, start, within, hides_within (whole p)))

-- ---- tests

is_more : (a b : ℕ) → a < b → nat_lt a b ≡ true
is_more a b h = grind (arith, nat_tests)

is_not_more : (a b : ℕ) → b ≤ a → nat_lt a b ≡ false
is_not_more a b h = grind (arith, nat_tests)

-- ---- what writing gives

module _ (form : DocForm) (k : Keystream) (hash : Option (List ℕ)) (d : BareDoc) where
  pub too_many : (n : ℕ) → n ≡ min (0 + tree_nodes d.tree) 18446744073709551615 → 262144 < n → write_outcome form k hash d ≡ Err (TooMany n)
  too_many n e more =
      let past : nat_lt 262144 (tree_nodes d.tree) ≡ true = is_more 262144 (tree_nodes d.tree) (omega (arith, e)) in
      let count : up_to_u64 (tree_nodes d.tree) ≡ n = omega (arith, e) in
      rw past (ap (λ (m : ℕ). Err (TooMany m)) count)

  few : (nodes : ℕ) → nodes ≡ min (0 + tree_nodes d.tree) 18446744073709551615 → nodes ≤ 262144 → write_outcome form k hash d ≡ text_or form k hash d
  few nodes e most =
      let within : nat_lt 262144 (tree_nodes d.tree) ≡ false = is_not_more 262144 (tree_nodes d.tree) (omega (arith, e)) in
      rw within refl

  module _ (pool : List PoolPair) (own : pool ≡ pool_of d) (nodes n apart len : ℕ)
      (all : nodes ≡ min (0 + tree_nodes d.tree) 18446744073709551615) (most : nodes ≤ 262144)
      (count : n ≡ after_piece count_with (count_with 0 (plain front_text)) (file_piece form hash pool d))
      (beside : apart ≡ min (pool_len form pool) 18446744073709551615) (sum : len ≡ min (n + apart) 18446744073709551615) where
    total : len ≡ up_to_u64 (written_len form k hash d)
    total =
        let one = count_whole n (file_piece form hash (pool_of d) d) (rw own at count) in
        let two : apart ≡ min (pool_len form (pool_of d)) 18446744073709551615 = rw own at beside in
        omega (arith, one, two, sum, whole_length form k hash d)

    pub too_large : 134086656 < len → write_outcome form k hash d ≡ Err (TooLarge len)
    too_large more =
        let past : nat_lt 134086656 (written_len form k hash d) ≡ true = is_more 134086656 (written_len form k hash d) (omega (arith, total)) in
        few nodes all most ∙ rw past (ap (λ (m : ℕ). Err (TooLarge m)) (sym total))

    module _ (within : len ≤ 134086656) where
      is_text : write_outcome form k hash d ≡ Ok (spelled_document form k hash d)
      is_text =
          let fits : nat_lt 134086656 (written_len form k hash d) ≡ false = is_not_more 134086656 (written_len form k hash d) (omega (arith, total)) in
          few nodes all most ∙ rw fits refl

      pub measured : Measures form k hash d (Ok n)
      measured =
          let one = count_whole n (file_piece form hash (pool_of d) d) (rw own at count) in
          let two : apart ≡ min (pool_len form (pool_of d)) 18446744073709551615 = rw own at beside in
          record {
            outcome = is_text;
            text = omega (arith, one, sum, within, whole_length form k hash d);
            limit = omega (arith, one, two, sum, within);
          }

  -- A text after which the document is put.
  module _ (pool : List PoolPair) (own : pool ≡ pool_of d) (s t : TextState) (start : s.offset ≡ 0) (key : s.key ≡ k)
      (limit : length (spelled_document form k hash d) ≤ 2 ^ 38) (room : length (spelled_document form k hash d) ≤ s.spare)
      (end : t ≡ after_piece with_chunk (with_chunk s (plain front_text)) (file_piece form hash pool d)) where
    filled_whole : t ≡ with_all s (whole (file_piece form hash (pool_of d) d))
    filled_whole = fill_whole s t (file_piece form hash (pool_of d) d) (omega (arith, limit, whole_length form k hash d)) (omega (arith, room, whole_length form k hash d)) start (rw own at end)

    pub put_bytes : t.bytes ≡ s.bytes ++ spelled_document form k hash d
    put_bytes =
        ap (λ (x : TextState). x.bytes) filled_whole
        ∙ ap (λ (o : ℕ). s.bytes ++ bytes_of s.key o (whole (file_piece form hash (pool_of d) d))) start
        ∙ ap (λ (x : Keystream). s.bytes ++ bytes_of x 0 (whole (file_piece form hash (pool_of d) d))) key
        ∙ ap (λ (b : List ℕ). s.bytes ++ b) (whole_bytes form k hash d)

    pub put_spare : t.spare ≡ s.spare - length (spelled_document form k hash d)
    put_spare = ap (λ (x : TextState). x.spare) filled_whole ∙ ap (λ (m : ℕ). s.spare - m) (sym (whole_length form k hash d))

-- ---- what a whole call gives

-- A document that is not measured is not written.
pub not_written : (e : WriteFail) (defined : Result (List ℕ) WriteFail) → defined ≡ Err e → Writes (Err e) defined
not_written (TooMany n) defined h = h
not_written (TooLarge n) defined h = h
not_written NoMemory defined h = tt
