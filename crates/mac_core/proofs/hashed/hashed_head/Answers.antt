use Rattle.std.proofs.Common.{◌≡◌, ℕ, List, ◌++◌, length, replicate, drop, sym, ◌∙◌, ap, arith, length-append}
use Rattle.std.proofs.lemmas.List.{append-nil, append_assoc, drop_at, take_at}
use Rattle.std.specs.Int.{w32, to_le_bytes}
use borrow.Rule.Slice.PartMut.{put_mid}
use Rattle.mac_core.specs.HashedBlocks.{content_hash}
use Rattle.mac_core.proofs.HashedBlocks.{content_hash_long}
use Rattle.mac_core.proofs.hashed.hashed_head.Goals as goal

-- three parts written over zeros, one after the other
written : (index hash size : List ℕ) → length index ≡ 4 → length hash ≡ 32
    → put_mid 36 4 (put_mid 4 32 (index ++ replicate 36 0) hash) size ≡ index ++ hash ++ size
written index hash size four more =
    let zeros : List ℕ = replicate 36 0 in
    let two : put_mid 4 32 (index ++ zeros) hash ≡ (index ++ hash) ++ replicate 4 0 =
    ap (λ (xs : List ℕ). xs ++ (hash ++ drop 32 (drop 4 (index ++ zeros)))) (take_at index zeros 4 four)
    ∙ ap (λ (xs : List ℕ). index ++ (hash ++ drop 32 xs)) (drop_at index zeros 4 four)
    ∙ sym (append_assoc index hash (replicate 4 0)) in
    let long : length (index ++ hash) ≡ 36 = omega (arith, length-append index hash, four, more) in
    ap (λ (xs : List ℕ). put_mid 36 4 xs size) two
    ∙ ap (λ (xs : List ℕ). xs ++ (size ++ drop 4 (drop 36 ((index ++ hash) ++ replicate 4 0)))) (take_at (index ++ hash) (replicate 4 0) 36 long)
    ∙ ap (λ (xs : List ℕ). (index ++ hash) ++ (size ++ drop 4 xs)) (drop_at (index ++ hash) (replicate 4 0) 36 long)
    ∙ ap (λ (xs : List ℕ). (index ++ hash) ++ xs) (append-nil size)

pub returns : goal.returns
returns c =
    let piece = c.args.piece.now in
    let index = c.copy_from_slice.new.self in
    let hash = c.copy_from_slice-2.new.self in
    let size = c.copy_from_slice-3.new.self in
    let index_is : index ≡ to_le_bytes w32 c.args.index = c.copy_from_slice.ensures.after ∙ c.to_le_bytes.ensures in
    let hash_is : hash ≡ content_hash piece = c.copy_from_slice-2.ensures.after ∙ c.content_hash.ensures in
    let size_is : size ≡ to_le_bytes w32 (length piece) = c.copy_from_slice-3.ensures.after ∙ c.to_le_bytes-2.ensures in
    written index hash size (ap length index_is) (ap length hash_is ∙ content_hash_long piece)
    ∙ ap (λ (xs : List ℕ). xs ++ hash ++ size) index_is
    ∙ ap (λ (xs : List ℕ). to_le_bytes w32 c.args.index ++ xs ++ size) hash_is
    ∙ ap (λ (xs : List ℕ). to_le_bytes w32 c.args.index ++ content_hash piece ++ xs) size_is
