-- Binaries are put by their numbers.
use Rattle.std.proofs.Common.{◌≡◌, ℕ, suc, ◌+◌, ◌<◌, ◌≤◌, List, [], ◌∷◌, length, drop, map, get_or, refl, ap, sym, ◌∙◌, add-one}
use Rattle.std.proofs.Math.Seq.{drop-cons}
use Rattle.std.proofs.lemmas.List.{drop_all}
use Rattle.doc_forms.specs.Attachments.{binaries_from}
use Rattle.doc_forms.specs.SeenDocuments.{pool_item}
use Rattle.doc_sinks.proofs.Puts.{put_beside, put_none}
use Rattle.doc_sinks.specs.Chunks.{Chunk}
use Rattle.doc_sinks.specs.States.{after_piece, after_pieces}
use Rattle.doc_spelling.specs.Metas.{binary_piece, numbered_piece}
use Rattle.doc_spelling.specs.Pieces.{pieces_of}
use Rattle.vault_model.specs.declared.forms.DocForm.{DocForm}
use Rattle.vault_model.specs.declared.forms.PoolItem.{PoolItem}

pub binaries_more : {S : Type 0} {t last : S} (step : S → Chunk → S) (s : S) (form : DocForm) (xs : List PoolItem) (i n : ℕ) (x : PoolItem)
    → i < length xs → x ≡ get_or xs i x → t ≡ after_piece step s (numbered_piece form n x.bytes.value.bytes x.hidden)
    → after_pieces step s (pieces_of (binary_piece form) (binaries_from n (map pool_item (drop i xs)))) ≡ last
    → after_pieces step t (pieces_of (binary_piece form) (binaries_from (n + 1) (map pool_item (drop (i + 1) xs)))) ≡ last
binaries_more {t = t} step s form xs i n x below here now before =
    let front : drop i xs ≡ x ∷ drop (suc i) xs = drop-cons xs i x below ∙ ap (λ y. y ∷ drop (suc i) xs) (sym here) in
    ap (λ u. after_pieces step u (pieces_of (binary_piece form) (binaries_from (n + 1) (map pool_item (drop (i + 1) xs))))) now
    ∙ ap (λ (m : ℕ). after_pieces step (after_piece step s (numbered_piece form n x.bytes.value.bytes x.hidden)) (pieces_of (binary_piece form) (binaries_from (n + 1) (map pool_item (drop m xs))))) (add-one i)
    ∙ sym (put_beside step s (numbered_piece form n x.bytes.value.bytes x.hidden) (pieces_of (binary_piece form) (binaries_from (n + 1) (map pool_item (drop (suc i) xs)))))
    ∙ sym (ap (λ ys. after_pieces step s (pieces_of (binary_piece form) (binaries_from n (map pool_item ys)))) front)
    ∙ before

pub binaries_end : {S : Type 0} {s last : S} (step : S → Chunk → S) (form : DocForm) (xs : List PoolItem) (i n : ℕ)
    → length xs ≤ i → after_pieces step s (pieces_of (binary_piece form) (binaries_from n (map pool_item (drop i xs)))) ≡ last → s ≡ last
binaries_end {s = s} step form xs i n past before =
    sym (put_none step s)
    ∙ sym (ap (λ ys. after_pieces step s (pieces_of (binary_piece form) (binaries_from n (map pool_item ys)))) (drop_all i xs past))
    ∙ before
