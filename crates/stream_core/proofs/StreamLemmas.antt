-- A text that is XORed with a stream piece by piece.
use Rattle.std.proofs.Common.{◌≡◌, ℕ, zero, suc, ◌+◌, ◌/◌, ◌%◌, ◌<◌, ◌≤◌, slice_index, List, [], ◌∷◌, ◌++◌, length, take, drop, get_or, set, bit_xor, arith, refl, ap, ap₂, sym, ◌∙◌}
use Rattle.std.proofs.lemmas.List.{length-take-le, take_at, drop_at, drop-drop, append_assoc}
use Rattle.std.proofs.Math.Seq.{take-add}
use borrow.Rule.Slice.PartMut.{put_mid, mid_of}
use Rattle.std.specs.Int.Bits.{xor_assoc, xor_self, xor_zero_r}
use Rattle.std.specs.Int.{w32, to_le_bytes}
use Rattle.stream_core.specs.Words.{byte_in}
use Rattle.stream_core.specs.Stream.{xor_stream, xor_stream_in_pieces, concat_pieces}
use Rattle.stream_core.proofs.LaneLemmas.{below_four}

-- a text of which the first bytes have been XORed
abbrev pub xored_front : (ℕ → ℕ) → ℕ → ℕ → List ℕ → List ℕ
xored_front stream place n text = xor_stream stream place (take n text) ++ drop n text

pub length-xored : (f : ℕ → ℕ) (p : ℕ) (text : List ℕ) → length (xor_stream f p text) ≡ length text
length-xored f p [] = refl
length-xored f p (b ∷ bs) = ap suc (length-xored f (p + 1) bs)

pub xored-append : (f : ℕ → ℕ) (p : ℕ) (s t : List ℕ) → xor_stream f p (s ++ t) ≡ xor_stream f p s ++ xor_stream f (p + length s) t
xored-append f p [] t =
    let here : p ≡ p + 0 = omega arith in
    ap (λ n. xor_stream f n t) here
xored-append f p (b ∷ bs) t =
    let next : p + 1 + length bs ≡ p + suc (length bs) = omega arith in
    ap (λ xs. bit_xor b (f p) ∷ xs) (xored-append f (p + 1) bs t ∙ ap (λ n. xor_stream f (p + 1) bs ++ xor_stream f n t) next)

-- only the stream's bytes at the text's places count
pub xored_same : (f g : ℕ → ℕ) (p q : ℕ) (text : List ℕ) → ((i : ℕ) → i < length text → f (p + i) ≡ g (q + i)) → xor_stream f p text ≡ xor_stream g q text
xored_same f g p q [] same = refl
xored_same f g p q (b ∷ bs) same =
    let start : f p ≡ g q =
    (let fp : p ≡ p + 0 = omega arith in let gq : q + 0 ≡ q = omega arith in
    ap f fp ∙ same 0 (omega arith) ∙ ap g gq) in
    ap₂ (λ x xs. bit_xor b x ∷ xs) start
    (xored_same f g (p + 1) (q + 1) bs (λ i h.
    let fp : p + 1 + i ≡ p + suc i = omega arith in let gq : q + suc i ≡ q + 1 + i = omega arith in
    ap f fp ∙ same (suc i) (omega arith) ∙ ap g gq))

-- one byte more
pub xored_front_more : (f : ℕ → ℕ) (p i : ℕ) (text : List ℕ) → i < length text
    → set (xored_front f p i text) i (bit_xor (get_or (xored_front f p i text) i 0) (f (p + i))) ≡ xored_front f p (suc i) text
xored_front_more f p i [] h = absurd (omega arith)
xored_front_more f p zero (b ∷ bs) h =
    let here : p + 0 ≡ p = omega arith in
    ap (λ n. bit_xor b (f n) ∷ bs) here
xored_front_more f p (suc i) (b ∷ bs) h =
    let next : p + suc i ≡ p + 1 + i = omega arith in
    ap (λ xs. bit_xor b (f p) ∷ xs)
    (ap (λ n. set (xored_front f (p + 1) i bs) i (bit_xor (get_or (xored_front f (p + 1) i bs) i 0) (f n))) next
    ∙ xored_front_more f (p + 1) i bs (omega arith))

-- a piece more: the part of the text from d on, of k bytes, is XORed in its place
pub xored_front_piece : (f : ℕ → ℕ) (p d k j : ℕ) (text whole piece : List ℕ) → text ≡ xored_front f p d whole → j ≡ d + k → j ≤ length whole
    → piece ≡ xor_stream f (p + d) (mid_of d k text) → put_mid d k text piece ≡ xored_front f p j whole
xored_front_piece f p d k j text whole piece front next within is =
    let done : d ≤ length whole = omega arith in
    let long : length (take d whole) ≡ d = length-take-le d whole done in
    let long_xored : length (xor_stream f p (take d whole)) ≡ d = length-xored f p (take d whole) ∙ long in
    let before : take d text ≡ xor_stream f p (take d whole) = ap (take d) front ∙ take_at _ _ d long_xored in
    let after : drop d text ≡ drop d whole = ap (drop d) front ∙ drop_at _ _ d long_xored in
    let split : take (d + k) whole ≡ take d whole ++ take k (drop d whole) = take-add d k whole in
    let rest : drop (d + k) whole ≡ drop k (drop d whole) = sym (drop-drop k d whole) in
    let now : piece ≡ xor_stream f (p + length (take d whole)) (take k (drop d whole)) =
    is ∙ ap (λ xs. xor_stream f (p + d) (take k xs)) after ∙ ap (λ n. xor_stream f (p + n) (take k (drop d whole))) (sym long) in
    let together : xor_stream f p (take (d + k) whole) ≡ xor_stream f p (take d whole) ++ piece =
    ap (xor_stream f p) split ∙ xored-append f p (take d whole) (take k (drop d whole)) ∙ ap (λ xs. xor_stream f p (take d whole) ++ xs) (sym now) in
    ap₂ (λ xs ys. xs ++ (piece ++ drop k ys)) before after
    ∙ sym (append_assoc (xor_stream f p (take d whole)) piece (drop k (drop d whole)))
    ∙ ap₂ (λ xs ys. xs ++ ys) (sym together) (sym rest)
    ∙ ap (λ n. xored_front f p n whole) (sym next)

-- a text XORed in pieces is the text XORed whole
pub xored-joined : (f : ℕ → ℕ) (p : ℕ) (pieces : List (List ℕ)) → xor_stream_in_pieces f p pieces ≡ xor_stream f p (concat_pieces pieces)
xored-joined f p [] = refl
xored-joined f p (t ∷ ts) =
    ap (λ xs. xor_stream f p t ++ xs) (xored-joined f (p + length t) ts) ∙ sym (xored-append f p t (concat_pieces ts))

-- a text XORed twice from one place is the text
pub xored-xored : (f : ℕ → ℕ) (p : ℕ) (text : List ℕ) → xor_stream f p (xor_stream f p text) ≡ text
xored-xored f p [] = refl
xored-xored f p (b ∷ bs) =
    ap₂ (λ x xs. x ∷ xs) (xor_assoc b (f p) (f p) ∙ ap (bit_xor b) (xor_self (f p)) ∙ xor_zero_r b) (xored-xored f (p + 1) bs)

-- a stream of zeros changes nothing
pub xored-zero : (p : ℕ) (text : List ℕ) → xor_stream (λ _. 0) p text ≡ text
xored-zero p [] = refl
xored-zero p (b ∷ bs) = ap₂ (λ x xs. x ∷ xs) (xor_zero_r b) (xored-zero (p + 1) bs)

-- the bytes of a stream of blocks are bytes
pub byte_in-lt : (word : ℕ → ℕ → ℕ) (place : ℕ) → byte_in word place < 256
byte_in-lt word place =
    let x = word (place / 64) (place % 64 / 4) in
    below_four (λ r. slice_index (to_le_bytes w32 x) r < 256) (omega arith) (omega arith) (omega arith) (omega arith) (place % 4) (omega arith)
