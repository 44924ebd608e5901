-- Blocks appended one after another.
use Rattle.std.proofs.Common.{◌≡◌, ℕ, suc, ◌+◌, ◌<◌, List, [], ◌++◌, length, take, drop, Option, Some, None, Result, Ok, Err, OnOk, IfSome, sym, ◌∙◌, ap, append_assoc, refl, ◌≤◌, arith, length-drop, subst}
use Rattle.std.specs.Prelude.{slice_index_or}
use Rattle.std.proofs.lemmas.List.{append-nil, drop-drop}
use Rattle.sha_lanes.specs.Lanes.{one_of}
use Rattle.mac_core.specs.Blocks.{block}
use Rattle.kdbx_blocks.specs.Pieces.{pieces, blocks_to_end}
use Rattle.kdbx_blocks.specs.Appending.{AreNext, GoesOn, headed}
use Rattle.kdbx_blocks.proofs.Pieces.{blocks_end, blocks_more}

pub some_more : {X : Type 0} (o : Option X) (P Q R : Type 0) → IfSome o (λ _. P) → IfSome o (λ _. Q) → (P → Q → R) → IfSome o (λ _. R)
some_more None P Q R p q f = tt
some_more (Some x) P Q R p q f = f p q

pub ok_more : {X E : Type 0} (result : Result X E) (P Q : Type 0) → OnOk result P → (P → Q) → OnOk result Q
ok_more (Ok x) P Q p f = f p
ok_more (Err e) P Q p f = tt

pub appended : (old new start whole base own : List ℕ) (i j : ℕ) (left piece rest : List ℕ) → 0 < length left → own ≡ base → j ≡ i + 1
    → piece ≡ take 1048576 left → rest ≡ drop 1048576 left → old ++ blocks_to_end base i (pieces left) ≡ start ++ whole → new ≡ old ++ block own i piece
    → new ++ blocks_to_end base j (pieces rest) ≡ start ++ whole
appended old new start whole base own i j left piece rest some is_base next is_piece is_rest so_far put =
    ap (λ (l : List ℕ). l ++ blocks_to_end base j (pieces rest)) put
    ∙ append_assoc old (block own i piece) (blocks_to_end base j (pieces rest))
    ∙ ap (λ (b : List ℕ). old ++ (block b i piece ++ blocks_to_end base j (pieces rest))) is_base
    ∙ ap (λ (p : List ℕ). old ++ (block base i p ++ blocks_to_end base j (pieces rest))) is_piece
    ∙ ap (λ (k : ℕ). old ++ (block base i (take 1048576 left) ++ blocks_to_end base k (pieces rest))) next
    ∙ ap (λ (r : List ℕ). old ++ (block base i (take 1048576 left) ++ blocks_to_end base (i + 1) (pieces r))) is_rest
    ∙ ap (λ (l : List ℕ). old ++ l) (sym (blocks_more base i left some))
    ∙ so_far

pub ended : (old new start whole base own : List ℕ) (i : ℕ) (left : List ℕ) → length left ≡ 0 → own ≡ base
    → old ++ blocks_to_end base i (pieces left) ≡ start ++ whole → new ≡ old ++ block own i [] → new ≡ start ++ whole
ended old new start whole base own i left none is_base so_far put =
    put ∙ ap (λ (b : List ℕ). old ++ block b i []) is_base ∙ ap (λ (l : List ℕ). old ++ l) (sym (blocks_end base i left none)) ∙ so_far

-- The first block of what is left, before other blocks.
next_more : (base : List ℕ) (i j : ℕ) (left head more : List ℕ) (k : ℕ) (rest : List ℕ) → 0 < length left → j ≡ i + 1
    → head ++ take 1048576 left ≡ block base i (take 1048576 left) → AreNext base j (drop 1048576 left) more k rest
    → AreNext base i left (head ++ take 1048576 left ++ more) k rest
next_more base i j left head more k rest some next is so_far =
    let end = blocks_to_end base k (pieces rest) in
    append_assoc (head ++ take 1048576 left) more end
    ∙ ap (λ (xs : List ℕ). xs ++ (more ++ end)) is
    ∙ ap (λ (xs : List ℕ). block base i (take 1048576 left) ++ xs) so_far
    ∙ ap (λ (n : ℕ). block base i (take 1048576 left) ++ blocks_to_end base n (pieces (drop 1048576 left))) next
    ∙ sym (blocks_more base i left some)

-- Four heads with the first four pieces of what is left are the next blocks.
pub four_next : (base : List ℕ) (i : ℕ) (left a b c d : List ℕ) (heads : List (List ℕ)) → 4194304 ≤ length left
    → a ≡ take 1048576 left → b ≡ take 1048576 (drop 1048576 left) → c ≡ take 1048576 (drop 1048576 (drop 1048576 left))
    → d ≡ take 1048576 (drop 1048576 (drop 1048576 (drop 1048576 left)))
    → ((j : ℕ) → j < 4 → slice_index_or heads j [] ++ one_of a b c d j ≡ block base (i + j) (one_of a b c d j))
    → AreNext base i left (headed 4 0 heads left) (i + 4) (drop 4194304 left)
unfolding headed
four_next base i left a b c d heads long is_a is_b is_c is_d is =
    let two : List ℕ = drop 1048576 left in
    let three : List ℕ = drop 1048576 two in
    let last : List ℕ = drop 1048576 three in
    let one_long = length-drop 1048576 left in
    let two_long = length-drop 1048576 two in
    let three_long = length-drop 1048576 three in
    let end : drop 1048576 last ≡ drop 4194304 left =
    ap (λ (xs : List ℕ). drop 1048576 (drop 1048576 xs)) (drop-drop 1048576 1048576 left)
    ∙ ap (λ (xs : List ℕ). drop 1048576 xs) (drop-drop 1048576 2097152 left) ∙ drop-drop 1048576 3145728 left in
    let put : (head piece first : List ℕ) (k : ℕ) → piece ≡ first → head ++ piece ≡ block base k piece → head ++ first ≡ block base k first =
    λ head piece first k same. subst (λ (xs : List ℕ). head ++ xs ≡ block base k xs) same in
    let head : ℕ → List ℕ = λ j. slice_index_or heads j [] in
    let index : i + 0 ≡ i = omega arith in
    next_more base i (i + 1) left (head 0) _ (i + 4) (drop 4194304 left) (omega (arith, long)) refl
    (put (head 0) a (take 1048576 left) i is_a (is 0 (omega arith) ∙ ap (λ (k : ℕ). block base k a) index))
    (next_more base (i + 1) (i + 2) two (head 1) _ (i + 4) (drop 4194304 left) (omega (arith, long, one_long)) (omega arith)
    (put (head 1) b (take 1048576 two) (i + 1) is_b (is 1 (omega arith)))
    (next_more base (i + 2) (i + 3) three (head 2) _ (i + 4) (drop 4194304 left) (omega (arith, long, one_long, two_long)) (omega arith)
    (put (head 2) c (take 1048576 three) (i + 2) is_c (is 2 (omega arith)))
    (next_more base (i + 3) (i + 4) last (head 3) [] (i + 4) (drop 4194304 left) (omega (arith, long, one_long, two_long, three_long)) (omega arith)
    (put (head 3) d (take 1048576 last) (i + 3) is_d (is 3 (omega arith)))
    (ap (λ (xs : List ℕ). blocks_to_end base (i + 4) (pieces xs)) (sym end)))))

-- The next blocks were appended.
pub went_on : (base old new bytes : List ℕ) (i j : ℕ) (left rest : List ℕ) → new ≡ old ++ bytes → AreNext base i left bytes j rest
    → GoesOn base old i left new j rest
went_on base old new bytes i j left rest put next =
    ap (λ (xs : List ℕ). xs ++ blocks_to_end base j (pieces rest)) put
    ∙ append_assoc old bytes (blocks_to_end base j (pieces rest))
    ∙ ap (λ (xs : List ℕ). old ++ xs) next

-- Of blocks whose heads are known, one more was appended.
pub one_headed : (heads : List (List ℕ)) (n m index : ℕ) (old new whole left first rest : List ℕ) → n ≡ suc m
    → first ≡ take 1048576 left → rest ≡ drop 1048576 left → old ++ headed n index heads left ≡ whole
    → new ≡ old ++ (slice_index_or heads index [] ++ first) → new ++ headed m (index + 1) heads rest ≡ whole
unfolding headed
one_headed heads n m index old new whole left first rest one is_first is_rest so_far put =
    let head = slice_index_or heads index [] in
    let next : index + 1 ≡ suc index = omega arith in
    let more = headed m (suc index) heads (drop 1048576 left) in
    ap (λ (k : ℕ). new ++ headed m k heads rest) next
    ∙ ap (λ (xs : List ℕ). new ++ headed m (suc index) heads xs) is_rest
    ∙ ap (λ (xs : List ℕ). xs ++ more) (put ∙ ap (λ (xs : List ℕ). old ++ (head ++ xs)) is_first)
    ∙ append_assoc old (head ++ take 1048576 left) more
    ∙ ap (λ (k : ℕ). old ++ headed k index heads left) (sym one)
    ∙ so_far

-- All of them were.
pub all_headed : (heads : List (List ℕ)) (n index : ℕ) (new whole left : List ℕ) → n ≡ 0 → new ++ headed n index heads left ≡ whole → new ≡ whole
unfolding headed
all_headed heads n index new whole left none so_far =
    sym (append-nil new) ∙ ap (λ (k : ℕ). new ++ headed k index heads left) (sym none) ∙ so_far
