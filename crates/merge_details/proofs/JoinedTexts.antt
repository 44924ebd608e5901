-- Texts that are put after a text one by one.
use Rattle.std.proofs.Common.{◌≡◌, ℕ, List, ◌++◌, append_assoc, refl, ap, ◌∙◌}

-- one piece more
pub one_more : (t a u b v : List ℕ) → u ≡ t ++ a → v ≡ u ++ b → v ≡ t ++ (a ++ b)
one_more t a u b v first second = second ∙ ap (λ w. w ++ b) first ∙ append_assoc t a b

-- one piece more, which is this text
pub piece_more : (t a u b c v : List ℕ) → u ≡ t ++ a → v ≡ u ++ c → c ≡ b → v ≡ t ++ (a ++ b)
piece_more t a u b c v first second is = one_more t a u b v first (second ∙ ap (λ w. u ++ w) is)

-- the pieces of a line, of which the third to the fifth are put at once
pub line_put : (t a b c d e f g h i t1 t2 t3 t4 t5 t6 t7 b' f' h' : List ℕ)
    → t1 ≡ t ++ a → t2 ≡ t1 ++ b' → b' ≡ b → t3 ≡ ((t2 ++ c) ++ d) ++ e → t4 ≡ t3 ++ f' → f' ≡ f → t5 ≡ t4 ++ g → t6 ≡ t5 ++ h' → h' ≡ h → t7 ≡ t6 ++ i
    → t7 ≡ t ++ ((((((((a ++ b) ++ c) ++ d) ++ e) ++ f) ++ g) ++ h) ++ i)
line_put t a b c d e f g h i t1 t2 t3 t4 t5 t6 t7 b' f' h' p1 p2 is2 p3 p4 is4 p5 p6 is6 p7 =
    let q2 = piece_more t a t1 b b' t2 p1 p2 is2 in
    let q3c = one_more t (a ++ b) t2 c (t2 ++ c) q2 refl in
    let q3d = one_more t ((a ++ b) ++ c) (t2 ++ c) d ((t2 ++ c) ++ d) q3c refl in
    let q3 = one_more t (((a ++ b) ++ c) ++ d) ((t2 ++ c) ++ d) e t3 q3d p3 in
    let q4 = piece_more t ((((a ++ b) ++ c) ++ d) ++ e) t3 f f' t4 q3 p4 is4 in
    let q5 = one_more t (((((a ++ b) ++ c) ++ d) ++ e) ++ f) t4 g t5 q4 p5 in
    let q6 = piece_more t ((((((a ++ b) ++ c) ++ d) ++ e) ++ f) ++ g) t5 h h' t6 q5 p6 is6 in
    one_more t (((((((a ++ b) ++ c) ++ d) ++ e) ++ f) ++ g) ++ h) t6 i t7 q6 p7
