-- Numbers that are put after a text one by one, each with what it is of.
use Rattle.std.proofs.Common.{◌≡◌, ℕ, List, ◌++◌, refl, ap, ◌∙◌}
use Rattle.std.specs.Fmt.{decimal}
use Rattle.merge_details.proofs.JoinedTexts.{one_more}

-- one number more
number_more : (t a u w v : List ℕ) (m n : ℕ) → u ≡ t ++ a → v ≡ (u ++ decimal m) ++ w → m ≡ n → v ≡ t ++ ((a ++ decimal n) ++ w)
number_more t a u w v m n first second is =
    let number = one_more t a u (decimal n) (u ++ decimal n) first refl in
    one_more t (a ++ decimal n) (u ++ decimal n) w v number (second ∙ ap (λ k. (u ++ decimal k) ++ w) is)

-- five numbers
pub numbers_put : (t w1 w2 w3 w4 w5 t1 t2 t3 t4 t5 : List ℕ) (m1 m2 m3 m4 n1 n2 n3 n4 n5 : ℕ)
    → t1 ≡ (t ++ decimal m1) ++ w1 → m1 ≡ n1 → t2 ≡ (t1 ++ decimal m2) ++ w2 → m2 ≡ n2 → t3 ≡ (t2 ++ decimal m3) ++ w3 → m3 ≡ n3
    → t4 ≡ (t3 ++ decimal m4) ++ w4 → m4 ≡ n4 → t5 ≡ (t4 ++ decimal n5) ++ w5
    → t5 ≡ t ++ (((((((((decimal n1 ++ w1) ++ decimal n2) ++ w2) ++ decimal n3) ++ w3) ++ decimal n4) ++ w4) ++ decimal n5) ++ w5)
numbers_put t w1 w2 w3 w4 w5 t1 t2 t3 t4 t5 m1 m2 m3 m4 n1 n2 n3 n4 n5 p1 is1 p2 is2 p3 is3 p4 is4 p5 =
    let q1 = one_more t (decimal n1) (t ++ decimal n1) w1 t1 refl (p1 ∙ ap (λ k. (t ++ decimal k) ++ w1) is1) in
    let q2 = number_more t (decimal n1 ++ w1) t1 w2 t2 m2 n2 q1 p2 is2 in
    let q3 = number_more t (((decimal n1 ++ w1) ++ decimal n2) ++ w2) t2 w3 t3 m3 n3 q2 p3 is3 in
    let q4 = number_more t (((((decimal n1 ++ w1) ++ decimal n2) ++ w2) ++ decimal n3) ++ w3) t3 w4 t4 m4 n4 q3 p4 is4 in
    number_more t (((((((decimal n1 ++ w1) ++ decimal n2) ++ w2) ++ decimal n3) ++ w3) ++ decimal n4) ++ w4) t4 w5 t5 n5 n5 q4 p5 refl
