-- One more thing in a list that rises by keys.
use Rattle.std.proofs.Common.{◌≡◌, ℕ, zero, suc, ◌+◌, ◌≤◌, true, false, cond, Some, None, List, [], ◌∷◌, ◌++◌, length, take, drop, refl, ap, sym, ◌∙◌, arith}
use Rattle.std.proofs.lemmas.List.{take-append-drop}
use Rattle.std.specs.List.{slice_get, insert, remove}
use Rattle.std.specs.Ordering.{is_gt, is_eq}
use Rattle.std.specs.declared.cmp.Ordering.{Ordering}
use Rattle.std.specs.declared.cmp.Ordering.TheVariants.{Less, Equal, Greater}
use Rattle.vault_model.specs.Orders.{bytes_cmp}
use Rattle.doc_forms.specs.Tables.{put_beside, put}
use Rattle.doc_forms.specs.Tables.{position_of, without_key}

one_more : (n : ℕ) → 1 + n ≡ suc n
one_more n = omega arith

-- what the first of some things makes of it, by how the keys compare
put_step : {A : Type 0} (o : Ordering) (key : A → List ℕ) (k : List ℕ) (x y : A) (ys after : List A) (n : ℕ)
    → after ≡ take n ys ++ x ∷ without_key key k (drop n ys)
    → is_eq (bytes_cmp k (key y)) ≡ is_eq o
    → put_beside o x y ys after ≡ take (cond (is_gt o) (1 + n) 0) (y ∷ ys) ++ x ∷ without_key key k (drop (cond (is_gt o) (1 + n) 0) (y ∷ ys))
put_step Less key k x y ys after n e same = ap (λ b. x ∷ cond b ys (y ∷ ys)) (sym same)
put_step Equal key k x y ys after n e same = ap (λ b. x ∷ cond b ys (y ∷ ys)) (sym same)
put_step Greater key k x y ys after n e same = rw (one_more n) (ap (λ l. y ∷ l) e)

-- it is put at the position of its key, in the place of what has its key
pub put_at_position : {A : Type 0} (key : A → List ℕ) (x : A) (list : List A)
    → put key x list ≡ take (position_of key (key x) list) list ++ x ∷ without_key key (key x) (drop (position_of key (key x) list) list)
put_at_position key x [] = refl
put_at_position key x (y ∷ ys) =
    put_step (bytes_cmp (key x) (key y)) key (key x) x y ys (put key x ys) (position_of key (key x) ys) (put_at_position key x ys) refl

inserted : {A : Type 0} (list w : List A) (n : ℕ) (x : A) → n ≤ length list → insert (take n list ++ w) n x ≡ take n list ++ x ∷ w
inserted list w zero x h = refl
inserted [] w (suc n) x h = absurd (omega arith)
inserted (y ∷ list) w (suc n) x h = ap (λ l. y ∷ l) (inserted list w n x (omega arith))

-- what is inserted at the position, where what had the key is gone, has been put there
pub put_done : {A : Type 0} (key : A → List ℕ) (x : A) (list rest new : List A) (at : ℕ)
    → at ≡ position_of key (key x) list → at ≤ length list
    → rest ≡ take at list ++ without_key key (key x) (drop at list) → new ≡ insert rest at x → put key x list ≡ new
put_done key x list rest new at is within r n =
    put_at_position key x list
    ∙ (ap (λ m. take m list ++ x ∷ without_key key (key x) (drop m list)) (sym is)
    ∙ (sym (inserted list (without_key key (key x) (drop at list)) at x within) ∙ (ap (λ l. insert l at x) (sym r) ∙ sym n)))

-- ---- the item at a position

pub drop_at : {A : Type 0} (list : List A) (i : ℕ) (x : A) → slice_get list i ≡ Some x → drop i list ≡ x ∷ drop (suc i) list
drop_at [] i x e = cc
drop_at (y ∷ ys) zero x e = cc
drop_at (y ∷ ys) (suc i) x e = drop_at ys i x e

drop_past : {A : Type 0} (list : List A) (i : ℕ) → slice_get list i ≡ None → drop i list ≡ []
drop_past [] zero e = refl
drop_past [] (suc i) e = refl
drop_past (y ∷ ys) zero e = cc
drop_past (y ∷ ys) (suc i) e = drop_past ys i e

without_at : {A : Type 0} (key : A → List ℕ) (k : List ℕ) (list : List A) (i : ℕ) (x : A) → slice_get list i ≡ Some x
    → without_key key k (drop i list) ≡ cond (is_eq (bytes_cmp k (key x))) (drop (suc i) list) (x ∷ drop (suc i) list)
without_at key k list i x e = ap (without_key key k) (drop_at list i x e)

whole : {A : Type 0} (list rest : List A) (i : ℕ) → rest ≡ drop i list → list ≡ take i list ++ rest
whole list rest i e = sym (take-append-drop i list) ∙ ap (λ l. take i list ++ l) (sym e)

pub nothing_there : {A : Type 0} (key : A → List ℕ) (k : List ℕ) (list : List A) (i : ℕ) → slice_get list i ≡ None
    → list ≡ take i list ++ without_key key k (drop i list)
nothing_there key k list i e = let past = drop_past list i e in whole list _ i (ap (without_key key k) past ∙ sym past)

pub other_there : {A : Type 0} (key : A → List ℕ) (k : List ℕ) (list : List A) (i : ℕ) (x : A) → slice_get list i ≡ Some x
    → is_eq (bytes_cmp k (key x)) ≡ false → list ≡ take i list ++ without_key key k (drop i list)
other_there key k list i x e other =
    whole list _ i (without_at key k list i x e ∙ (ap (λ b. cond b (drop (suc i) list) (x ∷ drop (suc i) list)) other ∙ sym (drop_at list i x e)))

pub same_there : {A : Type 0} (key : A → List ℕ) (k : List ℕ) (list : List A) (i : ℕ) (x : A) → slice_get list i ≡ Some x
    → is_eq (bytes_cmp k (key x)) ≡ true → remove list i ≡ take i list ++ without_key key k (drop i list)
same_there key k list i x e same =
    ap (λ l. take i list ++ l) (sym (without_at key k list i x e ∙ ap (λ b. cond b (drop (suc i) list) (x ∷ drop (suc i) list)) same))
