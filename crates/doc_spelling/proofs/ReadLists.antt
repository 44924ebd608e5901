-- Things side by side are read one after another, and rising ones keep their order.
use Rattle.std.proofs.Common.{◌≡◌, ℕ, true, Option, Some, None, List, [], ◌∷◌, ◌++◌, ap, sym, refl, ◌∙◌, append_assoc, append-nil}
use Rattle.std.specs.List.{list_all}
use Rattle.std.specs.Ordering.{is_lt, ordering_reverse}
use Rattle.std.specs.declared.cmp.Ordering.{Ordering}
use Rattle.std.specs.declared.cmp.Ordering.TheVariants.{Less, Equal, Greater}
use Rattle.std.proofs.lemmas.List.Folds.{list_all-append}
use Rattle.vault_model.proofs.Orders.{bytes_order}
use Rattle.vault_model.proofs.Tests.{and_true}
use Rattle.vault_model.specs.Orders.{bytes_cmp}
use Rattle.vault_model.specs.Proper.{rises}
use Rattle.doc_forms.specs.ElementTexts.{Setting}
use Rattle.doc_forms.specs.Children.{Child}
use Rattle.doc_forms.specs.Tables.{put}
use Rattle.doc_spelling.proofs.Goods.{Each, If}
use Rattle.doc_spelling.specs.Ranges.{count_all}
use Rattle.doc_spelling.specs.Pieces.{Piece, pieces_of, piece_if}
use Rattle.doc_spelling.proofs.Frame.{Reads, ReadsAll, reads_none, ◌▸◌}

-- a step for each of some things, one after another
abbrev pub fold_over : {A V : Type 0} → (A → V → V) → V → List A → V
fold_over step v [] = v
fold_over step v (x ∷ xs) = fold_over step (step x v) xs

module _ {A P V : Type 0} {s : Setting} {view : P → V} {child : Child P} (piece : A → Piece) (step : A → V → V) (Good : A → Type 0) where
  pub each_piece : (count : A → ℕ) → ((x : A) → Good x → Reads s view child (piece x) (step x) (count x)) → (xs : List A) → Each Good xs
      → ReadsAll s view child (pieces_of piece xs) (λ v. fold_over step v xs) (count_all count xs)
  each_piece count reads [] good = reads_none
  each_piece count reads (x ∷ xs) good = reads x good.0 ▸ each_piece count reads xs good.1

  -- the same where none of them is a node
  pub each_leaf : ((x : A) → Good x → Reads s view child (piece x) (step x) 0) → (xs : List A) → Each Good xs
      → ReadsAll s view child (pieces_of piece xs) (λ v. fold_over step v xs) 0
  each_leaf reads [] good = reads_none
  each_leaf reads (x ∷ xs) good = reads x good.0 ▸ each_leaf reads xs good.1

-- a step for a thing, where there is one
abbrev pub step_if : {A V : Type 0} → (A → V → V) → Option A → V → V
step_if step None v = v
step_if step (Some x) v = step x v

pub maybe_piece : {A P V : Type 0} {s : Setting} {view : P → V} {child : Child P} (piece : A → Piece) (step : A → V → V) (Good : A → Type 0)
    → ((x : A) → Good x → Reads s view child (piece x) (step x) 0) → (o : Option A) → If Good o
    → ReadsAll s view child (piece_if piece o) (λ v. step_if step o v) 0
maybe_piece piece step Good reads None good = reads_none
maybe_piece piece step Good reads (Some x) good = reads x good ▸ reads_none

-- steps that change a part of what is known
pub fold_along : {A V L : Type 0} (part : V → L) (put_in : V → L → V) (step : A → L → L)
    → ((v : V) → put_in v (part v) ≡ v) → ((v : V) (l : L) → part (put_in v l) ≡ l) → ((v : V) (l m : L) → put_in (put_in v l) m ≡ put_in v m)
    → (v : V) (xs : List A) → fold_over (λ x v. put_in v (step x (part v))) v xs ≡ put_in v (fold_over step (part v) xs)
fold_along part put_in step same back twice v [] = sym (same v)
fold_along part put_in step same back twice v (x ∷ xs) =
    fold_along part put_in step same back twice (put_in v (step x (part v))) xs
    ∙ (ap (λ l. put_in (put_in v (step x (part v))) (fold_over step l xs)) (back v (step x (part v)))
    ∙ twice v (step x (part v)) (fold_over step (step x (part v)) xs))

-- steps that append a thing each
pub append_all : {A : Type 0} (front xs : List A) → fold_over (λ x l. l ++ x ∷ []) front xs ≡ front ++ xs
append_all front [] = sym (append-nil front)
append_all front (x ∷ xs) = append_all (front ++ x ∷ []) xs ∙ append_assoc front (x ∷ []) xs

-- ---- rising lists

less_from : (r : Ordering) → is_lt r ≡ true → r ≡ Less
less_from Less e = refl
less_from Equal e = cc e
less_from Greater e = cc e

module _ {A : Type 0} (key : A → List ℕ) where
  turned : (x y : A) → is_lt (bytes_cmp (key y) (key x)) ≡ true → bytes_cmp (key x) (key y) ≡ Greater
  turned x y e = bytes_order.total.antisymm (key x) (key y) ∙ ap ordering_reverse (less_from (bytes_cmp (key y) (key x)) e)

  put_last : (front : List A) (x : A) (xs : List A) → rises key (front ++ x ∷ xs) ≡ true → put key x front ≡ front ++ x ∷ []
  put_last [] x xs up = refl
  put_last (y ∷ ys) x xs up =
      let test = λ (z : A). is_lt (bytes_cmp (key y) (key z)) in
      let both = and_true (list_all test (ys ++ x ∷ xs)) (rises key (ys ++ x ∷ xs)) up in
      let all = and_true (list_all test ys) (list_all test (x ∷ xs)) (sym (list_all-append test ys (x ∷ xs)) ∙ both.0) in
      let below = (and_true (test x) (list_all test xs) all.1).0 in
      rw (turned x y below) (ap (λ l. y ∷ l) (put_last ys x xs both.1))

  pub put_all : (front xs : List A) → rises key (front ++ xs) ≡ true → fold_over (put key) front xs ≡ front ++ xs
  put_all front [] up = sym (append-nil front)
  put_all front (x ∷ xs) up =
      ap (λ l. fold_over (put key) l xs) (put_last front x xs up)
      ∙ (put_all (front ++ x ∷ []) xs (ap (rises key) (append_assoc front (x ∷ []) xs) ∙ up) ∙ append_assoc front (x ∷ []) xs)
