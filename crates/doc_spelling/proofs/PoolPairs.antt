-- The pool of a document holds each of its attachments, under its number.
use Rattle.std.proofs.Common.{◌≡◌, ℕ, zero, suc, ◌+◌, ◌<◌, ◌≤◌, ◌==◌, ◌&&◌, ◌||◌, Bool, true, false, cond, Option, Some, None, List, [], ◌∷◌, ◌++◌, length, slice_get, flat_map, bytes_eq, ap, ap₂, sym, refl, ◌∙◌, arith}
use Rattle.std.proofs.lemmas.Bool.{ne_eqb, eq-eqb}
use Rattle.std.proofs.lemmas.List.Folds.{list_any-append}
use Rattle.std.proofs.lemmas.Slice.Eq.{bytes_eq-Decides}
use Rattle.std.specs.List.{list_any}
use Rattle.std.specs.Str.{is_utf8}
use Rattle.base64.specs.GeneralPurpose.{IsBytes}
use Rattle.vault_model.proofs.Tests.{and_true}
use Rattle.vault_model.specs.Bare.{BareAttachment}
use Rattle.doc_forms.specs.Attachments.{binaries_from, last_of_number}
use Rattle.doc_forms.specs.Metas.{ReadBinary}
use Rattle.doc_spelling.proofs.Goods.{Each}
use Rattle.doc_spelling.specs.Pool.{PoolPair, is_pair, same_bool, with_pairs, number_in}
use Rattle.doc_spelling.proofs.ReadAttachments.{HasBinary}
use Rattle.doc_spelling.proofs.ReadMetas.{GoodBinary}

-- ---- each of some things

pub each_both : {A : Type 0} (P : A → Type 0) (xs ys : List A) → Each P (xs ++ ys) → Each P xs × Each P ys
each_both P [] ys h = (tt, h)
each_both P (x ∷ xs) ys h = let rest = each_both P xs ys h.1 in ((h.0, rest.0), rest.1)

pub each_after : {A : Type 0} (P : A → Type 0) (xs ys : List A) → Each P xs → Each P ys → Each P (xs ++ ys)
each_after P [] ys h k = k
each_after P (x ∷ xs) ys h k = (h.0, each_after P xs ys h.1 k)

pub each_flat : {A B : Type 0} (P : B → Type 0) (Q : A → Type 0) (f : A → List B) (xs : List A) → ((x : A) → Q x → Each P (f x)) → Each Q xs → Each P (flat_map f xs)
each_flat P Q f [] g h = tt
each_flat P Q f (x ∷ xs) g h = each_after P (f x) (flat_map f xs) (g x h.0) (each_flat P Q f xs g h.1)

-- ---- pairs

same_pair : (p q : PoolPair) → is_pair p q ≡ true → (q.0 ≡ p.0) × (q.1 ≡ p.1)
same_pair p q e =
    let both = and_true (bytes_eq p.0 q.0) (same_bool p.1 q.1) e in
    (sym ((bytes_eq-Decides p.0 q.0).0 both.0), flags p.1 q.1 both.1)
  where
    flags : (a b : Bool) → same_bool a b ≡ true → b ≡ a
    flags true b e = e
    flags false true e = cc e
    flags false false e = refl

itself_pair : (p : PoolPair) → is_pair p p ≡ true
itself_pair p = ap₂ (λ a b. a && b) ((bytes_eq-Decides p.0 p.0).1 refl) (flag p.1)
  where
    flag : (b : Bool) → same_bool b b ≡ true
    flag true = refl
    flag false = refl

-- a pair is in a pool
abbrev pub IsIn : List PoolPair → PoolPair → Type 0
IsIn pool p = list_any (is_pair p) pool ≡ true

or_true : (a b : Bool) → a ≡ true → a || b ≡ true
or_true true b e = refl
or_true false b e = cc e

or_right : (a b : Bool) → b ≡ true → a || b ≡ true
or_right true b e = refl
or_right false b e = e

more : (pool : List PoolPair) (q p : PoolPair) → IsIn pool p → IsIn (pool ++ q ∷ []) p
more pool q p h = list_any-append (is_pair p) pool (q ∷ []) ∙ or_true (list_any (is_pair p) pool) _ h

newest : (pool : List PoolPair) (p : PoolPair) → IsIn (pool ++ p ∷ []) p
newest pool p = list_any-append (is_pair p) pool (p ∷ []) ∙ or_right (list_any (is_pair p) pool) _ (or_true (is_pair p p) false (itself_pair p))

either_way : {A : Type 0} (P : A → Type 0) (b : Bool) (x y : A) → (b ≡ true → P x) → (b ≡ false → P y) → P (cond b x y)
either_way P true x y f g = f refl
either_way P false x y f g = g refl

stays : (ps pool : List PoolPair) (p : PoolPair) → IsIn pool p → IsIn (with_pairs pool ps) p
stays [] pool p h = h
stays (q ∷ ps) pool p h =
    stays ps (cond (list_any (is_pair q) pool) pool (pool ++ q ∷ [])) p
    (either_way (λ (l : List PoolPair). IsIn l p) (list_any (is_pair q) pool) pool (pool ++ q ∷ []) (λ e. h) (λ e. more pool q p h))

pub all_in : (ps pool : List PoolPair) → Each (IsIn (with_pairs pool ps)) ps
all_in [] pool = tt
all_in (p ∷ ps) pool =
    let next = cond (list_any (is_pair p) pool) pool (pool ++ p ∷ []) in
    (stays ps next p (either_way (λ (l : List PoolPair). IsIn l p) (list_any (is_pair p) pool) pool (pool ++ p ∷ []) (λ e. e) (λ e. newest pool p)), all_in ps next)

pub each_new : (P : PoolPair → Type 0) (ps pool : List PoolPair) → Each P ps → Each P pool → Each P (with_pairs pool ps)
each_new P [] pool h k = k
each_new P (p ∷ ps) pool h k =
    each_new P ps (cond (list_any (is_pair p) pool) pool (pool ++ p ∷ [])) h.1
    (either_way (Each P) (list_any (is_pair p) pool) pool (pool ++ p ∷ []) (λ e. k) (λ e. each_after P pool (p ∷ []) k (h.0, tt)))

-- ---- numbers

-- The pair of a number in a pool.
pub record Stands (items : List PoolPair) (p : PoolPair) (n : ℕ) : Type 0 where
  pub pair : PoolPair
  pub at : slice_get items n ≡ Some pair
  pub same : is_pair p pair ≡ true
  pub within : n < length items

later : (q : PoolPair) (items : List PoolPair) (p : PoolPair) (n : ℕ) → Stands items p n → Stands (q ∷ items) p (1 + n)
later q items p n h = let e : 1 + n ≡ suc n = omega arith in record { pair = h.pair; at = rw e h.at; same = h.same; within = omega (arith, h.within) }

or_second : (a b : Bool) → a ≡ false → a || b ≡ true → b ≡ true
or_second true b e h = cc e
or_second false b e h = h

at_first : (q : PoolPair) (items : List PoolPair) (p : PoolPair) (n : ℕ) (b : Bool) → is_pair p q ≡ b → (IsIn items p → Stands items p n) → IsIn (q ∷ items) p → Stands (q ∷ items) p (cond b 0 (1 + n))
at_first q items p n true e next h = record { pair = q; at = refl; same = e; within = omega arith }
at_first q items p n false e next h = later q items p n (next (or_second (is_pair p q) (list_any (is_pair p) items) e h))

stands : (items : List PoolPair) (bytes : List ℕ) (hidden : Bool) → IsIn items (bytes, hidden) → Stands items (bytes, hidden) (number_in items (bytes, hidden))
stands [] bytes hidden h = cc h
stands (q ∷ items) bytes hidden h =
    at_first q items (bytes, hidden) (number_in items (bytes, hidden)) (is_pair (bytes, hidden) q) refl (stands items bytes hidden) h

unlike : (m n : ℕ) (b : ReadBinary) (found : Option ReadBinary) (rest : List ReadBinary) → (m == n) ≡ false → last_of_number n (cond (m == n) (Some b) found) rest ≡ last_of_number n found rest
unlike m n b found rest e = ap (λ c. last_of_number n (cond c (Some b) found) rest) e

-- no later binary has the number
none_later : (items : List PoolPair) (m n : ℕ) (found : Option ReadBinary) → n < m → last_of_number n found (binaries_from m items) ≡ found
none_later [] m n found h = refl
none_later (p ∷ items) m n found h =
    unlike m n _ found (binaries_from (m + 1) items) (ne_eqb m n (omega arith)) ∙ none_later items (m + 1) n found (omega arith)

at_place : (items : List PoolPair) (m k n : ℕ) (x : PoolPair) (found : Option ReadBinary) → n ≡ m + k → slice_get items k ≡ Some x
    → last_of_number n found (binaries_from m items) ≡ Some (record { number = n; bytes = x.0; hidden = x.1 })
at_place [] m k n x found e h = cc h
at_place (y ∷ items) m zero n x found e h =
    let same : y ≡ x = cc h in
    let here : m ≡ n = omega arith in
    ap (λ c. last_of_number n (cond c (Some (record { number = m; bytes = y.0; hidden = y.1 })) found) (binaries_from (m + 1) items)) (eq-eqb m n here)
    ∙ (none_later items (m + 1) n (Some (record { number = m; bytes = y.0; hidden = y.1 })) (omega arith)
    ∙ ap₂ (λ (k : ℕ) (p : PoolPair). let b : ReadBinary = record { number = k; bytes = p.0; hidden = p.1 } in Some b) here same)
at_place (y ∷ items) m (suc k) n x found e h =
    unlike m n _ found (binaries_from (m + 1) items) (ne_eqb m n (omega arith)) ∙ at_place items (m + 1) k n x found (omega arith) h

pub held : (items : List PoolPair) (a : BareAttachment) → is_utf8 a.name ≡ true → length items ≤ 18446744073709551616 → IsIn items (a.bytes, a.hidden) → HasBinary (binaries_from 0 items) items a
held items a name small h =
    let s = stands items a.bytes a.hidden h in
    let n = number_in items (a.bytes, a.hidden) in
    let same = same_pair (a.bytes, a.hidden) s.pair s.same in
    record {
      name = name;
      small = omega (arith, s.within);
      binary = record { number = n; bytes = s.pair.0; hidden = s.pair.1 };
      found = at_place items 0 n n s.pair None (omega arith) s.at;
      bytes = same.0;
      hidden = same.1;
    }

pub numbers_good : (items : List PoolPair) (m : ℕ) → m + length items ≤ 18446744073709551616 → Each (λ (p : PoolPair). IsBytes p.0) items → Each GoodBinary (binaries_from m items)
numbers_good [] m small h = tt
numbers_good (p ∷ items) m small h = (record { number = omega arith; bytes = h.0 }, numbers_good items (m + 1) (omega arith) h.1)
