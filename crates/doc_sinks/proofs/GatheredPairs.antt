-- Pairs are gathered one after another.
use Rattle.std.proofs.Common.{◌≡◌, ℕ, suc, ◌+◌, ◌<◌, ◌≤◌, Bool, true, false, cond, Option, Some, is_some, List, [], ◌∷◌, ◌++◌, map, length, take, get_or, refl, sym, ap, subst, ◌∙◌, arith, add-one, append-nil}
use Rattle.std.proofs.Math.Seq.{take-suc}
use Rattle.std.proofs.lemmas.Bool.Decides.{same_from_decides, Decides-and}
use Rattle.std.proofs.lemmas.Cmp.{tied_itself}
use Rattle.std.proofs.lemmas.Grind.{flat_map-append}
use Rattle.std.proofs.lemmas.List.{map-append, take_all}
use Rattle.std.proofs.lemmas.List.Folds.{list_any-append}
use Rattle.std.proofs.lemmas.Slice.Eq.{bytes_eq-Decides}
use Rattle.std.specs.Bool.{Decides}
use Rattle.std.specs.BTreeMap.{BTreeMap, get}
use Rattle.std.specs.List.{list_any, flat_map}
use Rattle.std.specs.Ordering.{is_eq, on}
use Rattle.std.specs.declared.cmp.Ordering.{Ordering}
use Rattle.std.specs.declared.cmp.Ordering.TheVariants.{Less, Equal, Greater}
use Rattle.vault_model.proofs.Orders.{IsOrder, pairs_order, bytes_order, bool_order}
use Rattle.vault_model.specs.SeenNodes.{entry_row, tree_seen, tree_step}
use Rattle.vault_model.specs.Tree.{Tree, all_trees, entry_rows, entry_rows_all}
use Rattle.vault_model.specs.declared.forms.PoolItem.{PoolItem}
use Rattle.vault_model.specs.declared.nodes.Entry.{Entry}
use Rattle.vault_model.specs.declared.nodes.Group.{Group, out-Group}
use Rattle.vault_model.specs.declared.nodes.Group.TheFolds.{fold_out-Group}
use Rattle.doc_spelling.specs.DocForms.SeenDocuments.{pool_item}
use Rattle.doc_sinks.specs.Gathering.{Gathered, Gathers, HasNumbers, number_at}
use Rattle.doc_sinks.specs.Pairs.{pool_pair, pool_pair_cmp}
use Rattle.doc_sinks.specs.declared.pairs.Pair.{Pair}
use Rattle.doc_spelling.specs.Pool.{PoolPair, entry_pairs, is_pair, number_in, same_bool, with_pair, with_pairs}

-- ---- the two tests of equality

pair_order : IsOrder pool_pair_cmp
unfolding pool_pair_cmp
pair_order = pairs_order bytes_order bool_order

equal_tie : (o : Ordering) → is_eq o ≡ true → o ≡ Equal
equal_tie Less e = cc e
equal_tie Equal e = refl
equal_tie Greater e = cc e

cmp_decides : (p q : PoolPair) → Decides (is_eq (pool_pair_cmp p q)) (p ≡ q)
cmp_decides p q = (
  λ e. pair_order.same p q (equal_tie _ e),
  λ e. subst (λ r. is_eq (pool_pair_cmp p r) ≡ true) e (ap is_eq (tied_itself pair_order.total p)),
)

bool_decides : (a b : Bool) → Decides (same_bool a b) (a ≡ b)
bool_decides true true = (λ e. refl, λ e. refl)
bool_decides true false = (λ e. cc e, λ e. cc e)
bool_decides false true = (λ e. cc e, λ e. cc e)
bool_decides false false = (λ e. refl, λ e. refl)

pub pair_decides : (p q : PoolPair) → Decides (is_pair p q) (p ≡ q)
pair_decides p q =
    let both = Decides-and _ _ (bytes_eq-Decides p.0 q.0) (bool_decides p.1 q.1) in (
      λ e. let parts = both.0 e in λ i. (parts.0 i, parts.1 i),
      λ e. both.1 (ap (λ (r : PoolPair). r.0) e, ap (λ (r : PoolPair). r.1) e),
    )

flipped : {A : Type 0} (b : Bool) (x y : A) → Decides b (x ≡ y) → Decides b (y ≡ x)
flipped b x y d = (λ e. sym (d.0 e), λ e. d.1 (sym e))

same_test : (p q : PoolPair) → is_eq (pool_pair_cmp p q) ≡ is_pair q p
same_test p q = same_from_decides _ _ (cmp_decides p q) (flipped _ q p (pair_decides q p))

-- ---- one more pair at the end of a pool

number_before : (pool : List PoolPair) (p q : PoolPair) → list_any (is_pair q) pool ≡ true → number_in (pool ++ p ∷ []) q ≡ number_in pool q
number_before [] p q e = cc e
number_before (x ∷ pool) p q e =
    let step : (b : Bool) → is_pair q x ≡ b → number_in (x ∷ (pool ++ p ∷ [])) q ≡ number_in (x ∷ pool) q =
    elim [ true ↦ λ here. rw here refl | false ↦ λ other. rw other (omega (arith, number_before pool p q (rw other at e))) ] in
    step (is_pair q x) refl

pub number_absent : (pool : List PoolPair) (q : PoolPair) → list_any (is_pair q) pool ≡ false → number_in pool q ≡ length pool
number_absent [] q e = refl
number_absent (x ∷ pool) q e =
    let step : (b : Bool) → is_pair q x ≡ b → number_in (x ∷ pool) q ≡ suc (length pool) =
    elim [ true ↦ λ here. let no : true ≡ false = rw here at e in cc no | false ↦ λ other. rw other (omega (arith, number_absent pool q (rw other at e))) ] in
    step (is_pair q x) refl

number_last : (pool : List PoolPair) (p q : PoolPair) → list_any (is_pair q) pool ≡ false → is_pair q p ≡ true → number_in (pool ++ p ∷ []) q ≡ length pool
number_last [] p q e here = rw here refl
number_last (x ∷ pool) p q e here =
    let step : (b : Bool) → is_pair q x ≡ b → number_in (x ∷ (pool ++ p ∷ [])) q ≡ suc (length pool) =
    elim [ true ↦ λ found. let no : true ≡ false = rw found at e in cc no | false ↦ λ other. rw other (omega (arith, number_last pool p q (rw other at e) here)) ] in
    step (is_pair q x) refl

-- its number, and those of the others
pub number_more : (pool : List PoolPair) (p q : PoolPair) → list_any (is_pair p) pool ≡ false
    → cond (is_eq (pool_pair_cmp p q)) (Some (length pool)) (number_at pool q) ≡ number_at (pool ++ p ∷ []) q
number_more pool p q absent = by_test (is_pair q p) refl
  where
    by_test : (b : Bool) → is_pair q p ≡ b → cond (is_eq (pool_pair_cmp p q)) (Some (length pool)) (number_at pool q) ≡ number_at (pool ++ p ∷ []) q
    by_test true here =
        let same : q ≡ p = (pair_decides q p).0 here in
        let absent_too : list_any (is_pair q) pool ≡ false = subst (λ r. list_any (is_pair r) pool ≡ false) (sym same) absent in
        rw (same_test p q, list_any-append (is_pair q) pool (p ∷ []), absent_too, here, number_last pool p q absent_too here) refl
    by_test false other = by_place (list_any (is_pair q) pool) refl
      where
        by_place : (b : Bool) → list_any (is_pair q) pool ≡ b → cond (is_eq (pool_pair_cmp p q)) (Some (length pool)) (number_at pool q) ≡ number_at (pool ++ p ∷ []) q
        by_place true there = rw (same_test p q, list_any-append (is_pair q) pool (p ∷ []), there, other, number_before pool p q there) refl
        by_place false nowhere = rw (same_test p q, list_any-append (is_pair q) pool (p ∷ []), nowhere, other) refl

length_seen : (items : List PoolItem) → length (map pool_item items) ≡ length items
length_seen [] = refl
length_seen (x ∷ items) = ap suc (length_seen items)

-- ---- steps

pub gathers_none : (numbers : BTreeMap Pair ℕ) (items : List PoolItem) → Gathers numbers items numbers items []
unfolding Gathers
gathers_none numbers items h = record { pool = refl; numbers = h }

with_both : (pool ps qs : List PoolPair) → with_pairs pool (ps ++ qs) ≡ with_pairs (with_pairs pool ps) qs
with_both pool [] qs = refl
with_both pool (p ∷ ps) qs = with_both (with_pair pool p) ps qs

pub gathers_both : (a b c : BTreeMap Pair ℕ) (x y z : List PoolItem) (ps qs : List PoolPair)
    → Gathers a x b y ps → Gathers b y c z qs → Gathers a x c z (ps ++ qs)
unfolding Gathers
gathers_both a b c x y z ps qs f g h =
    let one = f h in
    let two = g one.numbers in
    record {
      pool = two.pool ∙ ap (λ pool. with_pairs pool qs) one.pool ∙ sym (with_both (map pool_item x) ps qs);
      numbers = two.numbers;
    }

at_some : (pool : List PoolPair) (p : PoolPair) → is_some (number_at pool p) ≡ true → list_any (is_pair p) pool ≡ true
at_some pool p e = by_test (list_any (is_pair p) pool) refl
  where
    by_test : (b : Bool) → list_any (is_pair p) pool ≡ b → list_any (is_pair p) pool ≡ true
    by_test true there = there
    by_test false nowhere = cc (rw nowhere at e)

at_none : (pool : List PoolPair) (p : PoolPair) → is_some (number_at pool p) ≡ false → list_any (is_pair p) pool ≡ false
at_none pool p e = by_test (list_any (is_pair p) pool) refl
  where
    by_test : (b : Bool) → list_any (is_pair p) pool ≡ b → list_any (is_pair p) pool ≡ false
    by_test true there = cc (rw there at e)
    by_test false nowhere = nowhere

-- a pair that is there already
pub gathers_known : (numbers : BTreeMap Pair ℕ) (items : List PoolItem) (p : Pair) (q : PoolPair) → pool_pair p ≡ q
    → is_some (get (on pool_pair pool_pair_cmp) numbers p) ≡ true → Gathers numbers items numbers items (q ∷ [])
unfolding Gathers
gathers_known numbers items p q seen found h =
    let there : list_any (is_pair q) (map pool_item items) ≡ true =
    at_some (map pool_item items) q (subst (λ r. is_some (number_at (map pool_item items) r) ≡ true) seen (ap is_some (sym (h p)) ∙ found)) in
    record { pool = rw there refl; numbers = h }

-- a new pair
pub gathers_new : (before after : BTreeMap Pair ℕ) (items more : List PoolItem) (item : PoolItem) (p : Pair) (q : PoolPair) (n : ℕ) → pool_pair p ≡ q
    → is_some (get (on pool_pair pool_pair_cmp) before p) ≡ false
    → n ≡ length items
    → ((k : Pair) → get (on pool_pair pool_pair_cmp) after k ≡ cond (is_eq (on pool_pair pool_pair_cmp p k)) (Some n) (get (on pool_pair pool_pair_cmp) before k))
    → pool_item item ≡ q → more ≡ items ++ item ∷ []
    → Gathers before items after more (q ∷ [])
unfolding Gathers
gathers_new before after items more item p q n seen absent count updates bytes pushed h =
    let pool = map pool_item items in
    let nowhere : list_any (is_pair q) pool ≡ false =
    at_none pool q (subst (λ r. is_some (number_at pool r) ≡ false) seen (ap is_some (sym (h p)) ∙ absent)) in
    let whole : map pool_item more ≡ pool ++ q ∷ [] =
    ap (map pool_item) pushed ∙ map-append pool_item items (item ∷ []) ∙ ap (λ r. pool ++ r ∷ []) bytes in
    let size : n ≡ length pool = count ∙ sym (length_seen items) in
    record {
      pool = whole ∙ rw nowhere refl;
      numbers = λ k.
          updates k
          ∙ ap (λ (r : PoolPair). cond (is_eq (pool_pair_cmp r (pool_pair k))) (Some n) (get (on pool_pair pool_pair_cmp) before k)) seen
          ∙ ap (λ (o : Option ℕ). cond (is_eq (pool_pair_cmp q (pool_pair k))) (Some n) o) (h k)
          ∙ ap (λ (m : ℕ). cond (is_eq (pool_pair_cmp q (pool_pair k))) (Some m) (number_at pool (pool_pair k))) size
          ∙ number_more pool q (pool_pair k) nowhere
          ∙ sym (ap (λ ps. number_at ps (pool_pair k)) whole);
    }

-- ---- a loop over a list

taken : {A : Type 0} (xs : List A) (i : ℕ) (item : A) → i < length xs → item ≡ get_or xs i item → take (i + 1) xs ≡ take i xs ++ item ∷ []
taken xs i item below here = ap (λ (n : ℕ). take n xs) (add-one i) ∙ take-suc xs i item below ∙ ap (λ y. take i xs ++ y ∷ []) (sym here)

module _ {A B : Type 0} (a b c : BTreeMap Pair ℕ) (x y z : List PoolItem) (g : A → B) (xs : List A) (i : ℕ) (item : A)
    (below : i < length xs) (here : item ≡ get_or xs i item) where
  -- one more item of which each gives pairs
  pub gathers_more : (f : B → List PoolPair) → Gathers a x b y (flat_map f (map g (take i xs))) → Gathers b y c z (f (g item))
      → Gathers a x c z (flat_map f (map g (take (i + 1) xs)))
  gathers_more f before now =
      let split : flat_map f (map g (take (i + 1) xs)) ≡ flat_map f (map g (take i xs)) ++ f (g item) =
      ap (λ ys. flat_map f (map g ys)) (taken xs i item below here)
      ∙ ap (flat_map f) (map-append g (take i xs) (item ∷ []))
      ∙ flat_map-append f (map g (take i xs)) (g item ∷ [])
      ∙ ap (λ ys. flat_map f (map g (take i xs)) ++ ys) (append-nil (f (g item))) in
      subst (Gathers a x c z) (sym split) (gathers_both a b c x y z _ _ before now)

  -- one more item of which each gives one pair
  pub gathers_next : (f : B → PoolPair) → Gathers a x b y (map f (map g (take i xs))) → Gathers b y c z (f (g item) ∷ [])
      → Gathers a x c z (map f (map g (take (i + 1) xs)))
  gathers_next f before now =
      let split : map f (map g (take (i + 1) xs)) ≡ map f (map g (take i xs)) ++ f (g item) ∷ [] =
      ap (λ ys. map f (map g ys)) (taken xs i item below here)
      ∙ ap (map f) (map-append g (take i xs) (item ∷ []))
      ∙ map-append f (map g (take i xs)) (g item ∷ []) in
      subst (Gathers a x c z) (sym split) (gathers_both a b c x y z _ _ before now)

-- no item is left
pub gathers_end : {A : Type 0} (a b : BTreeMap Pair ℕ) (x y : List PoolItem) (f : List A → List PoolPair) (xs whole : List A) (i : ℕ)
    → length xs ≤ i → xs ≡ whole → Gathers a x b y (f (take i xs)) → Gathers a x b y (f whole)
gathers_end a b x y f xs whole i past same h = subst (λ ys. Gathers a x b y (f ys)) (take_all i xs past ∙ same) h

-- ---- a group

-- the pairs of a group
abbrev pub tree_pairs : Tree → List PoolPair
tree_pairs t = flat_map entry_pairs (entry_rows t)

pairs_below : (ts : List Tree) → flat_map entry_pairs (entry_rows_all (all_trees ts)) ≡ flat_map tree_pairs ts
pairs_below [] = refl
pairs_below (t ∷ ts) =
    flat_map-append entry_pairs (entry_rows t) (entry_rows_all (all_trees ts))
    ∙ ap (λ ps. tree_pairs t ++ ps) (pairs_below ts)

pairs_seen : (g : Group) → tree_pairs (tree_seen g) ≡ flat_map entry_pairs (map entry_row (out-Group g).entries) ++ flat_map tree_pairs (map tree_seen (out-Group g).groups)
pairs_seen g =
    ap tree_pairs (fold_out-Group Tree tree_step g)
    ∙ flat_map-append entry_pairs (map entry_row (out-Group g).entries) (entry_rows_all (all_trees (map tree_seen (out-Group g).groups)))
    ∙ ap (λ ps. flat_map entry_pairs (map entry_row (out-Group g).entries) ++ ps) (pairs_below (map tree_seen (out-Group g).groups))

pub gathers_group : (a b c : BTreeMap Pair ℕ) (x y z : List PoolItem) (g : Group) (es : List Entry) (gs : List Group)
    → es ≡ (out-Group g).entries → gs ≡ (out-Group g).groups
    → Gathers a x b y (flat_map entry_pairs (map entry_row es)) → Gathers b y c z (flat_map tree_pairs (map tree_seen gs))
    → Gathers a x c z (tree_pairs (tree_seen g))
gathers_group a b c x y z g es gs entries groups one more =
    subst (Gathers a x c z)
    (ap (λ l. flat_map entry_pairs (map entry_row l) ++ flat_map tree_pairs (map tree_seen gs)) entries
    ∙ ap (λ l. flat_map entry_pairs (map entry_row (out-Group g).entries) ++ flat_map tree_pairs (map tree_seen l)) groups
    ∙ sym (pairs_seen g))
    (gathers_both a b c x y z _ _ one more)

-- ---- from none on

pub gathered_all : (numbers after : BTreeMap Pair ℕ) (start items : List PoolItem) (pairs : List PoolPair)
    → numbers.entries ≡ [] → start ≡ [] → Gathers numbers start after items pairs
    → Gathered [] pairs after items
unfolding Gathers
gathered_all numbers after start items pairs empty none h =
    subst (λ s. (HasNumbers numbers (map pool_item s) → Gathered (map pool_item s) pairs after items)) none h (λ p. rw empty refl)

-- the number of a pair that is not there
pub number_missing : (numbers : BTreeMap Pair ℕ) (items : List PoolItem) (p : Pair) (q : PoolPair) (pool : List PoolPair) (n : ℕ)
    → pool_pair p ≡ q → HasNumbers numbers (map pool_item items) → is_some (get (on pool_pair pool_pair_cmp) numbers p) ≡ false
    → n ≡ length items → pool ≡ map pool_item items → n ≡ number_in pool q
number_missing numbers items p q pool n seen right absent count view =
    let nowhere : list_any (is_pair q) (map pool_item items) ≡ false =
    at_none (map pool_item items) q (subst (λ r. is_some (number_at (map pool_item items) r) ≡ false) seen (ap is_some (sym (right p)) ∙ absent)) in
    count ∙ sym (length_seen items) ∙ sym (number_absent (map pool_item items) q nowhere) ∙ sym (ap (λ ps. number_in ps q) view)
