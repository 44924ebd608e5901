-- Lists that are made item by item.
use Rattle.std.proofs.Common.{◌≡◌, ℕ, suc, ◌+◌, ◌<◌, List, [], ◌∷◌, ◌++◌, drop, get_or, map, refl, sym, ap, ◌∙◌, arith, length, IfOk, Result, Ok, Err}
use Rattle.std.proofs.Math.Seq.{drop-cons}
use Rattle.doc_attachments.specs.Lists.{IsPushed}
use Rattle.vault_model.specs.declared.forms.PoolItem.{PoolItem}
use Rattle.doc_forms.specs.declared.drafts.Binary.{Binary}
use Rattle.doc_forms.specs.Attachments.{binaries_from}
use Rattle.doc_forms.specs.Metas.{ReadBinary}
use Rattle.doc_forms.specs.SeenDocuments.{pool_item}
use Rattle.doc_forms.specs.SeenDrafts.{binary_seen}

one_after : {Z W : Type 0} (seen : Z → W) (zs : List Z) (z : Z) (ws : List W) → map seen (zs ++ z ∷ []) ++ ws ≡ map seen zs ++ (seen z ∷ ws)
one_after seen [] z ws = refl
one_after seen (y ∷ ys) z ws = ap (λ t. seen y ∷ t) (one_after seen ys z ws)

no_more : {W : Type 0} (ws : List W) → ws ++ [] ≡ ws
no_more [] = refl
no_more (w ∷ ws) = ap (λ t. w ∷ t) (no_more ws)

-- ---- what is left

-- a list with no items
pub nothing_left : {X : Type 0} (xs : List X) → length xs ≡ 0 → xs ≡ []
nothing_left [] e = refl
nothing_left (x ∷ xs) e = absurd (omega arith)

-- the item at an index, and what is left after it
pub one_left : {X : Type 0} (items : List X) (at : ℕ) (x : X) → at < length items → x ≡ get_or items at x → drop at items ≡ x ∷ drop (at + 1) items
one_left items at x within is =
    let next : suc at ≡ at + 1 = omega arith in
    drop-cons items at x within ∙ ap (λ y. y ∷ drop (suc at) items) (sym is) ∙ ap (λ n. x ∷ drop n items) next

-- ---- what is made

module _ {X Y Z W : Type 0} (view : X → Y) (made_of : Y → W) (seen : Z → W) (all : List W) where
  -- what is made with what is left to make, once one item more is made
  made_more : (rest next : List X) (x : X) (made more : List Z) (z : Z)
      → map seen made ++ map made_of (map view rest) ≡ all
      → rest ≡ x ∷ next → seen z ≡ made_of (view x) → made ++ z ∷ [] ≡ more
      → map seen more ++ map made_of (map view next) ≡ all
  made_more rest next x made more z known left is_seen after =
      ap (λ t. map seen t ++ map made_of (map view next)) (sym after)
      ∙ (one_after seen made z (map made_of (map view next))
      ∙ (ap (λ w. map seen made ++ (w ∷ map made_of (map view next))) is_seen
      ∙ (ap (λ t. map seen made ++ map made_of (map view t)) (sym left) ∙ known)))

  -- the same of what may have been refused
  pub pushed_more : {E : Type 0} (rest next : List X) (x : X) (made more : List Z) (item : Result Z E)
      → map seen made ++ map made_of (map view rest) ≡ all
      → rest ≡ x ∷ next → IfOk item (λ z. seen z ≡ made_of (view x)) → IsPushed made item more
      → map seen more ++ map made_of (map view next) ≡ all
  pushed_more rest next x made more (Ok z) known left is_seen pushed = made_more rest next x made more z known left is_seen (cc pushed)
  pushed_more rest next x made more (Err e) known left is_seen pushed = absurd (cc pushed)

  -- all is made
  pub all_made : (rest : List X) (made : List Z) → map seen made ++ map made_of (map view rest) ≡ all → rest ≡ [] → map seen made ≡ all
  all_made rest made known none =
      sym (no_more (map seen made)) ∙ (ap (λ t. map seen made ++ map made_of (map view t)) (sym none) ∙ known)

-- ---- binaries by their order

-- what is numbered with what is left to number, once one binary more is numbered
one_numbered : (given : List PoolItem) (at : ℕ) (item : PoolItem) (binaries more : List Binary) (number : ℕ) (binary : Binary) (whole : List ReadBinary)
    → at < length given → item ≡ get_or given at item
    → map binary_seen binaries ++ binaries_from number (map pool_item (drop at given)) ≡ whole
    → binary_seen binary ≡ record { number = number; bytes = (pool_item item).0; hidden = (pool_item item).1 }
    → binaries ++ binary ∷ [] ≡ more
    → map binary_seen more ++ binaries_from (number + 1) (map pool_item (drop (at + 1) given)) ≡ whole
one_numbered given at item binaries more number binary whole within is known is_binary added =
    let left : drop at given ≡ item ∷ drop (at + 1) given = one_left given at item within is in
    ap (λ l. map binary_seen l ++ binaries_from (number + 1) (map pool_item (drop (at + 1) given))) (sym added)
    ∙ (one_after binary_seen binaries binary (binaries_from (number + 1) (map pool_item (drop (at + 1) given)))
    ∙ (ap (λ b. map binary_seen binaries ++ (b ∷ binaries_from (number + 1) (map pool_item (drop (at + 1) given)))) is_binary
    ∙ (ap (λ l. map binary_seen binaries ++ binaries_from number (map pool_item l)) (sym left) ∙ known)))

-- the same of what may have been refused
pub numbered_more : {E : Type 0} (given : List PoolItem) (at : ℕ) (item : PoolItem) (binaries more : List Binary) (number : ℕ) (made : Result Binary E) (whole : List ReadBinary)
    → at < length given → item ≡ get_or given at item
    → map binary_seen binaries ++ binaries_from number (map pool_item (drop at given)) ≡ whole
    → IfOk made (λ b. binary_seen b ∷ [] ≡ binaries_from number (pool_item item ∷ []))
    → IsPushed binaries made more
    → map binary_seen more ++ binaries_from (number + 1) (map pool_item (drop (at + 1) given)) ≡ whole
numbered_more given at item binaries more number (Ok binary) whole within is known is_binary pushed =
    one_numbered given at item binaries more number binary whole within is known (cc is_binary) (cc pushed)
numbered_more given at item binaries more number (Err e) whole within is known is_binary pushed = absurd (cc pushed)
