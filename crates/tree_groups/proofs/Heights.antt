-- Levels of groups in memory.
use Rattle.std.proofs.Common.{◌≡◌, ◌≢◌, ◌<◌, ◌≤◌, ◌+◌, ◌-◌, ℕ, suc, true, false, cond, max, List, ◌∷◌, MatchOption, Option, None, Some, get_or, drop, length, inl, inr, refl, sym, ap, ◌∙◌, arith}
use Rattle.std.specs.Prelude.{nat_le}
use Rattle.std.proofs.Math.Seq.{drop-cons}
use Rattle.std.proofs.lemmas.Bool.{le-leb, leb-false, leb-true, lt-leb}
use Rattle.std.proofs.lemmas.List.{drop_all}
use Rattle.vault_model.specs.Db.{NodeId}
use Rattle.vault_model.specs.Join.{is_id}
use Rattle.vault_model.specs.SeenNodes.{tree_seen}
use Rattle.vault_model.specs.Tree.{height, height_all}
use Rattle.vault_model.specs.declared.nodes.Group.{Group, out-Group}
use Rattle.vault_model.proofs.SeenGroups.{seen_group}
use Rattle.vault_model.proofs.Tests.{decide}
use Rattle.tree_core.specs.Changes.{has_group, level_among, level_of}
use Rattle.tree_steps.proofs.InPlace.{trees}

-- ---- heights

next_height : (items : List Group) (at : ℕ) (child : Group) → at < length items → child ≡ get_or items at child
    → height_all (trees (drop at items)) ≡ max (height (tree_seen child)) (height_all (trees (drop (suc at) items)))
next_height items at child less is =
    ap (λ gs. height_all (trees gs)) (drop-cons items at child less ∙ ap (λ (x : Group). x ∷ drop (suc at) items) (sym is))

module _ (g : Group) (items : List Group) (at levels : ℕ) (are : items ≡ (out-Group g).groups) (some : levels ≢ 0)
    (same : max (levels - 1) (height_all (trees (drop at items))) ≡ max (levels - 1) (height_all (trees items))) where
  whole : height (tree_seen g) ≡ suc (height_all (trees items))
  whole = ap height (seen_group g) ∙ ap (λ gs. suc (height_all (trees gs))) (sym are)

  pub fits_all : length items ≤ at → true ≡ nat_le (height (tree_seen g)) levels
  fits_all far =
      let all = whole in
      let rest : height_all (trees (drop at items)) ≡ 0 = ap (λ gs. height_all (trees gs)) (drop_all at items far) in
      sym (le-leb (height (tree_seen g)) levels (omega (arith, all, rest, same, some)))

  pub fits_not : (child : Group) → at < length items → child ≡ get_or items at child → false ≡ nat_le (height (tree_seen child)) (levels - 1) → false ≡ nat_le (height (tree_seen g)) levels
  fits_not child less is high =
      let all = whole in
      let next = next_height items at child less is in
      let more = leb-false (height (tree_seen child)) (levels - 1) (sym high) in
      sym (lt-leb (height (tree_seen g)) levels (omega (arith, all, next, more, same, some)))

  pub fits_next : (child : Group) → at < length items → child ≡ get_or items at child → true ≡ nat_le (height (tree_seen child)) (levels - 1)
      → max (levels - 1) (height_all (trees (drop (at + 1) items))) ≡ max (levels - 1) (height_all (trees items))
  fits_next child less is low =
      let next = next_height items at child less is in
      let lower = leb-true (height (tree_seen child)) (levels - 1) (sym low) in
      let one : suc at ≡ at + 1 = omega arith in
      ap (λ n. max (levels - 1) (height_all (trees (drop n items)))) (sym one) ∙ omega (arith, next, lower, same)

-- ---- levels

seen_level : (u : NodeId) (g : Group) (items : List Group) → is_id (out-Group g).id u ≡ false → items ≡ (out-Group g).groups → level_of u (tree_seen g) ≡ suc (level_among u (trees items))
seen_level u g items other are =
    ap (level_of u) (seen_group g)
    ∙ ap (λ c. cond c 1 (suc (level_among u (trees (out-Group g).groups)))) other
    ∙ ap (λ gs. suc (level_among u (trees gs))) (sym are)

pub level_here : (u : NodeId) (g : Group) → is_id (out-Group g).id u ≡ true → level_of u (tree_seen g) ≡ 1
level_here u g same = ap (level_of u) (seen_group g) ∙ ap (λ c. cond c 1 (suc (level_among u (trees (out-Group g).groups)))) same

pub level_some : (u : NodeId) (g : Group) → 1 ≤ level_of u (tree_seen g)
level_some u g = elim (decide (is_id (out-Group g).id u)) [
  | inl p ↦ let here = level_here u g p in omega (arith, here)
  | inr p ↦ let below = seen_level u g (out-Group g).groups p refl in omega (arith, below)
]

pub level_found : (u : NodeId) (g child : Group) (items : List Group) (at : ℕ) → is_id (out-Group g).id u ≡ false → items ≡ (out-Group g).groups → at < length items → child ≡ get_or items at child
    → level_among u (trees (drop at items)) ≡ level_among u (trees items) → has_group u (tree_seen child) ≡ true → level_of u (tree_seen g) ≡ suc (level_of u (tree_seen child))
level_found u g child items at other are less is same has =
    seen_level u g items other are
    ∙ ap suc (sym same
    ∙ ap (λ gs. level_among u (trees gs)) (drop-cons items at child less ∙ ap (λ (x : Group). x ∷ drop (suc at) items) (sym is))
    ∙ ap (λ c. cond c (level_of u (tree_seen child)) (level_among u (trees (drop (suc at) items)))) has)

pub level_none : (u : NodeId) (g : Group) (items : List Group) (at : ℕ) → is_id (out-Group g).id u ≡ false → items ≡ (out-Group g).groups → length items ≤ at
    → level_among u (trees (drop at items)) ≡ level_among u (trees items) → level_of u (tree_seen g) ≡ 1
level_none u g items at other are far same =
    seen_level u g items other are ∙ ap suc (sym same ∙ ap (λ gs. level_among u (trees gs)) (drop_all at items far))

pub left_below : (o : Option ℕ) (levels l m : ℕ) → levels ≢ 0 → l ≡ suc m → MatchOption o (levels - 1 < m) (λ b. b + m ≡ levels - 1) → MatchOption o (levels < l) (λ b. b + l ≡ levels)
left_below None levels l m some next h = omega (arith, some, next, h)
left_below (Some b) levels l m some next h = omega (arith, some, next, h)
