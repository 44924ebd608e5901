-- Groups in memory taken out of a group, and put into places that were kept.
use Rattle.std.proofs.Common.{◌≡◌, ◌≤◌, ◌+◌, ℕ, suc, zero, Bool, true, false, not, cond, length, MatchOption, nat_lt, remove, option_and_then, inl, inr, List, [], ◌∷◌, Option, Some, None, map, get_or, refl, sym, ap, ◌∙◌, arith}
use Rattle.std.proofs.lemmas.List.Quantifiers.{position-Some}
use Rattle.std.proofs.lemmas.Option.{same_Some, slice_get-get_or}
use borrow.Author.Tests.{ltb-false}
use Rattle.std.specs.List.{position, position_or_len, slice_get, slice_set}
use Rattle.vault_model.specs.Db.{NodeId, nil_id}
use Rattle.vault_model.specs.Join.{is_id}
use Rattle.vault_model.specs.SeenNodes.{entry_row, tree_seen, tree_step}
use Rattle.vault_model.specs.Tree.{Tree, beside, id_of, node}
use Rattle.vault_model.specs.declared.nodes.Group.{Group, out-Group, roll-Group}
use Rattle.vault_model.specs.declared.nodes.Group.TheFolds.{fold-roll-Group}
use Rattle.vault_model.proofs.SeenGroups.{seen_group}
use Rattle.vault_model.proofs.Tests.{decide}
use Rattle.tree_core.proofs.Changed.{absent_group, changed_by, changed_not}
use Rattle.tree_core.proofs.Options.{never}
use Rattle.tree_core.specs.Changes.{but_group, changed_at, child_with, has_group, moved_group, on_groups, own_group, without_group}
use Rattle.tree_moves.specs.GroupPlaces.{groups_filled, group_at}
use Rattle.tree_steps.specs.ChangedAt.{ChangedAt}
use Rattle.tree_steps.proofs.InPlace.{record_seen, seen_with_groups, trees, with_groups}

abbrev there : NodeId → Group → Bool
there u g = is_id (out-Group g).id u

abbrev place : NodeId → List Group → ℕ
place u gs = position_or_len (there u) gs

seen_there : (u : NodeId) (g : Group) (b : Bool) → there u g ≡ b → is_id (id_of (tree_seen g)) u ≡ b
seen_there u g b p = ap (λ t. is_id (id_of t) u) (seen_group g) ∙ p

within : (b : Bool) (n at : ℕ) → cond b (Some n) None ≡ Some at → n ≡ at
within true n at e = same_Some n at e
within false n at e = never at e

-- ---- a group without one of its groups

first_place : (u : NodeId) (gs : List Group) (at : ℕ) (x : Group) → place u gs ≡ at → slice_get gs at ≡ Some x
    → (own_group u (trees gs) ≡ Some (tree_seen x)) × (trees (remove gs at) ≡ but_group u (trees gs))
first_place u [] at x way is = never x is
first_place u (g ∷ gs) at x way is =
    elim (decide (there u g)) [
      | inl p ↦
          let here : zero ≡ at = sym (ap (λ b. cond (not b) (1 + place u gs) 0) p) ∙ way in
          let same : g ≡ x = same_Some g x (ap (slice_get (g ∷ gs)) here ∙ is) in
          let q = seen_there u g true p in (
            ap (λ b. cond b (Some (tree_seen g)) (own_group u (trees gs))) q ∙ ap (λ y. Some (tree_seen y)) same,
            ap (λ n. trees (remove (g ∷ gs) n)) (sym here) ∙ ap (λ b. cond b (trees gs) (beside (tree_seen g) (but_group u (trees gs)))) (sym q),
          )
      | inr p ↦
          let next : suc (place u gs) ≡ at = omega (arith, ap (λ b. cond (not b) (1 + place u gs) 0) p, way) in
          let rest = first_place u gs (place u gs) x refl (ap (slice_get (g ∷ gs)) next ∙ is) in
          let q = seen_there u g false p in (
            ap (λ b. cond b (Some (tree_seen g)) (own_group u (trees gs))) q ∙ rest.0,
            ap (λ n. trees (remove (g ∷ gs) n)) (sym next)
                ∙ ap (λ ts. beside (tree_seen g) ts) rest.1
                ∙ ap (λ b. cond b (trees gs) (beside (tree_seen g) (but_group u (trees gs)))) (sym q),
          )
    ]

pub group_taken : (u : NodeId) (g : Group) (at : ℕ) (x : Group) → position (there u) (out-Group g).groups ≡ Some at → slice_get (out-Group g).groups at ≡ Some x
    → (child_with u (tree_seen g) ≡ Some (tree_seen x)) × (tree_seen (with_groups g (remove (out-Group g).groups at)) ≡ without_group u (tree_seen g))
group_taken u g at x way is =
    let gs = (out-Group g).groups in
    let here = first_place u gs at x (within (nat_lt (place u gs) (length gs)) (place u gs) at way) is in (
      ap (child_with u) (seen_group g) ∙ here.0,
      seen_with_groups g (remove gs at)
          ∙ ap (λ ts. node (out-Group g).id (record_seen g) (map entry_row (out-Group g).entries) ts) here.1
          ∙ ap (without_group u) (sym (seen_group g)),
    )

pub taken_at : (p u : NodeId) (old new : Tree) (out : Option Group)
    → ChangedAt p (λ x y. MatchOption out ((child_with u x ≡ None) × (y ≡ x)) (λ g. (child_with u x ≡ Some (tree_seen g)) × (y ≡ without_group u x))) old new
    → MatchOption out ((group_at p u old ≡ None) × (new ≡ old)) (λ g. (group_at p u old ≡ Some (tree_seen g)) × (new ≡ changed_at p (without_group u) old))
taken_at p u old new None h = (
  ap (option_and_then (child_with u)) h.there ∙ h.made.0,
  h.is ∙ ap (λ t. changed_at p (λ y. t) old) h.made.1 ∙ changed_by p (λ t. t) old h.before h.there ∙ changed_not p old,
)
taken_at p u old new (Some g) h = (
  ap (option_and_then (child_with u)) h.there ∙ h.made.0,
  h.is ∙ ap (λ t. changed_at p (λ y. t) old) h.made.1 ∙ changed_by p (without_group u) old h.before h.there,
)

pub none_taken : (p u : NodeId) (t : Tree) → has_group p t ≡ false → group_at p u t ≡ None
none_taken p u t e = ap (option_and_then (child_with u)) (absent_group p t e)

-- ---- no group of an id

far : (u : NodeId) (gs : List Group) (b : Bool) → nat_lt (place u gs) (length gs) ≡ b → cond b (Some (place u gs)) None ≡ None → length gs ≤ place u gs
far u gs true q k = never (place u gs) (sym k)
far u gs false q k = ltb-false (place u gs) (length gs) q

here_first : (u : NodeId) (g : Group) (gs : List Group) → there u g ≡ true → place u (g ∷ gs) ≡ 0
here_first u g gs p = ap (λ b. cond (not b) (1 + place u gs) 0) p

here_later : (u : NodeId) (g : Group) (gs : List Group) → there u g ≡ false → place u (g ∷ gs) ≡ 1 + place u gs
here_later u g gs p = ap (λ b. cond (not b) (1 + place u gs) 0) p

no_place : (u : NodeId) (gs : List Group) → length gs ≤ place u gs → own_group u (trees gs) ≡ None
no_place u [] past = refl
no_place u (g ∷ gs) past =
    elim (decide (there u g)) [
      | inl p ↦ let zero = here_first u g gs p in absurd (omega (arith, past, zero))
      | inr p ↦
          let next = here_later u g gs p in
          let rest : length gs ≤ place u gs = omega (arith, past, next) in
          ap (λ b. cond b (Some (tree_seen g)) (own_group u (trees gs))) (seen_there u g false p) ∙ no_place u gs rest
    ]

pub group_absent : (u : NodeId) (g : Group) → position (there u) (out-Group g).groups ≡ None → child_with u (tree_seen g) ≡ None
group_absent u g way =
    let gs = (out-Group g).groups in
    ap (child_with u) (seen_group g) ∙ no_place u gs (far u gs (nat_lt (place u gs) (length gs)) refl way)

-- ---- a group in a place that is kept

place_filled : (u : NodeId) (gs : List Group) (at : ℕ) (g : Group) → u ≡ nil_id → place u gs ≡ at → trees (slice_set gs at g) ≡ groups_filled (tree_seen g) (trees gs)
place_filled u [] at g nil way = refl
place_filled u (x ∷ xs) at g nil way =
    elim (decide (there u x)) [
      | inl p ↦
          let first : zero ≡ at = sym (here_first u x xs p) ∙ way in
          ap (λ n. trees (slice_set (x ∷ xs) n g)) (sym first)
          ∙ ap (λ b. cond b (beside (tree_seen g) (trees xs)) (beside (tree_seen x) (groups_filled (tree_seen g) (trees xs))))
          (sym (ap (is_id (id_of (tree_seen x))) (sym nil) ∙ seen_there u x true p))
      | inr p ↦
          let next : suc (place u xs) ≡ at = omega (arith, here_later u x xs p, way) in
          ap (λ n. trees (slice_set (x ∷ xs) n g)) (sym next)
          ∙ ap (λ ts. beside (tree_seen x) ts) (place_filled u xs (place u xs) g nil refl)
          ∙ ap (λ b. cond b (beside (tree_seen g) (trees xs)) (beside (tree_seen x) (groups_filled (tree_seen g) (trees xs))))
          (sym (ap (is_id (id_of (tree_seen x))) (sym nil) ∙ seen_there u x false p))
    ]

pub fills_place : (u : NodeId) (gs : List Group) (at : ℕ) (g : Group) → u ≡ nil_id → position (there u) gs ≡ Some at → trees (slice_set gs at g) ≡ groups_filled (tree_seen g) (trees gs)
fills_place u gs at g nil way = place_filled u gs at g nil (within (nat_lt (place u gs) (length gs)) (place u gs) at way)

no_places : (u : NodeId) (gs : List Group) (g : Group) → u ≡ nil_id → length gs ≤ place u gs → trees gs ≡ groups_filled (tree_seen g) (trees gs)
no_places u [] g nil past = refl
no_places u (x ∷ xs) g nil past =
    elim (decide (there u x)) [
      | inl p ↦ let zero = here_first u x xs p in absurd (omega (arith, past, zero))
      | inr p ↦
          let next = here_later u x xs p in
          let rest : length xs ≤ place u xs = omega (arith, past, next) in
          ap (λ ts. beside (tree_seen x) ts) (no_places u xs g nil rest)
          ∙ ap (λ b. cond b (beside (tree_seen g) (trees xs)) (beside (tree_seen x) (groups_filled (tree_seen g) (trees xs))))
          (sym (ap (is_id (id_of (tree_seen x))) (sym nil) ∙ seen_there u x false p))
    ]

pub fills_none : (u : NodeId) (gs : List Group) (g : Group) → u ≡ nil_id → position (there u) gs ≡ None → trees gs ≡ groups_filled (tree_seen g) (trees gs)
fills_none u gs g nil way = no_places u gs g nil (far u gs (nat_lt (place u gs) (length gs)) refl way)

pub place_there : {A : Type 0} (u : NodeId) (gs : List Group) (at : ℕ) → position (there u) gs ≡ Some at → slice_get gs at ≡ None → A
place_there u [] at way is = never at way
place_there u (y ∷ ys) at way is =
    let first = position-Some (there u) (y ∷ ys) at y way in
    never (get_or (y ∷ ys) at y) (sym is ∙ slice_get-get_or (y ∷ ys) at y first.0)

pub group_filled : (w : Tree) (g : Group) (gs : List Group) → trees gs ≡ groups_filled w (trees (out-Group g).groups) → tree_seen (with_groups g gs) ≡ on_groups (groups_filled w) (tree_seen g)
group_filled w g gs is =
    seen_with_groups g gs
    ∙ ap (λ ts. node (out-Group g).id (record_seen g) (map entry_row (out-Group g).entries) ts) is
    ∙ ap (on_groups (groups_filled w)) (sym (seen_group g))

-- ---- a group that is in another group since a time

pub group_placed_at : (g : Group) (from : NodeId) (time : ℕ) → tree_seen (roll-Group (record (out-Group g) { placed = time; previous = from })) ≡ moved_group from time (tree_seen g)
group_placed_at g from time = fold-roll-Group Tree tree_step (record (out-Group g) { placed = time; previous = from }) ∙ ap (moved_group from time) (sym (seen_group g))
