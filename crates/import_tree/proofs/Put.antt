-- A group in memory into which an entry is put by the names that lead to it.
use Rattle.std.proofs.Common.{◌≡◌, ◌<◌, ◌≤◌, ◌+◌, ◌-◌, ◌||◌, drop, take, ℕ, suc, zero, Bool, true, false, true≢false, not, cond, List, [], ◌∷◌, ◌++◌, Some, None, Ok, Err, Result, OnOk, OnErr, map, length, get_or, inl, inr, refl, sym, ap, ◌∙◌, arith}
use Rattle.std.proofs.lemmas.Bool.{lt-ltb}
use Rattle.std.proofs.lemmas.List.{take_all}
use Rattle.std.proofs.lemmas.List.Quantifiers.{position-Some}
use Rattle.std.proofs.lemmas.Option.{get_or_from_slice_get, same_Some, slice_get-get_or}
use Rattle.std.specs.List.{list_any, position, position_or_len, slice_get, slice_set}
use Rattle.std.specs.Str.{bytes_eq}
use Rattle.vault_model.specs.Db.{NodeId}
use Rattle.vault_model.specs.SeenNodes.{entry_row, tree_seen}
use Rattle.vault_model.specs.Shape.{EntryRecord}
use Rattle.vault_model.specs.Tree.{Tree, Trees, beside, node, none}
use Rattle.vault_model.specs.Walk.{name_of}
use Rattle.vault_model.specs.declared.nodes.Group.{Group, out-Group}
use Rattle.vault_model.proofs.SeenGroups.{seen_group}
use Rattle.vault_model.proofs.Tests.{decide, is_false, or_false}
use Rattle.tree_core.proofs.Options.{never}
use Rattle.tree_core.specs.Changes.{with_group, with_last}
use Rattle.tree_core.specs.NewNodes.{empty_group}
use Rattle.tree_groups.proofs.GroupPuts.{group_put}
use Rattle.tree_groups.proofs.TreeSteps.InPlace.{record_seen, seen_with_entries, seen_with_groups, trees, with_entries, with_groups}
use Rattle.vault_model.specs.declared.nodes.Entry.{Entry}
use Rattle.import_ids.specs.Ids.{named_id}
use Rattle.import_tree.specs.Trees.{new_groups, with_rows, with_rows_among}
use Rattle.import_tree.proofs.Apart.{new_is}

-- a group has a name
abbrev pub has : List ℕ → Group → Bool
has name g = bytes_eq (name_of (tree_seen g)) name

module _ (now : ℕ) (parent : NodeId) (name : List ℕ) (names : List (List ℕ)) (e : List (NodeId × EntryRecord)) where
  abbrev among : Trees → Trees
  among = with_rows_among now parent name names e

  abbrev within : Tree → Tree
  within = with_rows now names e

  -- the first group of the name is the one that is changed
  pub put_there : (gs : List Group) (at : ℕ) (old new : Group) → slice_get gs at ≡ Some old → has name old ≡ true
      → ((k : ℕ) → k < at → has name (get_or gs k old) ≡ false)
      → tree_seen new ≡ within (tree_seen old) → trees (slice_set gs at new) ≡ among (trees gs)
  put_there [] at old new is named before made = never old is
  put_there (g ∷ gs) zero old new is named before made =
      let same : g ≡ old = same_Some g old is in
      ap (λ t. beside t (trees gs)) made
      ∙ ap (λ b. cond b (beside (within (tree_seen old)) (trees gs)) (beside (tree_seen old) (among (trees gs)))) (sym named)
      ∙ ap (λ x. among (beside (tree_seen x) (trees gs))) (sym same)
  put_there (g ∷ gs) (suc at) old new is named before made =
      ap (λ ts. beside (tree_seen g) ts) (put_there gs at old new is named (λ k less. before (suc k) (omega arith)) made)
      ∙ ap (λ b. cond b (beside (within (tree_seen g)) (trees gs)) (beside (tree_seen g) (among (trees gs)))) (sym (before zero (omega arith)))

  -- where none has the name, a new group is the last
  pub put_last : (gs : List Group) (new : Tree) → list_any (has name) gs ≡ false → new ≡ new_groups now parent name names e
      → with_last new (trees gs) ≡ among (trees gs)
  put_last [] new free made = ap (λ t. beside t none) made
  put_last (g ∷ gs) new free made =
      let both = or_false (has name g) (list_any (has name) gs) free in
      ap (λ ts. beside (tree_seen g) ts) (put_last gs new both.1 made)
      ∙ ap (λ b. cond b (beside (within (tree_seen g)) (trees gs)) (beside (tree_seen g) (among (trees gs)))) (sym both.0)

placed_first : (name : List ℕ) (gs : List Group) → list_any (has name) gs ≡ true → position_or_len (has name) gs < length gs
placed_first name [] h = absurd (true≢false (sym h))
placed_first name (g ∷ gs) h =
    elim (decide (has name g)) [
      | inl p ↦
          let here : position_or_len (has name) (g ∷ gs) ≡ 0 = ap (λ b. cond (not b) (1 + position_or_len (has name) gs) 0) p in
          omega (arith, here)
      | inr p ↦
          let there : position_or_len (has name) (g ∷ gs) ≡ 1 + position_or_len (has name) gs = ap (λ b. cond (not b) (1 + position_or_len (has name) gs) 0) p in
          let rest = placed_first name gs (sym (ap (λ b. b || list_any (has name) gs) p) ∙ h) in
          omega (arith, there, rest)
    ]

-- no group has a name that has no place
pub no_place : (name : List ℕ) (gs : List Group) → position (has name) gs ≡ None → list_any (has name) gs ≡ false
no_place name gs e = is_false (list_any (has name) gs) (λ h.
    never (position_or_len (has name) gs) (sym e
    ∙ ap (λ b. cond b (Some (position_or_len (has name) gs)) None) (lt-ltb (position_or_len (has name) gs) (length gs) (placed_first name gs h))))

-- a place leads to a group
pub some_place : {A : Type 0} (name : List ℕ) (gs : List Group) (at : ℕ) → position (has name) gs ≡ Some at → slice_get gs at ≡ None → A
some_place name [] at way is = never at way
some_place name (g ∷ gs) at way is =
    let first = position-Some (has name) (g ∷ gs) at g way in
    never (get_or (g ∷ gs) at g) (sym is ∙ slice_get-get_or (g ∷ gs) at g first.0)

-- ---- the whole group

module _ (now : ℕ) (name : List ℕ) (names : List (List ℕ)) (e : List (NodeId × EntryRecord)) (g : Group) where
  abbrev gs : List Group
  gs = (out-Group g).groups

  -- an entry is put into the first group of the name
  pub put_below : (at : ℕ) (old new : Group) → position (has name) gs ≡ Some at → slice_get gs at ≡ Some old
      → tree_seen new ≡ with_rows now names e (tree_seen old)
      → tree_seen (with_groups g (slice_set gs at new)) ≡ with_rows now (name ∷ names) e (tree_seen g)
  put_below at old new way is made =
      let first = position-Some (has name) gs at old way in
      let named : has name old ≡ true = ap (has name) (sym (get_or_from_slice_get gs at old old is)) ∙ first.1 in
      seen_with_groups g (slice_set gs at new)
      ∙ ap (node (out-Group g).id (record_seen g) (map entry_row (out-Group g).entries)) (put_there now (out-Group g).id name names e gs at old new is named first.2 made)
      ∙ ap (with_rows now (name ∷ names) e) (sym (seen_group g))

  -- where it is not, the group is as it was
  pub kept_below : (at : ℕ) (old new : Group) → slice_get gs at ≡ Some old → tree_seen new ≡ tree_seen old
      → tree_seen (with_groups g (slice_set gs at new)) ≡ tree_seen g
  kept_below at old new is same =
      seen_with_groups g (slice_set gs at new)
      ∙ ap (node (out-Group g).id (record_seen g) (map entry_row (out-Group g).entries)) (kept gs at old new is same)
      ∙ sym (seen_group g)
    where
      kept : (xs : List Group) (at : ℕ) (old new : Group) → slice_get xs at ≡ Some old → tree_seen new ≡ tree_seen old → trees (slice_set xs at new) ≡ trees xs
      kept [] at old new is same = never old is
      kept (x ∷ xs) zero old new is same = ap (λ t. beside t (trees xs)) (same ∙ ap tree_seen (sym (same_Some x old is)))
      kept (x ∷ xs) (suc at) old new is same = ap (λ ts. beside (tree_seen x) ts) (kept xs at old new is same)

  -- where no group has the name, a new group is the last
  pub put_new : position (has name) gs ≡ None → with_group (new_groups now (out-Group g).id name names e) (tree_seen g) ≡ with_rows now (name ∷ names) e (tree_seen g)
  put_new way =
      let new = new_groups now (out-Group g).id name names e in
      ap (with_group new) (seen_group g)
      ∙ ap (node (out-Group g).id (record_seen g) (map entry_row (out-Group g).entries)) (put_last now (out-Group g).id name names e gs new (no_place name gs way) refl)
      ∙ ap (with_rows now (name ∷ names) e) (sym (seen_group g))

  -- what no names lead to is put into the group itself
  pub put_here : (es : List Entry) → map entry_row es ≡ map entry_row (out-Group g).entries ++ e → tree_seen (with_entries g es) ≡ with_rows now [] e (tree_seen g)
  put_here es is =
      seen_with_entries g es
      ∙ ap (λ rows. node (out-Group g).id (record_seen g) rows (trees gs)) is
      ∙ ap (with_rows now [] e) (sym (seen_group g))

-- ---- a new group

-- an empty group of this name into which an entry is put
pub filled : (now : ℕ) (parent id : NodeId) (name : List ℕ) (names : List (List ℕ)) (e : List (NodeId × EntryRecord)) (empty new : Tree) → id ≡ named_id parent name → empty ≡ empty_group id name now
    → new ≡ with_rows now names e empty → new ≡ new_groups now parent name names e
filled now parent id name names e empty new i m n =
    n
    ∙ ap (with_rows now names e) (m ∙ ap (λ (u : NodeId). empty_group u name now) i)
    ∙ sym (new_is now parent name names e)

-- it is the last of the groups of a group
pub made_last : (g : Group) (gs : List Group) (x : Group) (t : Tree) → gs ≡ (out-Group g).groups ++ x ∷ [] → tree_seen x ≡ t → tree_seen (with_groups g gs) ≡ with_group t (tree_seen g)
made_last g gs x t is made = group_put g gs x is ∙ ap (λ (u : Tree). with_group u (tree_seen g)) made

-- ---- names, and what was answered

pub no_names : (names : List (List ℕ)) → length names < 1 → names ≡ []
no_names [] few = refl
no_names (name ∷ names) few = absurd (omega (arith, few))

-- the names after the first
abbrev pub after_first : List (List ℕ) → List (List ℕ)
after_first names = take (length names - 1) (drop 1 names)

pub first_name : (names : List (List ℕ)) (name : List ℕ) → 1 ≤ length names → name ≡ get_or names 0 name → names ≡ name ∷ after_first names
first_name [] name some is = absurd (omega (arith, some))
first_name (first ∷ names) name some is =
    let rest : take (suc (length names) - 1) names ≡ names = take_all (suc (length names) - 1) names (omega arith) in
    ap (λ ns. first ∷ ns) (sym rest) ∙ ap (λ n. n ∷ take (suc (length names) - 1) names) (sym is)

pub ok_then : {E : Type 0} {P Q : Type 0} (r : Result (Unit {0}) E) → (P → Q) → OnOk r P → OnOk r Q
ok_then (Ok x) f h = f h
ok_then (Err x) f h = h

pub err_then : {E : Type 0} {P Q : Type 0} (r : Result (Unit {0}) E) → (P → Q) → OnErr r P → OnErr r Q
err_then (Ok x) f h = h
err_then (Err x) f h = f h
