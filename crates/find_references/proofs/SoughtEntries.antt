-- The entry that has a text at a place, from group to group and along all entries.
use Rattle.std.proofs.Common.{◌≡◌, ◌<◌, ℕ, suc, Bool, true, false, cond, List, [], ◌∷◌, ◌++◌, length, drop, get_or, map, Option, Some, None, refl, sym, ap, ◌∙◌, ◌+◌, ◌≤◌, add-one}
use Rattle.std.proofs.Math.Seq.{drop-cons}
use Rattle.std.proofs.lemmas.List.{drop_all}
use Rattle.std.specs.List.{find}
use Rattle.find_references.specs.declared.parts.Place.{Place}
use Rattle.find_references.specs.Fields.{has_at}
use Rattle.find_references.specs.inside.Sought.{sought_among, sought_in}
use Rattle.tree_core.specs.Finding.{or_else}
use Rattle.vault_model.specs.Db.{NodeId}
use Rattle.vault_model.specs.SeenNodes.{entry_row, tree_seen}
use Rattle.vault_model.specs.Shape.{EntryRecord}
use Rattle.vault_model.specs.Tree.{Tree, Trees, all_trees, beside, entry_rows, entry_rows_all, node, none}
use Rattle.vault_model.specs.declared.nodes.Group.{Group, out-Group}
use Rattle.vault_model.proofs.SeenGroups.{seen_group}

abbrev Row : Type 0
Row = NodeId × EntryRecord

pub find_in_both : (test : Row → Bool) (xs ys : List Row) → find test (xs ++ ys) ≡ or_else (find test xs) (find test ys)
find_in_both test [] ys = refl
find_in_both test (x ∷ xs) ys =
    elim (test x) as (λ (b : Bool). cond b (Some x) (find test (xs ++ ys)) ≡ or_else (cond b (Some x) (find test xs)) (find test ys)) [
      | true ↦ refl
      | false ↦ find_in_both test xs ys
    ]

mutual
  pub sought_along : (place : Place) (text : List ℕ) (t : Tree) → sought_in place text t ≡ find (has_at place text) (entry_rows t)
  sought_along place text (node u r es ts) =
      ap (or_else (find (has_at place text) es)) (among_along place text ts)
      ∙ sym (find_in_both (has_at place text) es (entry_rows_all ts))

  pub among_along : (place : Place) (text : List ℕ) (ts : Trees) → sought_among place text ts ≡ find (has_at place text) (entry_rows_all ts)
  among_along place text none = refl
  among_along place text (beside t ts) =
      ap (λ o. or_else o (sought_among place text ts)) (sought_along place text t)
      ∙ ap (or_else (find (has_at place text) (entry_rows t))) (among_along place text ts)
      ∙ sym (find_in_both (has_at place text) (entry_rows t) (entry_rows_all ts))

-- what is found among a group's own entries is found in the group
pub found_here : (g : Group) (place : Place) (text : List ℕ) (x : Row)
    → find (has_at place text) (map entry_row (out-Group g).entries) ≡ Some x → Some x ≡ sought_in place text (tree_seen g)
found_here g place text x found =
    ap (λ o. or_else o (sought_among place text (all_trees (map tree_seen (out-Group g).groups)))) (sym found)
    ∙ ap (sought_in place text) (sym (seen_group g))

-- what is found in one of a group's groups, following those in which it is not, is found in the group
pub found_below : (g : Group) (place : Place) (text : List ℕ) (gs : List Group) (at : ℕ) (child : Group) (x : Row)
    → find (has_at place text) (map entry_row (out-Group g).entries) ≡ None → gs ≡ (out-Group g).groups → at < length gs → child ≡ get_or gs at child
    → sought_among place text (all_trees (map tree_seen (drop at gs))) ≡ sought_among place text (all_trees (map tree_seen gs))
    → sought_in place text (tree_seen child) ≡ Some x → Some x ≡ sought_in place text (tree_seen g)
found_below g place text gs at child x other is below here invariant found =
    let rest : List Group = drop (suc at) gs in
    let front : drop at gs ≡ child ∷ rest = drop-cons gs at child below ∙ ap (λ (c : Group). c ∷ rest) (sym here) in
    ap (λ (o : Option Row). or_else o (sought_among place text (all_trees (map tree_seen rest)))) (sym found)
    ∙ ap (λ (l : List Group). sought_among place text (all_trees (map tree_seen l))) (sym front)
    ∙ invariant
    ∙ ap (λ (l : List Group). sought_among place text (all_trees (map tree_seen l))) is
    ∙ ap (λ (o : Option Row). or_else o (sought_among place text (all_trees (map tree_seen (out-Group g).groups)))) (sym other)
    ∙ ap (sought_in place text) (sym (seen_group g))

-- what is not found in one of a group's groups is found among the rest of them
pub passed_by : (place : Place) (text : List ℕ) (gs : List Group) (at : ℕ) (child : Group) (whole : Option Row)
    → at < length gs → child ≡ get_or gs at child → sought_in place text (tree_seen child) ≡ None
    → sought_among place text (all_trees (map tree_seen (drop at gs))) ≡ whole
    → sought_among place text (all_trees (map tree_seen (drop (at + 1) gs))) ≡ whole
passed_by place text gs at child whole below here other invariant =
    let rest : List Group = drop (suc at) gs in
    let front : drop at gs ≡ child ∷ rest = drop-cons gs at child below ∙ ap (λ (c : Group). c ∷ rest) (sym here) in
    ap (λ (n : ℕ). sought_among place text (all_trees (map tree_seen (drop n gs)))) (add-one at)
    ∙ ap (λ (o : Option Row). or_else o (sought_among place text (all_trees (map tree_seen rest)))) (sym other)
    ∙ ap (λ (l : List Group). sought_among place text (all_trees (map tree_seen l))) (sym front)
    ∙ invariant

-- what is found neither among a group's own entries nor in its groups is not found in the group
pub found_nowhere : (g : Group) (place : Place) (text : List ℕ) (gs : List Group) (at : ℕ)
    → find (has_at place text) (map entry_row (out-Group g).entries) ≡ None → gs ≡ (out-Group g).groups → length gs ≤ at
    → sought_among place text (all_trees (map tree_seen (drop at gs))) ≡ sought_among place text (all_trees (map tree_seen gs))
    → None ≡ sought_in place text (tree_seen g)
found_nowhere g place text gs at other is past invariant =
    ap (λ (l : List Group). sought_among place text (all_trees (map tree_seen l))) (sym (drop_all at gs past))
    ∙ invariant
    ∙ ap (λ (l : List Group). sought_among place text (all_trees (map tree_seen l))) is
    ∙ ap (λ (o : Option Row). or_else o (sought_among place text (all_trees (map tree_seen (out-Group g).groups)))) (sym other)
    ∙ ap (sought_in place text) (sym (seen_group g))
