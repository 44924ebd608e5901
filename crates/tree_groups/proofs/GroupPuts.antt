-- A group in memory with one group more.
use Rattle.std.proofs.Common.{◌≡◌, List, [], ◌∷◌, ◌++◌, Result, Ok, Err, MatchResult, OnOk, OnErr, map, refl, sym, ap, ◌∙◌}
use Rattle.vault_model.specs.SeenNodes.{entry_row, tree_seen}
use Rattle.vault_model.specs.Tree.{beside, node}
use Rattle.vault_model.specs.declared.nodes.Group.{Group, out-Group}
use Rattle.vault_model.proofs.SeenGroups.{seen_group}
use Rattle.tree_core.specs.Changes.{with_group, with_last}
use Rattle.tree_steps.proofs.InPlace.{record_seen, seen_with_groups, trees, with_groups}

last_put : (gs : List Group) (x : Group) → trees (gs ++ x ∷ []) ≡ with_last (tree_seen x) (trees gs)
last_put [] x = refl
last_put (g ∷ gs) x = ap (λ ts. beside (tree_seen g) ts) (last_put gs x)

pub group_put : (g : Group) (gs : List Group) (x : Group) → gs ≡ (out-Group g).groups ++ x ∷ [] → tree_seen (with_groups g gs) ≡ with_group (tree_seen x) (tree_seen g)
group_put g gs x is =
    seen_with_groups g gs
    ∙ ap (λ ts. node (out-Group g).id (record_seen g) (map entry_row (out-Group g).entries) ts) (ap trees is ∙ last_put (out-Group g).groups x)
    ∙ ap (with_group (tree_seen x)) (sym (seen_group g))

pub groups_same : (g : Group) (gs : List Group) → gs ≡ (out-Group g).groups → tree_seen (with_groups g gs) ≡ tree_seen g
groups_same g gs is =
    seen_with_groups g gs ∙ ap (λ xs. node (out-Group g).id (record_seen g) (map entry_row (out-Group g).entries) (trees xs)) is ∙ sym (seen_group g)

-- a group put after the others, or not
pub group_put_or_not : {E : Type 0} (g : Group) (gs : List Group) (x : Group) (r : Result (Unit {0}) E) → OnOk r (gs ≡ (out-Group g).groups ++ x ∷ []) → OnErr r (gs ≡ (out-Group g).groups)
    → MatchResult r (λ _. tree_seen (with_groups g gs) ≡ with_group (tree_seen x) (tree_seen g)) (λ _. tree_seen (with_groups g gs) ≡ tree_seen g)
group_put_or_not g gs x (Ok u) ok err = group_put g gs x ok
group_put_or_not g gs x (Err u) ok err = groups_same g gs err
