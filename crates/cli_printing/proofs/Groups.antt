-- The group of an id, from group to group.
use Rattle.std.proofs.Common.{◌≡◌, ◌<◌, ℕ, suc, Bool, false, cond, List, ◌∷◌, length, drop, get_or, map, Option, Some, sym, ap, ◌∙◌}
use Rattle.std.specs.Prelude.{bytes_eq}
use Rattle.std.proofs.Math.Seq.{drop-cons}
use Rattle.vault_model.proofs.SeenGroups.{seen_group}
use Rattle.tree_core.specs.Finding.{or_else}
use Rattle.vault_model.specs.Db.{NodeId}
use Rattle.vault_model.specs.SeenNodes.{tree_seen}
use Rattle.vault_model.specs.Tree.{Tree, all_trees}
use Rattle.vault_model.specs.declared.nodes.Group.{Group, out-Group}
use Rattle.cli_printing.specs.Listing.{tree_among, tree_with}

-- what is found in one of a group's groups, behind those in which it is not, is found in the group
pub found_below : (g : Group) (id : NodeId) (gs : List Group) (at : ℕ) (child : Group) (x : Tree)
    → bytes_eq (out-Group g).id id ≡ false → gs ≡ (out-Group g).groups → at < length gs → child ≡ get_or gs at child
    → tree_among id (all_trees (map tree_seen (drop at gs))) ≡ tree_among id (all_trees (map tree_seen gs))
    → tree_with id (tree_seen child) ≡ Some x → Some x ≡ tree_with id (tree_seen g)
found_below g id gs at child x other is below here invariant found =
    let rest : List Group = drop (suc at) gs in
    let front : drop at gs ≡ child ∷ rest = drop-cons gs at child below ∙ ap (λ (c : Group). c ∷ rest) (sym here) in
    ap (λ (o : Option Tree). or_else o (tree_among id (all_trees (map tree_seen rest)))) (sym found)
    ∙ ap (λ (l : List Group). tree_among id (all_trees (map tree_seen l))) (sym front)
    ∙ invariant
    ∙ ap (λ (l : List Group). tree_among id (all_trees (map tree_seen l))) is
    ∙ ap (λ (b : Bool). cond b (Some (tree_seen g)) (tree_among id (all_trees (map tree_seen (out-Group g).groups)))) (sym other)
    ∙ ap (λ (t : Tree). cond (bytes_eq (out-Group g).id id) (Some t) (tree_among id (all_trees (map tree_seen (out-Group g).groups)))) (seen_group g)
    ∙ ap (tree_with id) (sym (seen_group g))
