-- Groups in memory, compared part by part.
use Rattle.std.proofs.Common.{◌≡◌, ◌&&◌, ◌∷◌, [], Bool, true, List, map, refl, sym, ap, ◌∙◌}
use Rattle.vault_model.specs.declared.nodes.Group.{Group, out-Group}
use Rattle.vault_model.specs.declared.nodes.Group.TheFolds.{fold_out-Group}
use Rattle.vault_model.specs.SeenNodes.{entry_row, tree_seen, tree_step}
use Rattle.vault_model.specs.Tree.{Tree, all_trees, node}
use Rattle.merge_changes.specs.Equality.{same_all, same_parts, same_tree, same_trees}

seen_group : (g : Group)
    → tree_seen g
    ≡ node (out-Group g).id (record { placed = (out-Group g).placed; previous = (out-Group g).previous; state = (out-Group g).state; view = (out-Group g).view }) (map entry_row (out-Group g).entries)
    (all_trees (map tree_seen (out-Group g).groups))
seen_group g = fold_out-Group Tree tree_step g

beside_all : (ts us : List Tree) → same_trees (all_trees ts) (all_trees us) ≡ same_all same_tree ts us
beside_all [] [] = refl
beside_all [] (u ∷ us) = refl
beside_all (t ∷ ts) [] = refl
beside_all (t ∷ ts) (u ∷ us) = ap (λ b. same_tree t u && b) (beside_all ts us)

pub same_seen : (g h : Group)
    → same_tree (tree_seen g) (tree_seen h) ≡ (same_parts g h && same_all same_tree (map tree_seen (out-Group g).groups) (map tree_seen (out-Group h).groups))
same_seen g h =
    (λ i. same_tree (seen_group g i) (seen_group h i))
    ∙ ap (λ b. same_parts g h && b) (beside_all (map tree_seen (out-Group g).groups) (map tree_seen (out-Group h).groups))

-- two groups that are the same but for the groups in them, and whose groups are the same up to some
pub groups_from : (g h : Group) (same : Bool) (xs ys gs hs : List Group) → same ≡ true → same ≡ same_parts g h → xs ≡ (out-Group g).groups → ys ≡ (out-Group h).groups
    → same_all same_tree (map tree_seen xs) (map tree_seen ys) ≡ same_all same_tree (map tree_seen gs) (map tree_seen hs)
    → same_tree (tree_seen g) (tree_seen h) ≡ same_all same_tree (map tree_seen gs) (map tree_seen hs)
groups_from g h same xs ys gs hs e is one two before =
    same_seen g h
    ∙ ap (λ b. b && same_all same_tree (map tree_seen (out-Group g).groups) (map tree_seen (out-Group h).groups)) (sym is ∙ e)
    ∙ sym (λ i. same_all same_tree (map tree_seen (one i)) (map tree_seen (two i)))
    ∙ before
