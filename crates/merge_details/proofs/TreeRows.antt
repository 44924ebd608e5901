-- Rows of all groups of a group in memory, gathered one after another.
use Rattle.std.proofs.Common.{◌≡◌, ◌<◌, ◌≤◌, ◌+◌, ℕ, suc, List, [], ◌∷◌, ◌++◌, append_assoc, append-nil, drop, get_or, length, map, refl, sym, ap, ◌∙◌, arith}
use Rattle.std.proofs.Math.Seq.{drop-cons}
use Rattle.std.proofs.lemmas.List.{drop_all}
use Rattle.vault_model.specs.declared.nodes.Group.{Group, out-Group}
use Rattle.vault_model.specs.SeenNodes.{tree_seen}
use Rattle.vault_model.specs.Tree.{Tree, Trees, all_trees, beside, none}

abbrev pub trees : List Group → Trees
trees gs = all_trees (map tree_seen gs)

module _ {A : Type 0} (those : Tree → List A) (all_those : Trees → List A) (no_more : all_those none ≡ [])
    (more : (t : Tree) (ts : Trees) → all_those (beside t ts) ≡ those t ++ all_those ts) where
  -- one more group
  pub children_next : (start rows new : List A) (gs : List Group) (at : ℕ) (child : Group) → at < length gs → child ≡ get_or gs at child
      → start ++ all_those (trees gs) ≡ rows ++ all_those (trees (drop at gs)) → new ≡ rows ++ those (tree_seen child)
      → start ++ all_those (trees gs) ≡ new ++ all_those (trees (drop (at + 1) gs))
  children_next start rows new gs at child less is so_far e =
      let one : suc at ≡ at + 1 = omega arith in
      so_far
      ∙ ap (λ (xs : List Group). rows ++ all_those (trees xs)) (drop-cons gs at child less ∙ ap (λ (x : Group). x ∷ drop (suc at) gs) (sym is))
      ∙ ap (λ ts. rows ++ ts) (more (tree_seen child) (trees (drop (suc at) gs)))
      ∙ sym (append_assoc rows (those (tree_seen child)) (all_those (trees (drop (suc at) gs))))
      ∙ ap (λ ts. ts ++ all_those (trees (drop (suc at) gs))) (sym e)
      ∙ ap (λ n. new ++ all_those (trees (drop n gs))) one

  -- no more groups
  pub children_done : (start rows : List A) (gs own : List Group) (at : ℕ) → length gs ≤ at → gs ≡ own
      → start ++ all_those (trees gs) ≡ rows ++ all_those (trees (drop at gs)) → rows ≡ start ++ all_those (trees own)
  children_done start rows gs own at far same so_far =
      sym (append-nil rows)
      ∙ ap (λ ts. rows ++ ts) (sym (ap (λ (xs : List Group). all_those (trees xs)) (drop_all at gs far) ∙ no_more))
      ∙ sym so_far
      ∙ ap (λ (xs : List Group). start ++ all_those (trees xs)) same

  -- no more groups, after the group's own rows
  pub rows_done : (old own_rows start rows : List A) (gs own : List Group) (at : ℕ) → length gs ≤ at → gs ≡ own → start ≡ old ++ own_rows
      → start ++ all_those (trees gs) ≡ rows ++ all_those (trees (drop at gs)) → rows ≡ old ++ (own_rows ++ all_those (trees own))
  rows_done old own_rows start rows gs own at far same put so_far =
      children_done start rows gs own at far same so_far
      ∙ ap (λ front. front ++ all_those (trees own)) put
      ∙ append_assoc old own_rows (all_those (trees own))
