-- Tombstones of all nodes of a group in memory, gathered one after another.
use Rattle.std.proofs.Common.{◌≡◌, ◌<◌, ◌≤◌, ◌+◌, ℕ, suc, List, [], ◌∷◌, ◌++◌, append_assoc, append-nil, drop, get_or, length, map, max, refl, sym, ap, ◌∙◌, arith}
use Rattle.std.proofs.Math.Seq.{drop-cons}
use Rattle.std.proofs.lemmas.List.{drop_all}
use Rattle.vault_model.specs.declared.nodes.Entry.{Entry}
use Rattle.vault_model.specs.declared.nodes.Group.{Group, out-Group}
use Rattle.vault_model.specs.declared.nodes.Tombstone.{Tombstone}
use Rattle.vault_model.specs.Db.{NodeId}
use Rattle.vault_model.specs.SeenNodes.{entry_row, tree_seen}
use Rattle.vault_model.specs.Tree.{Tree, Trees, beside, entry_rows, entry_rows_all, group_rows, group_rows_all, none}
use Rattle.vault_model.proofs.SeenGroups.{seen_group}
use Rattle.vault_model.proofs.Tests.{map_append}
use Rattle.tree_core.specs.Changes.{tomb_at}
use Rattle.tree_removals.specs.Tombs.{entry_tomb, entry_tombs, entry_tombs_all, group_tomb, group_tombs, group_tombs_all}
use Rattle.tree_steps.proofs.InPlace.{trees}

-- ---- the groups of a group, one after another

module _ (those : Tree → List Tombstone) (all_those : Trees → List Tombstone) (no_more : all_those none ≡ [])
    (more : (t : Tree) (ts : Trees) → all_those (beside t ts) ≡ those t ++ all_those ts) where
  children_next : (start tombs new : List Tombstone) (gs : List Group) (at : ℕ) (child : Group) → at < length gs → child ≡ get_or gs at child
      → start ++ all_those (trees gs) ≡ tombs ++ all_those (trees (drop at gs)) → new ≡ tombs ++ those (tree_seen child)
      → start ++ all_those (trees gs) ≡ new ++ all_those (trees (drop (at + 1) gs))
  children_next start tombs new gs at child less is so_far e =
      let one : suc at ≡ at + 1 = omega arith in
      so_far
      ∙ ap (λ (xs : List Group). tombs ++ all_those (trees xs)) (drop-cons gs at child less ∙ ap (λ (x : Group). x ∷ drop (suc at) gs) (sym is))
      ∙ ap (λ ts. tombs ++ ts) (more (tree_seen child) (trees (drop (suc at) gs)))
      ∙ sym (append_assoc tombs (those (tree_seen child)) (all_those (trees (drop (suc at) gs))))
      ∙ ap (λ ts. ts ++ all_those (trees (drop (suc at) gs))) (sym e)
      ∙ ap (λ n. new ++ all_those (trees (drop n gs))) one

  children_done : (start tombs : List Tombstone) (gs own : List Group) (at : ℕ) → length gs ≤ at → gs ≡ own
      → start ++ all_those (trees gs) ≡ tombs ++ all_those (trees (drop at gs)) → tombs ≡ start ++ all_those (trees own)
  children_done start tombs gs own at far same so_far =
      sym (append-nil tombs)
      ∙ ap (λ ts. tombs ++ ts) (sym (ap (λ (xs : List Group). all_those (trees xs)) (drop_all at gs far) ∙ no_more))
      ∙ sym so_far
      ∙ ap (λ (xs : List Group). start ++ all_those (trees xs)) same

-- ---- groups

more_groups : (now : ℕ) (t : Tree) (ts : Trees) → group_tombs_all now (beside t ts) ≡ group_tombs now t ++ group_tombs_all now ts
more_groups now t ts = map_append (group_tomb now) (group_rows t) (group_rows_all ts)

pub groups_next : (now : ℕ) (start tombs new : List Tombstone) (gs : List Group) (at : ℕ) (child : Group) → at < length gs → child ≡ get_or gs at child
    → start ++ group_tombs_all now (trees gs) ≡ tombs ++ group_tombs_all now (trees (drop at gs)) → new ≡ tombs ++ group_tombs now (tree_seen child)
    → start ++ group_tombs_all now (trees gs) ≡ new ++ group_tombs_all now (trees (drop (at + 1) gs))
groups_next now = children_next (group_tombs now) (group_tombs_all now) refl (more_groups now)

abbrev tomb : NodeId → ℕ → Tombstone
tomb id time = record { id = id; deleted = time }

pub groups_done : (now : ℕ) (g : Group) (time : ℕ) (old start tombs : List Tombstone) (gs : List Group) (at : ℕ) → time ≡ max now (out-Group g).state.modified
    → start ≡ old ++ tomb (out-Group g).id time ∷ [] → length gs ≤ at → gs ≡ (out-Group g).groups
    → start ++ group_tombs_all now (trees gs) ≡ tombs ++ group_tombs_all now (trees (drop at gs)) → tombs ≡ old ++ group_tombs now (tree_seen g)
groups_done now g time old start tombs gs at is pushed far same so_far =
    children_done (group_tombs now) (group_tombs_all now) refl (more_groups now) start tombs gs (out-Group g).groups at far same so_far
    ∙ ap (λ ts. ts ++ group_tombs_all now (trees (out-Group g).groups)) (pushed ∙ ap (λ n. old ++ tomb (out-Group g).id n ∷ []) is)
    ∙ append_assoc old (tomb_at now (out-Group g).id (out-Group g).state.modified ∷ []) (group_tombs_all now (trees (out-Group g).groups))
    ∙ sym (ap (λ t. old ++ group_tombs now t) (seen_group g))

-- ---- entries

more_entries : (now : ℕ) (t : Tree) (ts : Trees) → entry_tombs_all now (beside t ts) ≡ entry_tombs now t ++ entry_tombs_all now ts
more_entries now t ts = map_append (entry_tomb now) (entry_rows t) (entry_rows_all ts)

pub entries_next : (now : ℕ) (start tombs new : List Tombstone) (gs : List Group) (at : ℕ) (child : Group) → at < length gs → child ≡ get_or gs at child
    → start ++ entry_tombs_all now (trees gs) ≡ tombs ++ entry_tombs_all now (trees (drop at gs)) → new ≡ tombs ++ entry_tombs now (tree_seen child)
    → start ++ entry_tombs_all now (trees gs) ≡ new ++ entry_tombs_all now (trees (drop (at + 1) gs))
entries_next now = children_next (entry_tombs now) (entry_tombs_all now) refl (more_entries now)

pub entries_done : (now : ℕ) (g : Group) (es : List Entry) (old start tombs : List Tombstone) (gs : List Group) (at : ℕ) → es ≡ (out-Group g).entries
    → start ≡ old ++ map (entry_tomb now) (map entry_row es) → length gs ≤ at → gs ≡ (out-Group g).groups
    → start ++ entry_tombs_all now (trees gs) ≡ tombs ++ entry_tombs_all now (trees (drop at gs)) → tombs ≡ old ++ entry_tombs now (tree_seen g)
entries_done now g es old start tombs gs at own first far same so_far =
    let rest = entry_tombs_all now (trees (out-Group g).groups) in
    children_done (entry_tombs now) (entry_tombs_all now) refl (more_entries now) start tombs gs (out-Group g).groups at far same so_far
    ∙ ap (λ ts. ts ++ rest) (first ∙ ap (λ (xs : List Entry). old ++ map (entry_tomb now) (map entry_row xs)) own)
    ∙ append_assoc old (map (entry_tomb now) (map entry_row (out-Group g).entries)) rest
    ∙ ap (λ ts. old ++ ts) (sym (map_append (entry_tomb now) (map entry_row (out-Group g).entries) (entry_rows_all (trees (out-Group g).groups))))
    ∙ sym (ap (λ t. old ++ entry_tombs now t) (seen_group g))
