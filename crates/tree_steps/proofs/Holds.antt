-- The group that holds an entry is the group itself or one below it.
use Rattle.std.proofs.Common.{◌≡◌, ◌<◌, ◌≤◌, ℕ, suc, Bool, true, false, cond, List, ◌∷◌, None, Some, map, is_some, find, get_or, drop, length, sym, ap, ◌∙◌}
use Rattle.std.proofs.Math.Seq.{drop-cons}
use Rattle.std.proofs.lemmas.List.{drop_all}
use Rattle.vault_model.specs.Db.{NodeId}
use Rattle.vault_model.specs.Join.{is_id}
use Rattle.vault_model.specs.SeenNodes.{entry_row, tree_seen}
use Rattle.vault_model.specs.Shape.{EntryRecord}
use Rattle.vault_model.specs.declared.nodes.Group.{Group, out-Group}
use Rattle.vault_model.proofs.SeenGroups.{seen_group}
use Rattle.tree_core.specs.Finding.{or_else}
use Rattle.tree_core.specs.Changes.{holder, holder_among}
use Rattle.tree_steps.proofs.InPlace.{trees}

abbrev own : NodeId → Group → Bool
own u g = is_some (find (λ (e : NodeId × EntryRecord). is_id e.0 u) (map entry_row (out-Group g).entries))

seen_holder : (u : NodeId) (g : Group) (b : Bool) → own u g ≡ b → holder u (tree_seen g) ≡ cond b (Some (out-Group g).id) (holder_among u (trees (out-Group g).groups))
seen_holder u g b h = ap (holder u) (seen_group g) ∙ ap (λ c. cond c (Some (out-Group g).id) (holder_among u (trees (out-Group g).groups))) h

pub holder_here : (u : NodeId) (g : Group) → own u g ≡ true → Some (out-Group g).id ≡ holder u (tree_seen g)
holder_here u g h = sym (seen_holder u g true h)

pub holder_found : (u v : NodeId) (g child : Group) (items : List Group) (at : ℕ) → own u g ≡ false → items ≡ (out-Group g).groups → at < length items → child ≡ get_or items at child
    → holder_among u (trees (drop at items)) ≡ holder_among u (trees items) → holder u (tree_seen child) ≡ Some v → Some v ≡ holder u (tree_seen g)
holder_found u v g child items at off are less is same found =
    sym (seen_holder u g false off
    ∙ sym (ap (λ gs. holder_among u (trees gs)) are)
    ∙ sym same
    ∙ ap (λ gs. holder_among u (trees gs)) (drop-cons items at child less ∙ ap (λ (x : Group). x ∷ drop (suc at) items) (sym is))
    ∙ ap (λ o. or_else o (holder_among u (trees (drop (suc at) items)))) found)

pub holder_none : (u : NodeId) (g : Group) (items : List Group) (at : ℕ) → own u g ≡ false → items ≡ (out-Group g).groups → length items ≤ at
    → holder_among u (trees (drop at items)) ≡ holder_among u (trees items) → None ≡ holder u (tree_seen g)
holder_none u g items at off are far same =
    sym (seen_holder u g false off
    ∙ sym (ap (λ gs. holder_among u (trees gs)) are)
    ∙ sym same
    ∙ ap (λ gs. holder_among u (trees gs)) (drop_all at items far))
