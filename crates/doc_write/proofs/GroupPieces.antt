-- What is put for a group in memory, and how many nodes it has.
use Rattle.std.proofs.Common.{◌≡◌, ℕ, ◌+◌, Bool, true, List, [], ◌∷◌, map, refl, ap, ◌∙◌, sym}
use Rattle.std.specs.List.{list_all}
use Rattle.std.specs.Prelude.{codes, ◌&&◌}
use Rattle.vault_model.specs.SeenNodes.{entry_row, tree_seen, tree_step}
use Rattle.vault_model.specs.Tree.{Tree, all_trees}
use Rattle.vault_model.specs.declared.forms.DocForm.{DocForm}
use Rattle.vault_model.specs.declared.nodes.Entry.{Entry}
use Rattle.vault_model.specs.declared.nodes.Group.{Group, out-Group}
use Rattle.vault_model.specs.declared.nodes.Group.TheFolds.{fold_out-Group}
use Rattle.doc_sinks.proofs.Fitting.{both}
use Rattle.doc_sinks.proofs.Puts.{before, boxed}
use Rattle.doc_sinks.specs.Chunks.{Chunk}
use Rattle.doc_sinks.specs.States.{after_start_tag, after_end_tag, after_piece, after_pieces}
use Rattle.doc_spelling.specs.Entries.{entry_piece}
use Rattle.doc_spelling.specs.Groups.{group_piece, group_pieces, record_pieces}
use Rattle.doc_spelling.specs.Pieces.{◌▹◌, ◌▹▹◌, pieces_of}
use Rattle.doc_spelling.specs.Pool.{PoolPair}
use Rattle.doc_spelling.specs.Ranges.{count_all, entry_nodes, fits_entry, fits_record, fits_tree, fits_trees, tree_nodes, trees_nodes}
use Rattle.doc_write.specs.GroupRecords.{group_id, group_record}

-- the groups of a list side by side
pieces_below : (form : DocForm) (pool : List PoolPair) (ts : List Tree) → pieces_of (group_piece form pool) ts ≡ group_pieces form pool (all_trees ts)
pieces_below form pool [] = refl
pieces_below form pool (t ∷ ts) = ap (λ ps. group_piece form pool t ▹ ps) (pieces_below form pool ts)

pub group_boxed : {S : Type 0} {a b e f t : S} (step : S → Chunk → S) (s : S) (form : DocForm) (pool : List PoolPair) (g : Group) (es : List Entry) (gs : List Group)
    → a ≡ after_start_tag step s (codes "Group") []
    → b ≡ after_pieces step a (record_pieces form (group_id g) (group_record g))
    → es ≡ (out-Group g).entries
    → e ≡ after_pieces step b (pieces_of (entry_piece form pool) (map entry_row es))
    → gs ≡ (out-Group g).groups
    → f ≡ after_pieces step e (pieces_of (group_piece form pool) (map tree_seen gs))
    → t ≡ after_end_tag step f (codes "Group")
    → t ≡ after_piece step s (group_piece form pool (tree_seen g))
group_boxed {b = b} {e = e} step s form pool g es gs start own same_entries entries same_groups groups end =
    let own_entries = entries ∙ ap (λ (l : List Entry). after_pieces step b (pieces_of (entry_piece form pool) (map entry_row l))) same_entries in
    let own_groups =
    groups ∙ ap (λ (l : List Group). after_pieces step e (pieces_of (group_piece form pool) (map tree_seen l))) same_groups
    ∙ ap (λ ps. after_pieces step e ps) (pieces_below form pool (map tree_seen (out-Group g).groups)) in
    let rows = before _ _ _ _ own (before _ _ _ _ own_entries own_groups) in
    boxed _ _ _ _ start rows end
    ∙ ap (λ x. after_piece step s (group_piece form pool x)) (sym (fold_out-Group Tree tree_step g))

trees_fit : (ts : List Tree) → list_all fits_tree ts ≡ fits_trees (all_trees ts)
trees_fit [] = refl
trees_fit (t ∷ ts) = ap (λ (b : Bool). fits_tree t && b) (trees_fit ts)

pub group_fits : (g : Group) (es : List Entry) (gs : List Group)
    → fits_record (group_id g) (group_record g) ≡ true
    → es ≡ (out-Group g).entries → list_all fits_entry (map entry_row es) ≡ true
    → gs ≡ (out-Group g).groups → list_all fits_tree (map tree_seen gs) ≡ true
    → fits_tree (tree_seen g) ≡ true
group_fits g es gs own same_entries entries same_groups groups =
    ap fits_tree (fold_out-Group Tree tree_step g)
    ∙ both (both own (ap (λ (l : List Entry). list_all fits_entry (map entry_row l)) (sym same_entries) ∙ entries))
    (sym (trees_fit (map tree_seen (out-Group g).groups)) ∙ ap (λ (l : List Group). list_all fits_tree (map tree_seen l)) (sym same_groups) ∙ groups)

nodes_below : (ts : List Tree) → trees_nodes (all_trees ts) ≡ count_all tree_nodes ts
nodes_below [] = refl
nodes_below (t ∷ ts) = ap (λ n. tree_nodes t + n) (nodes_below ts)

-- its nodes
pub nodes_seen : (g : Group) → tree_nodes (tree_seen g) ≡ 1 + (count_all entry_nodes (map entry_row (out-Group g).entries) + count_all tree_nodes (map tree_seen (out-Group g).groups))
nodes_seen g =
    ap tree_nodes (fold_out-Group Tree tree_step g)
    ∙ ap (λ (n : ℕ). 1 + (count_all entry_nodes (map entry_row (out-Group g).entries) + n)) (nodes_below (map tree_seen (out-Group g).groups))
