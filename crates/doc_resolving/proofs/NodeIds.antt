-- The ids of a group in memory.
use Rattle.std.proofs.Common.{◌≡◌, ℕ, suc, ◌+◌, ◌<◌, List, [], ◌∷◌, ◌++◌, length, drop, get_or, map, sym, ap, ◌∙◌, append_assoc, append-nil, arith}
use Rattle.std.proofs.Math.Seq.{drop-cons}
use Rattle.vault_model.specs.Db.{NodeId}
use Rattle.vault_model.specs.SeenNodes.{entry_row, tree_seen, tree_step}
use Rattle.vault_model.specs.Shape.{EntryRecord}
use Rattle.vault_model.specs.Tree.{Tree, node_ids, node_ids_all, all_trees}
use Rattle.vault_model.specs.declared.nodes.Entry.{Entry}
use Rattle.vault_model.specs.declared.nodes.Group.{Group, out-Group}
use Rattle.vault_model.specs.declared.nodes.Group.TheFolds.{fold_out-Group}

-- the ids of some entries
abbrev pub entry_ids : List Entry → List NodeId
entry_ids es = map (λ (e : NodeId × EntryRecord). e.0) (map entry_row es)

-- the ids of some groups and of all below them
abbrev pub group_ids : List Group → List NodeId
group_ids gs = node_ids_all (all_trees (map tree_seen gs))

-- those of a group: its own, those of its entries, and those of its groups
pub ids_seen : (g : Group) → node_ids (tree_seen g) ≡ (out-Group g).id ∷ (entry_ids (out-Group g).entries ++ group_ids (out-Group g).groups)
ids_seen g = ap node_ids (fold_out-Group Tree tree_step g)

pub ids_after : (ids : List NodeId) (g : Group)
    → ids ++ node_ids (tree_seen g) ≡ ((ids ++ (out-Group g).id ∷ []) ++ entry_ids (out-Group g).entries) ++ group_ids (out-Group g).groups
ids_after ids g = ap (λ us. ids ++ us) (ids_seen g) ∙ simp append_assoc

-- what is gathered of a group, its entries and its groups one after another
pub all_after : (ids own_bytes entries all : List NodeId) (g : Group) (es : List Entry) (gs rest : List Group)
    → ids ++ (out-Group g).id ∷ [] ≡ own_bytes
    → es ≡ (out-Group g).entries
    → own_bytes ++ entry_ids es ≡ entries
    → gs ≡ (out-Group g).groups
    → entries ++ group_ids gs ≡ all ++ group_ids rest
    → rest ≡ []
    → ids ++ node_ids (tree_seen g) ≡ all
all_after ids own_bytes entries all g es gs rest p q r s t u = cc (ids_after ids g, append-nil all, ap (λ gs. all ++ group_ids gs) u)

-- the item at an index, and what is left after it
one_left : {A : Type 0} (items : List A) (at : ℕ) (x : A) → at < length items → x ≡ get_or items at x → drop at items ≡ x ∷ drop (at + 1) items
one_left items at x within is =
    let next : suc at ≡ at + 1 = omega arith in
    drop-cons items at x within ∙ ap (λ y. y ∷ drop (suc at) items) (sym is) ∙ ap (λ n. x ∷ drop n items) next

-- what is gathered, with what is left, once one entry more is gathered
pub one_entry_more : (whole ids more : List NodeId) (entries : List Entry) (at : ℕ) (e : Entry)
    → at < length entries → e ≡ get_or entries at e
    → whole ≡ ids ++ entry_ids (drop at entries)
    → more ≡ ids ++ (entry_row e).0 ∷ []
    → whole ≡ more ++ entry_ids (drop (at + 1) entries)
one_entry_more whole ids more entries at e within is known added =
    known
    ∙ ap (λ es. ids ++ entry_ids es) (one_left entries at e within is)
    ∙ sym (append_assoc ids ((entry_row e).0 ∷ []) (entry_ids (drop (at + 1) entries)))
    ∙ ap (λ us. us ++ entry_ids (drop (at + 1) entries)) (sym added)

-- the same of groups
pub one_group_more : (whole ids more : List NodeId) (groups : List Group) (at : ℕ) (g : Group)
    → at < length groups → g ≡ get_or groups at g
    → whole ≡ ids ++ group_ids (drop at groups)
    → more ≡ ids ++ node_ids (tree_seen g)
    → whole ≡ more ++ group_ids (drop (at + 1) groups)
one_group_more whole ids more groups at g within is known added =
    known
    ∙ ap (λ gs. ids ++ group_ids gs) (one_left groups at g within is)
    ∙ sym (append_assoc ids (node_ids (tree_seen g)) (group_ids (drop (at + 1) groups)))
    ∙ ap (λ us. us ++ group_ids (drop (at + 1) groups)) (sym added)
