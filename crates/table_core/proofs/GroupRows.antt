-- The rows of a group: those of its entries, and then those of its groups.
use Rattle.std.proofs.Common.{◌≡◌, ℕ, List, [], ◌∷◌, ◌++◌, map, sym, ap, ◌∙◌}
use Rattle.std.proofs.lemmas.Grind.{flat_map-append}
use Rattle.vault_model.proofs.SeenGroups.{seen_group}
use Rattle.vault_model.specs.SeenNodes.{entry_row, tree_seen}
use Rattle.vault_model.specs.Tree.{Tree, all_trees}
use Rattle.vault_model.specs.Walk.{name_of}
use Rattle.vault_model.specs.declared.nodes.Entry.{Entry}
use Rattle.vault_model.specs.declared.nodes.Group.{Group, out-Group}
use Rattle.table_core.specs.Rows.{entry_fields, rows_among, rows_in}
use Rattle.table_core.specs.Tables.{row_of, rows_text}
use Rattle.table_core.proofs.Puts.{Steps, before}

-- The rows of entries.
abbrev pub entry_rows_text : List (List ℕ) → List Entry → List ℕ
entry_rows_text names entries = rows_text (map (entry_fields names) (map entry_row entries))

-- The rows of groups side by side in a group.
abbrev pub group_rows_text : List (List ℕ) → List Group → List ℕ
group_rows_text names groups = rows_text (rows_among names (all_trees (map tree_seen groups)))

rows_of_group : (names : List (List ℕ)) (group : Group)
    → rows_text (rows_in names (tree_seen group))
    ≡ entry_rows_text names (out-Group group).entries ++ group_rows_text names (out-Group group).groups
rows_of_group names group =
    ap (λ (t : Tree). rows_text (rows_in names t)) (seen_group group)
    ∙ flat_map-append row_of (map (entry_fields names) (map entry_row (out-Group group).entries)) (rows_among names (all_trees (map tree_seen (out-Group group).groups)))

pub group_put : {S : Type 0} {s t u : S} {step : S → List ℕ → S} → Steps step → (names : List (List ℕ)) (group : Group)
    (entries : List Entry) (groups : List Group) → entries ≡ (out-Group group).entries → groups ≡ (out-Group group).groups
    → t ≡ step s (entry_rows_text names entries) → u ≡ step t (group_rows_text names groups)
    → u ≡ step s (rows_text (rows_in names (tree_seen group)))
group_put {s = s} {step = step} laws names group entries groups es gs one more =
    before laws (entry_rows_text names entries) (group_rows_text names groups) one more
    ∙ ap (λ (l : List Entry). step s (entry_rows_text names l ++ group_rows_text names groups)) es
    ∙ ap (λ (l : List Group). step s (entry_rows_text names (out-Group group).entries ++ group_rows_text names l)) gs
    ∙ ap (step s) (sym (rows_of_group names group))

-- The name of a group in memory.
pub name_seen : (group : Group) → name_of (tree_seen group) ≡ (out-Group group).state.content.name
name_seen group = ap name_of (seen_group group)

-- The rows of a group in a group to which these names lead.
abbrev pub below_text : List (List ℕ) → Group → List ℕ
below_text names group = rows_text (rows_in (names ++ (out-Group group).state.content.name ∷ []) (tree_seen group))

pub one_group_more : (names : List (List ℕ)) (group : Group) (groups : List Group)
    → group_rows_text names (group ∷ groups) ≡ below_text names group ++ group_rows_text names groups
one_group_more names group groups =
    flat_map-append row_of (rows_in (names ++ name_of (tree_seen group) ∷ []) (tree_seen group)) (rows_among names (all_trees (map tree_seen groups)))
    ∙ ap (λ (name : List ℕ). rows_text (rows_in (names ++ name ∷ []) (tree_seen group)) ++ group_rows_text names groups) (name_seen group)
