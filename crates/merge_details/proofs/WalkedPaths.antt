-- The paths that a program makes are those of the nodes of the document.
use Rattle.std.proofs.Common.{◌≡◌, ℕ, List, [], ◌∷◌, ◌++◌, append_assoc, append-nil, map, refl, sym, ap, ◌∙◌}
use Rattle.std.specs.Prelude.{codes}
use Rattle.std.specs.FinMap.{from_entries, get-from_entries}
use Rattle.std.specs.Option.{unwrap_or}
use Rattle.vault_model.specs.Db.{NodeId, id_cmp}
use Rattle.vault_model.specs.Shape.{EntryRecord}
use Rattle.vault_model.specs.Tree.{BareDoc, Tree, Trees, beside, node, none}
use Rattle.vault_model.specs.Walk.{name_of, slash_joined, slashed, title_of, walk, walk_tree, walk_trees, walked_entry}
use Rattle.vault_model.proofs.Orders.{id_order}
use Rattle.vault_model.proofs.Tests.{map_append}
use Rattle.merge_details.specs.PathTables.{all_paths, entry_path, group_path, path_at, path_below, paths_among, paths_inside}
use Rattle.merge_details.specs.Paths.{path_in, path_row}

-- one name more
slashed_more : (names : List (List ℕ)) (n : List ℕ) → slashed (names ++ n ∷ []) ≡ path_below (slashed names) n
slashed_more [] n = append-nil (codes "/" ++ n)
slashed_more (m ∷ ms) n =
    ap (λ rest. (codes "/" ++ m) ++ rest) (slashed_more ms n)
    ∙ sym (append_assoc (codes "/" ++ m) (slashed ms ++ codes "/") n)
    ∙ ap (λ front. front ++ n) (sym (append_assoc (codes "/" ++ m) (slashed ms) (codes "/")))

after_slash : (names : List (List ℕ)) (n : List ℕ) → codes "/" ++ slash_joined (names ++ n ∷ []) ≡ slashed (names ++ n ∷ [])
after_slash [] n = refl
after_slash (m ∷ ms) n = refl

path_is : (names : List (List ℕ)) (n : List ℕ) → codes "/" ++ slash_joined (names ++ n ∷ []) ≡ path_below (slashed names) n
path_is names n = after_slash names n ∙ slashed_more names n

entry_paths_are : (names : List (List ℕ)) (es : List (NodeId × EntryRecord)) → map path_row (map (walked_entry names) es) ≡ map (entry_path (slashed names)) es
entry_paths_are names [] = refl
entry_paths_are names (e ∷ es) = λ i. (e.0, path_is names (title_of e.1) i) ∷ entry_paths_are names es i

-- all that is in a group, where the groups in it are so
within : (names : List (List ℕ)) (es : List (NodeId × EntryRecord)) (ts : Trees) → map path_row (walk_trees names ts) ≡ paths_among (slashed names) ts
    → map path_row (map (walked_entry names) es ++ walk_trees names ts) ≡ map (entry_path (slashed names)) es ++ paths_among (slashed names) ts
within names es ts groups =
    map_append path_row (map (walked_entry names) es) (walk_trees names ts)
    ∙ (λ i. entry_paths_are names es i ++ groups i)

mutual
  group : (names : List (List ℕ)) (t : Tree)
      → map path_row (walk_tree (names ++ name_of t ∷ []) t) ≡ group_path (slashed names) t ∷ paths_inside (group_path (slashed names) t).1 t
  group names (node u r es ts) =
      let n = r.state.content.name in
      ap (λ (rows : List (NodeId × List ℕ)). (u, codes "/" ++ slash_joined (names ++ n ∷ [])) ∷ rows) (within (names ++ n ∷ []) es ts (among (names ++ n ∷ []) ts))
      ∙ (λ i. (u, path_is names n i) ∷ (map (entry_path (slashed_more names n i)) es ++ paths_among (slashed_more names n i) ts))

  among : (names : List (List ℕ)) (ts : Trees) → map path_row (walk_trees names ts) ≡ paths_among (slashed names) ts
  among names none = refl
  among names (beside t ts) =
      map_append path_row (walk_tree (names ++ name_of t ∷ []) t) (walk_trees names ts)
      ∙ (λ i. group names t i ++ among names ts i)

rows_are : (t : Tree) → all_paths t ≡ map path_row (walk_tree [] t)
rows_are (node u r es ts) = ap (λ (rows : List (NodeId × List ℕ)). (u, codes "/") ∷ rows) (sym (within [] es ts (among [] ts)))

-- a table of the paths of a document's tree has those of its nodes
pub paths_are : (doc : BareDoc) → path_at (from_entries (all_paths doc.tree)) ≡ path_in doc
paths_are doc =
    ap (λ (rows : List (NodeId × List ℕ)). path_at (from_entries rows)) (rows_are doc.tree)
    ∙ (λ i id. unwrap_or (get-from_entries id_order.total (map path_row (walk doc)) id i) [])
