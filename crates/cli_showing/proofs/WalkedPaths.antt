-- The paths of a walk, and the same from group to group.
use Rattle.std.proofs.Common.{◌≡◌, ℕ, Bool, List, [], ◌∷◌, ◌++◌, cond, codes, flat_map, map, refl, sym, ap, ap₂, ◌∙◌, append_assoc, append-nil}
use Rattle.std.proofs.lemmas.List.Concat.{flat_map-append}
use Rattle.vault_model.specs.Db.{NodeId}
use Rattle.vault_model.specs.Shape.{EntryRecord}
use Rattle.vault_model.specs.Tree.{BareDoc, Tree, Trees, beside, node, none}
use Rattle.vault_model.specs.Walk.{name_of, slash_joined, slashed, title_of, walk_tree, walk_trees, walked_entry}
use Rattle.cli_showing.specs.Paths.{is_among, path_line, paths_found}
use Rattle.cli_showing.specs.inside.Walking.{entry_line, entry_lines, front_below, tree_lines, trees_lines}

-- ---- names with slashes

slashed_more : (names : List (List ℕ)) (name : List ℕ) → slashed (names ++ name ∷ []) ≡ (slashed names ++ codes "/") ++ name
slashed_more [] name = ap (λ l. codes "/" ++ l) (append-nil name)
slashed_more (n ∷ ns) name =
    ap (λ l. codes "/" ++ (n ++ l)) (slashed_more ns name)
    ∙ ap (λ l. codes "/" ++ l)
    (sym (append_assoc n (slashed ns ++ codes "/") name)
    ∙ ap (λ l. l ++ name) (sym (append_assoc n (slashed ns) (codes "/"))))

slash_first : (names : List (List ℕ)) (name : List ℕ) → codes "/" ++ slash_joined (names ++ name ∷ []) ≡ slashed (names ++ name ∷ [])
slash_first [] name = refl
slash_first (n ∷ ns) name = refl

-- what is before the titles in a group to which names lead
abbrev front : List (List ℕ) → List ℕ
front names = slashed names ++ codes "/"

front_more : (names : List (List ℕ)) (name : List ℕ) → front (names ++ name ∷ []) ≡ front_below (front names) name
front_more names name = ap (λ l. l ++ codes "/") (slashed_more names name)

-- ---- lines

entry_walked : (is_found : NodeId → Bool) (names : List (List ℕ)) (e : NodeId × EntryRecord)
    → path_line is_found (walked_entry names e) ≡ entry_line is_found (front names) e
entry_walked is_found names e =
    ap (λ l. cond (is_found e.0) (l ++ codes "\n") []) (slash_first names (title_of e.1) ∙ slashed_more names (title_of e.1))

entries_walked : (is_found : NodeId → Bool) (names : List (List ℕ)) (es : List (NodeId × EntryRecord))
    → flat_map (path_line is_found) (map (walked_entry names) es) ≡ entry_lines is_found (front names) es
entries_walked is_found names [] = refl
entries_walked is_found names (e ∷ es) = ap₂ ◌++◌ (entry_walked is_found names e) (entries_walked is_found names es)

mutual
  tree_walked : (is_found : NodeId → Bool) (names : List (List ℕ)) (t : Tree)
      → flat_map (path_line is_found) (walk_tree names t) ≡ tree_lines is_found (front names) t
  tree_walked is_found names (node u r es ts) =
      flat_map-append (path_line is_found) (map (walked_entry names) es) (walk_trees names ts)
      ∙ ap₂ ◌++◌ (entries_walked is_found names es) (trees_walked is_found names ts)

  trees_walked : (is_found : NodeId → Bool) (names : List (List ℕ)) (ts : Trees)
      → flat_map (path_line is_found) (walk_trees names ts) ≡ trees_lines is_found (front names) ts
  trees_walked is_found names none = refl
  trees_walked is_found names (beside t ts) =
      flat_map-append (path_line is_found) (walk_tree (names ++ name_of t ∷ []) t) (walk_trees names ts)
      ∙ ap₂ ◌++◌
      (tree_walked is_found (names ++ name_of t ∷ []) t ∙ ap (λ l. tree_lines is_found l t) (front_more names (name_of t)))
      (trees_walked is_found names ts)

-- The paths of the entries that pass the test that asks for these ids.
pub paths_walked : (is_found : NodeId → Bool) (ids : List NodeId) (doc : BareDoc) → ((id : NodeId) → is_found id ≡ is_among ids id)
    → tree_lines is_found (codes "/") doc.tree ≡ paths_found ids doc
paths_walked is_found ids doc same =
    sym (tree_walked is_found [] doc.tree) ∙ ap (λ (f : NodeId → Bool). flat_map (path_line f) (walk_tree [] doc.tree)) (λ i id. same id i)
