-- Finding an id along the walk of a document is finding it from group to group.
use Rattle.std.proofs.Common.{◌≡◌, ℕ, false, cond, List, [], ◌∷◌, ◌++◌, map, Some, None, refl, sym, ap, ◌∙◌}
use Rattle.std.specs.Prelude.{bytes_eq, codes}
use Rattle.vault_model.specs.Db.{NodeId}
use Rattle.vault_model.specs.Shape.{EntryRecord}
use Rattle.vault_model.specs.Tree.{BareDoc, Tree, Trees, beside, node, none}
use Rattle.vault_model.specs.Walk.{Walked, name_of, walk, walk_tree, walk_trees, walked_entry}
use Rattle.tree_core.specs.ById.{entry_with_name, entry_with_name_in, group_with_name, group_with_name_in, named_among}
use Rattle.tree_core.specs.Finding.{entry_by_id, entry_found, entry_named, first, group_at_path, group_by_id, group_found, id_name, or_else, without_slashes}
use Rattle.tree_core.specs.Path.{is_exactly, strip_prefix}
use Rattle.tree_core.proofs.Leading.{name_left}
use Rattle.tree_core.proofs.Walks.{first_append, tested}

-- ---- entries

own_entries : (text : List ℕ) (names : List (List ℕ)) (es : List (NodeId × EntryRecord))
    → first (entry_by_id text) (map (walked_entry names) es) ≡ named_among text es
own_entries text names [] = refl
own_entries text names (e ∷ es) =
    tested (bytes_eq text (id_name e.0)) e.0 (first (entry_by_id text) (map (walked_entry names) es))
    ∙ ap (cond (bytes_eq text (id_name e.0)) (Some e.0)) (own_entries text names es)

mutual
  pub entries_walked : (text : List ℕ) (names : List (List ℕ)) (t : Tree)
      → first (entry_by_id text) (walk_tree names t) ≡ entry_with_name text t
  entries_walked text names (node u r es ts) =
      first_append (entry_by_id text) (map (walked_entry names) es) (walk_trees names ts)
      ∙ ap (λ o. or_else o (first (entry_by_id text) (walk_trees names ts))) (own_entries text names es)
      ∙ ap (or_else (named_among text es)) (all_entries_walked text names ts)

  all_entries_walked : (text : List ℕ) (names : List (List ℕ)) (ts : Trees)
      → first (entry_by_id text) (walk_trees names ts) ≡ entry_with_name_in text ts
  all_entries_walked text names none = refl
  all_entries_walked text names (beside t ts) =
      first_append (entry_by_id text) (walk_tree (names ++ name_of t ∷ []) t) (walk_trees names ts)
      ∙ ap (λ o. or_else o (first (entry_by_id text) (walk_trees names ts))) (entries_walked text (names ++ name_of t ∷ []) t)
      ∙ ap (or_else (entry_with_name text t)) (all_entries_walked text names ts)

-- ---- groups

no_entry : (text : List ℕ) (names : List (List ℕ)) (es : List (NodeId × EntryRecord)) (ws : List Walked)
    → first (group_by_id text) (map (walked_entry names) es ++ ws) ≡ first (group_by_id text) ws
no_entry text names [] ws = refl
no_entry text names (e ∷ es) ws = no_entry text names es ws

mutual
  pub groups_walked : (text : List ℕ) (names : List (List ℕ)) (t : Tree)
      → first (group_by_id text) (walk_tree names t) ≡ group_with_name text t
  groups_walked text names (node u r es ts) =
      tested (bytes_eq text (id_name u)) u (first (group_by_id text) (map (walked_entry names) es ++ walk_trees names ts))
      ∙ ap (cond (bytes_eq text (id_name u)) (Some u)) (no_entry text names es (walk_trees names ts) ∙ all_groups_walked text names ts)

  all_groups_walked : (text : List ℕ) (names : List (List ℕ)) (ts : Trees)
      → first (group_by_id text) (walk_trees names ts) ≡ group_with_name_in text ts
  all_groups_walked text names none = refl
  all_groups_walked text names (beside t ts) =
      first_append (group_by_id text) (walk_tree (names ++ name_of t ∷ []) t) (walk_trees names ts)
      ∙ ap (λ o. or_else o (first (group_by_id text) (walk_trees names ts))) (groups_walked text (names ++ name_of t ∷ []) t)
      ∙ ap (or_else (group_with_name text t)) (all_groups_walked text names ts)

-- ---- what a text names

module _ (doc : BareDoc) (text : List ℕ) where
  -- an entry's id
  pub entry_by_name : (id : NodeId) → entry_with_name text doc.tree ≡ Some id → Some id ≡ entry_found doc text
  unfolding entry_found
  entry_by_name id e =
      sym (ap (λ o. or_else o (first (entry_named text) (walk doc))) (entries_walked text [] doc.tree ∙ e))

  -- or an entry's path
  pub entry_by_path : entry_with_name text doc.tree ≡ None → first (entry_named text) (walk doc) ≡ entry_found doc text
  unfolding entry_found
  entry_by_path e =
      sym (ap (λ o. or_else o (first (entry_named text) (walk doc))) (entries_walked text [] doc.tree ∙ e))

  -- a group's id
  pub group_by_name : (id : NodeId) → group_with_name (without_slashes text) doc.tree ≡ Some id → Some id ≡ group_found doc text
  unfolding group_found
  group_by_name id e =
      sym (ap (λ o. or_else o (group_at_path doc text)) (groups_walked (without_slashes text) [] doc.tree ∙ e))

  -- or a group's path
  pub group_by_path : group_with_name (without_slashes text) doc.tree ≡ None → group_at_path doc text ≡ group_found doc text
  unfolding group_found
  group_by_path e =
      sym (ap (λ o. or_else o (group_at_path doc text)) (groups_walked (without_slashes text) [] doc.tree ∙ e))

-- ---- an id in braces

-- a text that begins with a brace is the name of an id where the id and a brace are left
pub named_where_left : (shown text rest : List ℕ) → strip_prefix (codes "{") text ≡ Some rest
    → is_exactly (codes "}") (strip_prefix shown rest) ≡ bytes_eq text (codes "{" ++ shown ++ codes "}")
named_where_left shown text rest left =
    sym (name_left (codes "{") (shown ++ codes "}") text ∙ ap (is_exactly (shown ++ codes "}")) left ∙ name_left shown (codes "}") rest)

-- and no other text is
pub not_named : (shown text : List ℕ) → strip_prefix (codes "{") text ≡ None → false ≡ bytes_eq text (codes "{" ++ shown ++ codes "}")
not_named shown text left = sym (name_left (codes "{") (shown ++ codes "}") text ∙ ap (is_exactly (shown ++ codes "}")) left)
