-- What a text names is in the tree.
use Rattle.std.proofs.Common.{◌≡◌, Bool, true, false, cond, List, [], ◌∷◌, ◌++◌, Option, None, Some, map, sym, ap, ◌∙◌}
use Rattle.std.specs.Prelude.{ℕ, bytes_eq}
use Rattle.std.proofs.lemmas.Option.{same_Some}
use Rattle.vault_model.specs.Db.{NodeId}
use Rattle.vault_model.specs.Join.{is_id}
use Rattle.vault_model.specs.Shape.{EntryRecord}
use Rattle.vault_model.specs.Tree.{BareDoc, Tree, Trees, beside, node, none}
use Rattle.vault_model.specs.Walk.{slash_joined, name_of, title_of, walk, walk_tree, walk_trees, walked_entry}
use Rattle.vault_model.proofs.Ids.{id_itself}
use Rattle.vault_model.proofs.Tests.{or_left, or_right}
use Rattle.tree_core.specs.ById.{group_with_name, group_with_name_in}
use Rattle.tree_core.specs.Finding.{first, group_at_path, group_by_id, group_found, group_named, id_name, or_else, without_slashes}
use Rattle.tree_core.proofs.ByIds.{groups_walked}
use Rattle.tree_core.proofs.Walks.{first_append}
use Rattle.tree_core.specs.Changes.{has_group, have_group}
use Rattle.tree_core.proofs.Options.{never}

-- one or the other
either : {A P : Type 0} (x y : Option A) (a : A) → (x ≡ Some a → P) → (y ≡ Some a → P) → or_else x y ≡ Some a → P
either None y a f g h = g h
either (Some x) y a f g h = f h

tested : {A P : Type 0} (b : Bool) (x a : A) → (x ≡ a → P) → cond b (Some x) None ≡ Some a → P
tested true x a f h = f (same_Some x a h)
tested false x a f h = never a h

-- an entry is no group
no_group : (b : Bool) (A : Type 0) (a : NodeId) → cond b None None ≡ Some a → A
no_group true A a h = never a h
no_group false A a h = never a h

entries_off : (text : List ℕ) (names : List (List ℕ)) (es : List (NodeId × EntryRecord)) (a : NodeId) (A : Type 0) → first (group_named text) (map (walked_entry names) es) ≡ Some a → A
entries_off text names [] a A h = never a h
entries_off text names (e ∷ es) a A h =
    either (cond (bytes_eq text (slash_joined (names ++ title_of e.1 ∷ []))) None None) (first (group_named text) (map (walked_entry names) es)) a
    (no_group (bytes_eq text (slash_joined (names ++ title_of e.1 ∷ []))) A a) (entries_off text names es a A) h

mutual
  named_in : (text : List ℕ) (names : List (List ℕ)) (a : NodeId) (t : Tree) → first (group_named text) (walk_tree names t) ≡ Some a → has_group a t ≡ true
  named_in text names a (node u r es ts) h =
      either (cond (bytes_eq text (slash_joined names)) (Some u) None) (first (group_named text) (map (walked_entry names) es ++ walk_trees names ts)) a
      (tested (bytes_eq text (slash_joined names)) u a (λ same. or_left (is_id u a) (have_group a ts) (ap (is_id u) (sym same) ∙ id_itself u)))
      (λ k. either (first (group_named text) (map (walked_entry names) es)) (first (group_named text) (walk_trees names ts)) a
      (entries_off text names es a (has_group a (node u r es ts) ≡ true))
      (λ m. or_right (is_id u a) (have_group a ts) (named_among text names a ts m))
      (sym (first_append (group_named text) (map (walked_entry names) es) (walk_trees names ts)) ∙ k))
      h

  named_among : (text : List ℕ) (names : List (List ℕ)) (a : NodeId) (ts : Trees) → first (group_named text) (walk_trees names ts) ≡ Some a → have_group a ts ≡ true
  named_among text names a none h = never a h
  named_among text names a (beside t ts) h =
      either (first (group_named text) (walk_tree (names ++ name_of t ∷ []) t)) (first (group_named text) (walk_trees names ts)) a
      (λ k. or_left (has_group a t) (have_group a ts) (named_in text (names ++ name_of t ∷ []) a t k))
      (λ k. or_right (has_group a t) (have_group a ts) (named_among text names a ts k))
      (sym (first_append (group_named text) (walk_tree (names ++ name_of t ∷ []) t) (walk_trees names ts)) ∙ h)

-- the group at a path is in the tree
pub group_there : (d : BareDoc) (text : List ℕ) (a : NodeId) → group_at_path d text ≡ Some a → has_group a d.tree ≡ true
unfolding group_at_path
group_there d text a h = named_in (without_slashes text) [] a d.tree h

-- a choice by a test, or else another
chosen : {A P : Type 0} (b : Bool) (x : A) (y : Option A) (a : A) → (x ≡ a → P) → (y ≡ Some a → P) → cond b (Some x) y ≡ Some a → P
chosen true x y a f g h = f (same_Some x a h)
chosen false x y a f g h = g h

mutual
  with_name : (text : List ℕ) (a : NodeId) (t : Tree) → group_with_name text t ≡ Some a → has_group a t ≡ true
  with_name text a (node u r es ts) h =
      chosen (bytes_eq text (id_name u)) u (group_with_name_in text ts) a
      (λ same. or_left (is_id u a) (have_group a ts) (ap (is_id u) (sym same) ∙ id_itself u))
      (λ k. or_right (is_id u a) (have_group a ts) (with_name_among text a ts k))
      h

  with_name_among : (text : List ℕ) (a : NodeId) (ts : Trees) → group_with_name_in text ts ≡ Some a → have_group a ts ≡ true
  with_name_among text a none h = never a h
  with_name_among text a (beside t ts) h =
      either (group_with_name text t) (group_with_name_in text ts) a
      (λ k. or_left (has_group a t) (have_group a ts) (with_name text a t k))
      (λ k. or_right (has_group a t) (have_group a ts) (with_name_among text a ts k))
      h

-- the group that a text names is in the tree
pub named_group : (d : BareDoc) (text : List ℕ) (a : NodeId) → group_found d text ≡ Some a → has_group a d.tree ≡ true
unfolding group_found
named_group d text a h =
    either (first (group_by_id (without_slashes text)) (walk d)) (group_at_path d text) a
    (λ k. with_name (without_slashes text) a d.tree (sym (groups_walked (without_slashes text) [] d.tree) ∙ k))
    (group_there d text a)
    h
