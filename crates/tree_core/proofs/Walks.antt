-- Finding along the walk of a document is finding from group to group.
use Rattle.std.proofs.Common.{◌≡◌, ◌==◌, ℕ, Bool, true, false, true≢false, arith, length, cond, ◌||◌, List, [], ◌∷◌, ◌++◌, map, Option, Some, None, refl, sym, ap, ◌∙◌, is_some}
use Rattle.std.specs.Prelude.{codes, bytes_eq}
use Rattle.std.proofs.lemmas.Bool.Decides.{Decides-eqb}
use Rattle.std.proofs.lemmas.Slice.Eq.{bytes_eq-Decides}
use Rattle.vault_model.proofs.Tests.{is_false}
use Rattle.vault_model.specs.Db.{NodeId}
use Rattle.vault_model.specs.Shape.{EntryRecord}
use Rattle.vault_model.specs.Tree.{BareDoc, Tree, Trees, beside, id_of, node, none}
use Rattle.vault_model.specs.Walk.{Walked, slash_joined, name_of, title_of, walk, walk_tree, walk_trees, walked_entry}
use Rattle.tree_core.specs.Finding.{entry_at, entry_named, first, group_at_path, group_named, has_entry_path, has_group_path, or_else, without_slashes}
use Rattle.tree_core.specs.Path.{strip_prefix, strip_component, entry_among, entry_in, entry_in_all, group_in, group_in_all, is_exactly}
use Rattle.tree_core.proofs.Leading.{leading, one_below, path_left}

-- ---- what is found first

or_else_assoc : {A : Type 0} (x y z : Option A) → or_else (or_else x y) z ≡ or_else x (or_else y z)
or_else_assoc None y z = refl
or_else_assoc (Some x) y z = refl

or_else_none : {A : Type 0} (x : Option A) → or_else x None ≡ x
or_else_none None = refl
or_else_none (Some x) = refl

pub first_append : {A B : Type 0} (f : A → Option B) (xs ys : List A) → first f (xs ++ ys) ≡ or_else (first f xs) (first f ys)
first_append f [] ys = refl
first_append f (x ∷ xs) ys = ap (or_else (f x)) (first_append f xs ys) ∙ sym (or_else_assoc (f x) (first f xs) (first f ys))

-- one that is found where a test holds, before the others
pub tested : {B : Type 0} (b : Bool) (x : B) (other : Option B) → or_else (cond b (Some x) None) other ≡ cond b (Some x) other
tested true x other = refl
tested false x other = refl

-- a node that is of the other kind is passed over
passed : {B : Type 0} (b : Bool) (other : Option B) → or_else (cond b None None) other ≡ other
passed true other = refl
passed false other = refl

-- ---- entries

-- what is left of a text behind the names that lead to a group, and the same of a text that begins with a slash
abbrev rest : List ℕ → List (List ℕ) → Option (List ℕ)
rest text names = strip_prefix (leading names) text

abbrev other : List ℕ → List (List ℕ) → Option (List ℕ)
other text names = strip_prefix (codes "/" ++ leading names) text

own_entries : (text : List ℕ) (names : List (List ℕ)) (es : List (NodeId × EntryRecord))
    → first (entry_named text) (map (walked_entry names) es) ≡ entry_among (rest text names) (other text names) es
own_entries text names [] = refl
own_entries text names (e ∷ es) =
    tested (bytes_eq text (slash_joined (names ++ title_of e.1 ∷ [])) || bytes_eq text (codes "/" ++ slash_joined (names ++ title_of e.1 ∷ []))) e.0 (first (entry_named text) (map (walked_entry names) es))
    ∙ ap (λ (b : Bool). cond (b || bytes_eq text (codes "/" ++ slash_joined (names ++ title_of e.1 ∷ []))) (Some e.0) (first (entry_named text) (map (walked_entry names) es))) (path_left [] names (title_of e.1) text)
    ∙ ap (λ (b : Bool). cond (is_exactly (title_of e.1) (rest text names) || b) (Some e.0) (first (entry_named text) (map (walked_entry names) es))) (path_left (codes "/") names (title_of e.1) text)
    ∙ ap (λ o. cond (is_exactly (title_of e.1) (rest text names) || is_exactly (title_of e.1) (other text names)) (Some e.0) o) (own_entries text names es)

mutual
  entries_walked : (text : List ℕ) (names : List (List ℕ)) (t : Tree)
      → first (entry_named text) (walk_tree names t) ≡ entry_in (rest text names) (other text names) t
  entries_walked text names (node u r es ts) =
      passed (bytes_eq text (slash_joined names) || bytes_eq text (codes "/" ++ slash_joined names)) (first (entry_named text) (map (walked_entry names) es ++ walk_trees names ts))
      ∙ first_append (entry_named text) (map (walked_entry names) es) (walk_trees names ts)
      ∙ ap (λ o. or_else o (first (entry_named text) (walk_trees names ts))) (own_entries text names es)
      ∙ ap (or_else (entry_among (rest text names) (other text names) es)) (all_entries_walked text names ts)

  all_entries_walked : (text : List ℕ) (names : List (List ℕ)) (ts : Trees)
      → first (entry_named text) (walk_trees names ts) ≡ entry_in_all (rest text names) (other text names) ts
  all_entries_walked text names none = refl
  all_entries_walked text names (beside t ts) =
      first_append (entry_named text) (walk_tree (names ++ name_of t ∷ []) t) (walk_trees names ts)
      ∙ ap (λ o. or_else o (first (entry_named text) (walk_trees names ts))) (entries_walked text (names ++ name_of t ∷ []) t)
      ∙ ap (λ (o : Option (List ℕ)). or_else (entry_in o (other text (names ++ name_of t ∷ [])) t) (first (entry_named text) (walk_trees names ts))) (one_below [] names (name_of t) text)
      ∙ ap (λ (o : Option (List ℕ)). or_else (entry_in (strip_component (name_of t) (rest text names)) o t) (first (entry_named text) (walk_trees names ts))) (one_below (codes "/") names (name_of t) text)
      ∙ ap (or_else (entry_in (strip_component (name_of t) (rest text names)) (strip_component (name_of t) (other text names)) t)) (all_entries_walked text names ts)

pub entry_by_groups : (doc : BareDoc) (text : List ℕ) → entry_in (Some text) (strip_prefix (codes "/") text) doc.tree ≡ first (entry_named text) (walk doc)
entry_by_groups doc text = sym (entries_walked text [] doc.tree)

-- ---- groups

no_entry : (text : List ℕ) (names : List (List ℕ)) (es : List (NodeId × EntryRecord)) (ws : List Walked)
    → first (group_named text) (map (walked_entry names) es ++ ws) ≡ first (group_named text) ws
no_entry text names [] ws = refl
no_entry text names (e ∷ es) ws =
    passed (bytes_eq text (slash_joined (names ++ title_of e.1 ∷ []))) (first (group_named text) (map (walked_entry names) es ++ ws))
    ∙ no_entry text names es ws

mutual
  groups_walked : (text : List ℕ) (names : List (List ℕ)) (t : Tree)
      → first (group_named text) (walk_tree names t)
      ≡ cond (bytes_eq text (slash_joined names)) (Some (id_of t)) (group_in (rest text names) t)
  groups_walked text names (node u r es ts) =
      tested (bytes_eq text (slash_joined names)) u (first (group_named text) (map (walked_entry names) es ++ walk_trees names ts))
      ∙ ap (λ o. cond (bytes_eq text (slash_joined names)) (Some u) o) (no_entry text names es (walk_trees names ts) ∙ all_groups_walked text names ts)

  all_groups_walked : (text : List ℕ) (names : List (List ℕ)) (ts : Trees)
      → first (group_named text) (walk_trees names ts) ≡ group_in_all (rest text names) ts
  all_groups_walked text names none = refl
  all_groups_walked text names (beside t ts) =
      first_append (group_named text) (walk_tree (names ++ name_of t ∷ []) t) (walk_trees names ts)
      ∙ ap (λ o. or_else o (first (group_named text) (walk_trees names ts))) (groups_walked text (names ++ name_of t ∷ []) t)
      ∙ ap (λ (b : Bool). or_else (cond b (Some (id_of t)) (group_in (rest text (names ++ name_of t ∷ [])) t)) (first (group_named text) (walk_trees names ts))) (path_left [] names (name_of t) text)
      ∙ ap (λ (o : Option (List ℕ)). or_else (cond (is_exactly (name_of t) (rest text names)) (Some (id_of t)) (group_in o t)) (first (group_named text) (walk_trees names ts))) (one_below [] names (name_of t) text)
      ∙ ap (or_else (cond (is_exactly (name_of t) (rest text names)) (Some (id_of t)) (group_in (strip_component (name_of t) (rest text names)) t))) (all_groups_walked text names ts)

pub group_by_groups : (doc : BareDoc) (text : List ℕ)
    → cond (bytes_eq (without_slashes text) []) (Some (id_of doc.tree)) (group_in (Some (without_slashes text)) doc.tree) ≡ group_at_path doc text
unfolding group_at_path
group_by_groups doc text = sym (groups_walked (without_slashes text) [] doc.tree)

-- the root is found by no text, and another group by a text that is left
pub root_found : (doc : BareDoc) (text path : List ℕ) → path ≡ without_slashes text → path ≡ [] → Some (id_of doc.tree) ≡ group_at_path doc text
root_found doc text path is empty =
    ap (λ (b : Bool). cond b (Some (id_of doc.tree)) (group_in (Some (without_slashes text)) doc.tree)) (sym ((bytes_eq-Decides (without_slashes text) []).1 (sym is ∙ empty)))
    ∙ group_by_groups doc text

pub below_found : (doc : BareDoc) (text path : List ℕ) → path ≡ without_slashes text → (path ≡ [] → ⊥) → group_in (Some path) doc.tree ≡ group_at_path doc text
below_found doc text path is some =
    ap (λ p. group_in (Some p) doc.tree) is
    ∙ ap (λ (b : Bool). cond b (Some (id_of doc.tree)) (group_in (Some (without_slashes text)) doc.tree))
    (sym (is_false (bytes_eq (without_slashes text) []) (λ e. some (is ∙ (bytes_eq-Decides (without_slashes text) []).0 e))))
    ∙ group_by_groups doc text

-- a text is empty where its length is tested to be 0
pub is_empty : (path : List ℕ) (b : Bool) → b ≡ (length path == 0) → b ≡ true → path ≡ []
is_empty [] b is holds = refl
is_empty (x ∷ xs) b is holds = let none : length (x ∷ xs) ≡ 0 = (Decides-eqb (length (x ∷ xs)) 0).0 (sym is ∙ holds) in absurd (omega (arith, none))

pub is_not_empty : (path : List ℕ) (b : Bool) → b ≡ (length path == 0) → b ≡ false → path ≡ [] → ⊥
is_not_empty path b is fails empty = true≢false (sym ((Decides-eqb (length path) 0).1 (ap length empty)) ∙ sym is ∙ fails)

-- ---- very paths

own_entries_at : (text : List ℕ) (names : List (List ℕ)) (es : List (NodeId × EntryRecord))
    → first (entry_at text) (map (walked_entry names) es) ≡ entry_among (rest text names) None es
own_entries_at text names [] = refl
own_entries_at text names (e ∷ es) =
    tested (bytes_eq text (slash_joined (names ++ title_of e.1 ∷ []))) e.0 (first (entry_at text) (map (walked_entry names) es))
    ∙ ap (λ (b : Bool). cond b (Some e.0) (first (entry_at text) (map (walked_entry names) es))) (path_left [] names (title_of e.1) text ∙ sym (or_none (is_exactly (title_of e.1) (rest text names))))
    ∙ ap (λ o. cond (is_exactly (title_of e.1) (rest text names) || false) (Some e.0) o) (own_entries_at text names es)
  where
    or_none : (b : Bool) → (b || false) ≡ b
    or_none true = refl
    or_none false = refl

mutual
  entries_at : (text : List ℕ) (names : List (List ℕ)) (t : Tree)
      → first (entry_at text) (walk_tree names t) ≡ entry_in (rest text names) None t
  entries_at text names (node u r es ts) =
      passed (bytes_eq text (slash_joined names)) (first (entry_at text) (map (walked_entry names) es ++ walk_trees names ts))
      ∙ first_append (entry_at text) (map (walked_entry names) es) (walk_trees names ts)
      ∙ ap (λ o. or_else o (first (entry_at text) (walk_trees names ts))) (own_entries_at text names es)
      ∙ ap (or_else (entry_among (rest text names) None es)) (all_entries_at text names ts)

  all_entries_at : (text : List ℕ) (names : List (List ℕ)) (ts : Trees)
      → first (entry_at text) (walk_trees names ts) ≡ entry_in_all (rest text names) None ts
  all_entries_at text names none = refl
  all_entries_at text names (beside t ts) =
      first_append (entry_at text) (walk_tree (names ++ name_of t ∷ []) t) (walk_trees names ts)
      ∙ ap (λ o. or_else o (first (entry_at text) (walk_trees names ts))) (entries_at text (names ++ name_of t ∷ []) t)
      ∙ ap (λ (o : Option (List ℕ)). or_else (entry_in o None t) (first (entry_at text) (walk_trees names ts))) (one_below [] names (name_of t) text)
      ∙ ap (or_else (entry_in (strip_component (name_of t) (rest text names)) None t)) (all_entries_at text names ts)

pub entry_path_by_groups : (doc : BareDoc) (path : List ℕ) → is_some (entry_in (Some path) None doc.tree) ≡ has_entry_path doc path
unfolding has_entry_path
entry_path_by_groups doc path = ap is_some (sym (entries_at path [] doc.tree))

pub root_path : (doc : BareDoc) (path : List ℕ) → path ≡ [] → true ≡ has_group_path doc path
unfolding has_group_path
root_path doc path empty =
    ap is_some (sym (groups_walked path [] doc.tree
    ∙ ap (λ (b : Bool). cond b (Some (id_of doc.tree)) (group_in (Some path) doc.tree)) ((bytes_eq-Decides path []).1 empty)))

pub path_below_root : (doc : BareDoc) (path : List ℕ) → (path ≡ [] → ⊥) → is_some (group_in (Some path) doc.tree) ≡ has_group_path doc path
unfolding has_group_path
path_below_root doc path some =
    ap is_some (sym (groups_walked path [] doc.tree
    ∙ ap (λ (b : Bool). cond b (Some (id_of doc.tree)) (group_in (Some path) doc.tree)) (is_false (bytes_eq path []) (λ e. some ((bytes_eq-Decides path []).0 e)))))
