-- A table of names has what is found in the tree.
use Rattle.std.proofs.Common.{◌≡◌, ℕ, Bool, true, false, cond, List, [], ◌∷◌, Option, Some, None, is_some, refl, sym, ap, ◌∙◌}
use Rattle.std.specs.FinMap.{contains_key, empty, get, get-empty, get-insert, insert}
use Rattle.std.specs.Option.{option_or, unwrap_or}
use Rattle.vault_model.specs.Db.{NodeId, id_cmp}
use Rattle.vault_model.specs.Join.{is_id}
use Rattle.vault_model.specs.Shape.{EntryRecord}
use Rattle.vault_model.specs.Tree.{BareDoc, Tree, Trees, beside, node, none}
use Rattle.vault_model.specs.Walk.{title_of}
use Rattle.vault_model.proofs.Ids.{same_id}
use Rattle.vault_model.proofs.Orders.{id_order}
use Rattle.vault_model.proofs.Tests.{none_of, some_of}
use Rattle.cli_merging.specs.Names.{Names, name_at, with_name, with_titles, with_tree, with_trees}
use Rattle.cli_merging.specs.Reports.{name_in, name_in_tree, name_in_trees, title_among}

-- ---- one or else another

or_none : (a : Option (List ℕ)) → option_or a None ≡ a
or_none None = refl
or_none (Some x) = refl

or_assoc : (a b c : Option (List ℕ)) → option_or (option_or a b) c ≡ option_or a (option_or b c)
or_assoc None b c = refl
or_assoc (Some x) b c = refl

or_some : (a b : Option (List ℕ)) → is_some a ≡ true → option_or a b ≡ a
or_some a b e = let s = some_of a e in ap (λ (o : Option (List ℕ)). option_or o b) s.1 ∙ sym s.1

cond_or : (b : Bool) (x : List ℕ) (c : Option (List ℕ)) → option_or (cond b (Some x) None) c ≡ cond b (Some x) c
cond_or true x c = refl
cond_or false x c = refl

-- ---- one name more

-- a name put where one is
name_kept : (here : Bool) (a : Option (List ℕ)) (x : List ℕ) → (here ≡ true → is_some a ≡ true)
    → a ≡ option_or a (cond here (Some x) None)
name_kept true a x is = sym (or_some a (Some x) (is refl))
name_kept false a x is = sym (or_none a)

-- a name put where none is
name_put : (here : Bool) (a : Option (List ℕ)) (x : List ℕ) → (here ≡ true → is_some a ≡ false)
    → cond here (Some x) a ≡ option_or a (cond here (Some x) None)
name_put true a x is = ap (λ (o : Option (List ℕ)). option_or o (Some x)) (sym (none_of a (is refl)))
name_put false a x is = sym (or_none a)

name_more : (there : Bool) (k : NodeId) (x : List ℕ) (names : Names) (id : NodeId) → contains_key names k ≡ there
    → get (cond there names (insert names k x)) id ≡ option_or (get names id) (cond (is_id id k) (Some x) None)
name_more true k x names id e =
    name_kept (is_id id k) (get names id) x (λ h. ap (λ (u : NodeId). is_some (get names u)) (same_id id k h) ∙ e)
name_more false k x names id e =
    get-insert id_order.total names k x id
    ∙ name_put (is_id id k) (get names id) x (λ h. ap (λ (u : NodeId). is_some (get names u)) (same_id id k h) ∙ e)

name_there : (k : NodeId) (x : List ℕ) (names : Names) (id : NodeId) (more : Option (List ℕ))
    → option_or (get (with_name k x names) id) more ≡ option_or (get names id) (cond (is_id id k) (Some x) more)
name_there k x names id more =
    ap (λ (o : Option (List ℕ)). option_or o more) (name_more (contains_key names k) k x names id refl)
    ∙ or_assoc (get names id) (cond (is_id id k) (Some x) None) more
    ∙ ap (option_or (get names id)) (cond_or (is_id id k) x more)

-- ---- the names of a tree

titles_there : (es : List (NodeId × EntryRecord)) (names : Names) (id : NodeId)
    → get (with_titles es names) id ≡ option_or (get names id) (title_among id es)
titles_there [] names id = sym (or_none (get names id))
titles_there (e ∷ es) names id =
    titles_there es (with_name e.0 (title_of e.1) names) id
    ∙ name_there e.0 (title_of e.1) names id (title_among id es)

mutual
  tree_there : (t : Tree) (names : Names) (id : NodeId) → get (with_tree t names) id ≡ option_or (get names id) (name_in_tree id t)
  tree_there (node u r es ts) names id =
      let first = with_name u r.state.content.name names in
      trees_there ts (with_titles es first) id
      ∙ ap (λ (o : Option (List ℕ)). option_or o (name_in_trees id ts)) (titles_there es first id)
      ∙ or_assoc (get first id) (title_among id es) (name_in_trees id ts)
      ∙ name_there u r.state.content.name names id (option_or (title_among id es) (name_in_trees id ts))

  trees_there : (ts : Trees) (names : Names) (id : NodeId) → get (with_trees ts names) id ≡ option_or (get names id) (name_in_trees id ts)
  trees_there none names id = sym (or_none (get names id))
  trees_there (beside t ts) names id =
      trees_there ts (with_tree t names) id
      ∙ ap (λ (o : Option (List ℕ)). option_or o (name_in_trees id ts)) (tree_there t names id)
      ∙ or_assoc (get names id) (name_in_tree id t) (name_in_trees id ts)

-- the names of a document's tree are those of its nodes
pub names_are : (doc : BareDoc) → name_at (with_tree doc.tree empty) ≡ name_in doc
names_are doc =
    λ i id. unwrap_or ((tree_there doc.tree empty id ∙ ap (λ (o : Option (List ℕ)). option_or o (name_in_tree id doc.tree)) (get-empty id_cmp id)) i) []
