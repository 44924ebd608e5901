-- Tests that hold of equal values alone.
use Rattle.std.proofs.Common.{◌≡◌, ◌&&◌, Bool, true, List, [], ◌∷◌, refl, sym, ap, ◌∙◌}
use Rattle.std.specs.declared.cmp.Ordering.{Ordering}
use Rattle.std.specs.Cmp.{eq_by_cmp_equiv}
use Rattle.std.specs.Ordering.{eq_by_cmp}
use Rattle.vault_model.specs.Tree.{Tree, Trees, node, none, beside}
use Rattle.vault_model.proofs.Orders.{IsOrder, bin_order, bool_order, bytes_order, content_order, group_content_order, icon_order, id_order, item_order, lists_order, nat_order, settings_order, timed_order}
use Rattle.vault_model.proofs.Tests.{and_both, and_true}
use Rattle.merge_tables.proofs.MergeCore.Unite.{tie}
use Rattle.vault_model.specs.Join.{is_id}
use Rattle.merge_changes.specs.Equality.{same_all, same_doc, same_entry, same_group, same_mark, same_meta, same_meta_view, same_nat, same_state, same_stats, same_tomb, same_tree, same_trees, same_version, same_view}

-- A test that holds of equal values alone.
pub record Decides {A : Type 0} (same : A → A → Bool) : Type 0 where
  pub says : (x y : A) → same x y ≡ true → x ≡ y
  pub holds : (x : A) → same x x ≡ true

pub by_order : {A : Type 0} {R : A → A → Ordering} → IsOrder R → Decides (eq_by_cmp R)
by_order o = record {
  says = λ x y e. tie o.total o.same x y e;
  holds = λ x. (eq_by_cmp_equiv o.total).refl x;
}

pub by_pairs : {A B : Type 0} {f : A → A → Bool} {g : B → B → Bool} → Decides f → Decides g → Decides {A = A × B} (λ x y. f x.0 y.0 && g x.1 y.1)
by_pairs {f = f} {g = g} a b = record {
  says = λ x y e.
      let h = and_true (f x.0 y.0) (g x.1 y.1) e in
      λ i. (a.says x.0 y.0 h.0 i, b.says x.1 y.1 h.1 i);
  holds = λ x. and_both (f x.0 x.0) (g x.1 x.1) (a.holds x.0) (b.holds x.1);
}

-- of the parts of values that are made of them
pub by_parts : {A B : Type 0} {f : B → B → Bool} (to : A → B) (from : B → A) → ((x : A) → from (to x) ≡ x) → Decides f → Decides {A = A} (λ x y. f (to x) (to y))
by_parts to from back t = record {
  says = λ x y e. sym (back x) ∙ ap from (t.says (to x) (to y) e) ∙ back y;
  holds = λ x. t.holds (to x);
}

module _ {A : Type 0} {same : A → A → Bool} (t : Decides same) where
  all_says : (xs ys : List A) → same_all same xs ys ≡ true → xs ≡ ys
  all_says [] [] e = refl
  all_says [] (y ∷ ys) e = cc e
  all_says (x ∷ xs) [] e = cc e
  all_says (x ∷ xs) (y ∷ ys) e =
      let h = and_true (same x y) (same_all same xs ys) e in
      λ i. t.says x y h.0 i ∷ all_says xs ys h.1 i

  all_holds : (xs : List A) → same_all same xs xs ≡ true
  all_holds [] = refl
  all_holds (x ∷ xs) = and_both (same x x) (same_all same xs xs) (t.holds x) (all_holds xs)

  pub by_all : Decides (same_all same)
  by_all = record { says = all_says; holds = all_holds }

pub nat_decides : Decides same_nat
nat_decides = by_order nat_order

pub id_decides : Decides is_id
id_decides = by_order id_order

pub stats_decides : Decides same_stats
stats_decides = by_parts _ (λ p. record { accessed = p.0; usage = p.1 }) (λ _. refl) (by_pairs nat_decides nat_decides)

pub mark_decides : Decides same_mark
mark_decides = by_parts _ (λ p. record { modified = p.0; content = p.1 }) (λ _. refl) (by_pairs nat_decides (by_order content_order))

pub version_decides : Decides same_version
version_decides = by_parts _ (λ p. record { mark = p.0; stats = p.1 }) (λ _. refl) (by_pairs mark_decides stats_decides)

pub entry_decides : Decides same_entry
entry_decides =
    by_parts (λ e. (e.0, (e.1.placed, (e.1.previous, (e.1.current, e.1.history))))) (λ p. (p.0, record { placed = p.1.0; previous = p.1.1.0; current = p.1.1.1.0; history = p.1.1.1.1 })) (λ _. refl)
    (by_pairs id_decides (by_pairs nat_decides (by_pairs id_decides (by_pairs version_decides (by_all version_decides)))))

pub state_decides : Decides same_state
state_decides =
    by_parts (λ s. (s.modified, (s.content, s.stats))) (λ p. record { modified = p.0; content = p.1.0; stats = p.1.1 }) (λ _. refl)
    (by_pairs nat_decides (by_pairs (by_order group_content_order) stats_decides))

pub view_decides : Decides same_view
view_decides = by_parts (λ v. (v.expanded, v.top_entry)) (λ p. record { expanded = p.0; top_entry = p.1 }) (λ _. refl) (by_pairs (by_order bool_order) id_decides)

pub group_decides : Decides same_group
group_decides =
    by_parts (λ g. (g.placed, (g.previous, (g.state, g.view)))) (λ p. record { placed = p.0; previous = p.1.0; state = p.1.1.0; view = p.1.1.1 }) (λ _. refl)
    (by_pairs nat_decides (by_pairs id_decides (by_pairs state_decides view_decides)))

mutual
  tree_says : (t u : Tree) → same_tree t u ≡ true → t ≡ u
  tree_says (node u g es ts) (node v h fs us) e =
      let a = and_true ((is_id u v && same_group g h) && same_all same_entry es fs) (same_trees ts us) e in
      let b = and_true (is_id u v && same_group g h) (same_all same_entry es fs) a.0 in
      let c = and_true (is_id u v) (same_group g h) b.0 in
      λ i. node (id_decides.says u v c.0 i) (group_decides.says g h c.1 i) ((by_all entry_decides).says es fs b.1 i) (trees_say ts us a.1 i)

  trees_say : (ts us : Trees) → same_trees ts us ≡ true → ts ≡ us
  trees_say none none e = refl
  trees_say none (beside u us) e = cc e
  trees_say (beside t ts) none e = cc e
  trees_say (beside t ts) (beside u us) e =
      let a = and_true (same_tree t u) (same_trees ts us) e in
      λ i. beside (tree_says t u a.0 i) (trees_say ts us a.1 i)

mutual
  tree_holds : (t : Tree) → same_tree t t ≡ true
  tree_holds (node u g es ts) =
      and_both ((is_id u u && same_group g g) && same_all same_entry es es) (same_trees ts ts)
      (and_both (is_id u u && same_group g g) (same_all same_entry es es)
      (and_both (is_id u u) (same_group g g) (id_decides.holds u) (group_decides.holds g)) ((by_all entry_decides).holds es))
      (trees_hold ts)

  trees_hold : (ts : Trees) → same_trees ts ts ≡ true
  trees_hold none = refl
  trees_hold (beside t ts) = and_both (same_tree t t) (same_trees ts ts) (tree_holds t) (trees_hold ts)

pub tree_decides : Decides same_tree
tree_decides = record { says = tree_says; holds = tree_holds }

pub tomb_decides : Decides same_tomb
tomb_decides = by_parts (λ t. (t.id, t.deleted)) (λ p. record { id = p.0; deleted = p.1 }) (λ _. refl) (by_pairs id_decides nat_decides)

meta_view_decides : Decides same_meta_view
meta_view_decides =
    by_parts (λ v. (v.key_changed, (v.last_group, v.last_top))) (λ p. record { key_changed = p.0; last_group = p.1.0; last_top = p.1.1 }) (λ _. refl)
    (by_pairs nat_decides (by_pairs id_decides id_decides))

pub meta_decides : Decides same_meta
meta_decides =
    by_parts
    (λ m. ((m.name, (m.description, m.user)), ((m.bin, (m.templates, m.settings)), (m.icons, (m.items, m.view)))))
    (λ p. record {
      name = p.0.0;
      description = p.0.1.0;
      user = p.0.1.1;
      bin = p.1.0.0;
      templates = p.1.0.1.0;
      settings = p.1.0.1.1;
      icons = p.1.1.0;
      items = p.1.1.1.0;
      view = p.1.1.1.1;
    }) (λ _. refl)
    (by_pairs
    (by_pairs (by_order (timed_order bytes_order)) (by_pairs (by_order (timed_order bytes_order)) (by_order (timed_order bytes_order))))
    (by_pairs
    (by_pairs (by_order (timed_order bin_order)) (by_pairs (by_order (timed_order bytes_order)) (by_order (timed_order settings_order))))
    (by_pairs (by_all (by_order icon_order)) (by_pairs (by_order (lists_order item_order)) meta_view_decides))))

-- the test of documents holds of equal ones alone
pub doc_decides : Decides same_doc
doc_decides =
    by_parts (λ d. (d.tree, (d.tombs, d.meta))) (λ p. record { tree = p.0; tombs = p.1.0; meta = p.1.1 }) (λ _. refl)
    (by_pairs tree_decides (by_pairs (by_all tomb_decides) meta_decides))
