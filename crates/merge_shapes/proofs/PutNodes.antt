-- A document's tree put into empty tables has what its shape has.
use Rattle.std.proofs.Common.{◌≡◌, List, [], ◌∷◌, Some, refl, sym, ap, ◌∙◌}
use Rattle.std.specs.FinMap.{FinMap, empty, get, find, insert}
use Rattle.vault_model.specs.Db.{NodeId, id_cmp}
use Rattle.vault_model.specs.Join.{IsIn}
use Rattle.vault_model.specs.Shape.{EntryRecord}
use Rattle.vault_model.specs.Tree.{Tree, node, Trees, none, beside, BareDoc, entry_rows, entry_rows_all, group_rows, group_rows_all, child_rows, child_rows_all, shape_of, IsDoc}
use Rattle.vault_model.proofs.Orders.{id_order}
use Rattle.merge_core.proofs.SoundDoc.{distinct, one_row, shape_entry, shape_group, shape_kids}
use Rattle.merge_core.proofs.Tables.{find_in, some_find}
use Rattle.merge_reading.proofs.ReadColumns.{put_all, put_append, put_is, one_entry, one_group}
use Rattle.merge_shapes.specs.declared.nodes.NodeTables.{NodeTables}
use Rattle.merge_shapes.specs.NodeTables.{children_in, with_row, with_rows, with_nodes, with_all_nodes}

-- ---- what is put, as rows

rows_entries : (es : List (NodeId × EntryRecord)) (n : NodeTables) → (with_rows es n).entries ≡ put_all n.entries es
rows_entries [] n = refl
rows_entries (e ∷ es) n = rows_entries es (with_row e n)

rows_groups : (es : List (NodeId × EntryRecord)) (n : NodeTables) → (with_rows es n).groups ≡ n.groups
rows_groups [] n = refl
rows_groups (e ∷ es) n = rows_groups es (with_row e n)

rows_children : (es : List (NodeId × EntryRecord)) (n : NodeTables) → (with_rows es n).children ≡ n.children
rows_children [] n = refl
rows_children (e ∷ es) n = rows_children es (with_row e n)

-- a group put without those below it
abbrev with_head : Tree → NodeTables → NodeTables
with_head (node u r es ts) n = record n { groups = insert n.groups u r; children = insert n.children u (children_in (node u r es ts)) }

mutual
  tree_entries : (t : Tree) (n : NodeTables) → (with_nodes t n).entries ≡ put_all n.entries (entry_rows t)
  tree_entries (node u r es ts) n =
      trees_entries ts (with_rows es (with_head (node u r es ts) n))
      ∙ ap (λ m. put_all m (entry_rows_all ts)) (rows_entries es (with_head (node u r es ts) n))
      ∙ sym (put_append n.entries es (entry_rows_all ts))

  trees_entries : (ts : Trees) (n : NodeTables) → (with_all_nodes ts n).entries ≡ put_all n.entries (entry_rows_all ts)
  trees_entries none n = refl
  trees_entries (beside t ts) n =
      trees_entries ts (with_nodes t n) ∙ ap (λ m. put_all m (entry_rows_all ts)) (tree_entries t n) ∙ sym (put_append n.entries (entry_rows t) (entry_rows_all ts))

mutual
  tree_groups : (t : Tree) (n : NodeTables) → (with_nodes t n).groups ≡ put_all n.groups (group_rows t)
  tree_groups (node u r es ts) n =
      trees_groups ts (with_rows es (with_head (node u r es ts) n))
      ∙ ap (λ m. put_all m (group_rows_all ts)) (rows_groups es (with_head (node u r es ts) n))

  trees_groups : (ts : Trees) (n : NodeTables) → (with_all_nodes ts n).groups ≡ put_all n.groups (group_rows_all ts)
  trees_groups none n = refl
  trees_groups (beside t ts) n =
      trees_groups ts (with_nodes t n) ∙ ap (λ m. put_all m (group_rows_all ts)) (tree_groups t n) ∙ sym (put_append n.groups (group_rows t) (group_rows_all ts))

mutual
  tree_children : (t : Tree) (n : NodeTables) → (with_nodes t n).children ≡ put_all n.children (child_rows t)
  tree_children (node u r es ts) n =
      trees_children ts (with_rows es (with_head (node u r es ts) n))
      ∙ ap (λ m. put_all m (child_rows_all ts)) (rows_children es (with_head (node u r es ts) n))

  trees_children : (ts : Trees) (n : NodeTables) → (with_all_nodes ts n).children ≡ put_all n.children (child_rows_all ts)
  trees_children none n = refl
  trees_children (beside t ts) n =
      trees_children ts (with_nodes t n) ∙ ap (λ m. put_all m (child_rows_all ts)) (tree_children t n) ∙ sym (put_append n.children (child_rows t) (child_rows_all ts))

-- ---- the tables of a document

-- rows of which each id has one are found
module _ {X : Type 0} (rows : List (NodeId × X)) (m : FinMap id_cmp X) (is : (u : NodeId) → get m u ≡ find id_cmp u rows)
    (one : (u : NodeId) (a b : X) → IsIn (u, a) rows → IsIn (u, b) rows → a ≡ b) where
  right : (e : NodeId × X) → IsIn e rows → get m e.0 ≡ Some e.1
  right e h =
      let f = some_find id_order.total id_order.same rows e.0 e.1 h in
      is e.0 ∙ f.1 ∙ ap Some (one e.0 f.0 e.1 (find_in id_order.total id_order.same rows e.0 f.0 f.1) h)

  pub put_found : put_all empty rows ≡ m
  put_found = put_is m rows right (λ q x e. (x, find_in id_order.total id_order.same rows q x (sym (is q) ∙ e)))

module _ (d : BareDoc) (is : IsDoc d) where
  abbrev t : Tree
  t = d.tree

  -- put into nothing, a document has the tables of its shape
  pub nodes_put : with_nodes t (record { entries = empty; groups = empty; children = empty })
      ≡ record { entries = (shape_of d).entries; groups = (shape_of d).groups; children = (shape_of d).children }
  nodes_put =
      let n : NodeTables = record { entries = empty; groups = empty; children = empty } in
      λ i. record {
        entries = (tree_entries t n ∙ put_found (entry_rows t) (shape_of d).entries (shape_entry d is) (λ u a b h k. one_entry t u a b (distinct d is) h k)) i;
        groups = (tree_groups t n ∙ put_found (group_rows t) (shape_of d).groups (shape_group d is) (λ u a b h k. one_group t u a b (distinct d is) h k)) i;
        children = (tree_children t n ∙ put_found (child_rows t) (shape_of d).children (shape_kids d is) (λ u a b h k. one_row t u a b (distinct d is) h k)) i;
      }
