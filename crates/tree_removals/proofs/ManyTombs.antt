-- Tombstones of a group that is deleted stay in order, and name no node that is left.
use Rattle.std.proofs.Common.{◌≡◌, ◌≤◌, ◌+◌, ℕ, Bool, true, not, List, [], ◌∷◌, ◌++◌, map, Some, refl, sym, ap, subst, ◌∙◌, arith}
use Rattle.std.specs.List.{list_all}
use Rattle.vault_model.specs.declared.nodes.Tombstone.{Tombstone}
use Rattle.vault_model.specs.Db.{NodeId}
use Rattle.vault_model.specs.Join.{is_id}
use Rattle.vault_model.specs.Proper.{rises}
use Rattle.vault_model.specs.Shape.{EntryRecord, GroupRecord}
use Rattle.vault_model.specs.Tree.{BareDoc, IsDoc, Tree, Trees, beside, entry_rows, entry_rows_all, group_rows, group_rows_all, is_elsewhere, node, node_ids, node_ids_all, none}
use Rattle.vault_model.proofs.Ids.{id_itself, same_id}
use Rattle.vault_model.proofs.Tests.{and_both, and_true, is_false, map_append, not_false}
use Rattle.tree_core.specs.Changes.{changed_at, entries_buried, groups_buried, tree_buried, with_tomb, without_group}
use Rattle.tree_core.proofs.Counted.{all_both, elsewhere_occurs, occurs, occurs-append, occurs_elsewhere, once, one_if}
use Rattle.tree_core.proofs.EntriesRemoved.{tombs_all, tombs_rise}
use Rattle.tree_core.proofs.GroupDocs.{counted_less, take_is_doc}
use Rattle.tree_core.proofs.Rows.{keys}
use Rattle.tree_moves.proofs.GroupChildren.{found_child}
use Rattle.tree_moves.specs.GroupPlaces.{group_at}
use Rattle.tree_removals.specs.Tombs.{entry_tomb, group_tomb, tombs_of}

-- ---- the tombstones of a tree as one list

abbrev pub put_all : List Tombstone → List Tombstone → List Tombstone
put_all [] tombs = tombs
put_all (t ∷ ts) tombs = with_tomb t (put_all ts tombs)

put_append : (xs ys tombs : List Tombstone) → put_all (xs ++ ys) tombs ≡ put_all xs (put_all ys tombs)
put_append [] ys tombs = refl
put_append (x ∷ xs) ys tombs = ap (with_tomb x) (put_append xs ys tombs)

entries_put : (now : ℕ) (es : List (NodeId × EntryRecord)) (tombs : List Tombstone) → entries_buried now es tombs ≡ put_all (map (entry_tomb now) es) tombs
entries_put now [] tombs = refl
entries_put now (e ∷ es) tombs = ap (with_tomb (entry_tomb now e)) (entries_put now es tombs)

groups_put : (now : ℕ) (gs : List (NodeId × GroupRecord)) (tombs : List Tombstone) → groups_buried now gs tombs ≡ put_all (map (group_tomb now) gs) tombs
groups_put now [] tombs = refl
groups_put now (g ∷ gs) tombs = ap (with_tomb (group_tomb now g)) (groups_put now gs tombs)

pub tree_put : (now : ℕ) (t : Tree) (tombs : List Tombstone) → tree_buried now t tombs ≡ put_all (tombs_of now t) tombs
tree_put now t tombs =
    entries_put now (entry_rows t) (groups_buried now (group_rows t) tombs)
    ∙ ap (put_all (map (entry_tomb now) (entry_rows t))) (groups_put now (group_rows t) tombs)
    ∙ sym (put_append (map (entry_tomb now) (entry_rows t)) (map (group_tomb now) (group_rows t)) tombs)

-- ---- their ids are those of the nodes

abbrev ids : List Tombstone → List NodeId
ids ts = map (λ (t : Tombstone). t.id) ts

entry_ids : (now : ℕ) (es : List (NodeId × EntryRecord)) → ids (map (entry_tomb now) es) ≡ keys es
entry_ids now [] = refl
entry_ids now (e ∷ es) = ap (λ us. e.0 ∷ us) (entry_ids now es)

group_ids : (now : ℕ) (gs : List (NodeId × GroupRecord)) → ids (map (group_tomb now) gs) ≡ keys gs
group_ids now [] = refl
group_ids now (g ∷ gs) = ap (λ us. g.0 ∷ us) (group_ids now gs)

mutual
  pub rows_count : (x : NodeId) (t : Tree) → occurs x (keys (entry_rows t)) + occurs x (keys (group_rows t)) ≡ occurs x (node_ids t)
  rows_count x (node v r es ts) =
      let rest = rows_count_all x ts in
      let rows = ap (occurs x) (map_append (λ (e : NodeId × EntryRecord). e.0) es (entry_rows_all ts)) ∙ occurs-append x (keys es) (keys (entry_rows_all ts)) in
      let all = occurs-append x (keys es) (node_ids_all ts) in
      omega (arith, rest, rows, all)

  rows_count_all : (x : NodeId) (ts : Trees) → occurs x (keys (entry_rows_all ts)) + occurs x (keys (group_rows_all ts)) ≡ occurs x (node_ids_all ts)
  rows_count_all x none = refl
  rows_count_all x (beside t ts) =
      let here = rows_count x t in
      let rest = rows_count_all x ts in
      let rows = ap (occurs x) (map_append (λ (e : NodeId × EntryRecord). e.0) (entry_rows t) (entry_rows_all ts)) ∙ occurs-append x (keys (entry_rows t)) (keys (entry_rows_all ts)) in
      let groups = ap (occurs x) (map_append (λ (e : NodeId × GroupRecord). e.0) (group_rows t) (group_rows_all ts)) ∙ occurs-append x (keys (group_rows t)) (keys (group_rows_all ts)) in
      let all = occurs-append x (node_ids t) (node_ids_all ts) in
      omega (arith, here, rest, rows, groups, all)

tombs_count : (now : ℕ) (x : NodeId) (t : Tree) → occurs x (ids (tombs_of now t)) ≡ occurs x (node_ids t)
tombs_count now x t =
    let both = ap (occurs x) (map_append (λ (y : Tombstone). y.id) (map (entry_tomb now) (entry_rows t)) (map (group_tomb now) (group_rows t)))
    ∙ occurs-append x (ids (map (entry_tomb now) (entry_rows t))) (ids (map (group_tomb now) (group_rows t))) in
    let es = ap (occurs x) (entry_ids now (entry_rows t)) in
    let gs = ap (occurs x) (group_ids now (group_rows t)) in
    let all = rows_count x t in
    omega (arith, both, es, gs, all)

-- ---- what holds of all tombstones

all_put : (test : Tombstone → Bool) (ts tombs : List Tombstone) → list_all test ts ≡ true → list_all test tombs ≡ true → list_all test (put_all ts tombs) ≡ true
all_put test [] tombs here rest = rest
all_put test (t ∷ ts) tombs here rest =
    let both = and_true (test t) (list_all test ts) here in
    tombs_all t test (put_all ts tombs) both.0 (all_put test ts tombs both.1 rest)

all_ids : (f : NodeId → Bool) (ts : List Tombstone) → ((x : NodeId) → 1 ≤ occurs x (ids ts) → f x ≡ true) → list_all (λ (t : Tombstone). f t.id) ts ≡ true
all_ids f [] g = refl
all_ids f (t ∷ ts) g =
    let one = ap one_if (id_itself t.id) in
    and_both (f t.id) (list_all (λ (x : Tombstone). f x.id) ts) (g t.id (omega (arith, one))) (all_ids f ts (λ x h. g x (omega (arith, h))))

not_same : (u v : NodeId) → (u ≡ v → ⊥) → not (is_id u v) ≡ true
not_same u v f = not_false (is_id u v) (is_false (is_id u v) (λ p. f (same_id u v p)))

put_rises : (ts tombs : List Tombstone) → rises (λ (t : Tombstone). t.id) tombs ≡ true → ((x : NodeId) → occurs x (ids ts) ≤ 1)
    → ((x : NodeId) → 1 ≤ occurs x (ids ts) → list_all (λ (t : Tombstone). not (is_id t.id x)) tombs ≡ true) → rises (λ (t : Tombstone). t.id) (put_all ts tombs) ≡ true
put_rises [] tombs rise distinct off = rise
put_rises (t ∷ ts) tombs rise distinct off =
    let one = ap one_if (id_itself t.id) in
    let most = distinct t.id in
    let later : occurs t.id (ids ts) ≡ 0 = omega (arith, one, most) in
    tombs_rise t (put_all ts tombs)
    (put_rises ts tombs rise (λ x. let all = distinct x in omega (arith, all)) (λ x h. off x (omega (arith, h))))
    (all_put (λ (y : Tombstone). not (is_id y.id t.id)) ts tombs
    (all_ids (λ u. not (is_id u t.id)) ts (λ x h. not_same x t.id (λ p. let same = ap (λ v. occurs v (ids ts)) p in absurd (omega (arith, h, later, same)))))
    (off t.id (omega (arith, one))))

-- ---- the document

module _ (d : BareDoc) (is : IsDoc d) (p u : NodeId) (now : ℕ) (g : Tree) (there : group_at p u d.tree ≡ Some g) where
  abbrev rest : Tree
  rest = changed_at p (without_group u) d.tree

  counted : (x : NodeId) → occurs x (node_ids rest) + occurs x (node_ids g) ≡ occurs x (node_ids d.tree)
  counted x = let f = found_child p u d.tree g there in counted_less d is p u g f.0 f.1.0 f.1.1 x

  off_tombs : (x : NodeId) → 1 ≤ occurs x (ids (tombs_of now g)) → list_all (λ (t : Tombstone). not (is_id t.id x)) d.tombs ≡ true
  off_tombs x h =
      let some = tombs_count now x g in
      let all = counted x in
      all_both (λ (t : Tombstone). is_elsewhere d.tree t.id) (λ (t : Tombstone). is_elsewhere d.tree t.id) (λ (t : Tombstone). not (is_id t.id x)) d.tombs
      (λ t off more. not_same t.id x (λ q.
      let zero = elsewhere_occurs d.tree t.id off in
      let same = ap (λ v. occurs v (node_ids d.tree)) q in
      absurd (omega (arith, h, some, all, zero, same)))) is.tombs_apart is.tombs_apart

  gone : (x : NodeId) → 1 ≤ occurs x (ids (tombs_of now g)) → is_elsewhere rest x ≡ true
  gone x h =
      let some = tombs_count now x g in
      let all = counted x in
      let most = once (node_ids d.tree) is.distinct x in
      let zero : occurs x (node_ids rest) ≡ 0 = omega (arith, h, some, all, most) in
      occurs_elsewhere rest x zero

  by_list : IsDoc (record d { tree = rest; tombs = put_all (tombs_of now g) d.tombs })
  by_list =
      let f = found_child p u d.tree g there in
      let r = take_is_doc d is p u g f.0 f.1.0 f.1.1 in
      record {
        distinct = r.distinct;
        no_nil = r.no_nil;
        levels = r.levels;
        tombs_rise = put_rises (tombs_of now g) d.tombs is.tombs_rise
            (λ x. let some = tombs_count now x g in let all = counted x in let most = once (node_ids d.tree) is.distinct x in omega (arith, some, all, most)) off_tombs;
        tombs_apart = all_put (λ (t : Tombstone). is_elsewhere rest t.id) (tombs_of now g) d.tombs (all_ids (is_elsewhere rest) (tombs_of now g) gone) r.tombs_apart;
        entries_proper = r.entries_proper;
        groups_proper = r.groups_proper;
        icons_rise = r.icons_rise;
        items_rise = r.items_rise;
        meta_texts = r.meta_texts;
      }

  pub deleted_is_doc : IsDoc (record d { tree = rest; tombs = tree_buried now g d.tombs })
  deleted_is_doc = subst (λ (ts : List Tombstone). IsDoc (record d { tree = rest; tombs = ts })) (sym (tree_put now g d.tombs)) by_list
