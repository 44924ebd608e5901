-- Trees without what their nodes say, but for the names of groups: what is left of an import at any moment.
use Rattle.std.proofs.Common.{◌≡◌, ℕ, Bool, true, false, cond, List, [], ◌∷◌, ◌++◌, map, refl, sym, ap, ◌∙◌}
use Rattle.std.proofs.lemmas.List.{map-append}
use Rattle.std.specs.Str.{bytes_eq}
use Rattle.doc_forms.specs.Entries.{no_content}
use Rattle.import_ids.specs.Ids.{named_id}
use Rattle.import_ids.specs.Names.{EntryTexts}
use Rattle.import_tree.specs.Entries.{ImportedEntry, texts_of}
use Rattle.import_tree.specs.Trees.{Placed, document_of, import_root, new_groups, placed_after, placed_at, with_all_placed, with_rows, with_rows_among}
use Rattle.vault_model.specs.Db.{NodeId, nil_id}
use Rattle.vault_model.specs.Empty.{new_group}
use Rattle.vault_model.specs.Shape.{Children, EntryRecord, GroupRecord}
use Rattle.vault_model.specs.Tree.{Tree, Trees, beside, child_rows, child_rows_all, entry_rows, entry_rows_all, group_rows, group_rows_all, id_of, ids_of, node, none}
use Rattle.vault_model.specs.Walk.{name_of}
use Rattle.import_laws.specs.Agreement.{untimed}

-- an entry that says nothing
abbrev pub no_entry : EntryRecord
no_entry = record {
  placed = 0;
  previous = nil_id;
  current = record { mark = record { modified = 0; content = no_content }; stats = record { accessed = 0; usage = 0 } };
  history = [];
}

abbrev pub bare_row : NodeId × EntryRecord → NodeId × EntryRecord
bare_row row = (row.0, no_entry)

abbrev pub bare_group : GroupRecord → GroupRecord
bare_group group = new_group group.state.content.name 0

abbrev mutual
  pub bare : Tree → Tree
  bare (node id group entries groups) = node id (bare_group group) (map bare_row entries) (bare_all groups)

  pub bare_all : Trees → Trees
  bare_all none = none
  bare_all (beside tree trees) = beside (bare tree) (bare_all trees)

abbrev pub bare_placed : Placed → Placed
bare_placed placed = record { now = 0; names = placed.names; rows = map bare_row placed.rows }

name_bare : (t : Tree) → name_of (bare t) ≡ name_of t
name_bare (node id group entries groups) = refl

either_bare : (b : Bool) (xs ys : Trees) → bare_all (cond b xs ys) ≡ cond b (bare_all xs) (bare_all ys)
either_bare true xs ys = refl
either_bare false xs ys = refl

module _ (now : ℕ) (e : List (NodeId × EntryRecord)) where
  bare_new : (parent : NodeId) (name : List ℕ) (names : List (List ℕ)) → bare (new_groups now parent name names e) ≡ new_groups 0 parent name names (map bare_row e)
  bare_new parent name [] = refl
  bare_new parent name (next ∷ names) =
      ap (λ t. node (named_id parent name) (new_group name 0) [] (beside t none)) (bare_new (named_id parent name) next names)

  mutual
    pub bare_with : (names : List (List ℕ)) (t : Tree) → bare (with_rows now names e t) ≡ with_rows 0 names (map bare_row e) (bare t)
    bare_with [] (node id group entries groups) =
        ap (λ rows. node id (bare_group group) rows (bare_all groups)) (map-append bare_row entries e)
    bare_with (name ∷ names) (node id group entries groups) =
        ap (λ ts. node id (bare_group group) (map bare_row entries) ts) (bare_among id name names groups)

    bare_among : (parent : NodeId) (name : List ℕ) (names : List (List ℕ)) (ts : Trees)
        → bare_all (with_rows_among now parent name names e ts) ≡ with_rows_among 0 parent name names (map bare_row e) (bare_all ts)
    bare_among parent name names none = ap (λ t. beside t none) (bare_new parent name names)
    bare_among parent name names (beside t ts) =
        let here = bare_with names t in
        let rest = bare_among parent name names ts in
        either_bare (bytes_eq (name_of t) name) (beside (with_rows now names e t) ts) (beside t (with_rows_among now parent name names e ts))
        ∙ ap (λ x. cond (bytes_eq (name_of t) name) (beside x (bare_all ts)) (beside (bare t) (bare_all (with_rows_among now parent name names e ts)))) here
        ∙ ap (λ xs. cond (bytes_eq (name_of t) name) (beside (with_rows 0 names (map bare_row e) (bare t)) (bare_all ts)) (beside (bare t) xs)) rest
        ∙ ap (λ n. cond (bytes_eq n name) (beside (with_rows 0 names (map bare_row e) (bare t)) (bare_all ts)) (beside (bare t) (with_rows_among 0 parent name names (map bare_row e) (bare_all ts)))) (sym (name_bare t))

pub bare_placed_all : (ps : List Placed) (t : Tree) → bare (with_all_placed ps t) ≡ with_all_placed (map bare_placed ps) (bare t)
bare_placed_all [] t = refl
bare_placed_all (p ∷ ps) t =
    bare_placed_all ps (with_rows p.now p.names p.rows t) ∙ ap (with_all_placed (map bare_placed ps)) (bare_with p.now p.rows p.names t)

untimed_placed : (now : ℕ) (before : List EntryTexts) (es : List ImportedEntry) → map bare_placed (placed_after now before es) ≡ map bare_placed (placed_after 0 before (map untimed es))
untimed_placed now before [] = refl
untimed_placed now before (e ∷ es) = ap (λ (ps : List Placed). bare_placed (placed_at now before e) ∷ ps) (untimed_placed now (before ++ texts_of e ∷ []) es)

-- what is left does not hang on the moment, nor on the times of the entries
pub bare_document : (now : ℕ) (es : List ImportedEntry) → bare (document_of now es).tree ≡ with_all_placed (map bare_placed (placed_after 0 [] (map untimed es))) (bare (import_root 0))
bare_document now es = bare_placed_all (placed_after now [] es) (import_root now) ∙ ap (λ ps. with_all_placed ps (bare (import_root 0))) (untimed_placed now [] es)

-- ---- what is left has the ids

abbrev pub entry_id : NodeId × EntryRecord → NodeId
entry_id row = row.0

abbrev pub group_id : NodeId × GroupRecord → NodeId
group_id row = row.0

same_ids : (es : List (NodeId × EntryRecord)) → map entry_id (map bare_row es) ≡ map entry_id es
same_ids [] = refl
same_ids (e ∷ es) = ap (λ us. e.0 ∷ us) (same_ids es)

pub id_bare : (t : Tree) → id_of (bare t) ≡ id_of t
id_bare (node id group entries groups) = refl

ids_bare : (ts : Trees) → ids_of (bare_all ts) ≡ ids_of ts
ids_bare none = refl
ids_bare (beside t ts) = ap (λ u. u ∷ ids_of (bare_all ts)) (id_bare t) ∙ ap (λ us. id_of t ∷ us) (ids_bare ts)

mutual
  pub bare_children : (t : Tree) → child_rows (bare t) ≡ child_rows t
  bare_children (node id group entries groups) =
      ap (λ us. (id, (let c : Children = record { entries = us; groups = ids_of (bare_all groups) } in c)) ∷ child_rows_all (bare_all groups)) (same_ids entries)
      ∙ ap (λ us. (id, (let c : Children = record { entries = map entry_id entries; groups = us } in c)) ∷ child_rows_all (bare_all groups)) (ids_bare groups)
      ∙ ap (λ rows. (id, (let c : Children = record { entries = map entry_id entries; groups = ids_of groups } in c)) ∷ rows) (bare_children_all groups)

  bare_children_all : (ts : Trees) → child_rows_all (bare_all ts) ≡ child_rows_all ts
  bare_children_all none = refl
  bare_children_all (beside t ts) = ap (λ rows. rows ++ child_rows_all (bare_all ts)) (bare_children t) ∙ ap (λ rows. child_rows t ++ rows) (bare_children_all ts)

mutual
  pub bare_entries : (t : Tree) → map entry_id (entry_rows (bare t)) ≡ map entry_id (entry_rows t)
  bare_entries (node id group entries groups) =
      map-append entry_id (map bare_row entries) (entry_rows_all (bare_all groups))
      ∙ ap (λ us. us ++ map entry_id (entry_rows_all (bare_all groups))) (same_ids entries)
      ∙ ap (λ us. map entry_id entries ++ us) (bare_entries_all groups)
      ∙ sym (map-append entry_id entries (entry_rows_all groups))

  bare_entries_all : (ts : Trees) → map entry_id (entry_rows_all (bare_all ts)) ≡ map entry_id (entry_rows_all ts)
  bare_entries_all none = refl
  bare_entries_all (beside t ts) =
      map-append entry_id (entry_rows (bare t)) (entry_rows_all (bare_all ts))
      ∙ ap (λ us. us ++ map entry_id (entry_rows_all (bare_all ts))) (bare_entries t)
      ∙ ap (λ us. map entry_id (entry_rows t) ++ us) (bare_entries_all ts)
      ∙ sym (map-append entry_id (entry_rows t) (entry_rows_all ts))

-- the ids of groups are those of the rows of children
mutual
  pub group_ids : (t : Tree) → map group_id (group_rows t) ≡ map (λ (row : NodeId × Children). row.0) (child_rows t)
  group_ids (node id group entries groups) = ap (λ us. id ∷ us) (group_ids_all groups)

  group_ids_all : (ts : Trees) → map group_id (group_rows_all ts) ≡ map (λ (row : NodeId × Children). row.0) (child_rows_all ts)
  group_ids_all none = refl
  group_ids_all (beside t ts) =
      map-append group_id (group_rows t) (group_rows_all ts)
      ∙ ap (λ us. us ++ map group_id (group_rows_all ts)) (group_ids t)
      ∙ ap (λ us. map (λ (row : NodeId × Children). row.0) (child_rows t) ++ us) (group_ids_all ts)
      ∙ sym (map-append (λ (row : NodeId × Children). row.0) (child_rows t) (child_rows_all ts))
