-- What a tree keeps when an entry is put into it: no node has the nil id, and what entries and groups say is in order.
use Rattle.std.proofs.Common.{◌≡◌, ◌≢◌, ℕ, Bool, true, false, not, cond, ◌&&◌, ◌||◌, List, [], ◌∷◌, ◌++◌, map, Result, Ok, Err, OnOk, OnErr, Option, None, Some, inl, inr, subst, refl, sym, ap, ◌∙◌}
use Rattle.std.specs.List.{list_all, list_any}
use Rattle.std.specs.Option.{ForSome}
use Rattle.std.specs.Str.{bytes_eq, is_utf8, chars}
use Rattle.vault_model.specs.Db.{NodeId, nil_id}
use Rattle.vault_model.specs.Empty.{new_group}
use Rattle.vault_model.specs.Join.{IsIn, is_id}
use Rattle.vault_model.specs.Proper.{is_proper_group_content}
use Rattle.vault_model.specs.Shape.{EntryRecord, GroupRecord}
use Rattle.vault_model.specs.SeenNodes.{are_entries_proper, are_groups_proper, entry_record, entry_row}
use Rattle.vault_model.specs.Tree.{Tree, Trees, beside, entry_rows, entry_rows_all, group_rows, group_rows_all, is_elsewhere, is_proper_entry, node, node_ids, node_ids_all, none}
use Rattle.vault_model.specs.Walk.{name_of}
use Rattle.vault_model.specs.declared.nodes.Entry.{Entry}
use Rattle.vault_model.proofs.Tests.{and_both, and_true, map_append, not_false, not_true, or_false}
use Rattle.tree_core.proofs.Counted.{all_append, all_front}
use Rattle.import_ids.specs.Ids.{named_id}
use Rattle.import_tree.specs.SeenDrafts.{rows_seen}
use Rattle.import_tree.specs.Trees.{new_groups, with_rows, with_rows_among}
use Rattle.import_ids.proofs.NamedIds.{named_not_nil, other_than_nil}

-- one of two ways, each of which keeps what is asked
either : (P : Trees → Type 0) (b : Bool) (x y : Trees) → P x → P y → P (cond b x y)
either P true x y p q = p
either P false x y p q = q

-- the ids of entries
abbrev row_ids : List (NodeId × EntryRecord) → List NodeId
row_ids = map (λ (row : NodeId × EntryRecord). row.0)

module _ (now : ℕ) (e : List (NodeId × EntryRecord)) where
  -- ---- entries

  module _ (test : NodeId × EntryRecord → Bool) (good : list_all test e ≡ true) where
    abbrev Entries : Trees → Type 0
    Entries ts = list_all test (entry_rows_all ts) ≡ true

    entries_new : (parent : NodeId) (name : List ℕ) (names : List (List ℕ)) → list_all test (entry_rows (new_groups now parent name names e)) ≡ true
    entries_new parent name [] = all_append test e [] good refl
    entries_new parent name (next ∷ names) = all_append test (entry_rows (new_groups now (named_id parent name) next names e)) [] (entries_new (named_id parent name) next names) refl

    mutual
      pub entries_kept : (names : List (List ℕ)) (t : Tree) → list_all test (entry_rows t) ≡ true → list_all test (entry_rows (with_rows now names e t)) ≡ true
      entries_kept [] (node id r es ts) all =
          let parts = all_front test es (entry_rows_all ts) all in
          all_append test (es ++ e) (entry_rows_all ts) (all_append test es e parts.0 good) parts.1
      entries_kept (name ∷ names) (node id r es ts) all =
          let parts = all_front test es (entry_rows_all ts) all in
          all_append test es (entry_rows_all (with_rows_among now id name names e ts)) parts.0 (entries_kept_all id name names ts parts.1)

      entries_kept_all : (parent : NodeId) (name : List ℕ) (names : List (List ℕ)) (ts : Trees) → Entries ts → Entries (with_rows_among now parent name names e ts)
      entries_kept_all parent name names none all = all_append test (entry_rows (new_groups now parent name names e)) [] (entries_new parent name names) refl
      entries_kept_all parent name names (beside t ts) all =
          let parts = all_front test (entry_rows t) (entry_rows_all ts) all in
          either Entries (bytes_eq (name_of t) name) (beside (with_rows now names e t) ts) (beside t (with_rows_among now parent name names e ts))
          (all_append test (entry_rows (with_rows now names e t)) (entry_rows_all ts) (entries_kept names t parts.0) parts.1)
          (all_append test (entry_rows t) (entry_rows_all (with_rows_among now parent name names e ts)) parts.0 (entries_kept_all parent name names ts parts.1))

  -- ---- groups

  module _ (test : NodeId × GroupRecord → Bool) (good : (id : NodeId) (name : List ℕ) → is_utf8 name ≡ true → test (id, new_group name now) ≡ true) where
    abbrev Groups : Trees → Type 0
    Groups ts = list_all test (group_rows_all ts) ≡ true

    groups_new : (parent : NodeId) (name : List ℕ) (names : List (List ℕ)) → list_all is_utf8 (name ∷ names) ≡ true → list_all test (group_rows (new_groups now parent name names e)) ≡ true
    groups_new parent name [] texts =
        let both = and_true (is_utf8 name) true texts in
        and_both (test (named_id parent name, new_group name now)) true (good (named_id parent name) name both.0) refl
    groups_new parent name (next ∷ names) texts =
        let both = and_true (is_utf8 name) (list_all is_utf8 (next ∷ names)) texts in
        let below = new_groups now (named_id parent name) next names e in
        and_both (test (named_id parent name, new_group name now)) (list_all test (group_rows below ++ [])) (good (named_id parent name) name both.0)
        (all_append test (group_rows below) [] (groups_new (named_id parent name) next names both.1) refl)

    mutual
      pub groups_kept : (names : List (List ℕ)) (t : Tree) → list_all is_utf8 names ≡ true → list_all test (group_rows t) ≡ true → list_all test (group_rows (with_rows now names e t)) ≡ true
      groups_kept [] (node id r es ts) texts all = all
      groups_kept (name ∷ names) (node id r es ts) texts all =
          let parts = and_true (test (id, r)) (list_all test (group_rows_all ts)) all in
          and_both (test (id, r)) (list_all test (group_rows_all (with_rows_among now id name names e ts))) parts.0 (groups_kept_all id name names ts texts parts.1)

      groups_kept_all : (parent : NodeId) (name : List ℕ) (names : List (List ℕ)) (ts : Trees) → list_all is_utf8 (name ∷ names) ≡ true → Groups ts → Groups (with_rows_among now parent name names e ts)
      groups_kept_all parent name names none texts all = all_append test (group_rows (new_groups now parent name names e)) [] (groups_new parent name names texts) refl
      groups_kept_all parent name names (beside t ts) texts all =
          let parts = all_front test (group_rows t) (group_rows_all ts) all in
          let both = and_true (is_utf8 name) (list_all is_utf8 names) texts in
          either Groups (bytes_eq (name_of t) name) (beside (with_rows now names e t) ts) (beside t (with_rows_among now parent name names e ts))
          (all_append test (group_rows (with_rows now names e t)) (group_rows_all ts) (groups_kept names t both.1 parts.0) parts.1)
          (all_append test (group_rows t) (group_rows_all (with_rows_among now parent name names e ts)) parts.0 (groups_kept_all parent name names ts texts parts.1))

  -- ---- ids

  module _ (test : NodeId → Bool) (good : list_all test (row_ids e) ≡ true) (made : (space : NodeId) (name : List ℕ) → test (named_id space name) ≡ true) where
    abbrev Ids : Trees → Type 0
    Ids ts = list_all test (node_ids_all ts) ≡ true

    ids_new : (parent : NodeId) (name : List ℕ) (names : List (List ℕ)) → list_all test (node_ids (new_groups now parent name names e)) ≡ true
    ids_new parent name [] =
        and_both (test (named_id parent name)) (list_all test (row_ids e ++ [])) (made parent name) (all_append test (row_ids e) [] good refl)
    ids_new parent name (next ∷ names) =
        let below = new_groups now (named_id parent name) next names e in
        and_both (test (named_id parent name)) (list_all test (node_ids below ++ [])) (made parent name)
        (all_append test (node_ids below) [] (ids_new (named_id parent name) next names) refl)

    mutual
      pub ids_kept : (names : List (List ℕ)) (t : Tree) → list_all test (node_ids t) ≡ true → list_all test (node_ids (with_rows now names e t)) ≡ true
      ids_kept [] (node id r es ts) all =
          let own = and_true (test id) (list_all test (row_ids es ++ node_ids_all ts)) all in
          let parts = all_front test (row_ids es) (node_ids_all ts) own.1 in
          let more : row_ids (es ++ e) ≡ row_ids es ++ row_ids e = map_append (λ (row : NodeId × EntryRecord). row.0) es e in
          and_both (test id) (list_all test (row_ids (es ++ e) ++ node_ids_all ts)) own.0
          (ap (λ us. list_all test (us ++ node_ids_all ts)) more
          ∙ all_append test (row_ids es ++ row_ids e) (node_ids_all ts) (all_append test (row_ids es) (row_ids e) parts.0 good) parts.1)
      ids_kept (name ∷ names) (node id r es ts) all =
          let own = and_true (test id) (list_all test (row_ids es ++ node_ids_all ts)) all in
          let parts = all_front test (row_ids es) (node_ids_all ts) own.1 in
          and_both (test id) (list_all test (row_ids es ++ node_ids_all (with_rows_among now id name names e ts))) own.0
          (all_append test (row_ids es) (node_ids_all (with_rows_among now id name names e ts)) parts.0 (ids_kept_all id name names ts parts.1))

      ids_kept_all : (parent : NodeId) (name : List ℕ) (names : List (List ℕ)) (ts : Trees) → Ids ts → Ids (with_rows_among now parent name names e ts)
      ids_kept_all parent name names none all = all_append test (node_ids (new_groups now parent name names e)) [] (ids_new parent name names) refl
      ids_kept_all parent name names (beside t ts) all =
          let parts = all_front test (node_ids t) (node_ids_all ts) all in
          either Ids (bytes_eq (name_of t) name) (beside (with_rows now names e t) ts) (beside t (with_rows_among now parent name names e ts))
          (all_append test (node_ids (with_rows now names e t)) (node_ids_all ts) (ids_kept names t parts.0) parts.1)
          (all_append test (node_ids t) (node_ids_all (with_rows_among now parent name names e ts)) parts.0 (ids_kept_all parent name names ts parts.1))

-- ---- the three facts of a draft

all_not : (us : List NodeId) → not (list_any (is_id nil_id) us) ≡ true → list_all (λ u. not (is_id nil_id u)) us ≡ true
all_not [] h = refl
all_not (u ∷ us) h =
    let both = or_false (is_id nil_id u) (list_any (is_id nil_id) us) (not_true (list_any (is_id nil_id) (u ∷ us)) h) in
    and_both (not (is_id nil_id u)) (list_all (λ v. not (is_id nil_id v)) us) (not_false (is_id nil_id u) both.0) (all_not us (not_false (list_any (is_id nil_id) us) both.1))

not_any : (us : List NodeId) → list_all (λ u. not (is_id nil_id u)) us ≡ true → not (list_any (is_id nil_id) us) ≡ true
not_any [] h = refl
not_any (u ∷ us) h =
    let both = and_true (not (is_id nil_id u)) (list_all (λ v. not (is_id nil_id v)) us) h in
    ap (λ b. not (b || list_any (is_id nil_id) us)) (not_true (is_id nil_id u) both.0) ∙ not_any us both.1

new_group_proper : (now : ℕ) (id : NodeId) (name : List ℕ) → is_utf8 name ≡ true → is_proper_group_content (new_group name now).state.content ≡ true
unfolding is_proper_group_content is_utf8 chars lib.Utf8.encode
new_group_proper now id name h = ap (λ b. b && true && true && true && true) h

other_ids : (rows : List (NodeId × EntryRecord)) → ((row : NodeId × EntryRecord) → IsIn row rows → row.0 ≢ nil_id) → list_all (λ u. not (is_id nil_id u)) (row_ids rows) ≡ true
other_ids [] other = refl
other_ids (row ∷ rows) other =
    and_both (not (is_id nil_id row.0)) (list_all (λ u. not (is_id nil_id u)) (row_ids rows)) (not_false (is_id nil_id row.0) (other_than_nil row.0 (other row (inl refl))))
    (other_ids rows (λ r among. other r (inr among)))

proper_rows : (rows : List (NodeId × EntryRecord)) → ((row : NodeId × EntryRecord) → IsIn row rows → is_proper_entry row.1 ≡ true)
    → list_all (λ (r : NodeId × EntryRecord). is_proper_entry r.1) rows ≡ true
proper_rows [] good = refl
proper_rows (row ∷ rows) good =
    and_both (is_proper_entry row.1) (list_all (λ (r : NodeId × EntryRecord). is_proper_entry r.1) rows) (good row (inl refl)) (proper_rows rows (λ r among. good r (inr among)))

module _ (now : ℕ) (names : List (List ℕ)) (e : List (NodeId × EntryRecord)) (t : Tree) where
  nil_kept : ((row : NodeId × EntryRecord) → IsIn row e → row.0 ≢ nil_id) → is_elsewhere t nil_id ≡ true → is_elsewhere (with_rows now names e t) nil_id ≡ true
  nil_kept other h =
      not_any (node_ids (with_rows now names e t))
      (ids_kept now e (λ u. not (is_id nil_id u)) (other_ids e other)
      (λ space name. not_false (is_id nil_id (named_id space name)) (other_than_nil (named_id space name) (named_not_nil space name))) names t (all_not (node_ids t) h))

  entries_stay : ((row : NodeId × EntryRecord) → IsIn row e → is_proper_entry row.1 ≡ true) → are_entries_proper t ≡ true → are_entries_proper (with_rows now names e t) ≡ true
  entries_stay good h = entries_kept now e (λ (r : NodeId × EntryRecord). is_proper_entry r.1) (proper_rows e good) names t h

  groups_stay : list_all is_utf8 names ≡ true → are_groups_proper t ≡ true → are_groups_proper (with_rows now names e t) ≡ true
  groups_stay texts h =
      groups_kept now e (λ (r : NodeId × GroupRecord). is_proper_group_content r.1.state.content) (λ id name utf8. new_group_proper now id name utf8) names t texts h

-- What each draft keeps of its tree.
pub record IsKept (t : Tree) : Type 0 where
  pub no_nil : is_elsewhere t nil_id ≡ true
  pub entries : are_entries_proper t ≡ true
  pub groups : are_groups_proper t ≡ true

-- what is asked of an entry that is put
own_rows : (entry : Option Entry) (P : NodeId × EntryRecord → Type 0) → ForSome entry (λ own. P (entry_row own)) → (row : NodeId × EntryRecord) → IsIn row (rows_seen entry) → P row
own_rows None P is row among = absurd among
own_rows (Some own) P is row (inl same) = subst P same (is own refl)
own_rows (Some own) P is row (inr among) = absurd among

-- it is kept whether a place is put into the tree or not
pub put_or_not : {E : Type 0} (now : ℕ) (names : List (List ℕ)) (entry : Option Entry) (old new : Tree) (r : Result (Unit {0}) E) → OnOk r (new ≡ with_rows now names (rows_seen entry) old) → OnErr r (new ≡ old)
    → ForSome entry (λ own. own.id ≢ nil_id) → ForSome entry (λ own. is_proper_entry (entry_record own) ≡ true) → list_all is_utf8 names ≡ true → IsKept old → IsKept new
put_or_not now names entry old new (Ok x) ok err other good texts kept =
    let e = rows_seen entry in
    subst IsKept (sym ok) (record {
      no_nil = nil_kept now names e old (own_rows entry (λ row. row.0 ≢ nil_id) other) kept.no_nil;
      entries = entries_stay now names e old (own_rows entry (λ row. is_proper_entry row.1 ≡ true) good) kept.entries;
      groups = groups_stay now names e old texts kept.groups;
    })
put_or_not now names entry old new (Err x) ok err other good texts kept = subst IsKept (sym err) kept
