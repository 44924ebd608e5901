-- After the end of a document: the bytes of attachments are found, no id occurs twice, and tombstones stay in order.
use Rattle.std.proofs.Common.{◌≡◌, ℕ, Bool, true, false, not, cond, Option, Some, None, List, [], ◌∷◌, ◌++◌, map, filter, is_some, bytes_eq, flat_map, ap, ap₂, sym, refl, ◌∙◌}
use Rattle.std.proofs.lemmas.List.{map-append}
use Rattle.std.proofs.lemmas.Slice.Eq.{bytes_eq-Decides}
use Rattle.std.specs.Cmp.{both_ways}
use Rattle.std.specs.List.{list_all, list_any}
use Rattle.std.specs.Ordering.{is_lt}
use Rattle.std.specs.declared.cmp.Ordering.{Ordering}
use Rattle.std.specs.declared.cmp.Ordering.TheVariants.{Less, Equal, Greater}
use Rattle.vault_model.proofs.Ids.{same_id, is_same_id}
use Rattle.vault_model.proofs.Tests.{any_same, and_true}
use Rattle.vault_model.specs.Bare.{BareAttachment}
use Rattle.vault_model.specs.Db.{NodeId}
use Rattle.vault_model.specs.Join.{is_id}
use Rattle.vault_model.specs.Orders.{bytes_cmp}
use Rattle.vault_model.specs.Proper.{rises}
use Rattle.vault_model.specs.Shape.{BareVersion, EntryRecord}
use Rattle.vault_model.specs.Tree as vault
use Rattle.vault_model.specs.Tree.{Tree, Trees, are_distinct}
use Rattle.vault_model.specs.declared.nodes.Tombstone.{Tombstone}
use Rattle.doc_forms.specs.Attachments.{binary_of, with_bytes, resolved_attachment, resolved_version, resolved_entry, resolved_tree, resolved_trees, Missing, missing_source, missing_entry, missing_in, missing_all}
use Rattle.doc_forms.specs.Ids.{least_duplicate, lesser_id, bury, bury_beside, bury_all}
use Rattle.doc_forms.specs.Entries.{ReadSource, own_bytes, pool_number, ReadAttachment, ReadVersion, ReadEntry}
use Rattle.doc_forms.specs.Groups.{ReadTree, ReadTrees, node, none, beside}
use Rattle.doc_forms.specs.Metas.{ReadBinary}
use Rattle.doc_spelling.specs.ResolvedParts.{source_of, hidden_of, source_with, attachment_with, version_with, entry_with, tree_with, trees_with, own_attachment, own_version, own_entry, own_tree, own_trees}

-- ---- lists

map_both : {A B C : Type 0} (f : B → C) (h : A → B) (k : A → C) (xs : List A) → ((x : A) → f (h x) ≡ k x) → map f (map h xs) ≡ map k xs
map_both f h k [] e = refl
map_both f h k (x ∷ xs) e = ap₂ (λ y ys. y ∷ ys) (e x) (map_both f h k xs e)

map_same : {A : Type 0} (f : A → A) (xs : List A) → ((x : A) → f x ≡ x) → map f xs ≡ xs
map_same f [] e = refl
map_same f (x ∷ xs) e = ap₂ (λ y ys. y ∷ ys) (e x) (map_same f xs e)

-- ---- what is found does not change where attachments have their bytes

module _ (pool : List ReadBinary) where
  found_by : (f : ReadAttachment) (place n : ℕ) (o : Option ReadBinary) → binary_of pool n ≡ o
      → resolved_attachment pool (record { name = f.name; source = source_of n o; hidden = hidden_of f.hidden o }) ≡ with_bytes f (pool_number place n) o
  found_by f place n None e = ap (λ (o : Option ReadBinary). with_bytes (record { name = f.name; source = pool_number 0 n; hidden = f.hidden }) (pool_number 0 n) o) e
  found_by f place n (Some b) e = refl

  by_source : (name : List ℕ) (h : Bool) (source : ReadSource) → resolved_attachment pool (attachment_with pool (record { name = name; source = source; hidden = h })) ≡ resolved_attachment pool (record { name = name; source = source; hidden = h })
  by_source name h (own_bytes bytes) = refl
  by_source name h (pool_number place n) = found_by (record { name = name; source = pool_number place n; hidden = h }) place n (binary_of pool n) refl

  version_found : (v : ReadVersion) → resolved_version pool (version_with pool v) ≡ resolved_version pool v
  version_found v = ap (λ (l : List BareAttachment). let x : BareVersion = record { mark = record { modified = v.modified; content = record v.content { attachments = l } }; stats = v.stats } in x)
      (map_both (resolved_attachment pool) (attachment_with pool) (resolved_attachment pool) v.attachments (λ f. by_source f.name f.hidden f.source))

  entry_found : (e : ReadEntry) → resolved_entry pool (entry_with pool e) ≡ resolved_entry pool e
  entry_found e = ap₂ (λ (v : BareVersion) (l : List BareVersion). let x : NodeId × EntryRecord = (e.id, record { placed = e.placed; previous = e.previous; current = v; history = l }) in x)
      (version_found e.current) (map_both (resolved_version pool) (version_with pool) (resolved_version pool) e.history version_found)

  mutual
    tree_found : (t : ReadTree) → resolved_tree pool (tree_with pool t) ≡ resolved_tree pool t
    tree_found (node u r es ts) = ap₂ (vault.node u r) (map_both (resolved_entry pool) (entry_with pool) (resolved_entry pool) es entry_found) (trees_found ts)

    trees_found : (ts : ReadTrees) → resolved_trees pool (trees_with pool ts) ≡ resolved_trees pool ts
    trees_found none = refl
    trees_found (beside t ts) = ap₂ vault.beside (tree_found t) (trees_found ts)

  -- ---- what is written is found

  version_own : (v : BareVersion) → resolved_version pool (own_version v) ≡ v
  version_own v = ap (λ (l : List BareAttachment). let x : BareVersion = record { mark = record { modified = v.mark.modified; content = record v.mark.content { attachments = l } }; stats = v.stats } in x)
      (map_both (resolved_attachment pool) own_attachment (λ a. a) v.mark.content.attachments (λ a. refl) ∙ map_same (λ a. a) v.mark.content.attachments (λ a. refl))

  entry_own : (e : NodeId × EntryRecord) → resolved_entry pool (own_entry e) ≡ e
  entry_own e = ap₂ (λ (v : BareVersion) (l : List BareVersion). let x : NodeId × EntryRecord = (e.0, record { placed = e.1.placed; previous = e.1.previous; current = v; history = l }) in x)
      (version_own e.1.current) (map_both (resolved_version pool) own_version (λ v. v) e.1.history version_own ∙ map_same (λ v. v) e.1.history (λ v. refl))

  mutual
    tree_own : (t : Tree) → resolved_tree pool (own_tree t) ≡ t
    tree_own (vault.node u r es ts) = ap₂ (vault.node u r) (map_both (resolved_entry pool) own_entry (λ e. e) es entry_own ∙ map_same (λ e. e) es (λ e. refl)) (trees_own ts)

    trees_own : (ts : Trees) → resolved_trees pool (own_trees ts) ≡ ts
    trees_own vault.none = refl
    trees_own (vault.beside t ts) = ap₂ vault.beside (tree_own t) (trees_own ts)

  pub found_again : (r : ReadTree) (t : Tree) → tree_with pool r ≡ own_tree t → resolved_tree pool r ≡ t
  found_again r t e = sym (tree_found r) ∙ (ap (resolved_tree pool) e ∙ tree_own t)

  -- ---- nothing is missing

  abbrev numbers : List Missing → List ℕ
  numbers ms = map (λ (m : Missing). m.1) ms

  numbers_by : (place n : ℕ) (o : Option ReadBinary) → binary_of pool n ≡ o → numbers (missing_source pool (source_of n o)) ≡ numbers (cond (is_some o) [] ((place, n) ∷ []))
  numbers_by place n None e = ap (λ (o : Option ReadBinary). numbers (cond (is_some o) [] ((0, n) ∷ []))) e
  numbers_by place n (Some b) e = refl

  source_numbers : (source : ReadSource) → numbers (missing_source pool (source_with pool source)) ≡ numbers (missing_source pool source)
  source_numbers (own_bytes bytes) = refl
  source_numbers (pool_number place n) = numbers_by place n (binary_of pool n) refl

  same_numbers : {A : Type 0} (f : A → List Missing) (h : A → A) (xs : List A) → ((x : A) → numbers (f (h x)) ≡ numbers (f x)) → numbers (flat_map f (map h xs)) ≡ numbers (flat_map f xs)
  same_numbers f h [] e = refl
  same_numbers f h (x ∷ xs) e =
      map-append (λ (m : Missing). m.1) (f (h x)) (flat_map f (map h xs))
      ∙ (ap₂ (λ a b. a ++ b) (e x) (same_numbers f h xs e) ∙ sym (map-append (λ (m : Missing). m.1) (f x) (flat_map f xs)))

  entry_numbers : (e : ReadEntry) → numbers (missing_entry pool (entry_with pool e)) ≡ numbers (missing_entry pool e)
  entry_numbers e = same_numbers (λ (v : ReadVersion). flat_map (λ (f : ReadAttachment). missing_source pool f.source) v.attachments) (version_with pool) (e.current ∷ e.history)
      (λ v. same_numbers (λ (f : ReadAttachment). missing_source pool f.source) (attachment_with pool) v.attachments (λ f. source_numbers f.source))

  mutual
    tree_numbers : (t : ReadTree) → numbers (missing_in pool (tree_with pool t)) ≡ numbers (missing_in pool t)
    tree_numbers (node u r es ts) =
        map-append (λ (m : Missing). m.1) (flat_map (missing_entry pool) (map (entry_with pool) es)) (missing_all pool (trees_with pool ts))
        ∙ (ap₂ (λ a b. a ++ b) (same_numbers (missing_entry pool) (entry_with pool) es entry_numbers) (trees_numbers ts)
        ∙ sym (map-append (λ (m : Missing). m.1) (flat_map (missing_entry pool) es) (missing_all pool ts)))

    trees_numbers : (ts : ReadTrees) → numbers (missing_all pool (trees_with pool ts)) ≡ numbers (missing_all pool ts)
    trees_numbers none = refl
    trees_numbers (beside t ts) =
        map-append (λ (m : Missing). m.1) (missing_in pool (tree_with pool t)) (missing_all pool (trees_with pool ts))
        ∙ (ap₂ (λ a b. a ++ b) (tree_numbers t) (trees_numbers ts)
        ∙ sym (map-append (λ (m : Missing). m.1) (missing_in pool t) (missing_all pool ts)))

  nothing_in : {A B : Type 0} (f : B → List Missing) (h : A → B) (xs : List A) → ((x : A) → f (h x) ≡ []) → flat_map f (map h xs) ≡ []
  nothing_in f h [] e = refl
  nothing_in f h (x ∷ xs) e = ap₂ (λ a b. a ++ b) (e x) (nothing_in f h xs e)

  version_none : (v : BareVersion) → flat_map (λ (f : ReadAttachment). missing_source pool f.source) (own_version v).attachments ≡ []
  version_none v = nothing_in (λ (f : ReadAttachment). missing_source pool f.source) own_attachment v.mark.content.attachments (λ a. refl)

  entry_none : (e : NodeId × EntryRecord) → missing_entry pool (own_entry e) ≡ []
  entry_none e = nothing_in (λ (v : ReadVersion). flat_map (λ (f : ReadAttachment). missing_source pool f.source) v.attachments) own_version (e.1.current ∷ e.1.history) version_none

  mutual
    tree_none : (t : Tree) → missing_in pool (own_tree t) ≡ []
    tree_none (vault.node u r es ts) = ap₂ (λ a b. a ++ b) (nothing_in (missing_entry pool) own_entry es entry_none) (trees_none ts)

    trees_none : (ts : Trees) → missing_all pool (own_trees ts) ≡ []
    trees_none vault.none = refl
    trees_none (vault.beside t ts) = ap₂ (λ a b. a ++ b) (tree_none t) (trees_none ts)

  no_numbers : (ms : List Missing) → numbers ms ≡ [] → ms ≡ []
  no_numbers [] e = refl
  no_numbers (m ∷ ms) e = cc e

  pub none_missing : (r : ReadTree) (t : Tree) → tree_with pool r ≡ own_tree t → missing_in pool r ≡ []
  none_missing r t e = no_numbers (missing_in pool r) (sym (tree_numbers r) ∙ (ap (λ t. numbers (missing_in pool t)) e ∙ ap numbers (tree_none t)))

-- ---- ids

is_bytes : (u v : NodeId) → is_id u v ≡ bytes_eq u v
is_bytes u v =
    let bytes = bytes_eq-Decides u v in
    both_ways (is_id u v) (bytes_eq u v) (λ e. bytes.1 (same_id u v e)) (λ e. is_same_id u v (bytes.0 e))

not_twice : (b : Bool) (x y : Option NodeId) → not b ≡ true → y ≡ None → cond b x y ≡ None
not_twice true x y h n = cc h
not_twice false x y h n = n

pub none_twice : (us : List NodeId) → are_distinct us ≡ true → least_duplicate us ≡ None
none_twice [] e = refl
none_twice (u ∷ us) e =
    let both = and_true (not (list_any (is_id u) us)) (are_distinct us) e in
    ap (λ b. cond b (Some (lesser_id u (least_duplicate us))) (least_duplicate us)) (sym (any_same (is_id u) (bytes_eq u) us (λ v h. is_bytes u v)))
    ∙ not_twice (list_any (is_id u) us) _ _ both.0 (none_twice us both.1)

-- ---- tombstones

less_from : (r : Ordering) → is_lt r ≡ true → r ≡ Less
less_from Less e = refl
less_from Equal e = cc e
less_from Greater e = cc e

at_front : (t : Tombstone) (ts : List Tombstone) → list_all (λ (u : Tombstone). is_lt (bytes_cmp t.id u.id)) ts ≡ true → bury t ts ≡ t ∷ ts
at_front t [] e = refl
at_front t (u ∷ us) e =
    let both = and_true (is_lt (bytes_cmp t.id u.id)) (list_all (λ (u : Tombstone). is_lt (bytes_cmp t.id u.id)) us) e in
    ap (λ o. bury_beside o t u us (bury t us)) (less_from (bytes_cmp t.id u.id) both.0)

pub in_order : (ts : List Tombstone) → rises (λ (t : Tombstone). t.id) ts ≡ true → bury_all ts ≡ ts
in_order [] e = refl
in_order (t ∷ ts) e =
    let both = and_true (list_all (λ (u : Tombstone). is_lt (bytes_cmp t.id u.id)) ts) (rises (λ (t : Tombstone). t.id) ts) e in
    ap (bury t) (in_order ts both.1) ∙ at_front t ts both.0

pub all_stay : {A : Type 0} (p : A → Bool) (xs : List A) → list_all p xs ≡ true → filter p xs ≡ xs
all_stay p [] e = refl
all_stay p (x ∷ xs) e =
    let both = and_true (p x) (list_all p xs) e in
    ap (λ b. cond b (x ∷ filter p xs) (filter p xs)) both.0 ∙ ap (λ l. x ∷ l) (all_stay p xs both.1)
