-- Tombstones that are kept by their ids, and one more.
use Rattle.std.proofs.Common.{◌≡◌, ◌<◌, ◌≤◌, ◌-◌, ℕ, Bool, not, cond, max, List, [], ◌∷◌, Option, Some, None, length, drop, get_or, map, refl, sym, ap, ◌∙◌, arith, ◌++◌, true, false, append_assoc}
use Rattle.std.proofs.lemmas.Map.{lookup-none}
use Rattle.std.proofs.lemmas.Map.Entries.{none_below_head}
use Rattle.std.proofs.lemmas.Map.Keys.{sorted_tail}
use Rattle.std.specs.declared.cmp.Ordering.{Ordering}
use Rattle.std.specs.declared.cmp.Ordering.TheVariants.{Less, Equal, Greater}
use Rattle.std.specs.BTreeMap.{insert_entry, is_at}
use Rattle.std.specs.BTreeSet.{BTreeSet, contains}
use Rattle.std.specs.List.{filter, list_any}
use Rattle.std.specs.List.Sorted.{IsStrictlySortedBy}
use Rattle.std.specs.Map.{lookup, keys_of}
use Rattle.std.specs.Option.{unwrap_or}
use Rattle.std.specs.Ordering.{is_eq, match_ordering}
use Rattle.vault_model.specs.Db.{NodeId, id_cmp}
use Rattle.vault_model.specs.Join.{is_id}
use Rattle.vault_model.specs.Tree.{Tree, node_ids}
use Rattle.vault_model.specs.declared.nodes.Tombstone.{Tombstone}
use Rattle.vault_model.proofs.Orders.{id_order}
use Rattle.doc_forms.specs.Ids.{bury, bury_all, bury_beside, tombs_of}
use Rattle.doc_resolving.proofs.IdSets.{from_before}
use Rattle.doc_forms.specs.Ids.{tomb_of}

-- the later of a tombstone's time and that of its id
abbrev pub later_of : Tombstone → List (NodeId × ℕ) → ℕ
later_of t es = max t.deleted (unwrap_or (lookup (is_at (id_cmp t.id)) es) 0)

-- by an order: the entry before the others, in the place of the first, or among those after it
entry_beside : Ordering → Tombstone → NodeId × ℕ → List (NodeId × ℕ) → ℕ → List (NodeId × ℕ)
entry_beside o t e es time = match_ordering o ((t.id, time) ∷ e ∷ es) ((e.0, time) ∷ es) (e ∷ insert_entry id_cmp es t.id time)

later_alone : (n : ℕ) → n ≡ max n 0
later_alone n = omega arith

bury_by : (t : Tombstone) (e : NodeId × ℕ) (es : List (NodeId × ℕ)) (o : Ordering)
    → id_cmp t.id e.0 ≡ o
    → IsStrictlySortedBy id_cmp (keys_of (e ∷ es))
    → bury t (map tomb_of es) ≡ map tomb_of (insert_entry id_cmp es t.id (later_of t es))
    → bury_beside o t (tomb_of e) (map tomb_of es) (bury t (map tomb_of es)) ≡ map tomb_of (entry_beside o t e es (later_of t (e ∷ es)))
unfolding entry_beside
bury_by t e es Less o up rest =
    let none : lookup (is_at (id_cmp t.id)) (e ∷ es) ≡ None = lookup-none (is_at (id_cmp t.id)) (e ∷ es) (none_below_head id_order.total t.id e es up o) in
    let time : t.deleted ≡ later_of t (e ∷ es) = later_alone t.deleted ∙ ap (λ (v : Option ℕ). max t.deleted (unwrap_or v 0)) (sym none) in
    ap (λ (n : ℕ). tomb_of (t.id, n) ∷ tomb_of e ∷ map tomb_of es) time
bury_by t e es Equal o up rest =
    let time : later_of t (e ∷ es) ≡ max t.deleted e.1 = ap (λ (b : Bool). max t.deleted (unwrap_or (cond b (Some e.1) (lookup (is_at (id_cmp t.id)) es)) 0)) (ap is_eq o) in
    λ i. tomb_of (id_order.same t.id e.0 o i, sym time i) ∷ map tomb_of es
bury_by t e es Greater o up rest =
    let time : later_of t (e ∷ es) ≡ later_of t es = ap (λ (b : Bool). max t.deleted (unwrap_or (cond b (Some e.1) (lookup (is_at (id_cmp t.id)) es)) 0)) (ap is_eq o) in
    ap (λ (l : List Tombstone). tomb_of e ∷ l) (rest ∙ ap (λ (n : ℕ). map tomb_of (insert_entry id_cmp es t.id n)) (sym time))

pub bury_entry : (t : Tombstone) (es : List (NodeId × ℕ)) → IsStrictlySortedBy id_cmp (keys_of es)
    → bury t (map tomb_of es) ≡ map tomb_of (insert_entry id_cmp es t.id (later_of t es))
unfolding entry_beside
bury_entry t [] up = ap (λ (n : ℕ). tomb_of (t.id, n) ∷ []) (later_alone t.deleted)
bury_entry t (e ∷ es) up = bury_by t e es (id_cmp t.id e.0) refl up (bury_entry t es (sorted_tail id_cmp e.0 (keys_of es) up))

-- the tombstones from a place on are kept by their ids; so are they from the place before it
pub bury_before : (tombs : List Tombstone) (at : ℕ) (t : Tombstone) (es more : List (NodeId × ℕ)) (time : ℕ)
    → map tomb_of es ≡ bury_all (drop at tombs)
    → 0 < at
    → at ≤ length tombs
    → t ≡ get_or tombs (at - 1) t
    → IsStrictlySortedBy id_cmp (keys_of es)
    → time ≡ later_of t es
    → more ≡ insert_entry id_cmp es t.id time
    → map tomb_of more ≡ bury_all (drop (at - 1) tombs)
bury_before tombs at t es more time known some children_and_end is up later entries =
    ap (map tomb_of) (entries ∙ ap (insert_entry id_cmp es t.id) later)
    ∙ sym (bury_entry t es up)
    ∙ ap (bury t) known
    ∙ ap bury_all (sym (from_before tombs at t some children_and_end is))

-- those that name no node of a tree
pub tombs_left : (tree : Tree) (tombs lent : List Tombstone) (ids : BTreeSet NodeId)
    → ((u : NodeId) → contains id_cmp ids u ≡ list_any (is_id u) (node_ids tree))
    → lent ≡ tombs
    → filter (λ (t : Tombstone). not (contains id_cmp ids t.id)) (bury_all lent) ≡ tombs_of tree tombs
tombs_left tree tombs lent ids are same = λ i. filter (λ (t : Tombstone). not (are t.id i)) (bury_all (same i))

-- ---- a loop over the tombstones that are kept by their ids

module _ (stays : Tombstone → Bool) (whole others : List Tombstone) (e : NodeId × ℕ) (left next : List (NodeId × ℕ)) where
  by_first : (b : Bool) → stays (tomb_of e) ≡ b → left ≡ e ∷ next
      → filter stays (map tomb_of left) ≡ cond b (tomb_of e ∷ filter stays (map tomb_of next)) (filter stays (map tomb_of next))
  by_first b is first =
      ap (λ l. filter stays (map tomb_of l)) first
      ∙ ap (λ t. cond t (tomb_of e ∷ filter stays (map tomb_of next)) (filter stays (map tomb_of next))) is

  -- one that names a node is passed over
  pub one_left_out : whole ≡ others ++ filter stays (map tomb_of left) → left ≡ e ∷ next → stays (tomb_of e) ≡ false
      → whole ≡ others ++ filter stays (map tomb_of next)
  one_left_out known first is = known ∙ ap (λ l. others ++ l) (by_first false is first)

  -- another one is kept
  pub one_kept : (more : List Tombstone) → whole ≡ others ++ filter stays (map tomb_of left) → left ≡ e ∷ next → stays (tomb_of e) ≡ true
      → more ≡ others ++ tomb_of e ∷ [] → whole ≡ more ++ filter stays (map tomb_of next)
  one_kept more known first is added =
      known ∙ (ap (λ l. others ++ l) (by_first true is first)
      ∙ (sym (append_assoc others (tomb_of e ∷ []) (filter stays (map tomb_of next))) ∙ ap (λ l. l ++ filter stays (map tomb_of next)) (sym added)))
