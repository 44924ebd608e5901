-- Entries taken out of a group in memory, and put into places that were kept.
use Rattle.std.proofs.Common.{◌≡◌, ◌≤◌, ◌+◌, ℕ, suc, zero, Bool, true, false, not, cond, length, MatchOption, find, nat_lt, remove, option_and_then, inl, inr, List, [], ◌∷◌, Option, Some, None, map, refl, sym, ap, ◌∙◌, arith}
use Rattle.std.proofs.lemmas.Option.{same_Some}
use borrow.Author.Tests.{ltb-false}
use Rattle.std.specs.List.{position, position_or_len, slice_get, slice_set}
use Rattle.vault_model.specs.Db.{NodeId, nil_id}
use Rattle.vault_model.specs.Join.{is_id}
use Rattle.vault_model.specs.Shape.{EntryRecord}
use Rattle.vault_model.specs.SeenNodes.{entry_row, tree_seen}
use Rattle.vault_model.specs.Tree.{Tree, node}
use Rattle.vault_model.specs.declared.nodes.Entry.{Entry}
use Rattle.vault_model.specs.declared.nodes.Group.{Group, out-Group}
use Rattle.vault_model.proofs.SeenGroups.{seen_group}
use Rattle.vault_model.proofs.Tests.{decide}
use Rattle.tree_core.proofs.Changed.{absent_group, changed_by, changed_not}
use Rattle.tree_core.proofs.Options.{never}
use Rattle.tree_core.specs.Changes.{changed_at, entry_at, has_group, own_entry, without, without_entry}
use Rattle.tree_moves.specs.Places.{entries_filled}
use Rattle.tree_steps.specs.ChangedAt.{ChangedAt}
use Rattle.tree_steps.proofs.InPlace.{record_seen, seen_with_entries, trees, with_entries}

-- ---- a group without one of its entries

first_place : (u : NodeId) (es : List Entry) (at : ℕ) (x : Entry) → position_or_len (λ (e : Entry). is_id e.id u) es ≡ at → slice_get es at ≡ Some x
    → (find (λ (e : NodeId × EntryRecord). is_id e.0 u) (map entry_row es) ≡ Some (entry_row x)) × (map entry_row (remove es at) ≡ without u (map entry_row es))
first_place u [] at x way is = never x is
first_place u (e ∷ es) at x way is =
    elim (decide (is_id e.id u)) [
      | inl p ↦
          let here : zero ≡ at = sym (ap (λ b. cond (not b) (1 + position_or_len (λ (y : Entry). is_id y.id u) es) 0) p) ∙ way in
          let same : e ≡ x = same_Some e x (ap (slice_get (e ∷ es)) here ∙ is) in (
            ap (λ b. cond b (Some (entry_row e)) (find (λ (y : NodeId × EntryRecord). is_id y.0 u) (map entry_row es))) p ∙ ap (λ y. Some (entry_row y)) same,
            ap (λ n. map entry_row (remove (e ∷ es) n)) (sym here) ∙ ap (λ b. cond b (map entry_row es) (entry_row e ∷ without u (map entry_row es))) (sym p),
          )
      | inr p ↦
          let there : suc (position_or_len (λ (y : Entry). is_id y.id u) es) ≡ at =
          omega (arith, ap (λ b. cond (not b) (1 + position_or_len (λ (y : Entry). is_id y.id u) es) 0) p, way) in
          let rest = first_place u es (position_or_len (λ (y : Entry). is_id y.id u) es) x refl (ap (slice_get (e ∷ es)) there ∙ is) in (
            ap (λ b. cond b (Some (entry_row e)) (find (λ (y : NodeId × EntryRecord). is_id y.0 u) (map entry_row es))) p ∙ rest.0,
            ap (λ n. map entry_row (remove (e ∷ es) n)) (sym there)
                ∙ ap (λ xs. entry_row e ∷ xs) rest.1
                ∙ ap (λ b. cond b (map entry_row es) (entry_row e ∷ without u (map entry_row es))) (sym p),
          )
    ]

pub entry_taken : (u : NodeId) (g : Group) (at : ℕ) (x : Entry) → position (λ (e : Entry). is_id e.id u) (out-Group g).entries ≡ Some at → slice_get (out-Group g).entries at ≡ Some x
    → (own_entry u (tree_seen g) ≡ Some (entry_row x)) × (tree_seen (with_entries g (remove (out-Group g).entries at)) ≡ without_entry u (tree_seen g))
entry_taken u g at x way is =
    let here = first_place u (out-Group g).entries at x (place_is (λ (e : Entry). is_id e.id u) (out-Group g).entries at way) is in (
      ap (own_entry u) (seen_group g) ∙ here.0,
      seen_with_entries g (remove (out-Group g).entries at)
          ∙ ap (λ es. node (out-Group g).id (record_seen g) es (trees (out-Group g).groups)) here.1
          ∙ ap (without_entry u) (sym (seen_group g)),
    )
  where
    if_within : (b : Bool) (n at : ℕ) → cond b (Some n) None ≡ Some at → n ≡ at
    if_within true n at e = same_Some n at e
    if_within false n at e = never at e

    place_is : (p : Entry → Bool) (es : List Entry) (at : ℕ) → position p es ≡ Some at → position_or_len p es ≡ at
    place_is p es at e = if_within (nat_lt (position_or_len p es) (length es)) (position_or_len p es) at e

pub taken_at : (g u : NodeId) (old new : Tree) (out : Option Entry)
    → ChangedAt g (λ x y. MatchOption out ((own_entry u x ≡ None) × (y ≡ x)) (λ e. (own_entry u x ≡ Some (entry_row e)) × (y ≡ without_entry u x))) old new
    → MatchOption out ((entry_at g u old ≡ None) × (new ≡ old)) (λ e. (entry_at g u old ≡ Some (entry_row e)) × (new ≡ changed_at g (without_entry u) old))
taken_at g u old new None h = (
  ap (option_and_then (own_entry u)) h.there ∙ h.made.0,
  h.is ∙ ap (λ t. changed_at g (λ y. t) old) h.made.1 ∙ changed_by g (λ t. t) old h.before h.there ∙ changed_not g old,
)
taken_at g u old new (Some e) h = (
  ap (option_and_then (own_entry u)) h.there ∙ h.made.0,
  h.is ∙ ap (λ t. changed_at g (λ y. t) old) h.made.1 ∙ changed_by g (without_entry u) old h.before h.there,
)

pub none_taken : (g u : NodeId) (t : Tree) → has_group g t ≡ false → entry_at g u t ≡ None
none_taken g u t e = ap (option_and_then (own_entry u)) (absent_group g t e)

no_place : (u : NodeId) (es : List Entry) → length es ≤ position_or_len (λ (e : Entry). is_id e.id u) es → find (λ (e : NodeId × EntryRecord). is_id e.0 u) (map entry_row es) ≡ None
no_place u [] far = refl
no_place u (e ∷ es) far =
    elim (decide (is_id e.id u)) [
      | inl p ↦
          let here : position_or_len (λ (x : Entry). is_id x.id u) (e ∷ es) ≡ 0 = ap (λ b. cond (not b) (1 + position_or_len (λ (y : Entry). is_id y.id u) es) 0) p in
          absurd (omega (arith, far, here))
      | inr p ↦
          let there : position_or_len (λ (x : Entry). is_id x.id u) (e ∷ es) ≡ 1 + position_or_len (λ (x : Entry). is_id x.id u) es
          = ap (λ b. cond (not b) (1 + position_or_len (λ (y : Entry). is_id y.id u) es) 0) p in
          let rest : length es ≤ position_or_len (λ (x : Entry). is_id x.id u) es = omega (arith, far, there) in
          ap (λ b. cond b (Some (entry_row e)) (find (λ (y : NodeId × EntryRecord). is_id y.0 u) (map entry_row es))) p ∙ no_place u es rest
    ]

pub entry_absent : (u : NodeId) (g : Group) → position (λ (e : Entry). is_id e.id u) (out-Group g).entries ≡ None → own_entry u (tree_seen g) ≡ None
entry_absent u g way =
    ap (own_entry u) (seen_group g)
    ∙ no_place u (out-Group g).entries (far (nat_lt (position_or_len (λ (e : Entry). is_id e.id u) (out-Group g).entries) (length (out-Group g).entries)) refl way)
  where
    far : (b : Bool) → nat_lt (position_or_len (λ (e : Entry). is_id e.id u) (out-Group g).entries) (length (out-Group g).entries) ≡ b
        → cond b (Some (position_or_len (λ (e : Entry). is_id e.id u) (out-Group g).entries)) None ≡ None
        → length (out-Group g).entries ≤ position_or_len (λ (e : Entry). is_id e.id u) (out-Group g).entries
    far true q e = never (position_or_len (λ (e : Entry). is_id e.id u) (out-Group g).entries) (sym e)
    far false q e = ltb-false (position_or_len (λ (e : Entry). is_id e.id u) (out-Group g).entries) (length (out-Group g).entries) q

-- ---- an entry in a place that is kept

within_place : (b : Bool) (n at : ℕ) → cond b (Some n) None ≡ Some at → n ≡ at
within_place true n at e = same_Some n at e
within_place false n at e = never at e

place_filled : (u : NodeId) (es : List Entry) (at : ℕ) (e : Entry) → u ≡ nil_id → position_or_len (λ (y : Entry). is_id y.id u) es ≡ at
    → map entry_row (slice_set es at e) ≡ entries_filled (entry_row e) (map entry_row es)
place_filled u [] at e nil way = refl
place_filled u (x ∷ xs) at e nil way =
    elim (decide (is_id x.id u)) [
      | inl p ↦
          let first : zero ≡ at = sym (ap (λ b. cond (not b) (1 + position_or_len (λ (y : Entry). is_id y.id u) xs) 0) p) ∙ way in
          ap (λ n. map entry_row (slice_set (x ∷ xs) n e)) (sym first)
          ∙ ap (λ b. cond b (entry_row e ∷ map entry_row xs) (entry_row x ∷ entries_filled (entry_row e) (map entry_row xs))) (sym (ap (is_id x.id) (sym nil) ∙ p))
      | inr p ↦
          let next : suc (position_or_len (λ (y : Entry). is_id y.id u) xs) ≡ at =
          omega (arith, ap (λ b. cond (not b) (1 + position_or_len (λ (y : Entry). is_id y.id u) xs) 0) p, way) in
          ap (λ n. map entry_row (slice_set (x ∷ xs) n e)) (sym next)
          ∙ ap (λ ys. entry_row x ∷ ys) (place_filled u xs (position_or_len (λ (y : Entry). is_id y.id u) xs) e nil refl)
          ∙ ap (λ b. cond b (entry_row e ∷ map entry_row xs) (entry_row x ∷ entries_filled (entry_row e) (map entry_row xs))) (sym (ap (is_id x.id) (sym nil) ∙ p))
    ]

pub fills_place : (u : NodeId) (es : List Entry) (at : ℕ) (e : Entry) → u ≡ nil_id → position (λ (y : Entry). is_id y.id u) es ≡ Some at
    → map entry_row (slice_set es at e) ≡ entries_filled (entry_row e) (map entry_row es)
fills_place u es at e nil way =
    place_filled u es at e nil (within_place (nat_lt (position_or_len (λ (y : Entry). is_id y.id u) es) (length es)) (position_or_len (λ (y : Entry). is_id y.id u) es) at way)

no_places : (u : NodeId) (es : List Entry) (e : Entry) → u ≡ nil_id → length es ≤ position_or_len (λ (y : Entry). is_id y.id u) es → map entry_row es ≡ entries_filled (entry_row e) (map entry_row es)
no_places u [] e nil far = refl
no_places u (x ∷ xs) e nil far =
    elim (decide (is_id x.id u)) [
      | inl p ↦
          let first : position_or_len (λ (y : Entry). is_id y.id u) (x ∷ xs) ≡ 0 = ap (λ b. cond (not b) (1 + position_or_len (λ (y : Entry). is_id y.id u) xs) 0) p in
          absurd (omega (arith, far, first))
      | inr p ↦
          let next : position_or_len (λ (y : Entry). is_id y.id u) (x ∷ xs) ≡ 1 + position_or_len (λ (y : Entry). is_id y.id u) xs
          = ap (λ b. cond (not b) (1 + position_or_len (λ (y : Entry). is_id y.id u) xs) 0) p in
          let rest : length xs ≤ position_or_len (λ (y : Entry). is_id y.id u) xs = omega (arith, far, next) in
          ap (λ ys. entry_row x ∷ ys) (no_places u xs e nil rest)
          ∙ ap (λ b. cond b (entry_row e ∷ map entry_row xs) (entry_row x ∷ entries_filled (entry_row e) (map entry_row xs))) (sym (ap (is_id x.id) (sym nil) ∙ p))
    ]

pub fills_none : (u : NodeId) (es : List Entry) (e : Entry) → u ≡ nil_id → position (λ (y : Entry). is_id y.id u) es ≡ None → map entry_row es ≡ entries_filled (entry_row e) (map entry_row es)
fills_none u es e nil way = no_places u es e nil (far (nat_lt (position_or_len (λ (y : Entry). is_id y.id u) es) (length es)) refl way)
  where
    far : (b : Bool) → nat_lt (position_or_len (λ (y : Entry). is_id y.id u) es) (length es) ≡ b → cond b (Some (position_or_len (λ (y : Entry). is_id y.id u) es)) None ≡ None
        → length es ≤ position_or_len (λ (y : Entry). is_id y.id u) es
    far true q k = never (position_or_len (λ (y : Entry). is_id y.id u) es) (sym k)
    far false q k = ltb-false (position_or_len (λ (y : Entry). is_id y.id u) es) (length es) q
