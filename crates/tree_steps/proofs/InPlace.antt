-- Groups in memory: the way to one of an id, and what is seen of the tree where it was changed.
use Rattle.std.proofs.Common.{◌≡◌, ◌<◌, ◌≤◌, ℕ, suc, zero, true, false, true≢false, not, ◌||◌, ◌+◌, cond, length, MatchOption, MatchResult, OnErr, OnOk, Result, Ok, Err, ◌++◌, inl, inr, List, [], ◌∷◌, Option, Some, None, map, get_or, sym, ap, ◌∙◌, arith}
use Rattle.std.proofs.lemmas.List.Quantifiers.{position-Some}
use Rattle.std.proofs.lemmas.Option.{get_or_from_slice_get, same_Some, slice_get-get_or}
use Rattle.std.proofs.lemmas.Bool.{lt-ltb}
use Rattle.std.specs.List.{position, position_or_len, slice_get, slice_set}
use Rattle.vault_model.specs.Db.{NodeId}
use Rattle.vault_model.specs.Join.{is_id}
use Rattle.vault_model.specs.Shape.{GroupRecord}
use Rattle.vault_model.specs.SeenNodes.{entry_row, tree_seen, tree_step}
use Rattle.vault_model.specs.Tree.{Tree, Trees, all_trees, beside, height, height_all, node}
use Rattle.vault_model.specs.declared.nodes.Entry.{Entry}
use Rattle.vault_model.specs.declared.nodes.Group.{Group, out-Group, roll-Group}
use Rattle.vault_model.specs.declared.nodes.Group.TheFolds.{fold-roll-Group}
use Rattle.vault_model.proofs.Tests.{apart, decide, is_false, map_append}
use Rattle.tree_core.proofs.Options.{never}
use Rattle.tree_core.proofs.Changed.{absent_group, changed_by, changed_not, changed_off}
use Rattle.vault_model.proofs.SeenGroups.{seen_group}
use Rattle.tree_steps.specs.ChangedAt.{ChangedAt}
use Rattle.tree_core.specs.Changes.{changed_at, changed_in, group_among, group_with, has_group, have_group, with_entry}

abbrev pub trees : List Group → Trees
trees gs = all_trees (map tree_seen gs)

-- what is written of a group
abbrev pub record_seen : Group → GroupRecord
record_seen g = record { placed = (out-Group g).placed; previous = (out-Group g).previous; state = (out-Group g).state; view = (out-Group g).view }

-- a group with other entries, and with other groups in it
abbrev pub with_entries : Group → List Entry → Group
with_entries g es = roll-Group (record (out-Group g) { entries = es })

abbrev pub with_groups : Group → List Group → Group
with_groups g gs = roll-Group (record (out-Group g) { groups = gs })

pub seen_with_entries : (g : Group) (es : List Entry) → tree_seen (with_entries g es) ≡ node (out-Group g).id (record_seen g) (map entry_row es) (trees (out-Group g).groups)
seen_with_entries g es = fold-roll-Group Tree tree_step (record (out-Group g) { entries = es })

pub seen_with_groups : (g : Group) (gs : List Group) → tree_seen (with_groups g gs) ≡ node (out-Group g).id (record_seen g) (map entry_row (out-Group g).entries) (trees gs)
seen_with_groups g gs = fold-roll-Group Tree tree_step (record (out-Group g) { groups = gs })

-- ---- the first of some groups that has it

-- the way to a group is that to the child that has it first
pub found_among : (u : NodeId) (gs : List Group) (at : ℕ) (old : Group) → slice_get gs at ≡ Some old → has_group u (tree_seen old) ≡ true
    → ((k : ℕ) → k < at → has_group u (tree_seen (get_or gs k old)) ≡ false)
    → group_among u (trees gs) ≡ group_with u (tree_seen old)
found_among u [] at old is has before = never old is
found_among u (g ∷ gs) zero old is has before =
    let same : g ≡ old = same_Some g old is in
    ap (λ x. cond (has_group u (tree_seen x)) (group_with u (tree_seen x)) (group_among u (trees gs))) same
    ∙ ap (λ b. cond b (group_with u (tree_seen old)) (group_among u (trees gs))) has
found_among u (g ∷ gs) (suc at) old is has before =
    ap (λ b. cond b (group_with u (tree_seen g)) (group_among u (trees gs))) (before zero (omega arith))
    ∙ found_among u gs at old is has (λ k less. before (suc k) (omega arith))

pub changed_among : (u : NodeId) (f : Tree → Tree) (gs : List Group) (at : ℕ) (old new : Group) → slice_get gs at ≡ Some old → has_group u (tree_seen old) ≡ true
    → ((k : ℕ) → k < at → has_group u (tree_seen (get_or gs k old)) ≡ false)
    → tree_seen new ≡ changed_at u f (tree_seen old) → trees (slice_set gs at new) ≡ changed_in u f (trees gs)
changed_among u f [] at old new is has before e = never old is
changed_among u f (g ∷ gs) zero old new is has before e =
    let same : g ≡ old = same_Some g old is in
    ap (λ t. beside t (trees gs)) e
    ∙ ap (λ b. cond b (beside (changed_at u f (tree_seen old)) (trees gs)) (beside (tree_seen old) (changed_in u f (trees gs)))) (sym has)
    ∙ ap (λ x. changed_in u f (beside (tree_seen x) (trees gs))) (sym same)
changed_among u f (g ∷ gs) (suc at) old new is has before e =
    ap (λ ts. beside (tree_seen g) ts) (changed_among u f gs at old new is has (λ k less. before (suc k) (omega arith)) e)
    ∙ ap (λ b. cond b (beside (changed_at u f (tree_seen g)) (trees gs)) (beside (tree_seen g) (changed_in u f (trees gs)))) (sym (before zero (omega arith)))

-- ---- the way down ends

child_lower : (gs : List Group) (at : ℕ) (x : Group) → slice_get gs at ≡ Some x → height (tree_seen x) ≤ height_all (trees gs)
child_lower [] at x is = never x is
child_lower (g ∷ gs) zero x is = let same = ap (λ y. height (tree_seen y)) (same_Some g x is) in omega (arith, same)
child_lower (g ∷ gs) (suc at) x is = let below = child_lower gs at x is in omega (arith, below)

pub lower : (g : Group) (at : ℕ) (x : Group) → slice_get (out-Group g).groups at ≡ Some x → height (tree_seen x) < height (tree_seen g)
lower g at x is =
    let below = child_lower (out-Group g).groups at x is in
    let here = ap height (seen_group g) in
    omega (arith, below, here)

-- ---- what the way down says

placed_first : (u : NodeId) (gs : List Group) → have_group u (trees gs) ≡ true → position_or_len (λ g. has_group u (tree_seen g)) gs < length gs
placed_first u [] h = absurd (true≢false (sym h))
placed_first u (g ∷ gs) h =
    elim (decide (has_group u (tree_seen g))) [
      | inl p ↦
          let here : position_or_len (λ x. has_group u (tree_seen x)) (g ∷ gs) ≡ 0 = ap (λ b. cond (not b) (1 + position_or_len (λ x. has_group u (tree_seen x)) gs) 0) p in
          omega (arith, here)
      | inr p ↦
          let there : position_or_len (λ x. has_group u (tree_seen x)) (g ∷ gs) ≡ 1 + position_or_len (λ x. has_group u (tree_seen x)) gs
          = ap (λ b. cond (not b) (1 + position_or_len (λ x. has_group u (tree_seen x)) gs) 0) p in
          let rest = placed_first u gs (sym (ap (λ b. b || have_group u (trees gs)) p) ∙ h) in
          omega (arith, there, rest)
    ]

none_has : (u : NodeId) (gs : List Group) → position (λ g. has_group u (tree_seen g)) gs ≡ None → have_group u (trees gs) ≡ false
none_has u gs e = is_false (have_group u (trees gs)) (λ h.
    never (position_or_len (λ g. has_group u (tree_seen g)) gs) (sym e
    ∙ ap (λ b. cond b (Some (position_or_len (λ g. has_group u (tree_seen g)) gs)) None) (lt-ltb (position_or_len (λ g. has_group u (tree_seen g)) gs) (length gs) (placed_first u gs h))))

-- a group of this id is not the group itself, and none of those in it has it
pub not_there : (u : NodeId) (g : Group) → is_id (out-Group g).id u ≡ false → position (λ x. has_group u (tree_seen x)) (out-Group g).groups ≡ None
    → has_group u (tree_seen g) ≡ false
not_there u g other e =
    ap (has_group u) (seen_group g)
    ∙ ap (λ b. b || have_group u (trees (out-Group g).groups)) other
    ∙ none_has u (out-Group g).groups e

-- a group of this id is found and changed below a group where it is found and changed in the first child that has it
pub changed_below : (u : NodeId) (makes : Tree → Tree → Type 0) (g : Group) (at : ℕ) (old new : Group) → is_id (out-Group g).id u ≡ false
    → position (λ x. has_group u (tree_seen x)) (out-Group g).groups ≡ Some at → slice_get (out-Group g).groups at ≡ Some old
    → ChangedAt u makes (tree_seen old) (tree_seen new)
    → ChangedAt u makes (tree_seen g)
    (tree_seen (with_groups g (slice_set (out-Group g).groups at new)))
changed_below u makes g at old new other way is c =
    let gs = (out-Group g).groups in
    let r = record_seen g in
    let es = map entry_row (out-Group g).entries in
    let first = position-Some (λ x. has_group u (tree_seen x)) gs at old way in
    let has : has_group u (tree_seen old) ≡ true = ap (λ x. has_group u (tree_seen x)) (sym (get_or_from_slice_get gs at old old is)) ∙ first.1 in
    record {
      before = c.before;
      after = c.after;
      there =
          ap (group_with u) (seen_group g)
          ∙ ap (λ b. cond b (Some (node (out-Group g).id r es (trees gs))) (group_among u (trees gs))) other
          ∙ found_among u gs at old is has first.2
          ∙ c.there;
      made = c.made;
      is =
          seen_with_groups g (slice_set gs at new)
          ∙ ap (node (out-Group g).id r es) (changed_among u (λ t. c.after) gs at old new is has first.2 c.is)
          ∙ ap (λ b. cond b c.after (node (out-Group g).id r es (changed_in u (λ t. c.after) (trees gs)))) (sym other)
          ∙ ap (changed_at u (λ t. c.after)) (sym (seen_group g));
    }

-- a group of this id is the group itself
pub changed_here : (u : NodeId) (makes : Tree → Tree → Type 0) (g : Group) (new : Tree) → is_id (out-Group g).id u ≡ true → makes (tree_seen g) new
    → ChangedAt u makes (tree_seen g) new
changed_here u makes g new same made =
    let r = record_seen g in
    let es = map entry_row (out-Group g).entries in
    let gs = trees (out-Group g).groups in
    record {
      before = tree_seen g;
      after = new;
      there =
          ap (group_with u) (seen_group g)
          ∙ ap (λ b. cond b (Some (node (out-Group g).id r es gs)) (group_among u gs)) same
          ∙ ap Some (sym (seen_group g));
      made = made;
      is = ap (λ b. cond b new (node (out-Group g).id r es (changed_in u (λ t. new) gs))) (sym same) ∙ ap (changed_at u (λ t. new)) (sym (seen_group g));
    }

-- what is handed back from below a group
pub either_below : {Out : Type 0} (u : NodeId) (makes : Out → Tree → Tree → Type 0) (g : Group) (at : ℕ) (old new : Group) → is_id (out-Group g).id u ≡ false
    → position (λ x. has_group u (tree_seen x)) (out-Group g).groups ≡ Some at → slice_get (out-Group g).groups at ≡ Some old
    → (o : Option Out) → MatchOption o ((has_group u (tree_seen old) ≡ false) × (tree_seen new ≡ tree_seen old)) (λ out. ChangedAt u (makes out) (tree_seen old) (tree_seen new))
    → let t = tree_seen (with_groups g (slice_set (out-Group g).groups at new)) in
    MatchOption o ((has_group u (tree_seen g) ≡ false) × (t ≡ tree_seen g)) (λ out. ChangedAt u (makes out) (tree_seen g) t)
either_below u makes g at old new other way is None h =
    let first = position-Some (λ x. has_group u (tree_seen x)) (out-Group g).groups at old way in
    apart (has_group u (tree_seen old)) (ap (λ x. has_group u (tree_seen x)) (sym (get_or_from_slice_get (out-Group g).groups at old old is)) ∙ first.1) h.0
either_below u makes g at old new other way is (Some out) h = changed_below u (makes out) g at old new other way is h

-- the way never leads past the groups
pub none_below : {A : Type 0} (u : NodeId) (g : Group) (at : ℕ) → position (λ x. has_group u (tree_seen x)) (out-Group g).groups ≡ Some at
    → slice_get (out-Group g).groups at ≡ None → A
none_below u g at way is =
    let some = first_is u (out-Group g).groups at way in never some.0 (sym is ∙ some.1)
  where
    first_is : (u : NodeId) (gs : List Group) (at : ℕ) → position (λ x. has_group u (tree_seen x)) gs ≡ Some at → (x : Group) × (slice_get gs at ≡ Some x)
    first_is u [] at way = never at way
    first_is u (y ∷ ys) at way =
        let first = position-Some (λ x. has_group u (tree_seen x)) (y ∷ ys) at y way in
        (get_or (y ∷ ys) at y, slice_get-get_or (y ∷ ys) at y first.0)

-- ---- a group with one more entry

pub entry_put : (g : Group) (es : List Entry) (e : Entry) → es ≡ (out-Group g).entries ++ e ∷ []
    → tree_seen (with_entries g es) ≡ with_entry (entry_row e) (tree_seen g)
entry_put g es e is =
    let r = record_seen g in
    seen_with_entries g es
    ∙ ap (λ xs. node (out-Group g).id r (map entry_row xs) (trees (out-Group g).groups)) is
    ∙ ap (λ xs. node (out-Group g).id r xs (trees (out-Group g).groups)) (map_append entry_row (out-Group g).entries (e ∷ []))
    ∙ ap (with_entry (entry_row e)) (sym (seen_group g))

pub entries_same : (g : Group) (es : List Entry) → es ≡ (out-Group g).entries
    → tree_seen (with_entries g es) ≡ tree_seen g
entries_same g es is =
    let r = record_seen g in
    seen_with_entries g es
    ∙ ap (λ xs. node (out-Group g).id r (map entry_row xs) (trees (out-Group g).groups)) is
    ∙ sym (seen_group g)

-- an entry put after the others, or not
pub entry_put_or_not : {E : Type 0} (g : Group) (es : List Entry) (e : Entry) (r : Result (Unit {0}) E) → OnOk r (es ≡ (out-Group g).entries ++ e ∷ []) → OnErr r (es ≡ (out-Group g).entries)
    → MatchResult r (λ _. tree_seen (with_entries g es) ≡ with_entry (entry_row e) (tree_seen g)) (λ _. tree_seen (with_entries g es) ≡ tree_seen g)
entry_put_or_not g es e (Ok x) ok err = entry_put g es e ok
entry_put_or_not g es e (Err x) ok err = entries_same g es err

-- what a change that is a function makes of a tree, where memory does not run out
pub put_of : {E : Type 0} (u : NodeId) (f : Tree → Tree) (old new : Tree) (o : Option (Result (Unit {0}) E))
    → MatchOption o ((has_group u old ≡ false) × (new ≡ old)) (λ out. ChangedAt u (λ x y. MatchResult out (λ _. y ≡ f x) (λ _. y ≡ x)) old new)
    → MatchOption o ((has_group u old ≡ false) × (new ≡ old)) (λ out. MatchResult out (λ _. new ≡ changed_at u f old) (λ _. new ≡ old))
put_of u f old new None h = h
put_of u f old new (Some (Ok x)) h = h.is ∙ ap (λ t. changed_at u (λ y. t) old) h.made ∙ changed_by u f old h.before h.there
put_of u f old new (Some (Err e)) h =
    h.is ∙ ap (λ t. changed_at u (λ y. t) old) h.made ∙ changed_by u (λ t. t) old h.before h.there ∙ changed_not u old

-- ---- the way down where nothing is changed

pub group_none : (u : NodeId) (g : Group) → is_id (out-Group g).id u ≡ false → position (λ x. has_group u (tree_seen x)) (out-Group g).groups ≡ None → group_with u (tree_seen g) ≡ None
group_none u g other way = absent_group u (tree_seen g) (not_there u g other way)

pub group_below : (u : NodeId) (g : Group) (at : ℕ) (child : Group) → is_id (out-Group g).id u ≡ false → position (λ x. has_group u (tree_seen x)) (out-Group g).groups ≡ Some at
    → slice_get (out-Group g).groups at ≡ Some child → group_with u (tree_seen child) ≡ group_with u (tree_seen g)
group_below u g at child other way is =
    let gs = (out-Group g).groups in
    let first = position-Some (λ x. has_group u (tree_seen x)) gs at child way in
    let has : has_group u (tree_seen child) ≡ true = ap (λ x. has_group u (tree_seen x)) (sym (get_or_from_slice_get gs at child child is)) ∙ first.1 in
    sym (ap (group_with u) (seen_group g)
    ∙ ap (λ b. cond b (Some (node (out-Group g).id (record_seen g) (map entry_row (out-Group g).entries) (trees gs))) (group_among u (trees gs))) other
    ∙ found_among u gs at child is has first.2)

pub place_there : {A : Type 0} (u : NodeId) (es : List Entry) (at : ℕ) → position (λ (y : Entry). is_id y.id u) es ≡ Some at → slice_get es at ≡ None → A
place_there u [] at way is = never at way
place_there u (y ∷ ys) at way is =
    let first = position-Some (λ (x : Entry). is_id x.id u) (y ∷ ys) at y way in
    never (get_or (y ∷ ys) at y) (sym is ∙ slice_get-get_or (y ∷ ys) at y first.0)

-- a change that is a function, where nothing is handed back
pub always_of : (u : NodeId) (f : Tree → Tree) (old new : Tree) (o : Option (Unit {0})) → MatchOption o ((has_group u old ≡ false) × (new ≡ old)) (λ out. ChangedAt u (λ x y. y ≡ f x) old new)
    → new ≡ changed_at u f old
always_of u f old new None h = h.1 ∙ sym (changed_off u f old h.0)
always_of u f old new (Some x) h = h.is ∙ ap (λ t. changed_at u (λ y. t) old) h.made ∙ changed_by u f old h.before h.there
