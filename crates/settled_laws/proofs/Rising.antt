-- The entries of a settled document are in order.
use Rattle.std.proofs.Common.{◌≡◌, Bool, true, false, List, [], ◌∷◌, ◌++◌, Option, Some, None, map, refl, sym, ap, subst, ◌∙◌}
use Rattle.std.proofs.lemmas.Option.{same_Some}
use Rattle.std.proofs.Math.Dec.{T}
use Rattle.std.specs.FinMap.{entries, entries_sorted, get, is_sorted}
use Rattle.std.specs.FinMap.Entries.{below_all}
use Rattle.std.specs.List.{list_all}
use Rattle.std.specs.Option.{unwrap_or}
use Rattle.std.specs.Ordering.{is_lt}
use Rattle.vault_model.specs.declared.contents.Stats.{Stats}
use Rattle.vault_model.specs.Db.{Db, Mark, NodeId, Versions, mark_cmp}
use Rattle.vault_model.specs.Join.{IsIn}
use Rattle.vault_model.specs.Shape.{BareVersion, EntryRecord, Shape, Stay, but_last, last_of, lay, record_of, stay_in, version_of, versions_in}
use Rattle.vault_model.specs.Tree.{BareDoc, IsSettled, LEVELS, Tree, db_in, doc_of, entry_rows, no_group, shape_of, tree_of}
use Rattle.vault_model.proofs.Tests.{and_both, and_true, map_append}
use Rattle.merge_core.proofs.Distinct.{in_all}
use Rattle.merge_core.proofs.Laid.{lay_entries}
use Rattle.merge_core.proofs.TreeShape.{entries_right}
use Rattle.merge_core.proofs.Versions.{never}
use Rattle.settled_laws.proofs.Settled.{orderly_is_settled}
use Rattle.settled_laws.specs.Settled.{SettledMeans, is_orderly, is_orderly_entry, versions_rise}

is_so : (b : Bool) → T b → b ≡ true
is_so true h = refl
is_so false h = absurd h

abbrev is_after : Mark → BareVersion → Bool
is_after k w = is_lt (mark_cmp k w.mark)

all_after : (k : Mark) (es : List (Mark × Stats)) → below_all mark_cmp k es ≡ true → list_all (is_after k) (map version_of es) ≡ true
all_after k [] e = refl
all_after k (x ∷ xs) e =
    let both = and_true (is_lt (mark_cmp k x.0)) (below_all mark_cmp k xs) e in
    and_both (is_lt (mark_cmp k x.0)) (list_all (is_after k) (map version_of xs)) both.0 (all_after k xs both.1)

listed_rise : (es : List (Mark × Stats)) → is_sorted mark_cmp es ≡ true → versions_rise (map version_of es) ≡ true
listed_rise [] e = refl
listed_rise (x ∷ xs) e =
    let both = and_true (below_all mark_cmp x.0 xs) (is_sorted mark_cmp xs) e in
    and_both (list_all (is_after x.0) (map version_of xs)) (versions_rise (map version_of xs)) (all_after x.0 xs both.0) (listed_rise xs both.1)

rejoined : {A : Type 0} (x : A) (xs : List A) → but_last x xs ++ last_of x xs ∷ [] ≡ x ∷ xs
rejoined x [] = refl
rejoined x (y ∷ ys) = ap (λ zs. x ∷ zs) (rejoined y ys)

-- the record of versions in rising order is in order
record_orderly : (stay : Stay) (es : List (Mark × Stats)) (e : EntryRecord) → is_sorted mark_cmp es ≡ true → record_of stay es ≡ Some e → is_orderly_entry e ≡ true
record_orderly stay [] e up is = never e is
record_orderly stay (x ∷ xs) e up is =
    ap is_orderly_entry (sym (same_Some _ _ is))
    ∙ ap versions_rise (sym (map_append version_of (but_last x xs) (last_of x xs ∷ [])) ∙ ap (map version_of) (rejoined x xs))
    ∙ listed_rise (x ∷ xs) up

module _ (d : BareDoc) (settled : IsSettled LEVELS d) where
  abbrev m : Db
  m = db_in d

  abbrev laid : Shape
  laid = lay m (shape_of d)

  tree_is : tree_of laid LEVELS laid.root (unwrap_or (get laid.groups laid.root) no_group) ≡ d.tree
  unfolding doc_of
  tree_is = ap (λ (x : BareDoc). x.tree) settled

  row_orderly : (u : NodeId) (e : EntryRecord) (o : Option Versions) → get m.entries u ≡ o → get laid.entries u ≡ Some e → is_orderly_entry e ≡ true
  row_orderly u e None q is = never e (sym (lay_entries m (shape_of d) u ∙ ap (λ o. record_of (stay_in m u) (versions_in o)) q) ∙ is)
  row_orderly u e (Some v) q is =
      record_orderly (stay_in m u) (entries v) e (is_so (is_sorted mark_cmp (entries v)) (entries_sorted v))
      (sym (lay_entries m (shape_of d) u ∙ ap (λ o. record_of (stay_in m u) (versions_in o)) q) ∙ is)

  settled_orderly : is_orderly d ≡ true
  settled_orderly = in_all (λ (r : NodeId × EntryRecord). is_orderly_entry r.1) (entry_rows d.tree) (λ r h.
      row_orderly r.0 r.1 (get m.entries r.0) refl
      (entries_right laid LEVELS laid.root (unwrap_or (get laid.groups laid.root) no_group) r (subst (λ (t : Tree). IsIn r (entry_rows t)) (sym tree_is) h)))

pub settled_means : SettledMeans
settled_means d is = (λ settled. settled_orderly d settled, λ up. orderly_is_settled d is up)
