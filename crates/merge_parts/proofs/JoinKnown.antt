-- The join has nothing at an id that no member knows of.
use Rattle.std.proofs.Common.{◌≡◌, ◌++◌, max, not, Bool, true, false, cond, List, [], ◌∷◌, Option, None, map, refl, sym, ◌∙◌}
use Rattle.std.specs.List.{list_any}
use Rattle.std.proofs.lemmas.List.Folds.{list_any-append}
use Rattle.std.specs.FinMap.{FinMap, keys, contains_key-keys, get}
use Rattle.vault_model.specs.Db.{NodeId, id_cmp, Db, place_cmp}
use Rattle.vault_model.specs.Join.{is_id, kept, join, stats_join, state_join}
use Rattle.merge_core.proofs.Facts.{join_entries, join_groups, join_places, join_tombs}
use Rattle.vault_model.specs.Unite.{join_options, greater, gather, unite}
use Rattle.vault_model.proofs.Tests.{or_false, none_of}
use Rattle.merge_parts.specs.KnownIds.{known_in, known_ids}

module _ {A : Type 0} (f : A → A → A) (field : Db → FinMap id_cmp A) (within : (m : Db) (q : NodeId) → list_any (is_id q) (known_in m) ≡ false → get (field m) q ≡ None) where
  pub none_known : (S : List Db) (q : NodeId) → list_any (is_id q) (known_ids S) ≡ false → gather f (map (λ (m : Db). get (field m) q) S) ≡ None
  none_known [] q h = refl
  none_known (m ∷ ms) q h =
      let parts = or_false (list_any (is_id q) (known_in m)) (list_any (is_id q) (known_ids ms)) (sym (list_any-append (is_id q) (known_in m) (known_ids ms)) ∙ h) in
      (λ i. join_options f (within m q parts.0 i) (none_known ms q parts.1 i))

no_key : {A : Type 0} (m : FinMap id_cmp A) (q : NodeId) → list_any (is_id q) (keys m) ≡ false → get m q ≡ None
no_key m q h = none_of (get m q) (contains_key-keys m q ∙ h)

parts_in : (m : Db) (q : NodeId) → list_any (is_id q) (known_in m) ≡ false
    → ((list_any (is_id q) (keys m.entries) ≡ false) × (list_any (is_id q) (keys m.groups) ≡ false)) × ((list_any (is_id q) (keys m.places) ≡ false) × (list_any (is_id q) (keys m.tombs) ≡ false))
parts_in m q h =
    let all = or_false _ _ (sym (list_any-append (is_id q) (keys m.entries ++ keys m.groups) (keys m.places ++ keys m.tombs)) ∙ h) in (
      or_false _ _ (sym (list_any-append (is_id q) (keys m.entries) (keys m.groups)) ∙ all.0),
      or_false _ _ (sym (list_any-append (is_id q) (keys m.places) (keys m.tombs)) ∙ all.1),
    )

same_none : {A : Type 0} (b : Bool) (o : Option A) → o ≡ None → cond b o None ≡ None
same_none true o e = e
same_none false o e = refl

pub entries_known : (S : List Db) (q : NodeId) → list_any (is_id q) (known_ids S) ≡ false → get (join S).entries q ≡ None
entries_known S q h =
    join_entries S q ∙ same_none (kept S q) _ (none_known (unite stats_join) (λ m. m.entries) (λ m v k. no_key m.entries v (parts_in m v k).0.0) S q h)

pub groups_known : (S : List Db) (q : NodeId) → list_any (is_id q) (known_ids S) ≡ false → get (join S).groups q ≡ None
groups_known S q h =
    join_groups S q ∙ same_none (kept S q) _ (none_known state_join (λ m. m.groups) (λ m v k. no_key m.groups v (parts_in m v k).0.1) S q h)

pub places_known : (S : List Db) (q : NodeId) → list_any (is_id q) (known_ids S) ≡ false → get (join S).places q ≡ None
places_known S q h =
    join_places S q ∙ same_none (kept S q) _ (none_known (greater place_cmp) (λ m. m.places) (λ m v k. no_key m.places v (parts_in m v k).1.0) S q h)

pub tombs_known : (S : List Db) (q : NodeId) → list_any (is_id q) (known_ids S) ≡ false → get (join S).tombs q ≡ None
tombs_known S q h =
    join_tombs S q ∙ same_none (not (kept S q)) _ (none_known max (λ m. m.tombs) (λ m v k. no_key m.tombs v (parts_in m v k).1.1) S q h)
