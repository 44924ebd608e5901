-- The example's run is one of the kind that the laws speak of.
use Rattle.std.proofs.Common.{◌≡◌, false, inl, inr, [], ◌∷◌, None, Some, Ok, codes, refl, subst, arith}
use Rattle.std.proofs.lemmas.Option.{same_Some}
use Rattle.std.specs.FinMap.{get}
use Rattle.std.specs.List.{list_any}
use Rattle.std.specs.Str.{chars, is_utf8}
use Rattle.vault_model.specs.Db.{Db, NodeId, holds}
use Rattle.vault_model.specs.Join.{IsIn, is_id}
use Rattle.vault_model.specs.Proper.{is_proper_content, is_proper_group_content}
use Rattle.vault_model.specs.Tree.{BareDoc, IsDoc, db_in, node_ids}
use Rattle.vault_model.proofs.Ids.{id_itself}
use Rattle.vault_model.proofs.Tests.{any_true, apart, is_false}
use Rattle.merge_core.specs.Example.{as_it_was}
use Rattle.merge_core.proofs.SoundDoc.{db_tomb, holds_node}
use Rattle.tree_core.specs.After.{after_add, after_make_group}
use Rattle.tree_core.specs.Finding.{group_at_path, group_found, has_entry_path, has_group_path}
use Rattle.typed_runs.specs.Example.{example_run, no_values, shop, trips, with_shop, with_trips}
use Rattle.typed_runs.specs.TypedRuns.{IsTypedRun}

doc_before : IsDoc as_it_was
unfolding is_proper_content is_proper_group_content is_utf8 chars lib.Utf8.encode
doc_before = record {
  distinct = refl;
  no_nil = refl;
  levels = omega arith;
  tombs_rise = refl;
  tombs_apart = refl;
  entries_proper = refl;
  groups_proper = refl;
  icons_rise = refl;
  items_rise = refl;
  meta_texts = refl;
}

doc_with_shop : IsDoc with_shop
unfolding is_proper_content is_proper_group_content is_utf8 chars lib.Utf8.encode
doc_with_shop = record {
  distinct = refl;
  no_nil = refl;
  levels = omega arith;
  tombs_rise = refl;
  tombs_apart = refl;
  entries_proper = refl;
  groups_proper = refl;
  icons_rise = refl;
  items_rise = refl;
  meta_texts = refl;
}

doc_with_trips : IsDoc with_trips
unfolding is_proper_content is_proper_group_content is_utf8 chars lib.Utf8.encode
doc_with_trips = record {
  distinct = refl;
  no_nil = refl;
  levels = omega arith;
  tombs_rise = refl;
  tombs_apart = refl;
  entries_proper = refl;
  groups_proper = refl;
  icons_rise = refl;
  items_rise = refl;
  meta_texts = refl;
}

shop_added : after_add (codes "Shop") shop no_values 50 as_it_was ≡ Ok with_shop
unfolding group_found group_at_path has_entry_path
shop_added = refl

trips_made : after_make_group (codes "Trips") trips 60 as_it_was ≡ Ok with_trips
unfolding group_found group_at_path has_group_path
trips_made = refl

-- an id that is none of a document's is not held
not_held : (d : BareDoc) → IsDoc d → (u : NodeId) → list_any (is_id u) (node_ids d.tree) ≡ false → holds (db_in d) u ≡ false
not_held d isd u off = is_false (holds (db_in d) u) (λ h. apart (list_any (is_id u) (node_ids d.tree)) (any_true (is_id u) (node_ids d.tree) u (holds_node d isd u h) (id_itself u)) off)

unused_before : (u v : NodeId) → Some u ≡ Some v → list_any (is_id u) (node_ids as_it_was.tree) ≡ false → (holds (db_in as_it_was) v ≡ false) × (get (db_in as_it_was).tombs v ≡ None)
unused_before u v e off = (subst (λ (w : NodeId). holds (db_in as_it_was) w ≡ false) (same_Some u v e) (not_held as_it_was doc_before u off), db_tomb as_it_was doc_before v)

unused_with_shop : (u v : NodeId) → Some u ≡ Some v → list_any (is_id u) (node_ids with_shop.tree) ≡ false → (holds (db_in with_shop) v ≡ false) × (get (db_in with_shop).tombs v ≡ None)
unused_with_shop u v e off = (subst (λ (w : NodeId). holds (db_in with_shop) w ≡ false) (same_Some u v e) (not_held with_shop doc_with_shop u off), db_tomb with_shop doc_with_shop v)

-- each member of one or two databases
of_one : (a : Db) (P : Db → Type 0) → P a → (x : Db) → IsIn x (a ∷ []) → P x
of_one a P p x (inl is) = subst P is p
of_one a P p x (inr none) = absurd none

of_two : (a b : Db) (P : Db → Type 0) → P a → P b → (x : Db) → IsIn x (a ∷ b ∷ []) → P x
of_two a b P p q x (inl is) = subst P is p
of_two a b P p q x (inr more) = of_one b P q x more

pub example_is_run : IsTypedRun as_it_was example_run
example_is_run = record {
  is_doc = doc_before;
  events = (
    (
      doc_with_shop,
      (shop_added, λ x u h e. of_one (db_in as_it_was) (λ (y : Db). (holds y u ≡ false) × (get y.tombs u ≡ None)) (unused_before shop u e refl) x h),
    ),
    (
      (
        doc_with_trips,
        (
          trips_made,
          λ x u h e. of_two (db_in with_shop) (db_in as_it_was) (λ (y : Db). (holds y u ≡ false) × (get y.tombs u ≡ None))
              (unused_with_shop trips u e refl) (unused_before trips u e refl) x h,
        ),
      ),
      (tt, tt),
    ),
  );
}
