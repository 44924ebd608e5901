-- What the parts of a laid document say: versions, groups, icons and items that are in order stay in order.
use Rattle.std.proofs.Common.{◌≡◌, ℕ, true, ◌&&◌, inl, inr, List, [], ◌∷◌, Option, Some, None, refl, sym, ap, subst, ◌∙◌}
use Rattle.std.proofs.lemmas.Option.{same_Some}
use Rattle.std.specs.FinMap.{get, entries, entries_sorted, values}
use Rattle.std.specs.List.{list_all}
use Rattle.std.specs.Option.{option_map}
use Rattle.std.specs.Str.{is_utf8}
use Rattle.vault_model.specs.declared.contents.Item.{Item}
use Rattle.vault_model.specs.declared.contents.Stats.{Stats}
use Rattle.vault_model.specs.declared.metas.Icon.{Icon}
use Rattle.vault_model.specs.declared.metas.Meta.{Meta}
use Rattle.vault_model.specs.declared.nodes.GroupState.{GroupState}
use Rattle.vault_model.specs.Db.{NodeId, Mark, Versions, SharedMeta, Db, IsProperMeta, Sound}
use Rattle.vault_model.specs.Join.{IsIn}
use Rattle.vault_model.specs.Proper.{rises, is_proper_content, is_proper_group_content, is_text_icon, is_text_item, is_text_meta}
use Rattle.vault_model.specs.Shape.{BareVersion, EntryRecord, GroupRecord, Shape, Stay, last_of, but_last, version_of, record_of, stay_in, laid_group, laid_meta, versions_in, lay}
use Rattle.vault_model.specs.Tree.{is_proper_entry}
use Rattle.merge_core.proofs.Laid.{lay_entries, lay_groups}
use Rattle.vault_model.proofs.Orders.{id_order, mark_order, bytes_order}
use Rattle.merge_core.proofs.Tables.{entry_get}
use Rattle.vault_model.proofs.Tests.{and_both, from_map}
use Rattle.merge_core.proofs.Versions.{never}
use Rattle.merge_core.proofs.Distinct.{in_all, sorted_rises}

-- ---- versions

last_in : {A : Type 0} (x : A) (xs : List A) → IsIn (last_of x xs) (x ∷ xs)
last_in x [] = inl refl
last_in x (y ∷ ys) = inr (last_in y ys)

but_in : {A : Type 0} (x : A) (xs : List A) (z : A) → IsIn z (but_last x xs) → IsIn z (x ∷ xs)
but_in x [] z h = absurd h
but_in x (y ∷ ys) z (inl p) = inl p
but_in x (y ∷ ys) z (inr h) = inr (but_in y ys z h)

-- each version of a made record is one of those that it was made of
made_version : (stay : Stay) (vs : List (Mark × Stats)) (e : EntryRecord) (y : BareVersion) → record_of stay vs ≡ Some e → IsIn y (e.current ∷ e.history)
    → (w : Mark × Stats) × (IsIn w vs × (version_of w ≡ y))
made_version stay [] e y q h = never e q
made_version stay (v ∷ vs) e y q h =
    elim (subst (λ (x : EntryRecord). IsIn y (x.current ∷ x.history)) (sym (same_Some _ e q)) h) [
      | inl p ↦ (last_of v vs, (last_in v vs, p))
      | inr k ↦ let f = from_map version_of (but_last v vs) y k in (f.0, (but_in v vs f.0 f.1.0, f.1.1))
    ]

module _ (m : Db) (s : Sound m) (t : Shape) where
  proper_at : (u : NodeId) (e : EntryRecord) (o : Option Versions) → get m.entries u ≡ o → record_of (stay_in m u) (versions_in o) ≡ Some e → is_proper_entry e ≡ true
  proper_at u e None q r = never e r
  proper_at u e (Some v) q r =
      in_all (λ (y : BareVersion). is_proper_content y.mark.content) (e.current ∷ e.history) (λ y h.
      let w = made_version (stay_in m u) (entries v) e y r h in
      ap (λ (x : BareVersion). is_proper_content x.mark.content) (sym w.1.1)
      ∙ s.contents u v w.0.0 w.0.1 q (entry_get mark_order.total mark_order.same v w.0 w.1.0))

  pub proper_entry : (u : NodeId) (e : EntryRecord) → get (lay m t).entries u ≡ Some e → is_proper_entry e ≡ true
  proper_entry u e q = proper_at u e (get m.entries u) refl (sym (lay_entries m t u) ∙ q)

  proper_state : (u : NodeId) (g : GroupRecord) (o : Option GroupState) → get m.groups u ≡ o → option_map (laid_group m t u) o ≡ Some g → is_proper_group_content g.state.content ≡ true
  proper_state u g None q r = never g r
  proper_state u g (Some x) q r =
      ap (λ (y : GroupRecord). is_proper_group_content y.state.content) (sym (same_Some _ g r)) ∙ s.group_contents u x q

  pub proper_group : (u : NodeId) (g : GroupRecord) → get (lay m t).groups u ≡ Some g → is_proper_group_content g.state.content ≡ true
  proper_group u g q = proper_state u g (get m.groups u) refl (sym (lay_groups m t u) ∙ q)

-- ---- what a database says of itself

module _ (m : SharedMeta) (old : Meta) (is : IsProperMeta m) where
  pub laid_icons_rise : rises (λ (i : Icon). i.id) (laid_meta m old).icons ≡ true
  laid_icons_rise =
      sorted_rises (λ (i : Icon). i.id) (λ (e : NodeId × Icon). e.1) (entries m.icons) (entries_sorted m.icons)
      (λ e h. (is.icons e.0 e.1 (entry_get id_order.total id_order.same m.icons e h)).0)

  pub laid_items_rise : rises (λ (i : Item). i.key) (laid_meta m old).items ≡ true
  laid_items_rise =
      sorted_rises (λ (i : Item). i.key) (λ (e : List ℕ × Item). e.1) (entries m.items) (entries_sorted m.items)
      (λ e h. (is.items e.0 e.1 (entry_get bytes_order.total bytes_order.same m.items e h)).0)

  icons_text : list_all is_text_icon (values m.icons) ≡ true
  icons_text =
      in_all is_text_icon (values m.icons) (λ i h.
      let f = from_map (λ (e : NodeId × Icon). e.1) (entries m.icons) i h in
      ap is_text_icon (sym f.1.1) ∙ (is.icons f.0.0 f.0.1 (entry_get id_order.total id_order.same m.icons f.0 f.1.0)).1)

  items_text : list_all is_text_item (values m.items) ≡ true
  items_text =
      in_all is_text_item (values m.items) (λ i h.
      let f = from_map (λ (e : List ℕ × Item). e.1) (entries m.items) i h in
      ap is_text_item (sym f.1.1) ∙ (is.items f.0.0 f.0.1 (entry_get bytes_order.total bytes_order.same m.items f.0 f.1.0)).1)

  pub laid_meta_text : is_text_meta (laid_meta m old) ≡ true
  laid_meta_text =
      let name = is_utf8 m.name.value in
      let description = is_utf8 m.description.value in
      let user = is_utf8 m.user.value in
      let color = is_utf8 m.settings.value.color in
      let icons = list_all is_text_icon (values m.icons) in
      let items = list_all is_text_item (values m.items) in
      and_both (name && description && user && color && icons) items
      (and_both (name && description && user && color) icons
      (and_both (name && description && user) color
      (and_both (name && description) user
      (and_both name description is.name is.description) is.user) is.color) icons_text) items_text
