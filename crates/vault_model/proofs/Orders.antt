-- Every order of what a vault holds is total, and only equal values tie in it.
use Rattle.std.proofs.Common.{◌≡◌, true, false, Some, None, refl, sym, ap, ◌∙◌}
use Rattle.std.specs.declared.cmp.Ordering.{Ordering}
use Rattle.std.specs.declared.cmp.Ordering.TheVariants.{Less, Equal, Greater}
use Rattle.std.specs.Cmp.{IsTotalOrder, on_total, then_total, nat_cmp_total, int_cmp_total, bool_cmp_total}
use Rattle.std.specs.Cmp.Lexicographic.{slice_cmp, lists_total, options_total}
use Rattle.std.specs.FinMap.{IsAntisymmetric, nat_cmp-IsAntisymmetric, int_cmp-IsAntisymmetric, slice_cmp-IsAntisymmetric}
use Rattle.std.specs.Option.{option_cmp}
use Rattle.std.specs.Ordering.{nat_cmp, int_cmp, bool_cmp, on, ordering_then}
use Rattle.vault_model.specs.declared.contents.Tri.TheVariants.{Inherit, No, Yes}
use Rattle.vault_model.specs.Db.{id_cmp, mark_cmp, group_mark_cmp, place_cmp}
use Rattle.vault_model.specs.Join.{timed_cmp}
use Rattle.vault_model.specs.Orders.{pair_cmp, bytes_cmp, tri_rank, tri_cmp, field_cmp, attachment_cmp, item_cmp, association_cmp, auto_type_cmp, content_cmp, group_content_cmp, bin_cmp, protection_cmp, settings_cmp, icon_cmp, later_item_cmp}

-- A total order in which only equal values tie.
pub record IsOrder {A : Type 0} (R : A → A → Ordering) : Type 0 where
  pub total : IsTotalOrder R
  pub same : IsAntisymmetric R

pub nat_order : IsOrder nat_cmp
nat_order = record { total = nat_cmp_total; same = nat_cmp-IsAntisymmetric }

pub int_order : IsOrder int_cmp
int_order = record { total = int_cmp_total; same = int_cmp-IsAntisymmetric }

bools_same : IsAntisymmetric bool_cmp
bools_same true true e = refl
bools_same true false e = cc e
bools_same false true e = cc e
bools_same false false e = refl

pub bool_order : IsOrder bool_cmp
bool_order = record { total = bool_cmp_total; same = bools_same }

both_equal : (a b : Ordering) → ordering_then a b ≡ Equal → (a ≡ Equal) × (b ≡ Equal)
both_equal Less b e = cc e
both_equal Equal b e = (refl, e)
both_equal Greater b e = cc e

pub pairs_order : {A B : Type 0} {R : A → A → Ordering} {S : B → B → Ordering} → IsOrder R → IsOrder S → IsOrder (pair_cmp R S)
pairs_order {R = R} {S = S} r s = record {
  total = then_total (on_total (λ x. x.0) r.total) (on_total (λ x. x.1) s.total);
  same = λ x y e.
      let parts = both_equal (R x.0 y.0) (S x.1 y.1) e in
      λ i. (r.same x.0 y.0 parts.0 i, s.same x.1 y.1 parts.1 i);
}

pub lists_order : {A : Type 0} {R : A → A → Ordering} → IsOrder R → IsOrder (slice_cmp R)
lists_order r = record { total = lists_total r.total; same = slice_cmp-IsAntisymmetric r.same }

options_same : {A : Type 0} {R : A → A → Ordering} → IsAntisymmetric R → IsAntisymmetric (option_cmp R)
options_same same None None e = refl
options_same same None (Some y) e = cc e
options_same same (Some x) None e = cc e
options_same same (Some x) (Some y) e = ap Some (same x y e)

pub options_order : {A : Type 0} {R : A → A → Ordering} → IsOrder R → IsOrder (option_cmp R)
options_order r = record { total = options_total r.total; same = options_same r.same }

-- values in the order of their parts, from which they are made again
pub by_parts : {A B : Type 0} {R : B → B → Ordering} (to : A → B) (from : B → A) → ((x : A) → from (to x) ≡ x) → IsOrder R → IsOrder (on to R)
by_parts to from back r = record {
  total = on_total to r.total;
  same = λ x y e. sym (back x) ∙ ap from (r.same (to x) (to y) e) ∙ back y;
}

pub bytes_order : IsOrder bytes_cmp
bytes_order = lists_order nat_order

tri_same : IsAntisymmetric tri_cmp
tri_same Inherit Inherit e = refl
tri_same Inherit No e = cc e
tri_same Inherit Yes e = cc e
tri_same No Inherit e = cc e
tri_same No No e = refl
tri_same No Yes e = cc e
tri_same Yes Inherit e = cc e
tri_same Yes No e = cc e
tri_same Yes Yes e = refl

pub tri_order : IsOrder tri_cmp
tri_order = record { total = on_total tri_rank nat_cmp_total; same = tri_same }

pub field_order : IsOrder field_cmp
unfolding field_cmp
field_order =
    by_parts _ (λ p. record { key = p.0; value = p.1.0; hidden = p.1.1 }) (λ _. refl)
    (pairs_order bytes_order (pairs_order bytes_order bool_order))

pub attachment_order : IsOrder attachment_cmp
unfolding attachment_cmp
attachment_order =
    by_parts _ (λ p. record { name = p.0; bytes = p.1.0; hidden = p.1.1 }) (λ _. refl)
    (pairs_order bytes_order (pairs_order bytes_order bool_order))

pub item_order : IsOrder item_cmp
unfolding item_cmp
item_order =
    by_parts _ (λ p. record { key = p.0; value = p.1.0; changed = p.1.1 }) (λ _. refl)
    (pairs_order bytes_order (pairs_order bytes_order nat_order))

pub association_order : IsOrder association_cmp
unfolding association_cmp
association_order = by_parts _ (λ p. record { window = p.0; keys = p.1 }) (λ _. refl) (pairs_order bytes_order bytes_order)

pub auto_type_order : IsOrder auto_type_cmp
unfolding auto_type_cmp
auto_type_order =
    by_parts _ (λ p. record { enabled = p.0; obfuscation = p.1.0; sequence = p.1.1.0; pairs = p.1.1.1 }) (λ _. refl)
    (pairs_order bool_order (pairs_order nat_order (pairs_order bytes_order (lists_order association_order))))

pub content_order : IsOrder content_cmp
unfolding content_cmp
content_order =
    by_parts _ (λ p. record {
      created = p.0;
      expiry = p.1.0;
      expires = p.1.1.0;
      icon = p.1.1.1.0;
      custom_icon = p.1.1.1.1.0;
      fields = p.1.1.1.1.1.0;
      attachments = p.1.1.1.1.1.1.0;
      tags = p.1.1.1.1.1.1.1.0;
      fore = p.1.1.1.1.1.1.1.1.0;
      back = p.1.1.1.1.1.1.1.1.1.0;
      url_override = p.1.1.1.1.1.1.1.1.1.1.0;
      auto_type = p.1.1.1.1.1.1.1.1.1.1.1.0;
      items = p.1.1.1.1.1.1.1.1.1.1.1.1.0;
      quality = p.1.1.1.1.1.1.1.1.1.1.1.1.1;
    }) (λ _. refl)
    (pairs_order nat_order (pairs_order nat_order (pairs_order bool_order (pairs_order nat_order
    (pairs_order (options_order bytes_order) (pairs_order (lists_order field_order)
    (pairs_order (lists_order attachment_order) (pairs_order bytes_order (pairs_order bytes_order
    (pairs_order bytes_order (pairs_order bytes_order (pairs_order auto_type_order
    (pairs_order (lists_order item_order) bool_order)))))))))))))

pub group_content_order : IsOrder group_content_cmp
unfolding group_content_cmp
group_content_order =
    by_parts _ (λ p. record {
      created = p.0;
      expiry = p.1.0;
      expires = p.1.1.0;
      name = p.1.1.1.0;
      notes = p.1.1.1.1.0;
      icon = p.1.1.1.1.1.0;
      custom_icon = p.1.1.1.1.1.1.0;
      sequence = p.1.1.1.1.1.1.1.0;
      auto_type = p.1.1.1.1.1.1.1.1.0;
      searching = p.1.1.1.1.1.1.1.1.1.0;
      items = p.1.1.1.1.1.1.1.1.1.1.0;
      tags = p.1.1.1.1.1.1.1.1.1.1.1;
    }) (λ _. refl)
    (pairs_order nat_order (pairs_order nat_order (pairs_order bool_order (pairs_order bytes_order
    (pairs_order bytes_order (pairs_order nat_order (pairs_order (options_order bytes_order)
    (pairs_order bytes_order (pairs_order tri_order (pairs_order tri_order
    (pairs_order (lists_order item_order) bytes_order)))))))))))

pub bin_order : IsOrder bin_cmp
unfolding bin_cmp
bin_order = by_parts _ (λ p. record { enabled = p.0; id = p.1 }) (λ _. refl) (pairs_order bool_order bytes_order)

pub protection_order : IsOrder protection_cmp
unfolding protection_cmp
protection_order =
    by_parts _ (λ p. record { title = p.0; user = p.1.0; password = p.1.1.0; url = p.1.1.1.0; notes = p.1.1.1.1 }) (λ _. refl)
    (pairs_order bool_order (pairs_order bool_order (pairs_order bool_order (pairs_order bool_order bool_order))))

pub settings_order : IsOrder settings_cmp
unfolding settings_cmp
settings_order =
    by_parts _ (λ p. record {
      color = p.0;
      days = p.1.0;
      key_rec = p.1.1.0;
      key_force = p.1.1.1.0;
      protect = p.1.1.1.1.0;
      history_items = p.1.1.1.1.1.0;
      history_size = p.1.1.1.1.1.1.0;
      key_force_once = p.1.1.1.1.1.1.1;
    }) (λ _. refl)
    (pairs_order bytes_order (pairs_order nat_order (pairs_order int_order (pairs_order int_order
    (pairs_order protection_order (pairs_order int_order (pairs_order int_order bool_order)))))))

pub icon_order : IsOrder icon_cmp
unfolding icon_cmp
icon_order =
    by_parts _ (λ p. record { changed = p.0; id = p.1.0; bytes = p.1.1.0; name = p.1.1.1 }) (λ _. refl)
    (pairs_order nat_order (pairs_order bytes_order (pairs_order bytes_order bytes_order)))

pub later_item_order : IsOrder later_item_cmp
unfolding later_item_cmp
later_item_order =
    by_parts _ (λ p. record { changed = p.0; key = p.1.0; value = p.1.1 }) (λ _. refl)
    (pairs_order nat_order (pairs_order bytes_order bytes_order))

pub timed_order : {A : Type 0} {R : A → A → Ordering} → IsOrder R → IsOrder (timed_cmp R)
timed_order r = by_parts _ (λ p. record { changed = p.0; value = p.1 }) (λ _. refl) (pairs_order nat_order r)

pub id_order : IsOrder id_cmp
id_order = bytes_order

pub mark_order : IsOrder mark_cmp
unfolding mark_cmp
mark_order = by_parts _ (λ p. record { modified = p.0; content = p.1 }) (λ _. refl) (pairs_order nat_order content_order)

pub group_mark_order : IsOrder group_mark_cmp
unfolding group_mark_cmp
group_mark_order = by_parts _ (λ p. record { modified = p.0; content = p.1 }) (λ _. refl) (pairs_order nat_order group_content_order)

pub place_order : IsOrder place_cmp
unfolding place_cmp
place_order =
    by_parts _ (λ p. record { placed = p.0; parent = p.1.0; previous = p.1.1 }) (λ _. refl)
    (pairs_order nat_order (pairs_order id_order id_order))
