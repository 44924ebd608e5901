-- The comparison goes field by field, as the order is defined; fields and attachments count as what is seen of them.
use Rattle.std.proofs.Common.{◌≡◌, List, [], ◌∷◌, map, refl, ap, ◌∙◌}
use Rattle.std.specs.declared.cmp.Ordering.{Ordering}
use Rattle.std.specs.Cmp.Lexicographic.{slice_cmp}
use Rattle.std.specs.Option.{option_cmp}
use Rattle.std.specs.Ordering.{nat_cmp, bool_cmp, on, ordering_then}
use Rattle.vault_model.specs.Orders.{association_cmp, attachment_cmp, auto_type_cmp, bytes_cmp, content_cmp, field_cmp, item_cmp}
use Rattle.vault_model.specs.Seen.{bare_attachment, bare_field}
use Rattle.vault_model.proofs.contents.compare_content.Goals as goal

slice_cmp_map : {A B : Type 0} (f : A → B) (R : B → B → Ordering) (xs ys : List A) → slice_cmp (on f R) xs ys ≡ slice_cmp R (map f xs) (map f ys)
slice_cmp_map f R [] [] = refl
slice_cmp_map f R [] (y ∷ ys) = refl
slice_cmp_map f R (x ∷ xs) [] = refl
slice_cmp_map f R (x ∷ xs) (y ∷ ys) = ap (ordering_then (R (f x) (f y))) (slice_cmp_map f R xs ys)

pub returns : goal.returns
unfolding association_cmp auto_type_cmp content_cmp item_cmp
returns c =
    let a = c.args.a.now in
    let b = c.args.b.now in
    let fields = slice_cmp_map bare_field field_cmp a.fields b.fields in
    let attachments = slice_cmp_map bare_attachment attachment_cmp a.attachments b.attachments in
    c.cmp.ensures ∙ (λ i.
    ordering_then (nat_cmp a.created b.created) (ordering_then (nat_cmp a.expiry b.expiry)
    (ordering_then (bool_cmp a.expires b.expires) (ordering_then (nat_cmp a.icon b.icon)
    (ordering_then (option_cmp bytes_cmp a.custom_icon b.custom_icon)
    (ordering_then (fields i) (ordering_then (attachments i)
    (ordering_then (bytes_cmp a.tags b.tags) (ordering_then (bytes_cmp a.fore b.fore)
    (ordering_then (bytes_cmp a.back b.back) (ordering_then (bytes_cmp a.url_override b.url_override)
    (ordering_then (auto_type_cmp a.auto_type b.auto_type)
    (ordering_then (slice_cmp item_cmp a.items b.items) (bool_cmp a.quality b.quality))))))))))))))
