-- The comparison goes field by field, as the order is defined; a choice is compared by its rank.
use Rattle.std.proofs.Common.{◌≡◌, refl, ◌∙◌}
use Rattle.std.specs.Cmp.Lexicographic.{slice_cmp}
use Rattle.std.specs.Option.{option_cmp}
use Rattle.std.specs.Ordering.{nat_cmp, bool_cmp, ordering_then}
use Rattle.vault_model.specs.contracts.contents.TriOrd.TheImpl.{cmp-value}
use Rattle.vault_model.specs.declared.contents.Tri.{Tri}
use Rattle.vault_model.specs.declared.contents.Tri.TheVariants.{Inherit, No, Yes}
use Rattle.vault_model.specs.Orders.{bytes_cmp, group_content_cmp, item_cmp, tri_cmp}
use Rattle.vault_model.proofs.contents.compare_group.Goals as goal

by_rank : (a b : Tri) → cmp-value.it a b ≡ tri_cmp a b
by_rank Inherit Inherit = refl
by_rank Inherit No = refl
by_rank Inherit Yes = refl
by_rank No Inherit = refl
by_rank No No = refl
by_rank No Yes = refl
by_rank Yes Inherit = refl
by_rank Yes No = refl
by_rank Yes Yes = refl

pub returns : goal.returns
unfolding group_content_cmp item_cmp
returns c =
    let a = c.args.a.now in
    let b = c.args.b.now in
    c.cmp.ensures ∙ (λ i.
    ordering_then (nat_cmp a.created b.created) (ordering_then (nat_cmp a.expiry b.expiry)
    (ordering_then (bool_cmp a.expires b.expires) (ordering_then (bytes_cmp a.name b.name)
    (ordering_then (bytes_cmp a.notes b.notes) (ordering_then (nat_cmp a.icon b.icon)
    (ordering_then (option_cmp bytes_cmp a.custom_icon b.custom_icon) (ordering_then (bytes_cmp a.sequence b.sequence)
    (ordering_then (by_rank a.auto_type b.auto_type i) (ordering_then (by_rank a.searching b.searching i)
    (ordering_then (slice_cmp item_cmp a.items b.items) (bytes_cmp a.tags b.tags))))))))))))
