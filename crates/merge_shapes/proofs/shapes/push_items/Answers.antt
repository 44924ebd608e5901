-- What is put comes before the rest.
use Rattle.std.proofs.Common.{◌<◌, ◌+◌, ◌++◌, ◌∷◌, [], List, append_assoc, length, drop, arith, ap, sym, ◌∙◌}
use Rattle.vault_model.specs.declared.contents.Item.{Item}
use Rattle.merge_tables.proofs.ListSteps.{drop_next}
use Rattle.merge_shapes.proofs.shapes.push_items.Goals as goal

pub loop-item-preserved : goal.loop-item-preserved
loop-item-preserved c =
    let all = c.args.items.now in
    let i = c.loop-item.item-index in
    let before = c.loop-item.lent.items in
    let rest = drop (i + 1) all in
    let lt : i < length all = omega arith in
    ap (λ (xs : List Item). xs ++ rest) c.in_ok-push.ensures.items
    ∙ append_assoc before (c.new.result ∷ []) rest
    ∙ ap (λ (x : Item). before ++ x ∷ rest) c.new.ensures
    ∙ ap (λ (xs : List Item). before ++ xs) (sym (drop_next all i c.item-item.result lt c.item-item.is))
    ∙ c.loop-item.invariant
