-- What is put comes before the rest.
use Rattle.std.proofs.Common.{◌<◌, ◌+◌, ◌++◌, ◌∷◌, [], List, append_assoc, length, drop, arith, ap, sym, ◌∙◌}
use Rattle.vault_model.specs.declared.metas.Icon.{Icon}
use Rattle.merge_tables.proofs.ListSteps.{drop_next}
use Rattle.merge_shapes.proofs.shapes.push_icons.Goals as goal

pub loop-icon-preserved : goal.loop-icon-preserved
loop-icon-preserved c =
    let all = c.args.icons.now in
    let i = c.loop-icon.icon-index in
    let before = c.loop-icon.lent.items in
    let rest = drop (i + 1) all in
    let lt : i < length all = omega arith in
    ap (λ (xs : List Icon). xs ++ rest) c.in_ok-push.ensures.items
    ∙ append_assoc before (c.new.result ∷ []) rest
    ∙ ap (λ (x : Icon). before ++ x ∷ rest) c.new.ensures
    ∙ ap (λ (xs : List Icon). before ++ xs) (sym (drop_next all i c.icon-item.result lt c.icon-item.is))
    ∙ c.loop-icon.invariant
