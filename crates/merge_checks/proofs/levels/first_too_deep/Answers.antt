-- What is passed over is not too deep.
use Rattle.std.proofs.Common.{◌+◌, Some, cond, drop, sym, ap, ◌∙◌}
use Rattle.vault_model.specs.Tree.{LEVELS}
use Rattle.merge_core.specs.Marking.{first_such}
use Rattle.merge_core.specs.Refusals.{is_too_deep}
use Rattle.merge_tables.specs.Databases.{databases}
use Rattle.merge_tables.proofs.ListSteps.{drop_next}
use Rattle.merge_checks.proofs.levels.first_too_deep.Goals as goal

pub loop-id-preserved : goal.loop-id-preserved
loop-id-preserved c =
    let test = is_too_deep LEVELS (databases c.args.copies.now) in
    let known = c.args.known.now in
    let i = c.loop-id.id-index in
    let x = c.id-item.result in
    c.loop-id.invariant
    ∙ ap (first_such test) (drop_next known i x c.loop-id-test.true c.id-item.is)
    ∙ ap (λ b. cond b (Some x) (first_such test (drop (i + 1) known))) (sym c.is_too_deep.ensures ∙ c.if-is_too_deep.false)
