use Rattle.std.proofs.Common.{ap, sym, ◌∙◌}
use Rattle.std.specs.Ordering.{is_gt}
use Rattle.vault_model.specs.Orders.{bytes_cmp}
use Rattle.doc_values.proofs.Positions.{passed_all, passed_more, passed_until}
use Rattle.doc_values.proofs.keyed.position_in.Goals as goal

pub returns-then-not-comes_after-clause-position : goal.returns-then-not-comes_after-clause-position
returns-then-not-comes_after-clause-position g c =
    passed_until (λ x. is_gt (bytes_cmp c.args.key.now (g.T.Keyed.key x))) c.args.list.now c.loop-position.position c.index-list-position.result c.loop-position-test.true
    c.index-list-position.is c.loop-position.invariant (ap (λ other. is_gt (bytes_cmp c.args.key.now other)) (sym c.key.ensures) ∙ (sym c.comes_after.ensures ∙ c.if-not-comes_after.true))

pub loop-position-preserved : goal.loop-position-preserved
loop-position-preserved g c =
    passed_more (λ x. is_gt (bytes_cmp c.args.key.now (g.T.Keyed.key x))) c.args.list.now c.loop-position.position c.index-list-position.result c.loop-position-test.true
    c.index-list-position.is c.loop-position.invariant (ap (λ other. is_gt (bytes_cmp c.args.key.now other)) (sym c.key.ensures) ∙ (sym c.comes_after.ensures ∙ c.if-not-comes_after.false))

pub returns-clause-position : goal.returns-clause-position
returns-clause-position g c =
    passed_all (λ x. is_gt (bytes_cmp c.args.key.now (g.T.Keyed.key x))) c.args.list.now c.loop-position.position c.loop-position-test.false
    c.loop-position.auto.position-end c.loop-position.invariant
