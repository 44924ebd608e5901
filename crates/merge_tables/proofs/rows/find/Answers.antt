-- One row after another, until a key is equal.
use Rattle.std.proofs.Common.{◌≡◌, ◌<◌, ◌≤◌, ◌+◌, cond, length, drop, List, Some, arith, sym, ap, ◌∙◌}
use Rattle.std.specs.FinMap.{find}
use Rattle.std.specs.Ordering.{is_eq}
use Rattle.merge_tables.proofs.ListSteps.{drop_next, drop_end}
use Rattle.merge_tables.proofs.rows.find.Goals as goal

pub loop-row-preserved : goal.loop-row-preserved
loop-row-preserved g c =
    let R = g.K.Ord.cmp in
    let rows = c.args.rows.now in
    let key = c.args.key.now in
    let i = c.loop-row.row-index in
    let e = c.row-item.result in
    let lt : i < length rows = omega arith in
    c.loop-row.invariant
    ∙ ap (find R key) (drop_next rows i e lt c.row-item.is)
    ∙ ap (λ b. cond b (Some e.1) (find R key (drop (i + 1) rows))) (sym (c.is_eq.ensures ∙ ap is_eq c.cmp.ensures) ∙ c.if-is_eq.false)

pub returns-then-is_eq : goal.returns-then-is_eq
returns-then-is_eq g c =
    let R = g.K.Ord.cmp in
    let rows = c.args.rows.now in
    let key = c.args.key.now in
    let i = c.loop-row.row-index in
    let e = c.row-item.result in
    let lt : i < length rows = omega arith in
    sym (c.loop-row.invariant
    ∙ ap (find R key) (drop_next rows i e lt c.row-item.is)
    ∙ ap (λ b. cond b (Some e.1) (find R key (drop (i + 1) rows))) (sym (c.is_eq.ensures ∙ ap is_eq c.cmp.ensures) ∙ c.if-is_eq.true))

pub returns : goal.returns
returns g c =
    let rows = c.args.rows.now in
    let end : length rows ≤ c.loop-row.row-index = omega arith in
    sym (c.loop-row.invariant ∙ ap (find g.K.Ord.cmp c.args.key.now) (drop_end rows c.loop-row.row-index end))
