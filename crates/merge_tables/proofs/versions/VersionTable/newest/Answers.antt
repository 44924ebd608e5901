-- The greatest so far, and the greatest of those that are left.
use Rattle.std.proofs.Common.{◌<◌, ◌≤◌, List, length, map, arith, ap}
use Rattle.vault_model.specs.declared.contents.Stats.{Stats}
use Rattle.vault_model.specs.Db.{Mark, greatest}
use Rattle.merge_tables.proofs.ListSteps.{drop_next, drop_end}
use Rattle.merge_tables.proofs.versions.VersionTable.newest.Goals as goal

pub loop-mark-init : goal.loop-mark-init
loop-mark-init c =
    let e = ap (λ (es : List (Mark × Stats)). greatest (map (λ (m : Mark). m.modified) (map (λ (e : Mark × Stats). e.0) es))) c.rows-mark-items.ensures in omega (arith, e)

pub loop-mark-preserved : goal.loop-mark-preserved
loop-mark-preserved c =
    let items = c.rows-mark-items.result.now in
    let i = c.loop-mark.mark-index in
    let e = c.loop-mark-item.result in
    let lt : i < length items = omega arith in
    let a = c.max-newest.ensures in
    let b = c.seconds.ensures.value in
    let d = c.modified.ensures in
    let step = ap (λ (es : List (Mark × Stats)). greatest (map (λ (m : Mark). m.modified) (map (λ (e : Mark × Stats). e.0) es))) (drop_next items i e lt c.loop-mark-item.is) in
    omega (arith, step, a, b, d, c.loop-mark.invariant)

pub returns : goal.returns
returns c =
    let items = c.rows-mark-items.result.now in
    let end : length items ≤ c.loop-mark.mark-index = omega arith in
    let step = ap (λ (es : List (Mark × Stats)). greatest (map (λ (m : Mark). m.modified) (map (λ (e : Mark × Stats). e.0) es))) (drop_end items c.loop-mark.mark-index end) in
    omega (arith, step, c.loop-mark.invariant)
