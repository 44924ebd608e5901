-- Filled at each id, the table has at each what is said for it.
use Rattle.std.proofs.Common.{◌+◌, ◌<◌, ◌≤◌, Option, Some, drop, length, arith, ap, sym, ◌∙◌}
use Rattle.std.specs.FinMap.{FinMap, keys}
use Rattle.vault_model.specs.Db.{NodeId, id_cmp}
use Rattle.vault_model.specs.Shape.{Children, laid_children}
use Rattle.vault_model.specs.Unite.{put_some}
use Rattle.merge_tables.specs.Databases.{database}
use Rattle.merge_nodes.specs.Shapes.{shape}
use Rattle.merge_tables.proofs.FillTables.{fill_tabulate, fill}
use Rattle.merge_tables.proofs.ListSteps.{drop_next, drop_end}
use Rattle.merge_arranging.proofs.laying.fill_children.Goals as goal

pub loop-id-preserved : goal.loop-id-preserved
loop-id-preserved c =
    let m = database c.args.laid.now in
    let t = shape c.args.older.now in
    let value : NodeId → Option Children = λ g. Some (laid_children m t g) in
    let ids = c.args.ids.now in
    let i = c.loop-id.id-index in
    let x = c.id-item.result in
    let lt : i < length ids = omega arith in
    let rest = drop (i + 1) ids in
    c.loop-id.invariant
    ∙ ap (fill value c.loop-id.children) (drop_next ids i x lt c.id-item.is)
    ∙ ap (λ (n : FinMap id_cmp Children). fill value n rest)
    (sym (c.in_ok-put_some.ensures ∙ ap (λ (s : Children). put_some x (Some s) c.loop-id.children) c.in_ok-siblings.ensures))

pub returns : goal.returns
returns c =
    let m = database c.args.laid.now in
    let value : NodeId → Option Children = λ g. Some (laid_children m (shape c.args.older.now) g) in
    let ids = c.args.ids.now in
    let end : length ids ≤ c.loop-id.id-index = omega arith in
    sym (ap (fill value c.loop-id.children) (drop_end ids c.loop-id.id-index end))
    ∙ sym c.loop-id.invariant
    ∙ fill_tabulate value (keys m.groups)
