-- The last of some versions is the one at the last index.
use Rattle.std.proofs.Common.{◌<◌, length, arith, sym, ap, ◌∙◌}
use Rattle.std.specs.Ordering.{eq_by_cmp, is_eq}
use Rattle.vault_model.specs.declared.contents.Stats.{Stats}
use Rattle.vault_model.specs.Db.{Mark, mark_cmp}
use Rattle.merge_changes.proofs.Lasts.{last_by_index}
use Rattle.merge_changes.proofs.changes.is_last.Goals as goal

pub returns : goal.returns
returns c =
    let rows = c.args.rows.now in
    let some : 0 < length rows = omega (arith, c.if-rows-eq0.false) in
    c.is_eq.ensures ∙ ap is_eq c.cmp.ensures
    ∙ ap (λ (v : Mark × Stats). eq_by_cmp mark_cmp c.args.mark.now v.0) c.index-rows-last.is
    ∙ sym (last_by_index c.args.mark.now rows c.index-rows-last.result some)
