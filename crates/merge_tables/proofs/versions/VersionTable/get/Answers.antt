use Rattle.std.proofs.Common.{ap, sym, ◌∙◌}
use Rattle.std.specs.FinMap.{get, find, get-from_sorted}
use Rattle.vault_model.specs.Db.{Versions, mark_cmp}
use Rattle.merge_tables.proofs.versions.VersionTable.get.Goals as goal

pub returns : goal.returns
returns c =
    c.find.ensures ∙ ap (find mark_cmp c.args.mark.now) c.as_slice.ensures.value
    ∙ sym (get-from_sorted mark_cmp c.self.inside.rows.items c.args.mark.now c.self.invariant)
    ∙ ap (λ (m : Versions). get m c.args.mark.now) c.self.view_is
