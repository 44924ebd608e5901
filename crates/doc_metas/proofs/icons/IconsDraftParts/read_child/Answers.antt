use Rattle.std.proofs.lemmas.Result.{err_from_is_err_and}
use Rattle.vault_model.specs.declared.metas.Icon.{Icon}
use Rattle.doc_forms.specs.Metas.{icons_rows}
use Rattle.doc_forms.specs.Tables.{put}
use Rattle.doc_walk.proofs.Branches.{passed_over, put_in, refused_in}
use Rattle.doc_metas.proofs.icons.IconsDraftParts.read_child.Goals as goal

pub returns-in_ok-icon-in-Icon : goal.returns-in_ok-icon-in-Icon
returns-in_ok-icon-in-Icon c = rw c.in-Icon.is (put_in (λ (i : Icon). put (λ (j : Icon). j.id) i c.args.self.now.icons) c.in_ok-icon-in-Icon.ensures c.put.ensures)

pub returns-in_err-icon-in-Icon : goal.returns-in_err-icon-in-Icon
returns-in_err-icon-in-Icon c =
    let p = err_from_is_err_and c.from_residual.result c.from_residual.ensures.1 in
    rw (p.1, p.2, c.in-Icon.is) (refused_in (λ (i : Icon). put (λ (j : Icon). j.id) i c.args.self.now.icons) c.in_err-icon-in-Icon.ensures)

pub returns-in_default : goal.returns-in_default
returns-in_default c =
    passed_over c.args.walk.now c.pass.new.self c.pass.result icons_rows c.args.self.now.icons c.args.tag.now
    (λ _. (c.in_default.not-Icon, tt))
    c.pass.ensures
