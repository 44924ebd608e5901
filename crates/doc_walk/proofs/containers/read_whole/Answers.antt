use Rattle.std.proofs.Common.{refl}
use Rattle.std.proofs.lemmas.Result.{err_from_is_err_and}
use Rattle.doc_walk.proofs.Branches.{seen_in, unseen_in}
use Rattle.doc_walk.proofs.containers.read_whole.Goals as goal

pub returns-in_err-contents : goal.returns-in_err-contents
returns-in_err-contents g c =
    let p = err_from_is_err_and c.from_residual.result c.from_residual.ensures.1 in
    rw (p.1, p.2) (unseen_in c.in_err-contents.ensures)

pub returns : goal.returns
returns g c = seen_in refl c.in_ok-contents.ensures
