use Rattle.std.proofs.lemmas.Result.{err_from_is_err_and}
use Rattle.doc_walk.proofs.Counted.{counted_in, refused_before, too_many}
use Rattle.doc_walk.proofs.containers.read_counted.Goals as goal

pub returns : goal.returns
returns g c = counted_in {new = c.count.new.self} c.in_ok-parts.ensures (record { cursor = c.in_ok-count.ensures.gives; answers = c.count.ensures.answers; setting = c.count.ensures.setting })

pub returns-in_err-parts : goal.returns-in_err-parts
returns-in_err-parts g c =
    let p = err_from_is_err_and c.from_residual.result c.from_residual.ensures.1 in
    rw (p.1, p.2) (refused_before c.in_err-parts.ensures)

pub returns-in_err-count : goal.returns-in_err-count
returns-in_err-count g c =
    let p = err_from_is_err_and c.from_residual-in_err-count.result c.from_residual-in_err-count.ensures.1 in
    rw (p.1, p.2) (too_many {mid = c.read_whole.new.walk} c.in_ok-parts.ensures c.in_err-count.ensures.gives c.count.ensures.setting)
