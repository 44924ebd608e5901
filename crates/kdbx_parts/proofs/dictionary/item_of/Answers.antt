use Rattle.std.proofs.lemmas.Result.{err_from_is_err_and}
use Rattle.outside_core.proofs.Results.{fails_at_first}
use Rattle.kdbx_parts.specs.Dictionary.{item_at}
use Rattle.kdbx_parts.proofs.dictionary.item_of.Goals as goal

pub returns-in_err-kind-clause-gives : goal.returns-in_err-kind-clause-gives
unfolding item_at
returns-in_err-kind-clause-gives c =
    let p = err_from_is_err_and c.from_residual.result c.from_residual.ensures.1 in
    rw (p.1, p.2) (fails_at_first _ _ _ c.in_err-kind.ensures.gives)
