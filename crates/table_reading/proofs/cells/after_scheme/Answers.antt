use Rattle.std.proofs.Common.{List, ℕ, ap, sym, ◌∙◌, ◌++◌, codes}
use Rattle.table_reading.proofs.Hosts.{mark_none, mark_some}
use Rattle.table_reading.proofs.cells.after_scheme.Goals as goal

pub returns-in-Some : goal.returns-in-Some
returns-in-Some c =
    let found = c.in-Some.ensures.cases in
    mark_some c.args.text.now c.args.text.now found.0 c.in-Some.parts.1.now found.2.0 (found.2.1.split ∙ ap (λ (l : List ℕ). codes "://" ++ l) (sym found.4))

pub returns-in-None : goal.returns-in-None
returns-in-None c = mark_none c.args.text.now c.args.text.now c.in-None.ensures.cases
