use Rattle.std.proofs.Common.{Some, None, ◌∙◌, arith, rules}
use Rattle.std.proofs.lemmas.Str.Pattern.{split_parts}
use Rattle.table_reading.proofs.Hosts.{after_none, after_some}
use Rattle.table_reading.proofs.cells.after_at.Goals as goal

pub loop-parts-preserved : goal.loop-parts-preserved
loop-parts-preserved c =
    let rest = c.loop-parts.rest.now in
    let parts = split_parts 64 rest (Some c.in-Some.parts) c.in-Some.ensures.cases (omega arith) in
    (search rules, after_some rest c.in-Some.parts.0.now c.in-Some.parts.1.now parts.0 ∙ c.loop-parts.invariant.1)

pub returns : goal.returns
returns c =
    let rest = c.loop-parts.rest.now in
    after_none 64 rest (split_parts 64 rest None c.in_default.ensures.cases (omega arith)) ∙ c.loop-parts.invariant.1
