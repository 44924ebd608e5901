use Rattle.std.proofs.Common.{sym, ap, ◌∙◌}
use Rattle.find_core.specs.Folding.{begins_with}
use Rattle.find_core.proofs.Containing.{contained_later, rest_from}
use Rattle.find_core.proofs.folding.contains.Goals as goal

pub loop-at-preserved : goal.loop-at-preserved
loop-at-preserved c =
    let text = c.args.text.now in
    let part = c.args.part.now in
    let at = c.loop-at.at in
    sym (contained_later text part at c.loop-at-test.true
    (ap (λ l. begins_with l part) (sym (rest_from at text)) ∙ sym c.begins_with.ensures ∙ c.if-begins_with.false))
    ∙ c.loop-at.invariant
