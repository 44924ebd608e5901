use Rattle.std.proofs.Common.{sym, ◌∙◌}
use Rattle.find_references.proofs.IndexSteps.{all_lent, as_it_is, in_lower_case, looked_up}
use Rattle.find_references.proofs.indexing.entry_at.Goals as goal

pub returns-then-not-are_digits : goal.returns-then-not-are_digits
returns-then-not-are_digits c =
    looked_up _ c.args.text.now c.args.index.now _
    (as_it_is c.args.place c.args.text.now (sym c.are_digits.ensures ∙ c.if-not-are_digits.true)) (c.copied.ensures ∙ c.get.ensures.value)

pub returns : goal.returns
returns c =
    looked_up _ c.lend.result.now c.args.index.now _
    (in_lower_case c.args.place c.args.text.now (sym c.are_digits.ensures ∙ c.if-not-are_digits.false)
    ∙ sym (all_lent c.in_ok-digits.digits.bytes c.lend.result.now c.len.result c.lend.ensures c.len.ensures ∙ c.in_ok-digits.ensures))
    (c.copied-2.ensures ∙ c.get-2.ensures.value)
