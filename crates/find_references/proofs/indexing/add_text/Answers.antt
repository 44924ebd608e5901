use Rattle.std.proofs.Common.{sym, ◌∙◌}
use Rattle.find_references.proofs.IndexSteps.{adds_known, adds_new}
use Rattle.find_references.proofs.indexing.add_text.Goals as goal

pub returns-in_ok-insert : goal.returns-in_ok-insert
returns-in_ok-insert c =
    adds_new _ _ c.args.text c.args.entry (sym c.contains_key.ensures ∙ c.if-not-contains_key.true) c.in_ok-insert.ensures.updates.0

pub returns-else-not-contains_key : goal.returns-else-not-contains_key
returns-else-not-contains_key c = adds_known _ _ _ (sym c.contains_key.ensures ∙ c.if-not-contains_key.false)
