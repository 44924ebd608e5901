use Rattle.std.proofs.Common.{◌∙◌}
use Rattle.cli_files.specs.SeenTask.{task_seen}
use Rattle.call_run.proofs.Carried.{all_kept, ends_kept, in_order_kept, sealed_kept, some_kept}
use Rattle.call_run.proofs.carrying.carry_out.Goals as goal

pub step-answer-requires-clause-in_order : goal.step-answer-requires-clause-in_order
step-answer-requires-clause-in_order g c =
    in_order_kept c.clear_unless.new.sealing c.args.task.opened.sealing c.clear_unless.ensures.settings c.requires.in_order

pub step-answer-requires-clause-sealed : goal.step-answer-requires-clause-sealed
step-answer-requires-clause-sealed g c =
    sealed_kept c.clear_unless.new.sealing c.args.task.opened.sealing c.clear_unless.ensures.settings ∙ c.requires.sealed

pub returns-clause-told : goal.returns-clause-told
returns-clause-told g c = λ truthful d t.
    ends_kept c.args.now (task_seen c.args.task) c.clear_unless.new.sealing
    c.clear_unless.ensures.settings (λ w. c.clear_unless.ensures.whole (c.may_write.ensures ∙ w))
    d c.step-answer.result _ _ _ _ (c.step-answer.ensures.told truthful d t)

pub returns-clause-of_dice : goal.returns-clause-of_dice
returns-clause-of_dice g c = λ truthful d t.
    all_kept c.args.now (task_seen c.args.task) c.clear_unless.new.sealing
    c.clear_unless.ensures.settings (λ w. c.clear_unless.ensures.whole (c.may_write.ensures ∙ w))
    d c.step-answer.result _ _ (c.step-answer.ensures.of_dice truthful d t)

pub returns-clause-some_dice : goal.returns-clause-some_dice
returns-clause-some_dice g c =
    some_kept c.args.now (task_seen c.args.task) c.clear_unless.new.sealing
    c.clear_unless.ensures.settings (λ w. c.clear_unless.ensures.whole (c.may_write.ensures ∙ w))
    c.step-answer.result _ _ c.step-answer.ensures.some_dice
