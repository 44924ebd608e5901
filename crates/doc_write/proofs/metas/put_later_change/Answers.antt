use Rattle.std.proofs.Common.{arith}
use Rattle.std.specs.Prelude.{codes}
use Rattle.vault_model.specs.declared.forms.DocForm.TheVariants.{V3}
use Rattle.doc_spelling.specs.Pieces.{unless_zero}
use Rattle.doc_spelling.specs.Values.{time_piece}
use Rattle.doc_write.proofs.PutOptions.{nonzero_no, nonzero_yes, put_no, put_some}
use Rattle.doc_write.proofs.metas.put_later_change.Goals as goal

pub returns-then-seconds-ne0-clause-puts : goal.returns-then-seconds-ne0-clause-puts
returns-then-seconds-ne0-clause-puts g c =
    put_some _ _ (time_piece V3 (codes "SettingsChanged")) (unless_zero c.args.changed) c.args.changed
    (nonzero_yes c.args.changed (omega (arith, c.seconds.ensures.value, c.if-seconds-ne0.true))) c.put_time.ensures.puts

pub returns-else-seconds-ne0-clause-puts : goal.returns-else-seconds-ne0-clause-puts
returns-else-seconds-ne0-clause-puts g c =
    put_no _ (time_piece V3 (codes "SettingsChanged")) (unless_zero c.args.changed)
    (nonzero_no c.args.changed (omega (arith, c.seconds.ensures.value, c.if-seconds-ne0.false)))
