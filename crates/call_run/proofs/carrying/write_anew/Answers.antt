use Rattle.std.proofs.Common.{true, refl}
use Rattle.cli_lines.proofs.Inputs.{told_by}
use Rattle.call_run.proofs.Carried.{keeps_draft, plain_kept, plain_stop, plain_written, sealed_written}
use Rattle.cli_commands.proofs.Changes.{loses_none}
use Rattle.call_run.proofs.carrying.write_anew.Goals as goal

pub returns-in-None-clause-told : goal.returns-in-None-clause-told
returns-in-None-clause-told g c = λ truthful d t.
    rw c.in-None.is (plain_written c.write_plain.result _ _ _ _ d (rw c.in-None.is at t) c.write_plain.ensures.told)

pub returns-in-None-clause-draft : goal.returns-in-None-clause-draft
returns-in-None-clause-draft g c = keeps_draft c.write_plain.result _ _ _ c.write_plain.ensures.told c.write_plain.ensures.kept

pub returns-in-None-clause-stream : goal.returns-in-None-clause-stream
returns-in-None-clause-stream g c = loses_none _

pub returns-in-None-clause-cause : goal.returns-in-None-clause-cause
returns-in-None-clause-cause g c = plain_stop c.write_plain.result _ _ _ _ c.write_plain.ensures.cause

pub returns-in-None-clause-faultless : goal.returns-in-None-clause-faultless
returns-in-None-clause-faultless g c = plain_kept c.write_plain.result _ _ _ c.write_plain.ensures.faultless

pub returns-in-Some-clause-told : goal.returns-in-Some-clause-told
returns-in-Some-clause-told g c = λ truthful d t.
    let tells = told_by true _ d refl (rw c.in-Some.is at t) in
    rw c.in-Some.is (sealed_written c.write_sealed.result _ _ _ _ _ d tells (c.write_sealed.ensures.told truthful d tells))

pub returns-in-Some-clause-held : goal.returns-in-Some-clause-held
returns-in-Some-clause-held g c = rw c.in-Some.is c.write_sealed.ensures.held
