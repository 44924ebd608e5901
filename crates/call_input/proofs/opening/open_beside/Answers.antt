use Rattle.std.proofs.Common.{◌∙◌, ap, arith}
use Rattle.std.proofs.lemmas.Result.{err_from_is_err_and}
use Rattle.outside_core.specs.Reports.{reported}
use Rattle.outside_core.proofs.Reports.{reported_before, stays_on}
use Rattle.cli_lines.specs.SeenLines.{lines_seen}
use Rattle.cli_lines.proofs.Inputs.{kept_later}
use Rattle.cli_needs.specs.SeenNeeds.{needs_seen}
use Rattle.call_input.proofs.Opened.{at_new_name, behind_new_name, name_refused, opened_beside}
use Rattle.call_input.proofs.opening.open_beside.Goals as goal

pub returns-clause-told : goal.returns-clause-told
returns-clause-told g c = λ m is.
    opened_beside c.args.to.now c.as_str.result.now (needs_seen c.args.needs) (lines_seen c.args.lines.now) m c.as_str.ensures _ c.open.result
    (c.in_ok-refuse_existing.ensures.told m (reported_before _ _ _ m c.open.ensures.leaves.truthful is))
    (c.open.ensures.told m (ap (reported _) c.in_ok-refuse_existing.ensures.leaves.files ∙ is))

pub returns-clause-cause : goal.returns-clause-cause
returns-clause-cause g c =
    behind_new_name c.open.result c.args.to.now _ _ _ _ _ _ _ c.in_ok-refuse_existing.ensures.leaves.faults
    c.in_ok-refuse_existing.ensures.leaves.absences c.open.ensures.cause

pub returns-clause-leaves : goal.returns-clause-leaves
returns-clause-leaves g c =
    let first = c.in_ok-refuse_existing.ensures.leaves in
    let rest = c.open.ensures.leaves in
    record {
      files = rest.files ∙ first.files;
      draft_name = rest.draft_name ∙ first.draft_name;
      draft_bytes = rest.draft_bytes ∙ first.draft_bytes;
      truthful = stays_on _ _ _ first.truthful rest.truthful;
      faults = omega (arith, first.faults, rest.faults);
      absences = omega (arith, first.absences, rest.absences);
    }

pub returns-clause-faultless : goal.returns-clause-faultless
returns-clause-faultless g c = kept_later c.open.result _ _ _ c.in_ok-refuse_existing.ensures.faultless c.open.ensures.faultless

pub returns-in_err-refuse_existing-clause-told : goal.returns-in_err-refuse_existing-clause-told
returns-in_err-refuse_existing-clause-told g c = λ m is.
    let p = err_from_is_err_and c.from_residual.result c.from_residual.ensures.1 in
    rw (p.1, p.2) (name_refused c.args.to.now c.as_str.result.now (needs_seen c.args.needs) (lines_seen c.args.lines.now) m c.as_str.ensures
    c.in_err-refuse_existing.field-0.0 (c.in_err-refuse_existing.ensures.told m is))

pub returns-in_err-refuse_existing-clause-cause : goal.returns-in_err-refuse_existing-clause-cause
returns-in_err-refuse_existing-clause-cause g c =
    let p = err_from_is_err_and c.from_residual.result c.from_residual.ensures.1 in
    rw (p.1, p.2) (at_new_name c.in_err-refuse_existing.field-0.0 c.args.to.now c.as_str.result.now _ _ _ _ _ c.as_str.ensures c.in_err-refuse_existing.ensures.cause)
