use Rattle.std.proofs.Common.{◌∙◌, ap, arith, option_map}
use Rattle.outside_core.specs.Reports.{reported}
use Rattle.outside_core.proofs.Reports.{reported_before, stays_on}
use Rattle.cli_lines.specs.SeenLines.{lines_seen}
use Rattle.cli_needs.specs.SeenNeeds.{import_seen}
use Rattle.cli_importing.specs.SeenSource.{source_seen}
use Rattle.cli_importing.proofs.Imported.{at_new_file, at_new_key, existing_refused, imported_is, sealing_refused}
use Rattle.cli_importing.proofs.imports.import.Goals as goal

pub returns-in-Err-clause-told : goal.returns-in-Err-clause-told
returns-in-Err-clause-told g c = λ m isF.
    existing_refused (import_seen c.args.import) (lines_seen c.args.lines.now) c.args.now m (option_map (λ w. w.now) c.bytes_in.result)
    c.as_str.result.now (source_seen c.in_ok-source.source) c.bytes_in.ensures c.as_str.ensures
    (c.in_ok-source.ensures.told m (reported_before _ _ _ m c.in-Err.ensures.leaves.truthful isF))
    c.in-Err.stop (c.in-Err.ensures.told m (ap (reported _) c.in_ok-source.ensures.leaves.files ∙ isF))

pub returns-in-Err-clause-cause : goal.returns-in-Err-clause-cause
returns-in-Err-clause-cause g c =
    at_new_file c.in-Err.stop _ c.args.import.file.now c.as_str.result.now _ _ _ _ _ _ _ c.as_str.ensures
    c.in_ok-source.ensures.leaves.faults c.in_ok-source.ensures.leaves.absences c.in-Err.ensures.cause

pub returns-in-Err-new_sealing-clause-told : goal.returns-in-Err-new_sealing-clause-told
returns-in-Err-new_sealing-clause-told g c = λ m isF.
    let before = reported_before _ _ _ m c.in-Err-new_sealing.ensures.leaves.truthful isF in
    sealing_refused (import_seen c.args.import) (lines_seen c.args.lines.now) c.args.now m (option_map (λ w. w.now) c.bytes_in.result)
    c.as_str.result.now (source_seen c.in_ok-source.source) c.bytes_in.ensures c.as_str.ensures
    (c.in_ok-source.ensures.told m (reported_before _ _ _ m c.in_default.ensures.leaves.truthful before))
    (option_map (λ w. w.now) c.bytes_in-2.result) c.in_default.field-0 c.bytes_in-2.ensures
    (c.in_default.ensures.told m (ap (reported _) c.in_ok-source.ensures.leaves.files ∙ before))
    c.in-Err-new_sealing.stop (c.in-Err-new_sealing.ensures.told m (ap (reported _) (c.in_default.ensures.leaves.files ∙ c.in_ok-source.ensures.leaves.files) ∙ isF))

pub returns-in-Err-new_sealing-clause-cause : goal.returns-in-Err-new_sealing-clause-cause
returns-in-Err-new_sealing-clause-cause g c =
    at_new_key c.in-Err-new_sealing.stop _ c.args.import.file.now _ _ _ _ _ _ _ _ _
    c.in_ok-source.ensures.leaves.faults c.in_default.ensures.leaves.faults c.in_ok-source.ensures.leaves.absences c.in_default.ensures.leaves.absences c.in-Err-new_sealing.ensures.cause

pub returns-in-Ok-clause-told : goal.returns-in-Ok-clause-told
returns-in-Ok-clause-told g c = λ m isF.
    let before = reported_before _ _ _ m c.in-Ok.ensures.leaves.truthful isF in
    imported_is (import_seen c.args.import) (lines_seen c.args.lines.now) c.args.now m (option_map (λ w. w.now) c.bytes_in.result)
    c.as_str.result.now (source_seen c.in_ok-source.source) c.bytes_in.ensures c.as_str.ensures
    (c.in_ok-source.ensures.told m (reported_before _ _ _ m c.in_default.ensures.leaves.truthful before))
    (option_map (λ w. w.now) c.bytes_in-2.result) c.in_default.field-0 c.bytes_in-2.ensures
    (c.in_default.ensures.told m (ap (reported _) c.in_ok-source.ensures.leaves.files ∙ before))
    c.in-Ok.sealing (c.in-Ok.ensures.told m (ap (reported _) (c.in_default.ensures.leaves.files ∙ c.in_ok-source.ensures.leaves.files) ∙ isF))

pub returns-in-Err-new_sealing-clause-leaves : goal.returns-in-Err-new_sealing-clause-leaves
returns-in-Err-new_sealing-clause-leaves g c =
    let first = c.in_ok-source.ensures.leaves in
    let next = c.in_default.ensures.leaves in
    let last = c.in-Err-new_sealing.ensures.leaves in
    record {
      files = last.files ∙ next.files ∙ first.files;
      draft_name = last.draft_name ∙ next.draft_name ∙ first.draft_name;
      draft_bytes = last.draft_bytes ∙ next.draft_bytes ∙ first.draft_bytes;
      truthful = stays_on _ _ _ first.truthful (stays_on _ _ _ next.truthful last.truthful);
      faults = omega (arith, first.faults, next.faults, last.faults);
      absences = omega (arith, first.absences, next.absences, last.absences);
    }

pub returns-in-Ok-clause-leaves : goal.returns-in-Ok-clause-leaves
returns-in-Ok-clause-leaves g c =
    let first = c.in_ok-source.ensures.leaves in
    let next = c.in_default.ensures.leaves in
    let last = c.in-Ok.ensures.leaves in
    record {
      files = last.files ∙ next.files ∙ first.files;
      draft_name = last.draft_name ∙ next.draft_name ∙ first.draft_name;
      draft_bytes = last.draft_bytes ∙ next.draft_bytes ∙ first.draft_bytes;
      truthful = stays_on _ _ _ first.truthful (stays_on _ _ _ next.truthful last.truthful);
      faults = omega (arith, first.faults, next.faults, last.faults);
      absences = omega (arith, first.absences, next.absences, last.absences);
    }
