use Rattle.std.proofs.Common.{◌∙◌, ap, arith, option_map}
use Rattle.outside_core.specs.Reports.{reported}
use Rattle.outside_core.proofs.Reports.{reported_before, stays_on}
use Rattle.cli_lines.proofs.Inputs.{kept_later}
use Rattle.cli_files.proofs.FileStops.{later_at_file}
use Rattle.cli_databases.proofs.Phases.{held_sealed}
use Rattle.cli_databases.proofs.databases.open_held.Goals as goal

pub returns-clause-told : goal.returns-clause-told
returns-clause-told g c = λ m is.
    held_sealed c.args.access.now.plain c.args.access.now.key_file (option_map (λ w. w.now) c.name_in.result) c.args.file.now
    (option_map (λ w. w.now) c.args.password) c.in_ok-key.key m c.open_sealed.result c.if-access.false c.name_in.ensures
    (c.in_ok-key.ensures.told m (reported_before _ _ _ m c.open_sealed.ensures.leaves.truthful is))
    (c.open_sealed.ensures.told m (ap (reported _) c.in_ok-key.ensures.leaves.files ∙ is))

pub returns-clause-cause : goal.returns-clause-cause
returns-clause-cause g c =
    later_at_file c.open_sealed.result _ c.args.file.now _ _ _ _ _ _ c.in_ok-key.ensures.leaves.faults c.in_ok-key.ensures.leaves.absences c.open_sealed.ensures.cause

pub returns-clause-leaves : goal.returns-clause-leaves
returns-clause-leaves g c =
    let first = c.in_ok-key.ensures.leaves in
    let rest = c.open_sealed.ensures.leaves in
    record {
      files = rest.files ∙ first.files;
      draft_name = rest.draft_name ∙ first.draft_name;
      draft_bytes = rest.draft_bytes ∙ first.draft_bytes;
      truthful = stays_on _ _ _ first.truthful rest.truthful;
      faults = omega (arith, first.faults, rest.faults);
      absences = omega (arith, first.absences, rest.absences);
    }

pub returns-clause-faultless : goal.returns-clause-faultless
returns-clause-faultless g c = kept_later c.open_sealed.result _ _ _ c.in_ok-key.ensures.faultless c.open_sealed.ensures.faultless
