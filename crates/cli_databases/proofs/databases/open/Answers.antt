use Rattle.std.proofs.Common.{◌∙◌, ap, arith, map, option_map}
use Rattle.outside_core.specs.Reports.{reported}
use Rattle.outside_core.proofs.Reports.{reported_before, stays_on}
use Rattle.vault_model.specs.SeenDoc.{doc_seen}
use Rattle.cli_files.specs.SeenOpened.{opened_seen}
use Rattle.cli_lines.specs.SeenLines.{lines_seen}
use Rattle.cli_needs.specs.Needs.{database_files, source_files}
use Rattle.cli_needs.specs.SeenNeeds.{needs_seen}
use Rattle.cli_databases.proofs.Openable.{can_open_sources}
use Rattle.cli_files.proofs.FileStops.{later_at_files}
use Rattle.cli_databases.proofs.Phases.{databases_are, sources_refused}
use Rattle.cli_databases.proofs.databases.open.Goals as goal

pub returns-in-Ok-clause-told : goal.returns-in-Ok-clause-told
returns-in-Ok-clause-told g c = λ m is.
    databases_are (needs_seen c.args.needs) (lines_seen c.args.lines.now) c.as_str.result.now (option_map (λ w. w.now) c.bytes_in-password.result) m
    (opened_seen c.in_ok-target.target) c.as_str.ensures c.bytes_in-password.ensures
    (c.in_ok-target.ensures.told m (reported_before _ _ _ m c.in-Ok.ensures.leaves.truthful is))
    (map doc_seen c.in-Ok.sources) (c.in-Ok.ensures.told m (ap (reported _) c.in_ok-target.ensures.leaves.files ∙ is))

pub returns-in-Err-clause-told : goal.returns-in-Err-clause-told
returns-in-Err-clause-told g c = λ m is.
    sources_refused (needs_seen c.args.needs) (lines_seen c.args.lines.now) c.as_str.result.now (option_map (λ w. w.now) c.bytes_in-password.result) m
    (opened_seen c.in_ok-target.target) c.as_str.ensures c.bytes_in-password.ensures
    (c.in_ok-target.ensures.told m (reported_before _ _ _ m c.in-Err.ensures.leaves.truthful is))
    c.in-Err.stop (c.in-Err.ensures.told m (ap (reported _) c.in_ok-target.ensures.leaves.files ∙ is))

pub open_all-requires : goal.open_all-requires
open_all-requires g c = can_open_sources (needs_seen c.args.needs) (lines_seen c.args.lines.now) c.requires.keys c.requires.lines

pub returns-in-Err-clause-cause : goal.returns-in-Err-clause-cause
returns-in-Err-clause-cause g c =
    later_at_files (database_files c.args.needs.access.now c.args.needs.file.now) (source_files c.args.needs.from.now c.args.needs.sources.now) _ _ _ _ _ _
    c.in-Err.stop c.in_ok-target.ensures.leaves.faults c.in_ok-target.ensures.leaves.absences c.in-Err.ensures.cause

pub returns-in-Ok-clause-leaves : goal.returns-in-Ok-clause-leaves
returns-in-Ok-clause-leaves g c =
    let first = c.in_ok-target.ensures.leaves in
    let rest = c.in-Ok.ensures.leaves in
    record {
      files = rest.files ∙ first.files;
      draft_name = rest.draft_name ∙ first.draft_name;
      draft_bytes = rest.draft_bytes ∙ first.draft_bytes;
      truthful = stays_on _ _ _ first.truthful rest.truthful;
      faults = omega (arith, first.faults, rest.faults);
      absences = omega (arith, first.absences, rest.absences);
    }

pub returns-in-Err-clause-leaves : goal.returns-in-Err-clause-leaves
returns-in-Err-clause-leaves g c =
    let first = c.in_ok-target.ensures.leaves in
    let rest = c.in-Err.ensures.leaves in
    record {
      files = rest.files ∙ first.files;
      draft_name = rest.draft_name ∙ first.draft_name;
      draft_bytes = rest.draft_bytes ∙ first.draft_bytes;
      truthful = stays_on _ _ _ first.truthful rest.truthful;
      faults = omega (arith, first.faults, rest.faults);
      absences = omega (arith, first.absences, rest.absences);
    }
