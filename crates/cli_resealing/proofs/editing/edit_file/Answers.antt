use Rattle.std.proofs.Common.{ap, option_map, ◌∙◌}
use Rattle.outside_core.specs.Reports.{reported}
use Rattle.outside_core.proofs.Reports.{reported_before}
use Rattle.cli_databases.specs.CliFiles.SeenOpened.{opened_seen}
use Rattle.cli_lines.specs.SeenLines.{lines_seen}
use Rattle.cli_lines.proofs.Inputs.{kept_later}
use Rattle.cli_needs.specs.Needs.{database_files, key_files, new_key_files}
use Rattle.cli_needs.specs.SeenNeeds.{needs_seen}
use Rattle.cli_resealing.proofs.Somes.{some_edited}
use Rattle.cli_resealing.proofs.EditStops.{stops_changed, stops_opened}
use Rattle.cli_resealing.proofs.Phases.{edited_returns, file_refused}
use Rattle.cli_resealing.proofs.editing.edit_file.Goals as goal

pub returns-in-Ok-clause-told : goal.returns-in-Ok-clause-told
returns-in-Ok-clause-told g c = λ m is.
    let before = reported_before _ _ _ m c.change_file.ensures.leaves.truthful is in
    edited_returns (needs_seen c.args.needs) c.args.change.now (lines_seen c.args.lines.now) m c.as_str-file.result.now (option_map (λ w. w.now) c.name_in.result)
    (option_map (λ w. w.now) c.bytes_in.result) c.in_ok-key.key c.as_str-file.ensures c.name_in.ensures c.bytes_in.ensures
    (c.in_ok-key.ensures.told m (reported_before _ _ _ m c.in-Ok.ensures.leaves.truthful before))
    c.copy_of-kept.result (opened_seen c.in-Ok.opened) c.change_file.result c.copy_of-kept.ensures
    (c.in-Ok.ensures.told m (ap (reported _) c.in_ok-key.ensures.leaves.files ∙ before))
    (c.change_file.ensures.told m (ap (reported _) (c.in-Ok.ensures.leaves.files ∙ c.in_ok-key.ensures.leaves.files) ∙ is))

pub returns-in-Err-clause-told : goal.returns-in-Err-clause-told
returns-in-Err-clause-told g c = λ m is.
    file_refused (needs_seen c.args.needs) c.args.change.now (lines_seen c.args.lines.now) m c.as_str-file.result.now (option_map (λ w. w.now) c.name_in.result)
    (option_map (λ w. w.now) c.bytes_in.result) c.in_ok-key.key c.as_str-file.ensures c.name_in.ensures c.bytes_in.ensures
    (c.in_ok-key.ensures.told m (reported_before _ _ _ m c.in-Err.ensures.leaves.truthful is))
    c.in-Err.stop (c.in-Err.ensures.told m (ap (reported _) c.in_ok-key.ensures.leaves.files ∙ is))

pub returns-in-Ok-clause-some_file : goal.returns-in-Ok-clause-some_file
returns-in-Ok-clause-some_file g c =
    some_edited (needs_seen c.args.needs) c.args.change.now (lines_seen c.args.lines.now) c.as_str-file.result.now
    (option_map (λ w. w.now) c.name_in.result) (option_map (λ w. w.now) c.bytes_in.result) c.in_ok-key.key c.copy_of-kept.result (opened_seen c.in-Ok.opened)
    c.change_file.result c.as_str-file.ensures c.name_in.ensures c.bytes_in.ensures c.copy_of-kept.ensures c.in_ok-key.ensures.some_file c.in-Ok.ensures.some_file
    c.change_file.ensures.some_file

pub returns-in-Ok-clause-cause : goal.returns-in-Ok-clause-cause
returns-in-Ok-clause-cause g c =
    stops_changed c.change_file.result (database_files c.args.needs.access.now c.args.needs.file.now) (new_key_files c.args.change.now.key_file) _ _ _ _ _ _ _ _
    c.in_ok-key.ensures.leaves.faults c.in-Ok.ensures.leaves.faults c.in_ok-key.ensures.leaves.absences c.in-Ok.ensures.leaves.absences c.change_file.ensures.cause

pub returns-in-Ok-clause-faultless : goal.returns-in-Ok-clause-faultless
returns-in-Ok-clause-faultless g c =
    kept_later c.change_file.result _ _ _ (c.in-Ok.ensures.faultless ∙ c.in_ok-key.ensures.faultless) c.change_file.ensures.faultless

pub returns-in-Err-clause-cause : goal.returns-in-Err-clause-cause
returns-in-Err-clause-cause g c =
    stops_opened c.in-Err.stop (key_files c.args.needs.access.now.key_file) c.args.needs.file.now c.as_str-file.result.now (new_key_files c.args.change.now.key_file) _ _ _ _ _ _
    c.as_str-file.ensures c.in_ok-key.ensures.leaves.faults c.in_ok-key.ensures.leaves.absences c.in-Err.ensures.cause
