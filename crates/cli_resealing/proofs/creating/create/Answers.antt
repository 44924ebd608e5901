use Rattle.std.proofs.Common.{◌∷◌, [], ◌∙◌, ap, option_map}
use Rattle.outside_core.specs.Reports.{reported}
use Rattle.outside_core.proofs.Reports.{reported_before}
use Rattle.cli_needs.specs.Needs.{key_files}
use Rattle.cli_databases.proofs.CliFiles.FileStops.{later_at_files}
use Rattle.vault_model.specs.SeenDoc.{doc_seen}
use Rattle.cli_lines.specs.SeenLines.{lines_seen}
use Rattle.cli_needs.specs.SeenNeeds.{create_seen}
use Rattle.cli_resealing.specs.Asked.{asked_settings}
use Rattle.cli_resealing.proofs.Somes.{asked_same, some_created}
use Rattle.cli_resealing.proofs.Phases.{created_returns, moment_refused, sealing_refused}
use Rattle.cli_resealing.proofs.creating.create.Goals as goal

pub returns-in-Err-clause-told : goal.returns-in-Err-clause-told
returns-in-Err-clause-told g c = λ m is.
    sealing_refused (create_seen c.args.create) (lines_seen c.args.lines.now) c.args.now m c.as_str-file.result.now (option_map (λ w. w.now) c.bytes_in.result) _
    c.as_str-file.ensures c.bytes_in.ensures (c.in_ok-refuse_existing.ensures.told m (reported_before _ _ _ m c.in-Err.ensures.leaves.truthful is))
    c.in-Err.stop (c.in-Err.ensures.told m (ap (reported _) c.in_ok-refuse_existing.ensures.leaves.files ∙ is))

pub returns-in-Err-empty_at-clause-told : goal.returns-in-Err-empty_at-clause-told
returns-in-Err-empty_at-clause-told g c = λ m is.
    moment_refused (create_seen c.args.create) (lines_seen c.args.lines.now) c.args.now m c.as_str-file.result.now (option_map (λ w. w.now) c.bytes_in.result) _
    c.as_str-file.ensures c.bytes_in.ensures (c.in_ok-refuse_existing.ensures.told m (reported_before _ _ _ m c.in-Ok.ensures.leaves.truthful is))
    c.in-Ok.sealing (c.in-Ok.ensures.told m (ap (reported _) c.in_ok-refuse_existing.ensures.leaves.files ∙ is))
    c.in-Err-empty_at.stop c.in-Err-empty_at.ensures.told

pub returns-in-Ok-empty_at-clause-told : goal.returns-in-Ok-empty_at-clause-told
returns-in-Ok-empty_at-clause-told g c = λ m is.
    created_returns (create_seen c.args.create) (lines_seen c.args.lines.now) c.args.now m c.as_str-file.result.now (option_map (λ w. w.now) c.bytes_in.result) _
    c.as_str-file.ensures c.bytes_in.ensures (c.in_ok-refuse_existing.ensures.told m (reported_before _ _ _ m c.in-Ok.ensures.leaves.truthful is))
    c.in-Ok.sealing (c.in-Ok.ensures.told m (ap (reported _) c.in_ok-refuse_existing.ensures.leaves.files ∙ is))
    (doc_seen c.in-Ok-empty_at.doc) (asked_settings c.asked_of.result.cipher c.asked_of.result.kdf c.asked_of.result.version) c.with_asked.result
    c.in-Ok-empty_at.ensures.told (asked_same _ _ _ _ _ _ c.asked_of.ensures.cipher c.asked_of.ensures.kdf c.asked_of.ensures.version) c.with_asked.ensures.told

pub returns-in-Ok-empty_at-clause-some_file : goal.returns-in-Ok-empty_at-clause-some_file
returns-in-Ok-empty_at-clause-some_file g c =
    some_created (create_seen c.args.create) (lines_seen c.args.lines.now) c.args.now (doc_seen c.in-Ok-empty_at.doc) c.as_str-file.result.now
    (option_map (λ w. w.now) c.bytes_in.result) c.in-Ok.sealing
    (asked_settings c.asked_of.result.cipher c.asked_of.result.kdf c.asked_of.result.version) c.with_asked.result
    c.as_str-file.ensures c.in-Ok-empty_at.ensures.told c.bytes_in.ensures c.in-Ok.ensures.some_file
    (asked_same _ _ _ _ _ _ c.asked_of.ensures.cipher c.asked_of.ensures.kdf c.asked_of.ensures.version) c.with_asked.ensures.told

pub returns-in-Err-clause-cause : goal.returns-in-Err-clause-cause
returns-in-Err-clause-cause g c =
    later_at_files (c.args.create.file.now ∷ []) (key_files c.args.create.access.now.key_file) _ _ _ _ _ _ c.in-Err.stop
    c.in_ok-refuse_existing.ensures.leaves.faults c.in_ok-refuse_existing.ensures.leaves.absences c.in-Err.ensures.cause
