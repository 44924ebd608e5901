-- What is printed of the two results.
use Rattle.std.proofs.Common.{rules}
use Rattle.std.proofs.lemmas.Result.{err_from_is_err_and}
use Rattle.secret_core.specs.Secret.{SecretBuffer}
use Rattle.vault_model.specs.SeenDoc.{doc_seen}
use Rattle.cli_self_test.proofs.Stops.{plain, returned}
use Rattle.cli_self_test.proofs.Told.{first_fails, second_fails, told_is}
use Rattle.cli_self_test.proofs.testing.told_of.Goals as goal

pub returns-in_err-one-clause-told : goal.returns-in_err-one-clause-told
returns-in_err-one-clause-told c =
    let p = err_from_is_err_and c.from_residual-in_err-one.result c.from_residual-in_err-one.ensures.1 in
    rw (p.1, p.2)
    (first_fails c.args.count (doc_seen c.args.first.now) (doc_seen c.args.second.now) c.requires.first c.requires.second _ c.in_err-one.ensures.told)

pub returns-in-Ok-clause-told : goal.returns-in-Ok-clause-told
returns-in-Ok-clause-told c =
    returned (λ (text : SecretBuffer). text.bytes) c.report-text.result _ _
    (told_is c.args.count (doc_seen c.args.first.now) (doc_seen c.args.second.now) c.requires.first c.requires.second c.requires.few
    c.as_str.result.now c.as_str-in-Ok.result.now c.in_ok-counts.counts c.in_ok-changed.changed
    (search rules) (search rules) c.in_ok-counts.ensures c.in_ok-changed.ensures)
    c.report-text.ensures.text c.report-text.ensures.cause

pub returns-in-Ok-clause-cause : goal.returns-in-Ok-clause-cause
returns-in-Ok-clause-cause c = plain c.report-text.result c.report-text.ensures.cause

pub returns-in-Err-clause-told : goal.returns-in-Err-clause-told
returns-in-Err-clause-told c =
    second_fails c.args.count (doc_seen c.args.first.now) (doc_seen c.args.second.now) c.requires.first c.requires.second
    c.in-Err.stop c.in_ok-one.one c.in_ok-one.ensures.told c.in-Err.ensures.told
