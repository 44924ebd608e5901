use Rattle.std.proofs.lemmas.Result.{err_from_is_err_and}
use Rattle.std.proofs.Common.{◌≡◌, ◌+◌, ◌≤◌, Ok, Err, length, take, ap, ◌∙◌, arith}
use Rattle.outside_core.specs.Reports.{reported}
use Rattle.outside_core.proofs.Reports.{holds_later}
use Rattle.secret_core.specs.declared.files.ReadFail.TheVariants.{TooLarge}
use Rattle.secret_core.proofs.Causes.{caused_before, passed_on}
use Rattle.secret_core.proofs.SomeFiles.{some_file}
use Rattle.secret_core.proofs.Windows.{whole_told}
use Rattle.secret_core.proofs.files.read_file.Goals as goal

pub returns-in-Ok-clause-told : goal.returns-in-Ok-clause-told
returns-in-Ok-clause-told g c =
    let size = c.in_ok-size.size in
    let room : length c.in_ok-secret.secret.bytes + c.in_ok-secret.secret.spare ≡ size =
    omega (arith, ap length c.in_ok-secret.ensures.bytes, c.in_ok-secret.ensures.spare) in
    whole_told _ c.args.name.now size c.args.limit c.fill_secret.new.secret
    (holds_later _ _ _ _ c.in-Ok.ensures.truthful c.in_ok-size.ensures.told)
    (λ m bytes told found.
    c.in-Ok.ensures.told m bytes (ap (reported _) c.in_ok-size.ensures.files ∙ told) found
    ∙ ap (λ n. take n bytes) room)
    (omega (arith, c.if-size-limit.false))

pub returns-then-size-limit-clause-some_file : goal.returns-then-size-limit-clause-some_file
returns-then-size-limit-clause-some_file g c = some_file c.args.limit (Err (TooLarge c.in_ok-size.size)) tt

pub returns-in_err-size-clause-some_file : goal.returns-in_err-size-clause-some_file
returns-in_err-size-clause-some_file g c =
    let p = err_from_is_err_and c.from_residual.result c.from_residual.ensures.1 in
    rw p.1 (some_file c.args.limit (Err p.0) tt)

pub returns-in_err-secret-clause-some_file : goal.returns-in_err-secret-clause-some_file
returns-in_err-secret-clause-some_file g c =
    let p = err_from_is_err_and c.from_residual-in_err-secret.result c.from_residual-in_err-secret.ensures.1 in
    rw p.1 (some_file c.args.limit (Err p.0) tt)

pub returns-in-Err-clause-some_file : goal.returns-in-Err-clause-some_file
returns-in-Err-clause-some_file g c = some_file c.args.limit (Err c.from.result) tt

pub returns-in-Ok-clause-some_file : goal.returns-in-Ok-clause-some_file
returns-in-Ok-clause-some_file g c =
    let size : length c.fill_secret.new.secret.bytes ≤ c.args.limit =
    omega (arith, c.in-Ok.ensures.bound, ap length c.in_ok-secret.ensures.bytes, c.in_ok-secret.ensures.spare, c.if-size-limit.false) in
    some_file c.args.limit (Ok c.fill_secret.new.secret) size

pub returns-in_err-size-clause-cause : goal.returns-in_err-size-clause-cause
returns-in_err-size-clause-cause g c =
    let p = err_from_is_err_and c.from_residual.result c.from_residual.ensures.1 in
    rw (p.1, p.2) (passed_on _ _ _ _ c.args.limit c.in_err-size.field-0.0 c.in_err-size.ensures.faults c.in_err-size.ensures.absences)

pub returns-in-Err-clause-cause : goal.returns-in-Err-clause-cause
returns-in-Err-clause-cause g c =
    rw c.from.ensures (passed_on _ _ _ _ c.args.limit c.in-Err.fail
    (caused_before _ _ _ _ _ c.in_ok-size.ensures.faults.later c.in-Err.ensures.faults)
    (caused_before _ _ _ _ _ c.in_ok-size.ensures.absences.later c.in-Err.ensures.absences))
