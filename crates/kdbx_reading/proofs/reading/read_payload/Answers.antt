use Rattle.std.proofs.Common.{[], Option, Ok, Err, subst, arith}
use Rattle.std.proofs.lemmas.Result.{err_from_is_err_and}
use Rattle.outside_core.specs.Files.{FileMap}
use Rattle.outside_core.specs.Reports.{reported}
use Rattle.secret_core.specs.ReadFail.{read_fail_of}
use Rattle.kdbx_payload.specs.Seen.{payload_seen}
use Rattle.kdbx_reading.specs.Stored.{PayloadOfName}
use Rattle.kdbx_reading.proofs.StoredPayloads.{no_memory, not_given, too_large, was_read}
use Rattle.kdbx_reading.proofs.reading.read_payload.Goals as goal

pub returns-in_err-size-clause-of_file : goal.returns-in_err-size-clause-of_file
returns-in_err-size-clause-of_file g c =
    let p = err_from_is_err_and c.from_residual.result c.from_residual.ensures.1 in
    rw (p.1, p.2) (not_given payload_seen (reported (g.F.FileStore.truthful c.size.new.self) (g.F.FileStore.files c.args.files.now)) c.args.name.now c.args.limit c.args.composite.now c.in_err-size.field-0.0 c.in_err-size.ensures.missing)

pub returns-then-size-limit-clause-of_file : goal.returns-then-size-limit-clause-of_file
returns-then-size-limit-clause-of_file g c =
    too_large payload_seen (reported (g.F.FileStore.truthful c.size.new.self) (g.F.FileStore.files c.args.files.now)) c.args.name.now c.args.limit c.args.composite.now c.in_ok-size.size c.in_ok-size.ensures.told

pub returns-in_err-window-clause-of_file : goal.returns-in_err-window-clause-of_file
returns-in_err-window-clause-of_file g c =
    let p = err_from_is_err_and c.from_residual-in_err-window.result c.from_residual-in_err-window.ensures.1 in
    rw (p.1, p.2) (no_memory payload_seen (reported (g.F.FileStore.truthful c.size.new.self) (g.F.FileStore.files c.args.files.now)) c.args.name.now c.args.limit c.args.composite.now)

pub returns-in-Ok-clause-of_file : goal.returns-in-Ok-clause-of_file
returns-in-Ok-clause-of_file g c =
    subst (λ (f : Option FileMap). PayloadOfName payload_seen (reported (g.F.FileStore.truthful c.read_sized.new.files) f) c.args.name.now c.args.limit c.args.composite.now (Ok c.in-Ok.answer)) c.in_ok-size.ensures.files
    (was_read payload_seen (reported (g.F.FileStore.truthful c.read_sized.new.files) (g.F.FileStore.files c.size.new.self)) c.args.name.now c.args.limit c.args.composite.now [] c.in_ok-size.size c.in-Ok.answer
    (omega (arith, c.if-size-limit.false)) c.in-Ok.ensures.of_file)

pub returns-clause-of_file : goal.returns-clause-of_file
returns-clause-of_file g c =
    rw c.from.ensures (subst (λ (f : Option FileMap). PayloadOfName payload_seen (reported (g.F.FileStore.truthful c.read_sized.new.files) f) c.args.name.now c.args.limit c.args.composite.now (Err (read_fail_of c.in-Err.fail)))
    c.in_ok-size.ensures.files
    (not_given payload_seen (reported (g.F.FileStore.truthful c.read_sized.new.files) (g.F.FileStore.files c.size.new.self)) c.args.name.now c.args.limit c.args.composite.now c.in-Err.fail c.in-Err.ensures.missing))
