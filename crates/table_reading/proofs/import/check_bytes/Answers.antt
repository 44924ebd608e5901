use Rattle.std.proofs.Common.{◌≡◌, false, Err, Result, sym, ap, ◌∙◌, ℕ}
use Rattle.std.proofs.lemmas.Str.{IsUtf8-from_is_utf8, is_utf8-from_IsUtf8}
use Rattle.std.specs.Str.{is_utf8}
use Rattle.vault_model.proofs.Tests.{is_false}
use Rattle.table_reading.specs.Documents.{refuse_bytes}
use Rattle.table_reading.specs.declared.fails.TableFail.{TableFail}
use Rattle.table_reading.specs.declared.fails.TableFail.TheVariants as fail
use Rattle.table_reading.proofs.import.check_bytes.Goals as goal

pub returns-in-Ok : goal.returns-in-Ok
returns-in-Ok c = ap (refuse_bytes c.args.bytes.now) (sym (is_utf8-from_IsUtf8 c.args.bytes.now c.in-Ok.ensures.cases.1))

pub returns-in-Err : goal.returns-in-Err
returns-in-Err c =
    let bytes = c.args.bytes.now in
    let other : is_utf8 bytes ≡ false = is_false (is_utf8 bytes) (λ e. c.in-Err.ensures.cases.0 (IsUtf8-from_is_utf8 bytes e)) in
    ap (λ (n : ℕ). let r : Result (Unit {0}) TableFail = Err (fail.NotUtf8 n) in r) (c.valid_up_to.ensures ∙ c.in-Err.ensures.valid_len) ∙ ap (refuse_bytes bytes) (sym other)
