-- Where one of the bytes is no digit, no number has them as its two digits.
use Rattle.std.proofs.Common.{◌/◌, ◌%◌, get_or, ap, arith}
use Rattle.time_core.proofs.iso.number.Goals as goal

pub returns-in_err-digit : goal.returns-in_err-digit
returns-in_err-digit c =
    rw c.from_residual.ensures (λ n h e. c.in_err-digit.ensures (n / 10) (omega arith) (ap (λ l. get_or l 0 0) e))

pub returns-in_err-digit-2 : goal.returns-in_err-digit-2
returns-in_err-digit-2 c =
    rw c.from_residual-in_err-digit-2.ensures (λ n h e. c.in_err-digit-2.ensures (n % 10) (omega arith) (ap (λ l. get_or l 1 0) e))
