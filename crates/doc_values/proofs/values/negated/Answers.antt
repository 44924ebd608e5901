use Rattle.std.proofs.Common.{◌≡◌, arith, refl}
use Rattle.doc_values.proofs.values.negated.Goals as goal

pub returns-then-size : goal.returns-then-size
returns-then-size c =
    let e : c.args.size ≡ 9223372036854775808 = omega (arith, c.if-size.true, c.requires) in
    rw e refl
