use Rattle.std.proofs.Common.{arith, ◌∙◌, ap}
use Rattle.std.specs.Prelude.{Bool, ◌∷◌}
use Rattle.cli_lines.specs.Cutting.{cut}
use Rattle.cli_lines.proofs.Bytes.{Ready, byte_put, byte_refused, no_return_put, return_long, return_put, return_waits}
use Rattle.cli_lines.proofs.lines.put.Goals as goal
use Rattle.cli_lines.proofs.lines.put.Goals.{else-returned-via-then-returned+else-not-push, else-returned-via-else-returned}

pub returns-then-not-push-clause-puts : goal.returns-then-not-push-clause-puts
returns-then-not-push-clause-puts c = λ rest.
    ap (λ (b : Bool). cut c.args.line.now.bytes b (c.args.byte ∷ rest)) c.if-returned.true
    ∙ return_long c.args.line.now.bytes c.args.byte rest c.requires.no_end (let h = c.if-not-push.ensures in omega (arith, h.0))

pub returns-then-byte-eq13-clause-puts : goal.returns-then-byte-eq13-clause-puts
returns-then-byte-eq13-clause-puts c =
    let ready : Ready c.args.line.now c.else-returned.line c.args.returned c.args.byte = elim c.else-returned.branch [
      | else-returned-via-then-returned+else-not-push w ↦
          return_put c.args.line.now c.else-returned.line w.push.new.line c.args.returned w.push.result c.args.byte w.if-returned.true w.if-not-push.false
          w.push.ensures w.line-is c.requires.room c.requires.no_end
      | else-returned-via-else-returned w ↦ no_return_put c.args.line.now c.else-returned.line c.args.returned c.args.byte w.if-returned.false w.line-is c.requires.room
    ] in
    return_waits c.args.line.now c.else-returned.line c.args.returned c.args.byte ready c.if-byte-eq13.true

pub returns-then-push-clause-puts : goal.returns-then-push-clause-puts
returns-then-push-clause-puts c =
    let ready : Ready c.args.line.now c.else-returned.line c.args.returned c.args.byte = elim c.else-returned.branch [
      | else-returned-via-then-returned+else-not-push w ↦
          return_put c.args.line.now c.else-returned.line w.push.new.line c.args.returned w.push.result c.args.byte w.if-returned.true w.if-not-push.false
          w.push.ensures w.line-is c.requires.room c.requires.no_end
      | else-returned-via-else-returned w ↦ no_return_put c.args.line.now c.else-returned.line c.args.returned c.args.byte w.if-returned.false w.line-is c.requires.room
    ] in
    byte_put c.args.line.now c.else-returned.line c.push-2.new.line c.args.returned c.push-2.result c.args.byte ready c.requires.no_end c.if-byte-eq13.false c.if-push.true c.push-2.ensures

pub returns-else-push-clause-puts : goal.returns-else-push-clause-puts
returns-else-push-clause-puts c =
    let ready : Ready c.args.line.now c.else-returned.line c.args.returned c.args.byte = elim c.else-returned.branch [
      | else-returned-via-then-returned+else-not-push w ↦
          return_put c.args.line.now c.else-returned.line w.push.new.line c.args.returned w.push.result c.args.byte w.if-returned.true w.if-not-push.false
          w.push.ensures w.line-is c.requires.room c.requires.no_end
      | else-returned-via-else-returned w ↦ no_return_put c.args.line.now c.else-returned.line c.args.returned c.args.byte w.if-returned.false w.line-is c.requires.room
    ] in
    byte_refused c.args.line.now c.else-returned.line c.push-2.new.line c.args.returned c.push-2.result c.args.byte ready c.requires.no_end c.if-byte-eq13.false c.if-push.false c.push-2.ensures
