use Rattle.std.proofs.Common.{refl, arith}
use Rattle.markup_grammar.specs.Machine.{hash, hash_x}
use Rattle.markup_scanner.specs.Scans.{host_reference, host_state}
use Rattle.markup_scanner.proofs.References.{reference_on, leads_after}
use Rattle.markup_scanner.proofs.reference.character_end.Goals as goal

pub returns-in-Ok-clause-number : goal.returns-in-Ok-clause-number
returns-in-Ok-clause-number c =
    λ h kept. leads_after c.args.text.now (host_reference c.args.text.now h hash c.args.at) (host_reference c.args.text.now h hash_x c.in-Ok.digits) c.args.at c.in-Ok.digits (host_state c.args.text.now h) c.number_end.result
    (reference_on c.args.text.now h hash hash_x c.args.at c.in-Ok.digits 120 kept refl c.in-Ok.ensures.byte)
    (c.number_end.ensures.number h (omega (arith, c.in-Ok.ensures.byte.0)))
