use Rattle.std.proofs.Common.{◌≡◌, ◌∷◌, [], ◌≤◌, refl, arith, false, eqb}
use Rattle.std.proofs.lemmas.Result.{err_from_is_err_and}
use Rattle.markup_grammar.specs.Machine.{after_a, due}
use Rattle.markup_scanner.specs.Scans.{host_begin, host_reference, host_state}
use Rattle.markup_scanner.proofs.Steps.{other_byte}
use Rattle.markup_scanner.proofs.References.{due_state, await_due, reference_on, reference_off, leads_after}
use Rattle.markup_scanner.proofs.reference.amp_or_apos_end.Goals as goal

pub returns-in_err-past-clause-reference : goal.returns-in_err-past-clause-reference
returns-in_err-past-clause-reference c =
    let p = err_from_is_err_and c.from_residual.result c.from_residual.ensures.1 in
    λ h kept. rw (p.1, p.2)
    (reference_off c.args.text.now h after_a c.args.at c.in_err-past.field-0.0 kept
    (λ b stand. let m : eqb b 109 ≡ false = other_byte c.args.text.now c.args.at b 109 stand c.in_default.ensures.byte.1 in
    let p : eqb b 112 ≡ false = other_byte c.args.text.now c.args.at b 112 stand c.in_err-past.ensures.byte.1 in
    rw (m, p) refl)
    c.in_err-past.ensures.byte.0)

pub returns-in-Ok-clause-reference : goal.returns-in-Ok-clause-reference
returns-in-Ok-clause-reference c =
    λ h kept. let le : host_begin h ≤ c.in-Ok.rest = omega (arith, c.in-Ok.ensures.byte.0) in
    leads_after c.args.text.now (host_reference c.args.text.now h after_a c.args.at) (host_reference c.args.text.now h (due 112 (59 ∷ [])) c.in-Ok.rest) c.args.at c.in-Ok.rest (host_state c.args.text.now h) c.literal_end.result
    (reference_on c.args.text.now h after_a (due 112 (59 ∷ [])) c.args.at c.in-Ok.rest 109 kept refl c.in-Ok.ensures.byte)
    (c.literal_end.ensures.bytes (due_state c.args.text.now h) (await_due c.args.text.now h c.in-Ok.rest le))

pub returns-in_ok-past-clause-reference : goal.returns-in_ok-past-clause-reference
returns-in_ok-past-clause-reference c =
    λ h kept. let le : host_begin h ≤ c.in_ok-past.field-0 = omega (arith, c.in_ok-past.ensures.byte.0) in
    leads_after c.args.text.now (host_reference c.args.text.now h after_a c.args.at) (host_reference c.args.text.now h (due 111 (115 ∷ 59 ∷ [])) c.in_ok-past.field-0) c.args.at c.in_ok-past.field-0 (host_state c.args.text.now h) c.literal_end-in_default.result
    (reference_on c.args.text.now h after_a (due 111 (115 ∷ 59 ∷ [])) c.args.at c.in_ok-past.field-0 112 kept refl c.in_ok-past.ensures.byte)
    (c.literal_end-in_default.ensures.bytes (due_state c.args.text.now h) (await_due c.args.text.now h c.in_ok-past.field-0 le))
