use Rattle.std.proofs.Common.{◌≡◌, ◌∷◌, [], ◌≤◌, refl, arith, false, eqb}
use Rattle.std.proofs.lemmas.Result.{err_from_is_err_and}
use Rattle.markup_grammar.specs.Machine.{begun, after_a, due, hash}
use Rattle.markup_scanner.specs.Scans.{host_begin, host_reference, host_state}
use Rattle.markup_scanner.proofs.Steps.{other_byte}
use Rattle.markup_scanner.proofs.References.{due_state, await_due, reference_on, reference_off, leads_after}
use Rattle.markup_scanner.proofs.reference.reference_end.Goals as goal

pub returns-in_err-past-clause-reference : goal.returns-in_err-past-clause-reference
returns-in_err-past-clause-reference c =
    let p = err_from_is_err_and c.from_residual.result c.from_residual.ensures.1 in
    λ h kept. rw (p.1, p.2)
    (reference_off c.args.text.now h begun c.args.at c.in_err-past.field-0.0 kept
    (λ b stand. let number : eqb b 35 ≡ false = other_byte c.args.text.now c.args.at b 35 stand c.in_default.ensures.byte.1 in
    let a : eqb b 97 ≡ false = other_byte c.args.text.now c.args.at b 97 stand c.in_default-past.ensures.byte.1 in
    let q : eqb b 113 ≡ false = other_byte c.args.text.now c.args.at b 113 stand c.in_default-past-2.ensures.byte.1 in
    let l : eqb b 108 ≡ false = other_byte c.args.text.now c.args.at b 108 stand c.in_default-past-3.ensures.byte.1 in
    let g : eqb b 103 ≡ false = other_byte c.args.text.now c.args.at b 103 stand c.in_err-past.ensures.byte.1 in
    rw (a, l, g, q, number) refl)
    c.in_err-past.ensures.byte.0)

pub returns-in-Ok-clause-reference : goal.returns-in-Ok-clause-reference
returns-in-Ok-clause-reference c =
    λ h kept. leads_after c.args.text.now (host_reference c.args.text.now h begun c.args.at) (host_reference c.args.text.now h hash c.in-Ok.number) c.args.at c.in-Ok.number (host_state c.args.text.now h) c.character_end.result
    (reference_on c.args.text.now h begun hash c.args.at c.in-Ok.number 35 kept refl c.in-Ok.ensures.byte)
    (c.character_end.ensures.number h (omega (arith, c.in-Ok.ensures.byte.0)))

pub returns-in-Ok-past-clause-reference : goal.returns-in-Ok-past-clause-reference
returns-in-Ok-past-clause-reference c =
    λ h kept. leads_after c.args.text.now (host_reference c.args.text.now h begun c.args.at) (host_reference c.args.text.now h after_a c.in-Ok-past.rest) c.args.at c.in-Ok-past.rest (host_state c.args.text.now h) c.amp_or_apos_end.result
    (reference_on c.args.text.now h begun after_a c.args.at c.in-Ok-past.rest 97 kept refl c.in-Ok-past.ensures.byte)
    (c.amp_or_apos_end.ensures.reference h (omega (arith, c.in-Ok-past.ensures.byte.0)))

pub returns-in-Ok-past-2-clause-reference : goal.returns-in-Ok-past-2-clause-reference
returns-in-Ok-past-2-clause-reference c =
    λ h kept. let le : host_begin h ≤ c.in-Ok-past-2.rest = omega (arith, c.in-Ok-past-2.ensures.byte.0) in
    leads_after c.args.text.now (host_reference c.args.text.now h begun c.args.at) (host_reference c.args.text.now h (due 117 (111 ∷ 116 ∷ 59 ∷ [])) c.in-Ok-past-2.rest) c.args.at c.in-Ok-past-2.rest (host_state c.args.text.now h) c.literal_end.result
    (reference_on c.args.text.now h begun (due 117 (111 ∷ 116 ∷ 59 ∷ [])) c.args.at c.in-Ok-past-2.rest 113 kept refl c.in-Ok-past-2.ensures.byte)
    (c.literal_end.ensures.bytes (due_state c.args.text.now h) (await_due c.args.text.now h c.in-Ok-past-2.rest le))

pub returns-in-Ok-past-3-clause-reference : goal.returns-in-Ok-past-3-clause-reference
returns-in-Ok-past-3-clause-reference c =
    λ h kept. let le : host_begin h ≤ c.in-Ok-past-3.rest = omega (arith, c.in-Ok-past-3.ensures.byte.0) in
    leads_after c.args.text.now (host_reference c.args.text.now h begun c.args.at) (host_reference c.args.text.now h (due 116 (59 ∷ [])) c.in-Ok-past-3.rest) c.args.at c.in-Ok-past-3.rest (host_state c.args.text.now h) c.literal_end-in-Ok-past-3.result
    (reference_on c.args.text.now h begun (due 116 (59 ∷ [])) c.args.at c.in-Ok-past-3.rest 108 kept refl c.in-Ok-past-3.ensures.byte)
    (c.literal_end-in-Ok-past-3.ensures.bytes (due_state c.args.text.now h) (await_due c.args.text.now h c.in-Ok-past-3.rest le))

pub returns-in_ok-past-clause-reference : goal.returns-in_ok-past-clause-reference
returns-in_ok-past-clause-reference c =
    λ h kept. let le : host_begin h ≤ c.in_ok-past.field-0 = omega (arith, c.in_ok-past.ensures.byte.0) in
    leads_after c.args.text.now (host_reference c.args.text.now h begun c.args.at) (host_reference c.args.text.now h (due 116 (59 ∷ [])) c.in_ok-past.field-0) c.args.at c.in_ok-past.field-0 (host_state c.args.text.now h) c.literal_end-in_default-past-3.result
    (reference_on c.args.text.now h begun (due 116 (59 ∷ [])) c.args.at c.in_ok-past.field-0 103 kept refl c.in_ok-past.ensures.byte)
    (c.literal_end-in_default-past-3.ensures.bytes (due_state c.args.text.now h) (await_due c.args.text.now h c.in_ok-past.field-0 le))
