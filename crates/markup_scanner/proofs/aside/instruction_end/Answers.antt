use Rattle.std.proofs.Common.{◌≡◌, ◌∙◌, ap, sym, refl, arith, length, ◌∷◌, [], get_or, nat_eq}
use Rattle.std.proofs.lemmas.List.{drop_more, drop_all}
use Rattle.markup_grammar.specs.Answers.{form}
use Rattle.markup_grammar.specs.Machine.{in_instruction}
use Rattle.markup_scanner.proofs.Asides.{instruction_goes, instruction_ends, closing_byte}
use Rattle.markup_scanner.proofs.Steps.{left_end}
use Rattle.markup_scanner.proofs.aside.instruction_end.Goals as goal

pub returns-then-ends_instruction-clause-instruction : goal.returns-then-ends_instruction-clause-instruction
returns-then-ends_instruction-clause-instruction c =
    λ level. c.loop-place.invariant level
    ∙ instruction_ends c.args.text.now level c.loop-place.asked c.loop-place.place (get_or c.args.text.now c.loop-place.place 0)
    (drop_more c.args.text.now c.loop-place.place 0 (omega arith)) (sym c.ends_instruction.ensures ∙ c.if-ends_instruction.true)

pub returns-then-ends_instruction-clause-closes : goal.returns-then-ends_instruction-clause-closes
returns-then-ends_instruction-clause-closes c =
    closing_byte c.args.text.now c.loop-place.place (get_or c.args.text.now c.loop-place.place 0) c.loop-place.asked
    (drop_more c.args.text.now c.loop-place.place 0 (omega arith)) (sym c.ends_instruction.ensures ∙ c.if-ends_instruction.true)

pub loop-place-preserved : goal.loop-place-preserved
loop-place-preserved c =
    λ level. c.loop-place.invariant level
    ∙ instruction_goes c.args.text.now level c.loop-place.asked c.loop-place.place (get_or c.args.text.now c.loop-place.place 0) (nat_eq (get_or c.args.text.now c.loop-place.place 0) 63)
    (drop_more c.args.text.now c.loop-place.place 0 (omega arith)) (sym c.ends_instruction.ensures ∙ c.if-ends_instruction.false) refl

pub returns-clause-instruction : goal.returns-clause-instruction
returns-clause-instruction c =
    let over : length c.args.text.now ≡ c.loop-place.place = omega arith in
    λ level. c.loop-place.invariant level
    ∙ (left_end c.args.text.now (in_instruction c.loop-place.asked level) c.loop-place.place (drop_all c.loop-place.place c.args.text.now (omega arith))
    ∙ ap (λ n. form n ∷ []) (sym over))
