use Rattle.std.proofs.Common.{◌≡◌, ◌+◌, ◌≤◌, ◌∙◌, ap, sym, arith, length, ◌∷◌, [], get_or}
use Rattle.std.proofs.lemmas.Bool.Decides.{nat_tests}
use Rattle.std.proofs.lemmas.List.{drop_more, drop_all}
use Rattle.markup_grammar.specs.Answers.{form}
use Rattle.markup_grammar.specs.Machine.{in_comment}
use Rattle.markup_scanner.specs.Asides.{dashes_of}
use Rattle.markup_scanner.proofs.Asides.{comment_goes, comment_ends, closing_byte}
use Rattle.markup_scanner.proofs.Steps.{left_end}
use Rattle.markup_scanner.proofs.aside.comment_rest_end.Goals as goal

pub returns-then-ends_comment-clause-comment : goal.returns-then-ends_comment-clause-comment
returns-then-ends_comment-clause-comment c =
    λ level. c.loop-place.invariant.1 level
    ∙ comment_ends c.args.text.now level c.loop-place.dashes c.loop-place.place (get_or c.args.text.now c.loop-place.place 0)
    (drop_more c.args.text.now c.loop-place.place 0 (omega arith)) (sym c.ends_comment.ensures ∙ c.if-ends_comment.true)

pub returns-then-ends_comment-clause-closes : goal.returns-then-ends_comment-clause-closes
returns-then-ends_comment-clause-closes c =
    closing_byte c.args.text.now c.loop-place.place (get_or c.args.text.now c.loop-place.place 0) _
    (drop_more c.args.text.now c.loop-place.place 0 (omega arith)) (sym c.ends_comment.ensures ∙ c.if-ends_comment.true)

pub loop-place-preserved : goal.loop-place-preserved
loop-place-preserved c = (
  let low : c.dashes_behind-dashes.result ≤ c.loop-place.dashes + 1 = rw c.dashes_behind-dashes.ensures (grind (arith, nat_tests)) in
      omega arith,
  λ level. c.loop-place.invariant.1 level
      ∙ comment_goes c.args.text.now level c.loop-place.dashes c.loop-place.place (get_or c.args.text.now c.loop-place.place 0) c.dashes_behind-dashes.result
      (drop_more c.args.text.now c.loop-place.place 0 (omega arith)) (sym c.ends_comment.ensures ∙ c.if-ends_comment.false) c.dashes_behind-dashes.ensures,
)

pub returns-clause-comment : goal.returns-clause-comment
returns-clause-comment c =
    let over : length c.args.text.now ≡ c.loop-place.place = omega arith in
    λ level. c.loop-place.invariant.1 level
    ∙ (left_end c.args.text.now (in_comment (dashes_of c.loop-place.dashes) level) c.loop-place.place (drop_all c.loop-place.place c.args.text.now (omega arith))
    ∙ ap (λ n. form n ∷ []) (sym over))
