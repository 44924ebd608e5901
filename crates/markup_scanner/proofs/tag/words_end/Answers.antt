use Rattle.std.proofs.Common.{◌≤◌, ◌∙◌, arith}
use Rattle.std.proofs.lemmas.Result.{err_from_is_err_and}
use Rattle.markup_grammar.specs.Bytes.{is_text}
use Rattle.markup_scanner.specs.Scans.{of_run}
use Rattle.markup_scanner.proofs.Steps.{stops_at}
use Rattle.markup_scanner.proofs.Words.{words_run, words_begin, words_amp, words_off}
use Rattle.markup_scanner.proofs.tag.words_end.Goals as goal

pub words-init : goal.words-init
words-init c = (
  omega arith,
  omega arith,
  stops_at is_text c.args.text.now c.args.at c.plain_end-place.result c.plain_end-place.ensures.run,
  λ name names. words_begin c.args.text.now name names c.args.at c.plain_end-place.result c.requires.no_tag c.plain_end-place.ensures.run,
)

pub returns-in_err-reference-clause-words : goal.returns-in_err-reference-clause-words
returns-in_err-reference-clause-words c =
    let p = err_from_is_err_and c.from_residual.result c.from_residual.ensures.1 in
    λ name names. rw (p.1, p.2)
    (c.words.invariant.3 name names
    ∙ words_off c.args.text.now c.args.at name names c.words.place c.in_err-reference.field-0.0 c.words.invariant.2 c.if-stands.ensures.byte c.in_err-reference.ensures.byte)

pub returns-in_err-more-clause-words : goal.returns-in_err-more-clause-words
returns-in_err-more-clause-words c =
    let p = err_from_is_err_and c.from_residual-in_err-more.result c.from_residual-in_err-more.ensures.1 in
    let behind : c.args.at ≤ c.in_ok-reference.reference = omega (arith, c.in_ok-reference.ensures.byte.0) in
    λ name names. rw (p.1, p.2)
    (c.words.invariant.3 name names
    ∙ (words_amp c.args.text.now c.args.at name names c.words.place c.in_ok-reference.reference c.words.invariant.0 c.in_ok-reference.ensures.byte
    ∙ c.in_err-more.ensures.reference (of_run c.args.at name names) behind))

pub words-preserved : goal.words-preserved
words-preserved c =
    let behind : c.args.at ≤ c.in_ok-reference.reference = omega (arith, c.in_ok-reference.ensures.byte.0) in
    let after : c.args.at ≤ c.in_ok-more.more = omega (arith, c.in_ok-more.ensures.within) in (
      omega arith,
      omega arith,
      stops_at is_text c.args.text.now c.in_ok-more.more c.plain_end-place-in-words.result c.plain_end-place-in-words.ensures.run,
      λ name names. c.words.invariant.3 name names
          ∙ (words_amp c.args.text.now c.args.at name names c.words.place c.in_ok-reference.reference c.words.invariant.0 c.in_ok-reference.ensures.byte
          ∙ (c.in_ok-more.ensures.reference (of_run c.args.at name names) behind
          ∙ words_run c.args.text.now c.args.at name names c.in_ok-more.more c.plain_end-place-in-words.result after c.plain_end-place-in-words.ensures.run)),
    )
