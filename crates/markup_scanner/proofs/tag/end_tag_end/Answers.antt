use Rattle.std.proofs.Common.{◌∙◌}
use Rattle.std.proofs.lemmas.Result.{err_from_is_err_and}
use Rattle.markup_grammar.specs.Bytes.{is_space}
use Rattle.markup_grammar.specs.Machine.{closing}
use Rattle.markup_scanner.proofs.Steps.{stops_at}
use Rattle.markup_scanner.proofs.Tags.{await_closing, closing_spaced, closed_by}
use Rattle.markup_scanner.proofs.tag.end_tag_end.Goals as goal

pub returns-in_err-name_end-clause-tag : goal.returns-in_err-name_end-clause-tag
returns-in_err-name_end-clause-tag c =
    let p = err_from_is_err_and c.from_residual.result c.from_residual.ensures.1 in
    λ place names. rw (p.1, p.2)
    (c.in_err-name_end.ensures.bytes (λ xs _. closing place xs names) (await_closing c.args.text.now place names c.args.at))

pub returns-clause-tag : goal.returns-clause-tag
returns-clause-tag c =
    λ place names. closed_by c.args.text.now place c.args.name.now names c.args.at c.space_end.result c.past.result
    (c.in_ok-name_end.ensures.bytes (λ xs _. closing place xs names) (await_closing c.args.text.now place names c.args.at)
    ∙ closing_spaced c.args.text.now place names c.in_ok-name_end.name_end c.space_end.result c.space_end.ensures.run)
    (stops_at is_space c.args.text.now c.in_ok-name_end.name_end c.space_end.result c.space_end.ensures.run)
    c.past.ensures.byte
