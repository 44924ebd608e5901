use Rattle.std.proofs.Common.{◌≡◌, Some, None, ap}
use Rattle.std.proofs.lemmas.Result.{err_from_is_err_and}
use Rattle.doc_forms.specs.Refusals.{checked_value}
use Rattle.doc_forms.specs.SeenTexts.{text_seen}
use Rattle.doc_walk.proofs.Branches.{then_in, then_refused}
use Rattle.doc_walk.proofs.Memory.{memory_ran_out}
use Rattle.doc_walk.proofs.walk.Walk.value.Goals as goal

pub returns-in_err-text : goal.returns-in_err-text
returns-in_err-text g c =
    let p = err_from_is_err_and c.from_residual.result c.from_residual.ensures.1 in
    rw (p.1, p.2) (then_refused (λ said. checked_value c.args.tag.now.offset (g.K.Kind.rule said)) c.in_err-text.ensures)

pub returns-in_err-value : goal.returns-in_err-value
returns-in_err-value g c =
    let p = err_from_is_err_and c.from_residual-in_err-value.result c.from_residual-in_err-value.ensures.1 in
    rw (p.1, p.2) (memory_ran_out (g.K.Kind.rule (text_seen c.in_ok-text.text)) c.in_err-value.ensures c.in_ok-text.ensures.setting)

pub returns-in-Some : goal.returns-in-Some
returns-in-Some g c =
    let known = rw c.in-Some.is at c.in_ok-value.ensures in
    let e : g.K.Kind.rule (text_seen c.in_ok-text.text) ≡ Some (g.K.Kind.seen c.in-Some.value) = cc known in
    then_in (λ said. checked_value c.args.tag.now.offset (g.K.Kind.rule said)) c.in_ok-text.ensures (ap (checked_value c.args.tag.now.offset) e)

pub returns-in-None : goal.returns-in-None
returns-in-None g c =
    let known = rw c.in-None.is at c.in_ok-value.ensures in
    let e : g.K.Kind.rule (text_seen c.in_ok-text.text) ≡ None = cc known in
    then_in (λ said. checked_value c.args.tag.now.offset (g.K.Kind.rule said)) c.in_ok-text.ensures (ap (checked_value c.args.tag.now.offset) e)
