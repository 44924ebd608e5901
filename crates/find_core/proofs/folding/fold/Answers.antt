use Rattle.std.proofs.Common.{◌++◌, sym, ap, ◌∙◌, chars, encode_utf8_all}
use Rattle.std.proofs.lemmas.Result.{IfOk-weaker}
use Rattle.caseless.specs.Caseless.{default_case_fold}
use Rattle.find_core.proofs.Letters.{folded_other, folded_text}
use Rattle.find_core.proofs.folding.fold.Goals as goal

pub returns-in-Ok : goal.returns-in-Ok
returns-in-Ok c =
    IfOk-weaker c.fold_text.result _ _
    (λ x e. e ∙ ap (λ t. encode_utf8_all (default_case_fold (chars t))) c.in-Ok.ensures.cases.0 ∙ sym (folded_text c.args.value.now c.in-Ok.ensures.cases.1))
    c.fold_text.ensures

pub returns-in-Err : goal.returns-in-Err
returns-in-Err c =
    IfOk-weaker c.add.result _ _
    (λ x e. e ∙ ap (λ l. l ++ c.args.value.now) c.cut.ensures.bytes ∙ sym (folded_other c.args.value.now c.in-Err.ensures.cases.0))
    c.add.ensures
