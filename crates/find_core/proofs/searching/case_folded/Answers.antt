use Rattle.std.proofs.Common.{sym, ◌∙◌}
use Rattle.std.proofs.lemmas.Result.{IfOk-weaker}
use Rattle.find_core.proofs.Letters.{folded_text}
use Rattle.find_core.proofs.searching.case_folded.Goals as goal

pub returns : goal.returns
returns c =
    IfOk-weaker c.of.result _ _
    (λ x e. e ∙ c.as_str.ensures.value ∙ c.in_ok-folded.ensures ∙ sym (folded_text c.args.text.now c.utf8.text)) c.of.ensures
