use Rattle.std.proofs.Common.{sym, ◌∙◌}
use Rattle.markup_core.proofs.Utf8Faults.{front_whole, front_cut, front_begun, front_stray}
use Rattle.markup_core.proofs.front.front_len.Goals as goal

pub returns-in-Ok : goal.returns-in-Ok
returns-in-Ok c = sym (front_whole _ c.in-Ok.ensures.cases.1)

pub returns-in-None : goal.returns-in-None
returns-in-None c =
    sym (front_cut _ _ c.in-Err.ensures.cases.1 (sym c.in-Err.ensures.fault ∙ (sym c.error_len.ensures ∙ c.in-None.is)))

pub returns-in-Some : goal.returns-in-Some
returns-in-Some c =
    front_begun _ _ _ _ c.valid_up_to-valid.ensures c.in-Err.ensures.cases.1
    (sym c.in-Err.ensures.fault ∙ (sym c.error_len.ensures ∙ c.in-Some.is))
    (sym c.begins_character.ensures ∙ c.if-begins_character.true)

pub returns-in-Some-2 : goal.returns-in-Some-2
returns-in-Some-2 c =
    front_stray _ _ _ _ c.valid_up_to-valid.ensures c.in-Err.ensures.cases.1
    (sym c.in-Err.ensures.fault ∙ (sym c.error_len.ensures ∙ c.in-Some-2.is))
    (sym c.begins_character.ensures ∙ c.if-begins_character.false)
