use Rattle.std.proofs.Common.{map, sym, ◌∙◌, refl, inr}
use Rattle.std.specs.Prelude.{string_bytes}
use Rattle.cli_parse.specs.Words.{command_of}
use Rattle.cli_standalone.specs.Standalone.{standalone_of}
use Rattle.keepass_call.proofs.Answered.{command_draws, command_told, command_undrawn, faultless_dice}
use Rattle.keepass_call.proofs.Passwords.{same}
use Rattle.keepass_call.proofs.Standalones.{asked_left, asked_none, asked_told, asked_undrawn, kept_same, stream_caused}
use Rattle.keepass_call.proofs.run.answer_words.Goals as goal

pub returns-in-Ok-Some-clause-told : goal.returns-in-Ok-Some-clause-told
returns-in-Ok-Some-clause-told g c = λ truthful world isF isS isD.
    let words = map string_bytes c.args.words.now in
    asked_told (standalone_of words) c.in-Ok-Some.standalone words c.args.now world (command_of words) c.answer_alone.result _ _ _
    (sym c.in-Ok-Some.ensures.told ∙ c.in-Ok-Some.field-0-is) isD (c.answer_alone.ensures.told truthful.dice)

pub returns-in-Ok-Some-clause-held : goal.returns-in-Ok-Some-clause-held
returns-in-Ok-Some-clause-held g c = λ none. absurd (asked_none _ _ (sym c.in-Ok-Some.ensures.told ∙ c.in-Ok-Some.field-0-is) none)

pub returns-in-Ok-Some-clause-some_file : goal.returns-in-Ok-Some-clause-some_file
returns-in-Ok-Some-clause-some_file g c = λ none. absurd (asked_none _ _ (sym c.in-Ok-Some.ensures.told ∙ c.in-Ok-Some.field-0-is) none)

pub returns-in-Ok-Some-clause-left : goal.returns-in-Ok-Some-clause-left
returns-in-Ok-Some-clause-left g c = λ truthful i isS.
    asked_left (map string_bytes c.args.words.now) c.in-Ok-Some.standalone c.answer_alone.result _ i (sym c.in-Ok-Some.ensures.told ∙ c.in-Ok-Some.field-0-is) isS

pub returns-in-Ok-Some-clause-wrong : goal.returns-in-Ok-Some-clause-wrong
returns-in-Ok-Some-clause-wrong g c = λ refusal wrong none. absurd (asked_none _ _ (sym c.in-Ok-Some.ensures.told ∙ c.in-Ok-Some.field-0-is) none)

pub returns-in-Ok-Some-clause-unasked : goal.returns-in-Ok-Some-clause-unasked
returns-in-Ok-Some-clause-unasked g c = λ refusal wrong none. absurd (asked_none _ _ (sym c.in-Ok-Some.ensures.told ∙ c.in-Ok-Some.field-0-is) none)

pub returns-in-Ok-Some-clause-kept : goal.returns-in-Ok-Some-clause-kept
returns-in-Ok-Some-clause-kept g c = kept_same c.answer_alone.result _

pub returns-in-Ok-Some-clause-draft : goal.returns-in-Ok-Some-clause-draft
returns-in-Ok-Some-clause-draft g c = inr (refl, refl)

pub returns-in-Ok-Some-clause-unwritten : goal.returns-in-Ok-Some-clause-unwritten
returns-in-Ok-Some-clause-unwritten g c = λ e. same _

pub returns-in-Ok-Some-clause-undrawn : goal.returns-in-Ok-Some-clause-undrawn
returns-in-Ok-Some-clause-undrawn g c = λ e.
    c.answer_alone.ensures.undrawn (asked_undrawn _ _ (command_of (map string_bytes c.args.words.now)) (sym c.in-Ok-Some.ensures.told ∙ c.in-Ok-Some.field-0-is) e)

pub returns-in-Ok-Some-clause-cause : goal.returns-in-Ok-Some-clause-cause
returns-in-Ok-Some-clause-cause g c = stream_caused c.answer_alone.result _ _ _ _ _ _ c.answer_alone.ensures.cause

pub returns-in-Ok-Some-clause-faultless : goal.returns-in-Ok-Some-clause-faultless
returns-in-Ok-Some-clause-faultless g c = faultless_dice c.answer_alone.result _ _ _ _ c.answer_alone.ensures.faultless

pub returns-in-Ok-None-clause-told : goal.returns-in-Ok-None-clause-told
returns-in-Ok-None-clause-told g c = λ truthful world isF isS isD.
    let words = map string_bytes c.args.words.now in
    let none = sym c.in-Ok-None.ensures.told ∙ c.in-Ok-None.field-0-is in
    command_told (standalone_of words) words c.args.now world c.answer.result _ _ _ _ none
    (c.answer.ensures.told truthful world isF isS (command_draws (standalone_of words) (command_of words) _ _ none isD))

pub returns-in-Ok-None-clause-held : goal.returns-in-Ok-None-clause-held
returns-in-Ok-None-clause-held g c = λ none truthful world isF isS isD.
    let words = map string_bytes c.args.words.now in
    c.answer.ensures.held truthful world isF isS (command_draws (standalone_of words) (command_of words) _ _ none isD)

pub returns-in-Ok-None-clause-undrawn : goal.returns-in-Ok-None-clause-undrawn
returns-in-Ok-None-clause-undrawn g c = λ e.
    c.answer.ensures.undrawn (command_undrawn (standalone_of (map string_bytes c.args.words.now)) _ (sym c.in-Ok-None.ensures.told ∙ c.in-Ok-None.field-0-is) e)
