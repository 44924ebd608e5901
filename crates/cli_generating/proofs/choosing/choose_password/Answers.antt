use Rattle.std.proofs.Common.{ap}
use Rattle.cli_generating.proofs.Characters.{chosen_is_utf8}
use Rattle.cli_generating.proofs.Returned.{password_returned, spent_returned}
use Rattle.cli_generating.specs.Generated.{password_chosen}
use Rattle.gen_core.specs.Chosen.{Choice}
use Rattle.cli_generating.proofs.choosing.choose_password.Goals as goal

pub returns-in-Ok-clause-told : goal.returns-in-Ok-clause-told
returns-in-Ok-clause-told g c = λ truthful d told. password_returned _ _ _ _ d _ told c.generate.ensures.stream (c.in-Ok.ensures.told truthful)

pub returns-in-Ok-clause-some_dice : goal.returns-in-Ok-clause-some_dice
returns-in-Ok-clause-some_dice g c =
    (c.in-Ok.ensures.some.stream, ap (λ (choice : Choice). (password_chosen choice).answer) c.in-Ok.ensures.some.chooses)

pub returns-in-Ok-clause-text : goal.returns-in-Ok-clause-text
returns-in-Ok-clause-text g c = chosen_is_utf8 _ _ _ c.requires.alphabet c.requires.ascii c.in-Ok.ensures.some

pub returns-in-Err-Spent-clause-told : goal.returns-in-Err-Spent-clause-told
returns-in-Err-Spent-clause-told g c = λ truthful d told. spent_returned _ _ _ _ _ _ d _ told c.generate.ensures.stream c.in-Err-Spent.field-0-is
    (c.in-Err-Spent.ensures.told truthful) c.refused.ensures
