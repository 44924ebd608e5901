-- The first of the known ids is the least.
use Rattle.std.proofs.Common.{◌∙◌}
use Rattle.vault_model.specs.Tree.{LEVELS}
use Rattle.merge_core.specs.Refusals.{is_too_deep, too_deep}
use Rattle.merge_tables.specs.Databases.{databases}
use Rattle.merge_checks.proofs.FirstHeld.{first_held, deep_held}
use Rattle.merge_checks.proofs.levels.least_too_deep.Goals as goal

pub returns : goal.returns
unfolding too_deep
returns c =
    let S = databases c.args.copies.now in
    c.first_too_deep.ensures
    ∙ first_held S (is_too_deep LEVELS S) (deep_held S c.requires.allowed c.requires.sound LEVELS) c.args.known.now c.requires.rising c.requires.known
