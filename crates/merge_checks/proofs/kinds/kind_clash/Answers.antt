-- The first of the known ids is the least.
use Rattle.std.proofs.Common.{◌∙◌}
use Rattle.merge_tables.specs.Databases.{databases}
use Rattle.merge_checks.specs.Clashes.{is_of_two_kinds}
use Rattle.merge_checks.proofs.FirstHeld.{first_held, two_held}
use Rattle.merge_checks.proofs.kinds.kind_clash.Goals as goal

pub returns : goal.returns
returns c =
    let S = databases c.args.copies.now in
    c.first_of_two_kinds.ensures ∙ first_held S (is_of_two_kinds S) (two_held S) c.args.known.now c.requires.rising c.requires.known
