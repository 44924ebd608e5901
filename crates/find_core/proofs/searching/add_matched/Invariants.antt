use Rattle.std.proofs.Common.{◌≡◌, ◌++◌, drop}
use Rattle.std.specs.Prelude.{map}
use Rattle.find_core.specs.Search.{passing}
use Rattle.find_core.specs.inside.Found.{all_match_folded}
use Rattle.vault_model.specs.SeenNodes.{entry_row}
use Rattle.find_core.proofs.searching.add_matched.Given as goal

abbrev pub invariant-loop-entry : goal.invariant-loop-entry
invariant-loop-entry l =
    l.ids ++ passing (all_match_folded l.terms) l.group (map entry_row (drop l.entry-index l.entries))
    ≡ l.fn.ids ++ passing (all_match_folded l.terms) l.group (map entry_row l.entries)
