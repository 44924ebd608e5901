use Rattle.std.proofs.Common.{◌≡◌, drop}
use Rattle.find_core.specs.inside.Found.{all_match_folded}
use Rattle.vault_model.specs.SeenNodes.{entry_record}
use Rattle.find_core.proofs.matching.all_match.Given as goal

abbrev pub invariant-loop-term : goal.invariant-loop-term
invariant-loop-term l =
    all_match_folded (drop l.term-index l.terms) l.group (entry_record l.entry)
    ≡ all_match_folded l.terms l.group (entry_record l.entry)
