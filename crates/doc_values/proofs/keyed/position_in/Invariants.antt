use Rattle.std.proofs.Common.{◌≡◌, ◌+◌, drop}
use Rattle.doc_forms.specs.Tables.{position_of}
use Rattle.doc_values.proofs.keyed.position_in.Given as goal

-- the items before this one have lesser keys
abbrev pub invariant-loop-position : goal.invariant-loop-position
invariant-loop-position g l =
    position_of g.T.Keyed.key l.key l.list ≡ l.position + position_of g.T.Keyed.key l.key (drop l.position l.list)
