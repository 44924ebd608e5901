use Rattle.std.proofs.Common.{◌≡◌, ◌++◌, drop}
use Rattle.vault_model.specs.Walk.{slashed}
use Rattle.import_ids.proofs.names.put_slashed.Given as goal

-- the names so far, with those that are left, are all
abbrev pub invariant-loop-name : goal.invariant-loop-name
invariant-loop-name l = l.path.items ++ slashed (drop l.name-index l.names) ≡ l.initial.path.items ++ slashed l.names
