use Rattle.std.proofs.Common.{◌≡◌, ◌+◌}
use Rattle.std.specs.List.{sum_by}
use Rattle.vault_model.specs.Db.{NodeId, Versions}
use Rattle.cli_self_test.specs.SelfTest.{earlier_count}
use Rattle.cli_self_test.proofs.counting.history_in.Given as goal

-- how many earlier versions are in some rows
abbrev pub invariant-loop-versions : goal.invariant-loop-versions
invariant-loop-versions l =
    l.count + sum_by (λ (e : NodeId × Versions). earlier_count e.1) l.versions-iterator
    ≡ sum_by (λ (e : NodeId × Versions). earlier_count e.1) l.initial.versions-iterator
