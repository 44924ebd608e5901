use Rattle.std.proofs.Common.{◌≡◌, drop, map}
use Rattle.std.specs.Prelude.{flat_map}
use Rattle.vault_model.specs.Walk.{slashed}
use Rattle.table_core.specs.Tables.{doubled}
use Rattle.table_core.proofs.rows.put_slashed.Given as goal

abbrev pub invariant-loop-name : goal.invariant-loop-name
invariant-loop-name g l =
    g.O.TableSink.step (g.O.TableSink.state l.out) (flat_map doubled (slashed (map (λ n. n.now) (drop l.name-index l.names))))
    ≡ g.O.TableSink.step (g.O.TableSink.state l.initial.out) (flat_map doubled (slashed (map (λ n. n.now) l.names)))
