use Rattle.std.proofs.Common.{◌≡◌, drop}
use Rattle.std.specs.Prelude.{flat_map}
use Rattle.table_core.specs.Tables.{doubled}
use Rattle.table_core.proofs.rows.put_doubled.Given as goal

abbrev pub invariant-loop-byte : goal.invariant-loop-byte
invariant-loop-byte g l =
    g.O.TableSink.step (g.O.TableSink.state l.out) (flat_map doubled (drop l.byte-index l.field))
    ≡ g.O.TableSink.step (g.O.TableSink.state l.initial.out) (flat_map doubled l.field)
