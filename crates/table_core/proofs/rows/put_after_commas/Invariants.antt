use Rattle.std.proofs.Common.{◌≡◌, drop, map}
use Rattle.table_core.specs.Tables.{after_commas}
use Rattle.table_core.proofs.rows.put_after_commas.Given as goal

abbrev pub invariant-loop-field : goal.invariant-loop-field
invariant-loop-field g l =
    g.O.TableSink.step (g.O.TableSink.state l.out) (after_commas (map (λ f. f.now) (drop l.field-index l.fields)))
    ≡ g.O.TableSink.step (g.O.TableSink.state l.initial.out) (after_commas (map (λ f. f.now) l.fields))
