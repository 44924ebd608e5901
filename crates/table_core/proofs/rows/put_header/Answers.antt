use Rattle.table_core.proofs.Puts.{Steps, before, last}
use Rattle.table_core.proofs.rows.put_header.Goals as goal

pub returns : goal.returns
returns g c =
    let laws : Steps g.O.TableSink.step = record { nothing = g.met.O.TableSink.nothing; joined = g.met.O.TableSink.joined } in
    last laws _ _ _ _ (before laws _ _ c.in_ok-put_quoted.ensures c.in_ok-put_after_commas.ensures) c.put.ensures
