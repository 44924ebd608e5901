use Rattle.std.proofs.Common.{◌≡◌, drop, map}
use Rattle.vault_model.specs.SeenNodes.{tree_seen}
use Rattle.vault_model.specs.Tree.{all_trees}
use Rattle.table_core.specs.Rows.{rows_among}
use Rattle.table_core.specs.Tables.{rows_text}
use Rattle.table_core.proofs.groups.+put_group.Given as goal

abbrev pub invariant-loop-child : goal.invariant-loop-child
invariant-loop-child g l =
    g.O.TableSink.step (g.O.TableSink.state l.out) (rows_text (rows_among (map (λ n. n.now) l.names) (all_trees (map tree_seen (drop l.child-index l.child-items)))))
    ≡ g.O.TableSink.step (g.O.TableSink.state l.initial.out) (rows_text (rows_among (map (λ n. n.now) l.names) (all_trees (map tree_seen l.child-items))))
