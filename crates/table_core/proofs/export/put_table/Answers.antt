use Rattle.std.proofs.Common.{◌≡◌, List, ℕ, [], ◌∷◌, ◌++◌, subst, sym, ◌∙◌}
use Rattle.std.specs.Prelude.{OnOk}
use Rattle.vault_model.specs.SeenNodes.{tree_seen}
use Rattle.vault_model.specs.declared.nodes.Group.{Group}
use Rattle.table_core.specs.Rows.{header, rows_in}
use Rattle.table_core.specs.Tables.{row_of, rows_text}
use Rattle.table_core.proofs.GroupRows.{name_seen}
use Rattle.table_core.proofs.Puts.{Steps, last}
use Rattle.table_core.proofs.export.put_table.Goals as goal

pub returns : goal.returns
returns g c =
    let laws : Steps g.O.TableSink.step = record { nothing = g.met.O.TableSink.nothing; joined = g.met.O.TableSink.joined } in
    let root : Group = c.args.doc.now.root in
    subst (λ (name : List ℕ). OnOk c.put_group.result (g.O.TableSink.state c.put_group.new.out
    ≡ g.O.TableSink.step (g.O.TableSink.state c.args.out.now) (row_of header ++ rows_text (rows_in (name ∷ []) (tree_seen root)))))
    (c.as_bytes-name.ensures.value ∙ c.as_str.ensures ∙ sym (name_seen root))
    (last laws (row_of header) _ _ _ c.in_ok-put_header.ensures c.put_group.ensures)
