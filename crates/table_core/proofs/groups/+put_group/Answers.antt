use Rattle.std.proofs.Common.{◌≡◌, ℕ, Bor, List, [], ◌∷◌, ◌++◌, refl, map, ap, ◌∙◌, rules}
use Rattle.table_core.proofs.GroupRows.{below_text, group_put, group_rows_text, one_group_more}
use Rattle.table_core.specs.Rows.{rows_in}
use Rattle.table_core.specs.Tables.{rows_text}
use Rattle.vault_model.specs.SeenNodes.{tree_seen}
use Rattle.vault_model.specs.declared.nodes.Group.{out-Group}
use Rattle.table_core.proofs.Puts.{Steps, put_end, put_more}
use Rattle.table_core.proofs.groups.+put_group.Goals as goal

pub returns : goal.returns
returns g t c =
    let laws : Steps g.O.TableSink.step = record { nothing = g.met.O.TableSink.nothing; joined = g.met.O.TableSink.joined } in
    let names = map (λ n. n.now) c.args.names.now in
    group_put laws names c.args.group.now _ _ c.as_slice.ensures c.as_slice-child-items.ensures c.in_ok-put_entries.ensures
    (put_end {whole = g.O.TableSink.step (g.O.TableSink.state c.put_entries.new.out) (group_rows_text names c.as_slice-child-items.result.now)}
    laws (group_rows_text names) refl c.as_slice-child-items.result.now c.loop-child.child-index c.loop-child-test.false c.loop-child.invariant)

pub loop-child-preserved : goal.loop-child-preserved
loop-child-preserved g t c =
    let laws : Steps g.O.TableSink.step = record { nothing = g.met.O.TableSink.nothing; joined = g.met.O.TableSink.joined } in
    let names = map (λ n. n.now) c.args.names.now in
    let child = c.child-item.result in
    let name : c.as_bytes-name.result.now ≡ (out-Group child).state.content.name = search rules in
    let below : map (λ (n : Bor (List ℕ)). n.now) c.as_slice-in-loop-child.result.now ≡ names ++ (out-Group child).state.content.name ∷ [] =
    ap (map (λ (n : Bor (List ℕ)). n.now)) c.as_slice-in-loop-child.ensures ∙ c.in_ok-below.ensures ∙ ap (λ (l : List ℕ). names ++ l ∷ []) name in
    put_more laws (group_rows_text names) (below_text names) (one_group_more names) _ _ _ c.loop-child-test.true c.child-item.is
    (c.in_ok-put_group.ensures ∙ ap (λ (ns : List (List ℕ)). g.O.TableSink.step (g.O.TableSink.state c.loop-child.out) (rows_text (rows_in ns (tree_seen child)))) below) c.loop-child.invariant
