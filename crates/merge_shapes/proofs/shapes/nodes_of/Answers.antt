-- Put into nothing, the document has the tables of its shape.
use Rattle.std.proofs.Common.{◌≡◌, ap, ◌∙◌}
use Rattle.std.specs.FinMap.{empty}
use Rattle.vault_model.specs.SeenDoc.{doc_seen}
use Rattle.merge_shapes.specs.declared.nodes.NodeTables.{NodeTables}
use Rattle.merge_shapes.specs.NodeTables.{with_nodes}
use Rattle.merge_shapes.proofs.OwnShape.{is_doc}
use Rattle.merge_shapes.proofs.PutNodes.{nodes_put}
use Rattle.merge_shapes.proofs.shapes.nodes_of.Goals as goal

pub returns-in-Ok : goal.returns-in-Ok
returns-in-Ok c =
    let d = doc_seen c.args.doc.now in
    let begun : NodeTables = record { entries = c.new.result; groups = c.new-2.result; children = c.new-3.result } in
    let none : NodeTables = record { entries = empty; groups = empty; children = empty } in
    let same : begun ≡ none = λ i. record { entries = c.new.ensures i; groups = c.new-2.ensures i; children = c.new-3.ensures i } in
    let all = c.in-Ok.ensures ∙ ap (with_nodes d.tree) same ∙ nodes_put d (is_doc c.args.doc.now) in
    (ap (λ (x : NodeTables). x.entries) all, (ap (λ (x : NodeTables). x.groups) all, ap (λ (x : NodeTables). x.children) all))
