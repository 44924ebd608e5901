-- Read into nothing, the document has the columns of its database.
use Rattle.std.proofs.Common.{◌≡◌, ap, sym, ◌∙◌}
use Rattle.std.specs.FinMap.{empty}
use Rattle.vault_model.specs.SeenDoc.{doc_seen}
use Rattle.vault_model.specs.Db.{NodeId}
use Rattle.vault_model.specs.SeenNodes.{tree_seen}
use Rattle.vault_model.specs.Tree.{rooted, with_id, with_previous}
use Rattle.merge_reading.specs.declared.reading.Columns.{Columns}
use Rattle.merge_reading.specs.Columns.{with_tree}
use Rattle.merge_reading.proofs.ReadColumns.{columns_read}
use Rattle.merge_reading.proofs.SeenRoots.{seen_id}
use Rattle.merge_reading.proofs.reading.columns_of.Goals as goal

pub returns : goal.returns
returns c =
    let d = rooted (doc_seen c.args.doc.now) c.args.root in
    let begun : Columns = record { entries = c.new.result; groups = c.new-2.result; places = c.new-3.result } in
    let none : Columns = record { entries = empty; groups = empty; places = empty } in
    let same : begun ≡ none = λ i. record { entries = c.new.ensures i; groups = c.new-2.ensures i; places = c.new-3.ensures i } in
    let root = c.args.doc.now.root in
    let all =
    c.in_ok-read_group.ensures
    ∙ ap (λ (u : NodeId). with_tree (with_id c.args.root (with_previous u c.args.root (tree_seen root))) begun) (sym (seen_id root))
    ∙ ap (with_tree d.tree) same ∙ columns_read d c.requires in
    (ap (λ (x : Columns). x.entries) all, (ap (λ (x : Columns). x.groups) all, ap (λ (x : Columns). x.places) all))
