use Rattle.std.proofs.Common.{List, ap, ◌∙◌}
use Rattle.std.specs.FinMap.{FinMap, from_entries, get, get-from_entries}
use Rattle.vault_model.specs.Db.{NodeId, id_cmp}
use Rattle.vault_model.specs.SeenDoc.{doc_seen}
use Rattle.vault_model.specs.Shape.{EntryRecord}
use Rattle.vault_model.specs.Tree.{entry_rows}
use Rattle.vault_model.proofs.Orders.{id_order}
use Rattle.merge_details.proofs.entries.entries_of.Goals as goal

pub returns : goal.returns
returns c =
    ap (λ (m : FinMap id_cmp EntryRecord). get m) (c.in_ok-entries.ensures ∙ ap (λ (rows : List (NodeId × EntryRecord)). from_entries rows) c.in_ok-rows.ensures)
    ∙ (λ i id. get-from_entries id_order.total (entry_rows (doc_seen c.args.doc.now).tree) id i)
