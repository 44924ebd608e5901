use Rattle.std.proofs.Common.{ℕ, List, ap, ◌∙◌}
use Rattle.std.specs.FinMap.{FinMap, from_entries}
use Rattle.vault_model.specs.Db.{NodeId, id_cmp}
use Rattle.vault_model.specs.SeenDoc.{doc_seen}
use Rattle.merge_details.specs.PathTables.{path_at}
use Rattle.merge_details.proofs.WalkedPaths.{paths_are}
use Rattle.merge_details.proofs.paths.paths_of.Goals as goal

pub returns : goal.returns
returns c =
    ap (λ (m : FinMap id_cmp (List ℕ)). path_at m) (c.in_ok-paths.ensures ∙ ap (λ (rows : List (NodeId × List ℕ)). from_entries rows) c.in_ok-rows.ensures)
    ∙ paths_are (doc_seen c.args.doc.now)
