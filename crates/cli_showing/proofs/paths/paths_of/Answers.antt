use Rattle.std.proofs.Common.{◌++◌, ap, codes, ◌∙◌}
use Rattle.std.specs.BTreeSet.{contains}
use Rattle.vault_model.specs.Db.{id_cmp}
use Rattle.vault_model.specs.SeenDoc.{doc_seen}
use Rattle.vault_model.specs.SeenNodes.{tree_seen}
use Rattle.cli_showing.specs.inside.Walking.{tree_lines}
use Rattle.cli_showing.proofs.WalkedPaths.{paths_walked}
use Rattle.cli_showing.proofs.paths.paths_of.Goals as goal

pub returns-in-Ok-appended : goal.returns-in-Ok-appended
returns-in-Ok-appended c =
    let is_found = contains id_cmp c.in_ok-set.set in
    c.in-Ok-appended.ensures
    ∙ ap (λ l. l ++ tree_lines is_found (codes "/") (tree_seen c.args.doc.now.root)) c.in-Ok.ensures.bytes
    ∙ paths_walked is_found c.args.ids.now (doc_seen c.args.doc.now) c.in_ok-set.ensures
