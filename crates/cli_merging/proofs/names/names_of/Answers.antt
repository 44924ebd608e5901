use Rattle.std.proofs.Common.{◌∙◌, ap}
use Rattle.vault_model.specs.SeenDoc.{doc_seen}
use Rattle.cli_merging.specs.Names.{name_at, with_tree}
use Rattle.cli_merging.proofs.NamedNodes.{names_are}
use Rattle.cli_merging.proofs.names.names_of.Goals as goal

pub returns : goal.returns
returns c =
    let doc = doc_seen c.args.doc.now in
    ap name_at (c.in_ok-put_group.ensures ∙ ap (with_tree doc.tree) c.new-names.ensures) ∙ names_are doc
