use Rattle.std.proofs.Common.{refl, ◌∙◌}
use Rattle.vault_model.specs.SeenNodes.{tree_seen}
use Rattle.doc_resolving.proofs.Burials.{tombs_left}
use Rattle.doc_resolving.proofs.resolving.node_parts.Goals as goal

pub returns-clause-tombs : goal.returns-clause-tombs
returns-clause-tombs c =
    let tombs = c.args.tombs.now in
    c.in_ok-tombs.ensures ∙ tombs_left (tree_seen c.args.root.now) tombs tombs c.in_ok-ids.ids.ids c.in_ok-ids.ensures.ids refl
