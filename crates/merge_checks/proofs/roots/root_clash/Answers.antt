-- The least that is found among all documents is the least clash.
use Rattle.std.proofs.Common.{◌∷◌, Bool, map, ap, ◌∙◌}
use Rattle.std.specs.List.{filter, flat_map}
use Rattle.vault_model.specs.Db.{NodeId}
use Rattle.vault_model.specs.SeenDoc.{doc_seen}
use Rattle.vault_model.specs.Tree.{BareDoc}
use Rattle.merge_core.specs.NodesBelow.{below_ids}
use Rattle.merge_core.specs.Marking.{is_marked}
use Rattle.merge_core.specs.Refusals.{least}
use Rattle.merge_checks.proofs.LeastClash.{docs_least}
use Rattle.merge_checks.proofs.roots.root_clash.Goals as goal

pub returns : goal.returns
returns c =
    let ds = doc_seen c.args.target.now ∷ map doc_seen c.args.sources.now in
    c.clash_in_docs.ensures ∙ docs_least (is_marked c.in_ok-roots.roots) ds
    ∙ ap (λ (f : NodeId → Bool). least (filter f (flat_map (λ (d : BareDoc). below_ids d.tree) ds))) (λ i u. c.in_ok-roots.ensures u i)
