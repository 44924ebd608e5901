use Rattle.std.proofs.Common.{refl, ap, ◌∙◌}
use Rattle.vault_model.specs.SeenNodes.{tree_seen}
use Rattle.doc_forms.specs.Ids.{tombs_of}
use Rattle.doc_resolving.proofs.resolving.parts_of.Goals as goal

pub returns-in-Ok : goal.returns-in-Ok
returns-in-Ok c =
    record {
      root = refl;
      duplicate = c.in-Ok.ensures.duplicate;
      missing = refl;
      tombs_are = c.in-Ok.ensures.tombs ∙ ap (tombs_of (tree_seen c.args.tree.root)) c.as_slice.ensures;
    }
