use Rattle.std.specs.Prelude.{map}
use Rattle.vault_model.specs.SeenNodes.{bare_version, tree_seen}
use Rattle.vault_model.specs.Shape.{EntryRecord}
use Rattle.tree_core.specs.Changes.{changed_entry}
use Rattle.tree_steps.proofs.InPlace.{always_of}
use Rattle.tree_steps.proofs.entries.set_versions.Goals as goal

pub returns : goal.returns
returns c =
    always_of c.args.group (changed_entry c.args.id (λ (e : EntryRecord). record e { current = bare_version c.args.current; history = map bare_version c.args.history }))
    (tree_seen c.args.root.now) (tree_seen c.change_at.new.group) c.change_at.result c.change_at.ensures.none
