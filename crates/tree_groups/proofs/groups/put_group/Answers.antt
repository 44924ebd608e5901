use Rattle.vault_model.specs.SeenNodes.{tree_seen}
use Rattle.tree_core.specs.Changes.{with_group}
use Rattle.tree_steps.proofs.InPlace.{put_of}
use Rattle.tree_groups.proofs.groups.put_group.Goals as goal

pub returns : goal.returns
returns c = put_of c.args.into (with_group (tree_seen c.args.group)) (tree_seen c.args.root.now) (tree_seen c.change_at.new.group) c.change_at.result c.change_at.ensures.none
