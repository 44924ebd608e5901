use Rattle.vault_model.specs.SeenNodes.{bare_version}
use Rattle.tree_contents.proofs.Places.{inserted_seen}
use Rattle.tree_edits.proofs.histories.insert_copy.Goals as goal

pub returns : goal.returns
returns c =
    inserted_seen bare_version c.args.versions.now c.insert_at.new.list c.args.at c.in_ok-copy.copy (bare_version c.args.version.now) c.insert_at.result
    c.in_ok-copy.ensures c.insert_at.ensures
