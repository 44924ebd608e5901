-- Names of groups in memory.
use Rattle.std.proofs.Common.{◌≡◌, ap}
use Rattle.vault_model.proofs.SeenGroups.{seen_group}
use Rattle.vault_model.specs.declared.nodes.Group.{Group, out-Group}
use Rattle.vault_model.specs.SeenNodes.{tree_seen}
use Rattle.vault_model.specs.Walk.{name_of}

pub seen_name : (g : Group) → name_of (tree_seen g) ≡ (out-Group g).state.content.name
seen_name g = ap name_of (seen_group g)
