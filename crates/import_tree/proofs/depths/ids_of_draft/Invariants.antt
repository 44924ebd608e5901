use Rattle.std.proofs.Common.{◌≡◌, ◌++◌}
use Rattle.import_tree.specs.Outcome.{groups_below}
use Rattle.import_tree.specs.SeenBranches.{all_deep, all_ids, all_steps}
use Rattle.import_tree.specs.SeenDrafts.{draft_seen}
use Rattle.vault_model.specs.Tree.{node_ids}
use Rattle.import_tree.proofs.depths.ids_of_draft.Given as goal

-- what is found, with what is left, is all
abbrev pub invariant-loop-branch : goal.invariant-loop-branch
invariant-loop-branch l = record {
  ids : node_ids (draft_seen l.draft).tree ≡ l.found.ids.items ++ all_ids l.found.branches.items;
  deep : groups_below 128 (draft_seen l.draft).tree ≡ l.found.deep.items ++ all_deep l.found.branches.items;
}

-- the branches that are left take fewer steps
abbrev pub decreases-loop-branch : goal.decreases-loop-branch
decreases-loop-branch l = all_steps l.found.branches.items
