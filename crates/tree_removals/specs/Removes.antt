-- What a call answers that removes a node.
use Rattle.std.specs.Prelude.{◌≡◌, ◌⊎◌, ℕ, Result, Ok, Err, MatchResult}
use Rattle.vault_model.specs.Db.{NodeId}
use Rattle.vault_model.specs.Tree.{BareDoc, Tree, id_of}
use Rattle.tree_core.specs.declared.fails.Removed.{Removed}
use Rattle.tree_core.specs.declared.fails.TreeFail.{TreeFail}
use Rattle.tree_core.specs.declared.fails.TreeFail.TheVariants.{NoMemory}
use Rattle.tree_core.specs.After.{AfterRemoval}
use Rattle.tree_core.specs.Changes.{changed_at, with_group}
use Rattle.tree_core.specs.NewNodes.{empty_bin}

-- A call that removes a node: the document is the defined one, and the answer is what became of the
-- node; or the document is as before, and the answer is the defined refusal, or that memory ran out.
abbrev pub Removes : Result AfterRemoval TreeFail → Result Removed TreeFail → BareDoc → BareDoc
    → Type 0
Removes after result old new =
    MatchResult result (λ removed. after ≡ Ok (record { removed = removed; doc = new }))
    (λ e. (new ≡ old) × ((after ≡ Err e) ⊎ (e ≡ NoMemory)))

-- a tree with a new bin as the last group of its root
abbrev pub with_bin_in : NodeId → ℕ → Tree → Tree
with_bin_in id now t = changed_at (id_of t) (with_group (empty_bin id now)) t
