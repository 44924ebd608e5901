-- The entry that a path names, step by step.
use Rattle.std.specs.Prelude.{ℕ, List, Option}
use Rattle.std.specs.Option.{option_and_then}
use Rattle.tree_core.specs.Changes.{entry_at, holder}
use Rattle.tree_core.specs.Finding.{entry_found}
use Rattle.vault_model.specs.Db.{NodeId}
use Rattle.vault_model.specs.Shape.{EntryRecord}
use Rattle.vault_model.specs.Tree.{BareDoc}

-- The entry that a path names: the one of its id in the group that holds it.
abbrev pub entry_sought : List ℕ → BareDoc → Option (NodeId × EntryRecord)
entry_sought path doc = option_and_then (λ id. option_and_then
    (λ group. entry_at group id doc.tree) (holder id doc.tree)) (entry_found doc path)
