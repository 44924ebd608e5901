-- A run of commands on copies of the example's first document: an entry is added on one copy and a
-- group on another, and a third becomes a copy of the first.
use Rattle.std.specs.Prelude.{List, [], ◌∷◌, None, codes}
use Rattle.vault_model.specs.Db.{NodeId}
use Rattle.vault_model.specs.Empty.{new_group}
use Rattle.vault_model.specs.Tree.{BareDoc, node, none}
use Rattle.merge_core.specs.Example.{as_it_was, id, root}
use Rattle.tree_core.specs.Changes.{changed_at, with_entry, with_group}
use Rattle.tree_core.specs.NewNodes.{GivenValues, new_entry, new_fields}
use Rattle.typed_runs.specs.TypedRuns.{TypedEvent, add, copied, make_group, typed}

-- the id of the new entry
abbrev pub shop : NodeId
shop = id 7

-- the id of the new group
abbrev pub trips : NodeId
trips = id 8

-- no value is given
abbrev pub no_values : GivenValues
no_values = record {
  title = None;
  user = None;
  password = None;
  url = None;
  notes = None;
  otp = None;
}

-- the first copy with the entry
abbrev pub with_shop : BareDoc
with_shop = record as_it_was {
  tree = changed_at root (with_entry (
    shop,
    new_entry (new_fields as_it_was.meta.settings.value.protect (codes "Shop") no_values) 50,
  )) as_it_was.tree;
}

-- the second copy with the group
abbrev pub with_trips : BareDoc
with_trips = record as_it_was {
  tree = changed_at root (with_group (node trips (new_group (codes "Trips") 60) [] none))
      as_it_was.tree;
}

-- what is done
abbrev pub example_run : List TypedEvent
example_run = typed 0 (add (codes "Shop") shop no_values 50) with_shop
    ∷ typed 1 (make_group (codes "Trips") trips 60) with_trips
    ∷ copied 2 0 ∷ []
