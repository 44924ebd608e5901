-- What is seen of entries, groups and documents in memory: the same as trees without memory.
use Rattle.std.specs.Prelude.{ℕ, Bool, List, ◌∷◌, map}
use Rattle.std.specs.List.{list_all}
use Rattle.vault_model.specs.declared.contents.Item.{Item}
use Rattle.vault_model.specs.declared.metas.Icon.{Icon}
use Rattle.vault_model.specs.declared.metas.Meta.{Meta}
use Rattle.vault_model.specs.declared.nodes.Entry.{Entry}
use Rattle.vault_model.specs.declared.nodes.Group.{Group}
use Rattle.vault_model.specs.declared.nodes.Group.TheFolds.{fold-Group}
use Rattle.vault_model.specs.declared.nodes.Group.TheOpen.{Group-F}
use Rattle.vault_model.specs.declared.nodes.Tombstone.{Tombstone}
use Rattle.vault_model.specs.declared.nodes.Version.{Version}
use Rattle.vault_model.specs.Db.{NodeId, greatest}
use Rattle.vault_model.specs.Proper.{is_proper_group_content, rises}
use Rattle.vault_model.specs.Seen.{bare_content}
use Rattle.vault_model.specs.Shape.{BareVersion, EntryRecord, GroupRecord}
use Rattle.vault_model.specs.Tree.{BareDoc, Tree, all_trees, entry_rows, group_rows, is_elsewhere, is_proper_entry, node}

-- a version: its mark, and how it was used
abbrev pub bare_version : Version → BareVersion
bare_version v = record {
  mark = record { modified = v.modified; content = bare_content v.content };
  stats = v.stats;
}

-- an entry without its id, with its versions so seen
abbrev pub entry_record : Entry → EntryRecord
entry_record e = record {
  placed = e.placed;
  previous = e.previous;
  current = bare_version e.current;
  history = map bare_version e.history;
}

-- the greatest modification time of an entry's versions, the current one and those before it
abbrev pub entry_time : EntryRecord → ℕ
entry_time e = greatest (map (λ (v : BareVersion). v.mark.modified) (e.current ∷ e.history))

-- an entry beside its id
abbrev pub entry_row : Entry → NodeId × EntryRecord
entry_row e = (e.id, entry_record e)

-- one group, with the tree of each group in it in that group's place
abbrev pub tree_step : Group-F Tree → Tree
tree_step g = node g.id
    (record { placed = g.placed; previous = g.previous; state = g.state; view = g.view })
    (map entry_row g.entries) (all_trees g.groups)

-- a group with all below it
abbrev pub tree_seen : Group → Tree
tree_seen = fold-Group Tree tree_step

-- the document of these parts
abbrev pub document_of : Meta → Group → List Tombstone → BareDoc
document_of meta root tombs = record { tree = tree_seen root; tombs = tombs; meta = meta }

-- ---- what every document keeps, of its parts

-- tombstones rise by id
abbrev pub tombs_rise : List Tombstone → Bool
tombs_rise = rises (λ (t : Tombstone). t.id)

-- no tombstone names a node
abbrev pub are_tombs_apart : Tree → List Tombstone → Bool
are_tombs_apart tree tombs = list_all (λ (t : Tombstone). is_elsewhere tree t.id) tombs

-- what each version of each entry says is in order
abbrev pub are_entries_proper : Tree → Bool
are_entries_proper tree = list_all (λ (r : NodeId × EntryRecord). is_proper_entry r.1)
    (entry_rows tree)

-- what each group says is in order
abbrev pub are_groups_proper : Tree → Bool
are_groups_proper tree = list_all (λ (r : NodeId
    × GroupRecord). is_proper_group_content r.1.state.content) (group_rows tree)

-- icons rise by id
abbrev pub icons_rise : List Icon → Bool
icons_rise = rises (λ (i : Icon). i.id)

-- custom items rise by key
abbrev pub items_rise : List Item → Bool
items_rise = rises (λ (i : Item). i.key)
