-- The least version of a KDBX file in which nothing of a document is lost: the latest version that
-- any part of it needs.
use Rattle.std.specs.Prelude.{ℕ, ◌==◌, Bool, true, false, not, ◌||◌, if◌then◌else◌, List, [], ◌∷◌}
use Rattle.std.specs.List.{list_any}
use Rattle.vault_model.specs.declared.contents.Item.{Item}
use Rattle.vault_model.specs.declared.forms.FileVersion.{FileVersion}
use Rattle.vault_model.specs.declared.forms.FileVersion.TheVariants.{V31, V40, V41}
use Rattle.vault_model.specs.declared.metas.Icon.{Icon}
use Rattle.vault_model.specs.declared.metas.Meta.{Meta}
use Rattle.vault_model.specs.Bare.{BareContent}
use Rattle.vault_model.specs.Db.{NodeId, nil_id}
use Rattle.vault_model.specs.Join.{is_id}
use Rattle.vault_model.specs.Shape.{BareVersion, EntryRecord, GroupRecord}
use Rattle.vault_model.specs.Tree.{BareDoc, Tree, Trees, beside, node, none}

-- the later of two versions
abbrev pub later : FileVersion → FileVersion → FileVersion
later V31 w = w
later V40 V31 = V40
later V40 V40 = V40
later V40 V41 = V41
later V41 w = V41

-- the latest of what some things need
abbrev pub latest_needed : {A : Type 0} → (A → FileVersion) → List A → FileVersion
latest_needed need [] = V31
latest_needed need (x ∷ xs) = later (need x) (latest_needed need xs)

-- a text that is not empty
abbrev pub is_filled : List ℕ → Bool
is_filled [] = false
is_filled (b ∷ bs) = true

-- 4.1 where something is there that is kept from 4.1 on, and otherwise the oldest version
abbrev pub newest_if : Bool → FileVersion
newest_if is_there = if is_there then V41 else V31

-- a time that is not 0
abbrev pub is_after_zero : ℕ → Bool
is_after_zero time = not (time == 0)

-- an item's time is kept from 4.1 on
abbrev pub has_item_time : Item → Bool
has_item_time i = is_after_zero i.changed

-- the items of groups and entries are kept from 4.0 on, and their times from 4.1 on
abbrev pub items_need : List Item → FileVersion
items_need [] = V31
items_need (i ∷ is) = if list_any has_item_time (i ∷ is) then V41 else V40

-- a previous parent is kept from 4.1 on
abbrev pub previous_needs : NodeId → FileVersion
previous_needs previous = newest_if (not (is_id previous nil_id))

-- a version: that it does not count in reports is kept from 4.1 on; and its items
abbrev pub version_needs : BareVersion → FileVersion
version_needs v = later (newest_if (not v.mark.content.quality)) (items_need v.mark.content.items)

-- where an entry was, and all its versions
abbrev pub entry_needs : NodeId × EntryRecord → FileVersion
entry_needs e = later (previous_needs e.1.previous)
    (later (version_needs e.1.current) (latest_needed version_needs e.1.history))

-- where a group was, and what it says of itself: its tags are kept from 4.1 on
abbrev pub group_needs : GroupRecord → FileVersion
group_needs g = later (previous_needs g.previous)
    (later (newest_if (is_filled g.state.content.tags)) (items_need g.state.content.items))

-- a group with all below it
abbrev mutual
  pub tree_needs : Tree → FileVersion
  tree_needs (node u g es ts) =
      later (group_needs g) (later (latest_needed entry_needs es) (trees_need ts))

  -- the same of groups side by side
  pub trees_need : Trees → FileVersion
  trees_need none = V31
  trees_need (beside t ts) = later (tree_needs t) (trees_need ts)

-- the name and the time of an icon are kept from 4.1 on
abbrev pub icon_needs : Icon → FileVersion
icon_needs i = newest_if (is_filled i.name || is_after_zero i.changed)

-- what a database says of itself: its icons, and the times of its items; items without a time are
-- kept in every version
abbrev pub meta_needs : Meta → FileVersion
meta_needs m = later (latest_needed icon_needs m.icons)
    (newest_if (list_any has_item_time m.items))

-- the version that a document needs
unfoldable pub needed_version : BareDoc → FileVersion
needed_version d = later (tree_needs d.tree) (meta_needs d.meta)
