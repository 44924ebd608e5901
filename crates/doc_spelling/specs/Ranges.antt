-- What the types of a document say of its numbers, ids and bytes, which are plain numbers and lists
-- where memory is not seen; and how many nodes a document has.
use Rattle.std.specs.Prelude.{◌≡◌, ℕ, ◌+◌, ◌==◌, ◌≤◌, nat_lt, nat_le, Bool, true, ◌&&◌, Option, Some, None, List, [], ◌∷◌, length, ℤ, pos, negsuc, int_le}
use Rattle.std.specs.List.{list_all}
use Rattle.time_core.specs.Times.{last_stamp}
use Rattle.vault_model.specs.Bare.{BareAttachment, BareContent}
use Rattle.vault_model.specs.Db.{NodeId}
use Rattle.vault_model.specs.Shape.{BareVersion, EntryRecord, GroupRecord}
use Rattle.vault_model.specs.Tree.{Tree, Trees, BareDoc, node, none, beside}
use Rattle.vault_model.specs.declared.contents.Item.{Item}
use Rattle.vault_model.specs.declared.metas.Icon.{Icon}
use Rattle.vault_model.specs.declared.metas.Meta.{Meta}
use Rattle.vault_model.specs.declared.metas.MetaSettings.{MetaSettings}
use Rattle.vault_model.specs.declared.nodes.Tombstone.{Tombstone}
use Rattle.doc_forms.specs.declared.times.Times.{Times}
use Rattle.doc_spelling.specs.Entries.{version_times}
use Rattle.doc_spelling.specs.Groups.{group_times}
use Rattle.doc_spelling.specs.Pool.{pool_of}

-- ---- numbers and bytes

-- a time of the years 1 to 9999
abbrev pub is_stamp : ℕ → Bool
is_stamp seconds = nat_le seconds last_stamp

-- a number of 32 bits
abbrev pub fits_u32 : ℕ → Bool
fits_u32 n = nat_lt n 4294967296

-- a number of 64 bits
abbrev pub fits_u64 : ℕ → Bool
fits_u64 n = nat_lt n 18446744073709551616

-- a number of 32 bits with a sign
abbrev pub fits_i32 : ℤ → Bool
fits_i32 z = int_le (negsuc 2147483647) z && int_le z (pos 2147483647)

-- a number of 64 bits with a sign
abbrev pub fits_i64 : ℤ → Bool
fits_i64 z = int_le (negsuc 9223372036854775807) z && int_le z (pos 9223372036854775807)

-- each is a byte
unfoldable pub are_bytes : List ℕ → Bool
are_bytes bytes = list_all (λ b. nat_lt b 256) bytes

-- so many bytes
abbrev pub is_array : ℕ → List ℕ → Bool
is_array n bytes = length bytes == n && are_bytes bytes

-- the 16 bytes of an id
abbrev pub is_uuid : NodeId → Bool
is_uuid u = is_array 16 u

-- an id, where there is one
abbrev pub is_uuid_or_none : Option NodeId → Bool
is_uuid_or_none None = true
is_uuid_or_none (Some u) = is_uuid u

-- the 32 bytes of a hash, where there is one
abbrev pub is_hash_or_none : Option (List ℕ) → Bool
is_hash_or_none None = true
is_hash_or_none (Some hash) = is_array 32 hash

-- ---- entries and groups

-- times
abbrev pub fits_times : Times → Bool
fits_times t =
    is_stamp t.modified && is_stamp t.created && is_stamp t.accessed && is_stamp t.expiry
    && fits_u64 t.usage && is_stamp t.placed

-- a custom item
abbrev pub fits_item : Item → Bool
fits_item i = is_stamp i.changed

-- an attachment
abbrev pub fits_attachment : BareAttachment → Bool
fits_attachment a = are_bytes a.bytes

-- what a version says, but for its times
abbrev pub fits_content : BareContent → Bool
fits_content c =
    fits_u32 c.icon && is_uuid_or_none c.custom_icon && list_all fits_attachment c.attachments
    && fits_u32 c.auto_type.obfuscation && list_all fits_item c.items

-- a version of an entry
abbrev pub fits_version : EntryRecord → BareVersion → Bool
fits_version e v = fits_content v.mark.content && fits_times (version_times e v)

-- an entry
abbrev pub fits_entry : NodeId × EntryRecord → Bool
fits_entry e =
    is_uuid e.0 && is_uuid e.1.previous && fits_version e.1 e.1.current
    && list_all (fits_version e.1) e.1.history

-- a group without its entries and groups
abbrev pub fits_record : NodeId → GroupRecord → Bool
fits_record u r =
    is_uuid u && is_uuid r.previous && fits_u32 r.state.content.icon
    && is_uuid_or_none r.state.content.custom_icon && fits_times (group_times r)
    && is_uuid r.view.top_entry && list_all fits_item r.state.content.items

abbrev mutual
  -- a group with all below it
  pub fits_tree : Tree → Bool
  fits_tree (node u r es ts) = fits_record u r && list_all fits_entry es && fits_trees ts

  -- groups side by side
  pub fits_trees : Trees → Bool
  fits_trees none = true
  fits_trees (beside t ts) = fits_tree t && fits_trees ts

-- ---- databases and documents

-- an icon
abbrev pub fits_icon : Icon → Bool
fits_icon i = is_uuid i.id && are_bytes i.bytes && is_stamp i.changed

-- the settings
abbrev pub fits_settings : MetaSettings → Bool
fits_settings s =
    fits_u32 s.days && fits_i64 s.key_rec && fits_i64 s.key_force && fits_i32 s.history_items
    && fits_i64 s.history_size

-- when a database's values were changed
abbrev pub fits_changes : Meta → Bool
fits_changes m =
    is_stamp m.settings.changed && is_stamp m.name.changed && is_stamp m.description.changed
    && is_stamp m.user.changed && is_stamp m.view.key_changed && is_stamp m.bin.changed
    && is_stamp m.templates.changed

-- the ids of groups that a database names
abbrev pub fits_places : Meta → Bool
fits_places m =
    is_uuid m.bin.value.id && is_uuid m.templates.value && is_uuid m.view.last_group
    && is_uuid m.view.last_top

-- what a document says of its database
abbrev pub fits_meta : Meta → Bool
fits_meta m =
    fits_changes m && fits_settings m.settings.value && fits_places m
    && list_all fits_icon m.icons && list_all fits_item m.items

-- a tombstone
abbrev pub fits_tomb : Tombstone → Bool
fits_tomb t = is_uuid t.id && is_stamp t.deleted

-- a document
abbrev pub fits_doc : BareDoc → Bool
fits_doc d = fits_tree d.tree && list_all fits_tomb d.tombs && fits_meta d.meta

-- ---- how many nodes

-- the sum of what each of some things counts
abbrev pub count_all : {A : Type 0} → (A → ℕ) → List A → ℕ
count_all count [] = 0
count_all count (x ∷ xs) = count x + count_all count xs

-- an entry and its history items
abbrev pub entry_nodes : NodeId × EntryRecord → ℕ
entry_nodes e = 1 + length e.1.history

abbrev mutual
  -- groups, entries and history items
  pub tree_nodes : Tree → ℕ
  tree_nodes (node u r es ts) = 1 + (count_all entry_nodes es + trees_nodes ts)

  -- the same of groups side by side
  pub trees_nodes : Trees → ℕ
  trees_nodes none = 0
  trees_nodes (beside t ts) = tree_nodes t + trees_nodes ts

-- A document that may be written: its parts are in the ranges of their types, it has no more nodes
-- than a document may have, and each number in its pool is one of 64 bits.
pub record IsWritable (d : BareDoc) : Type 0 where
  pub fits : fits_doc d ≡ true
  pub nodes : tree_nodes d.tree ≤ 262144
  pub pool : length (pool_of d) ≤ 18446744073709551616
