-- What is read of a document with the bytes of its attachments in place of where they were found,
-- and a document as it is read so.
use Rattle.std.specs.Prelude.{ℕ, Bool, Option, Some, None, List, [], map, option_map}
use Rattle.vault_model.specs.Bare.{BareAttachment}
use Rattle.vault_model.specs.Db.{NodeId}
use Rattle.vault_model.specs.Shape.{BareVersion, EntryRecord}
use Rattle.vault_model.specs.Tree as vault
use Rattle.vault_model.specs.Tree.{Tree, Trees}
use Rattle.doc_forms.specs.Attachments.{binary_of}
use Rattle.doc_forms.specs.Documents.{RootParts, FileParts}
use Rattle.doc_forms.specs.Entries.{ReadSource, own_bytes, pool_number, ReadAttachment, ReadVersion, ReadEntry, EntryParts}
use Rattle.doc_forms.specs.Groups.{ReadTree, ReadTrees, node, none, beside, GroupParts}
use Rattle.doc_forms.specs.Metas.{ReadBinary}

-- ---- with bytes

-- the bytes of a number's binary, where there is one
abbrev pub source_of : ℕ → Option ReadBinary → ReadSource
source_of n None = pool_number 0 n
source_of n (Some b) = own_bytes b.bytes

-- whether a number's binary is hidden, where there is one
abbrev pub hidden_of : Bool → Option ReadBinary → Bool
hidden_of h None = h
hidden_of h (Some b) = b.hidden

-- where the bytes of an attachment are, with those of a pool at hand
abbrev pub source_with : List ReadBinary → ReadSource → ReadSource
source_with pool (own_bytes bytes) = own_bytes bytes
source_with pool (pool_number offset n) = source_of n (binary_of pool n)

-- whether they are hidden
abbrev pub hidden_with : List ReadBinary → ReadSource → Bool → Bool
hidden_with pool (own_bytes bytes) h = h
hidden_with pool (pool_number offset n) h = hidden_of h (binary_of pool n)

-- an attachment
abbrev pub attachment_with : List ReadBinary → ReadAttachment → ReadAttachment
attachment_with pool a = record {
  name = a.name;
  source = source_with pool a.source;
  hidden = hidden_with pool a.source a.hidden;
}

-- a version
abbrev pub version_with : List ReadBinary → ReadVersion → ReadVersion
version_with pool v = record v { attachments = map (attachment_with pool) v.attachments }

-- an entry
abbrev pub entry_with : List ReadBinary → ReadEntry → ReadEntry
entry_with pool e = record e {
  current = version_with pool e.current;
  history = map (version_with pool) e.history;
}

-- what is known of an entry
abbrev pub entry_parts_with : List ReadBinary → EntryParts → EntryParts
entry_parts_with pool p = record p {
  attachments = map (attachment_with pool) p.attachments;
  history = map (version_with pool) p.history;
}

abbrev mutual
  -- a group with all below it
  pub tree_with : List ReadBinary → ReadTree → ReadTree
  tree_with pool (node u r es ts) = node u r (map (entry_with pool) es) (trees_with pool ts)

  -- groups side by side
  pub trees_with : List ReadBinary → ReadTrees → ReadTrees
  trees_with pool none = none
  trees_with pool (beside t ts) = beside (tree_with pool t) (trees_with pool ts)

-- what is known of a group
abbrev pub group_parts_with : List ReadBinary → GroupParts → GroupParts
group_parts_with pool p = record p {
  entries = map (entry_with pool) p.entries;
  groups = trees_with pool p.groups;
}

-- what is known of `Root`
abbrev pub root_parts_with : List ReadBinary → RootParts → RootParts
root_parts_with pool p = record p { tree = option_map (tree_with pool) p.tree }

-- what is known of `KeePassFile`
abbrev pub file_parts_with : List ReadBinary → FileParts → FileParts
file_parts_with pool p = record p { root = option_map (root_parts_with pool) p.root }

-- ---- as they are read

-- an attachment with its own bytes
abbrev pub own_attachment : BareAttachment → ReadAttachment
own_attachment a = record { name = a.name; source = own_bytes a.bytes; hidden = a.hidden }

-- a version
abbrev pub own_version : BareVersion → ReadVersion
own_version v = record {
  modified = v.mark.modified;
  content = record v.mark.content { attachments = [] };
  attachments = map own_attachment v.mark.content.attachments;
  stats = v.stats;
}

-- an entry
abbrev pub own_entry : NodeId × EntryRecord → ReadEntry
own_entry e = record {
  id = e.0;
  placed = e.1.placed;
  previous = e.1.previous;
  current = own_version e.1.current;
  history = map own_version e.1.history;
}

abbrev mutual
  -- a group with all below it
  pub own_tree : Tree → ReadTree
  own_tree (vault.node u r es ts) = node u r (map own_entry es) (own_trees ts)

  -- groups side by side
  pub own_trees : Trees → ReadTrees
  own_trees vault.none = none
  own_trees (vault.beside t ts) = beside (own_tree t) (own_trees ts)
