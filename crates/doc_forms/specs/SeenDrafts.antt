-- What is seen of the parts of a document in memory: the same without memory.
use Rattle.std.specs.Prelude.{List, [], ◌∷◌, map, option_map}
use Rattle.vault_model.specs.Seen.{bare_content}
use Rattle.doc_forms.specs.declared.drafts.AttachmentDraft.{AttachmentDraft}
use Rattle.doc_forms.specs.declared.drafts.Binary.{Binary}
use Rattle.doc_forms.specs.declared.drafts.EntryDraft.{EntryDraft}
use Rattle.doc_forms.specs.declared.drafts.FileBuilder.{FileBuilder}
use Rattle.doc_forms.specs.declared.drafts.GroupBuilder.{GroupBuilder}
use Rattle.doc_forms.specs.declared.drafts.GroupDraft.{GroupDraft}
use Rattle.doc_forms.specs.declared.drafts.GroupDraft.TheFolds.{fold-GroupDraft}
use Rattle.doc_forms.specs.declared.drafts.GroupDraft.TheOpen.{GroupDraft-F}
use Rattle.doc_forms.specs.declared.drafts.MetaBuilder.{MetaBuilder}
use Rattle.doc_forms.specs.declared.drafts.RootBuilder.{RootBuilder}
use Rattle.doc_forms.specs.declared.drafts.SourceDraft.{SourceDraft}
use Rattle.doc_forms.specs.declared.drafts.SourceDraft.TheVariants.{OwnBytes, PoolNumber}
use Rattle.doc_forms.specs.declared.drafts.VersionDraft.{VersionDraft}
use Rattle.doc_forms.specs.Documents.{RootParts, FileParts}
use Rattle.doc_forms.specs.Entries.{ReadSource, own_bytes, pool_number, ReadAttachment, ReadVersion, ReadEntry}
use Rattle.doc_forms.specs.Groups.{ReadTree, ReadTrees, node, none, beside, GroupParts}
use Rattle.doc_forms.specs.Metas.{ReadBinary, MetaParts}

-- where an attachment's bytes are
abbrev pub source_seen : SourceDraft → ReadSource
source_seen (OwnBytes bytes) = own_bytes bytes.value.bytes
source_seen (PoolNumber offset number) = pool_number offset number

-- an attachment
abbrev pub attachment_seen : AttachmentDraft → ReadAttachment
attachment_seen a = record { name = a.name; source = source_seen a.source; hidden = a.hidden }

-- a version
abbrev pub version_seen : VersionDraft → ReadVersion
version_seen v = record {
  modified = v.version.modified;
  content = bare_content v.version.content;
  attachments = map attachment_seen v.attachments;
  stats = v.version.stats;
}

-- an entry
abbrev pub entry_seen : EntryDraft → ReadEntry
entry_seen e = record {
  id = e.id;
  placed = e.placed;
  previous = e.previous;
  current = version_seen e.current;
  history = map version_seen e.history.items;
}

-- some trees side by side
abbrev pub side_by_side : List ReadTree → ReadTrees
side_by_side [] = none
side_by_side (t ∷ ts) = beside t (side_by_side ts)

-- one group, with the tree of each group in it in that group's place
abbrev pub draft_step : GroupDraft-F ReadTree → ReadTree
draft_step g =
    node g.id
    (record { placed = g.placed; previous = g.previous; state = g.state; view = g.view })
    (map entry_seen g.entries.items) (side_by_side g.groups.items)

-- a group with all below it
abbrev pub draft_seen : GroupDraft → ReadTree
draft_seen = fold-GroupDraft ReadTree draft_step

-- bytes of a number
abbrev pub binary_seen : Binary → ReadBinary
binary_seen b = record { number = b.number; bytes = b.bytes.value.bytes; hidden = b.hidden }

-- what is known of a group
abbrev pub group_parts_seen : GroupBuilder → GroupParts
group_parts_seen g = record {
  id = g.id;
  previous = g.previous;
  times = g.times;
  content = g.content;
  view = g.view;
  entries = map entry_seen g.entries.items;
  groups = side_by_side (map draft_seen g.groups.items);
}

-- what is known of a database
abbrev pub meta_parts : MetaBuilder → MetaParts
meta_parts m = record { meta = m.meta; hash = m.hash; binaries = map binary_seen m.binaries }

-- what is known of `Root`
abbrev pub root_parts : RootBuilder → RootParts
root_parts r = record { tree = option_map draft_seen r.tree; tombs = r.tombs }

-- what is known of `KeePassFile`
abbrev pub file_parts : FileBuilder → FileParts
file_parts f = record { meta = meta_parts f.meta; root = option_map root_parts f.root }
