-- What is seen of entries before their end: the same without memory.
use Rattle.std.specs.Prelude.{map}
use Rattle.vault_model.specs.Seen.{bare_content, bare_field}
use Rattle.doc_entries.specs.declared.builders.EntryBuilder.{EntryBuilder}
use Rattle.doc_forms.specs.Entries.{EntryParts}
use Rattle.doc_forms.specs.SeenDrafts.{attachment_seen, version_seen}

-- what is known of an entry, with its fields
abbrev pub entry_known : EntryBuilder → EntryParts
entry_known e = record {
  id = e.id;
  previous = e.previous;
  times = e.times;
  content = record (bare_content e.content) { fields = map bare_field e.fields };
  attachments = map attachment_seen e.attachments;
  history = map version_seen e.history.items;
}
