-- What is seen of a file that is put to an entry.
use Rattle.cli_changes.specs.declared.attachments.AttachedFile as declared
use Rattle.cli_changes.specs.Attachments.{AttachedFile}

-- the same without the loans
abbrev pub attached_seen : declared.AttachedFile → AttachedFile
attached_seen attached = record {
  name = attached.name.now;
  source = attached.source.now;
  bytes = attached.bytes.now.value.bytes;
  replaces = attached.replaces;
}
