-- What is seen of imported entries in memory.
use Rattle.std.specs.Prelude.{ℕ, List, Option}
use Rattle.std.specs.Option.{option_map}
use Rattle.import_tree.specs.Entries.{ImportedEntry}
use Rattle.import_tree.specs.declared.imported.ImportedEntry as memory
use Rattle.secret_core.specs.Secret.{SecretBuffer}

-- the bytes of a text, where there is one
abbrev pub text_seen : Option SecretBuffer → Option (List ℕ)
text_seen = option_map (λ (text : SecretBuffer). text.bytes)

-- an entry with the bytes of its texts
abbrev pub imported_seen : memory.ImportedEntry → ImportedEntry
imported_seen entry = record {
  groups = entry.groups;
  id = entry.id;
  title = entry.title.bytes;
  user = entry.user.bytes;
  password = entry.password.bytes;
  url = entry.url.bytes;
  notes = entry.notes.bytes;
  history = text_seen entry.history;
  otp = text_seen entry.otp;
  created = entry.created;
  modified = entry.modified;
}
