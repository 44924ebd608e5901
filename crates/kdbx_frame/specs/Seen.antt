-- What is seen of values of the code that lend bytes of a header or keep them in memory: the bytes.
use Rattle.std.specs.Prelude.{ℕ, ◌≤◌, List, length, Option, Some, None, option_map}
use Rattle.std.specs.Borrow.{Bor}
use Rattle.kdbx_parts.specs.SeenDictionary.{description_seen}
use Rattle.kdbx_frame.specs.declared.fields.FieldsRead as read_code
use Rattle.kdbx_frame.specs.declared.fields.HeaderFields as header_code
use Rattle.kdbx_frame.specs.declared.settings.CheckedHeader as settings_code
use Rattle.kdbx_frame.specs.Fields as fields
use Rattle.kdbx_frame.specs.Settings as settings

-- The fields of a header so far.
abbrev pub header_fields_seen : header_code.HeaderFields → fields.HeaderFields
header_fields_seen f = record {
  cipher = f.cipher;
  compression = f.compression;
  seed = f.seed;
  kdf_seed = f.kdf_seed;
  rounds = f.rounds;
  iv = option_map (λ x. x.now) f.iv;
  stream_key = option_map (λ x. x.now) f.stream_key;
  start = f.start;
  stream_id = f.stream_id;
  kdf = option_map description_seen f.kdf;
  public = option_map (λ x. x.now) f.public;
}

-- The fields of a header so far, and the bytes after them.
abbrev pub fields_read_seen : read_code.FieldsRead → fields.FieldsRead
fields_read_seen r = record { fields = header_fields_seen r.found; rest = r.rest.now }

-- Bytes that are lent, if any, are no more than a header may have.
abbrev pub HasSmall : Option (Bor (List ℕ)) → Type 0
HasSmall None = Unit {0}
HasSmall (Some bytes) = length bytes.now ≤ fields.header_limit

-- What the fields of a header give.
abbrev pub checked_header_seen : settings_code.CheckedHeader → settings.CheckedHeader
checked_header_seen h = record {
  settings = h.settings;
  seed = h.seed;
  iv = h.iv;
  stream_id = h.stream_id;
  stream_key = h.stream_key;
  start = h.start;
}
