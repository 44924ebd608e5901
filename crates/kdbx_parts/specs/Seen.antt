-- What is seen of a field of the code, which lends its bytes: the bytes.
use Rattle.kdbx_parts.specs.declared.parts.Field.{Field}
use Rattle.kdbx_parts.specs.Parts as parts

-- A field.
abbrev pub field_seen : Field → parts.Field
field_seen f = record { id = f.id; content = f.content.now; rest = f.rest.now }
