-- What is seen of fields in memory.
use Rattle.std.specs.Prelude.{List, map}
use Rattle.bitwarden_fields.specs.declared.fields.TextField.{TextField}
use Rattle.vault_model.specs.Bare.{BareField}
use Rattle.vault_model.specs.Seen.{bare_field}

-- the fields without memory
abbrev pub fields_seen : List TextField → List BareField
fields_seen fields = map (λ (f : TextField). bare_field f.field) fields
