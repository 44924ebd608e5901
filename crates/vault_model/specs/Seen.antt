-- What is seen of a vault in memory: the same without memory.
use Rattle.std.specs.Prelude.{map}
use Rattle.vault_model.specs.declared.contents.Attachment.{Attachment}
use Rattle.vault_model.specs.declared.contents.Content.{Content}
use Rattle.vault_model.specs.declared.contents.Field.{Field}
use Rattle.vault_model.specs.Bare.{BareAttachment, BareContent, BareField}

-- a field with its value's bytes
abbrev pub bare_field : Field → BareField
bare_field f = record { key = f.key; value = f.value.bytes; hidden = f.hidden }

-- an attachment with its bytes
abbrev pub bare_attachment : Attachment → BareAttachment
bare_attachment a = record { name = a.name; bytes = a.bytes.value.bytes; hidden = a.hidden }

-- what a version says, with its fields and attachments so seen
abbrev pub bare_content : Content → BareContent
bare_content c = record {
  created = c.created;
  expiry = c.expiry;
  expires = c.expires;
  icon = c.icon;
  custom_icon = c.custom_icon;
  fields = map bare_field c.fields;
  attachments = map bare_attachment c.attachments;
  tags = c.tags;
  fore = c.fore;
  back = c.back;
  url_override = c.url_override;
  auto_type = c.auto_type;
  items = c.items;
  quality = c.quality;
}
