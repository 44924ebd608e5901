-- Attachments by the texts of their values.
use Rattle.std.specs.Prelude.{ℕ, if◌then◌else◌, List, codes, Result, Ok, Err}
use Rattle.markup_grammar.specs.Attributes.{attribute_text}
use Rattle.doc_forms.specs.declared.fails.DocFail.{DocFail}
use Rattle.doc_forms.specs.declared.fails.DocFail.TheVariants.{Compressed}
use Rattle.doc_forms.specs.ElementTexts.{ElementText, is_hidden}
use Rattle.doc_forms.specs.Entries.{ReadAttachment, is_compressed, source_in}
use Rattle.outside_core.specs.Results.{◌>>=◌}
use Rattle.doc_forms.specs.Refusals.{checked_value}

-- an attachment with what its `Value` says, of these attributes and this text
abbrev pub value_by_text : ℕ → List ℕ → ReadAttachment → ElementText → Result ReadAttachment DocFail
value_by_text offset raw attachment said = do
  source ← checked_value offset (source_in offset (attribute_text raw (codes "Ref")) said)
  if is_compressed raw then Err (Compressed offset)
      else Ok (record attachment { source = source; hidden = is_hidden raw })
