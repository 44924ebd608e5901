-- Binaries by the texts of their elements.
use Rattle.std.specs.Prelude.{ℕ, if◌then◌else◌, List, codes, option_and_then, Result, Ok, Err}
use Rattle.markup_grammar.specs.Attributes.{attribute_text}
use Rattle.doc_forms.specs.declared.fails.DocFail.{DocFail}
use Rattle.doc_forms.specs.declared.fails.DocFail.TheVariants.{Compressed}
use Rattle.doc_forms.specs.ElementTexts.{ElementText, is_marked, is_hidden}
use Rattle.doc_forms.specs.Metas.{ReadBinary}
use Rattle.outside_core.specs.Results.{◌>>=◌}
use Rattle.doc_forms.specs.Refusals.{checked_value}
use Rattle.doc_forms.specs.Values.{bytes_in, number64}

-- the binary of an element with these attributes and this text
abbrev pub binary_by_text : ℕ → List ℕ → ElementText → Result ReadBinary DocFail
binary_by_text offset raw said = do
  number ← checked_value offset (option_and_then number64 (attribute_text raw (codes "ID")))
  bytes ← checked_value offset (bytes_in said)
  if is_marked (codes "Compressed") raw then Err (Compressed offset)
      else Ok (record { number = number; bytes = bytes; hidden = is_hidden raw })
