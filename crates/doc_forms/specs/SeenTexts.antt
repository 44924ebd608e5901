-- What is seen of the text of an element in memory.
use Rattle.std.specs.Prelude.{if◌then◌else◌}
use Rattle.stream_core.specs.InnerStream.{keystream}
use Rattle.stream_core.specs.declared.inner.InnerStream.{InnerStream}
use Rattle.vault_model.specs.declared.forms.DocForm.{DocForm}
use Rattle.doc_forms.specs.declared.cursor.Cursor.{Cursor}
use Rattle.doc_forms.specs.declared.texts.ElementText.{ElementText}
use Rattle.doc_forms.specs.ElementTexts as texts
use Rattle.doc_forms.specs.ElementTexts.{Setting, plain_text, hidden_bytes}

-- the text as it is, or the bytes that it hid
abbrev pub text_seen : ElementText → texts.ElementText
text_seen said = if said.is_hidden then hidden_bytes said.bytes.bytes else plain_text
    said.bytes.bytes

-- the same with the cursor
abbrev pub text_and_cursor : ElementText × Cursor → texts.ElementText × Cursor
text_and_cursor x = (text_seen x.0, x.1)

-- the form of a document and its stream
abbrev pub setting_of : DocForm → InnerStream → Setting
setting_of form stream = record { form = form; keystream = keystream stream }
