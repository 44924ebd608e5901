-- What an element says: its own text, or the bytes that its text hides, and how much of the inner
-- stream that uses.
use Rattle.std.specs.Prelude.{ℕ, ◌+◌, Bool, true, false, ◌||◌, if◌then◌else◌, Option, Some, None, List, ◌++◌, length, codes, Result, Ok, Err}
use Rattle.std.specs.Str.{str_eq_ignore_ascii_case}
use Rattle.text_forms.specs.MarkupGrammar.Attributes.{attribute_text}
use Rattle.text_forms.specs.MarkupGrammar.Elements.{Element, Content, element, last, also, cut, own_text}
use Rattle.stream_core.specs.InnerStream.{Keystream, keystream_byte}
use Rattle.stream_core.specs.Stream.{xor_stream}
use Rattle.text_forms.specs.Texts.{trim, base64_bytes}
use Rattle.vault_model.specs.declared.forms.DocForm.{DocForm}
use Rattle.vault_model.specs.declared.forms.DocForm.TheVariants.{Plain, V3, V4}
use Rattle.doc_forms.specs.declared.cursor.Cursor.{Cursor}
use Rattle.doc_forms.specs.declared.fails.DocFail.{DocFail}
use Rattle.doc_forms.specs.declared.fails.DocFail.TheVariants.{BadValue}
use Rattle.stream_core.specs.OutsideCore.Results.{◌>>=◌}
use Rattle.doc_forms.specs.Refusals.{checked_value, markup_refusal}

-- What an element says: its text as it is, or the bytes that its text hides.
pub data ElementText : Type 0 where
  plain_text : List ℕ → ElementText
  hidden_bytes : List ℕ → ElementText

-- the bytes of either
abbrev pub text_bytes : ElementText → List ℕ
text_bytes (plain_text text) = text
text_bytes (hidden_bytes bytes) = bytes

-- What a document is read with: its form, and the keystream of its hidden values.
pub record Setting : Type 0 where
  pub form : DocForm
  pub keystream : Keystream

-- the cursor at the start of a document
abbrev pub start : Cursor
start = record { offset = 0; nodes = 0 }

-- ---- attributes

-- whether an attribute's text is `True`, in any case of its letters
abbrev pub is_true : Option (List ℕ) → Bool
is_true None = false
is_true (Some text) = str_eq_ignore_ascii_case text (codes "True")

-- whether the tag's attribute of this name is `True`
abbrev pub is_marked : List ℕ → List ℕ → Bool
is_marked name raw = is_true (attribute_text raw name)

-- the element hides its text
abbrev pub is_protected : List ℕ → Bool
is_protected raw = is_marked (codes "Protected") raw

-- the value is not to be shown
abbrev pub is_hidden : List ℕ → Bool
is_hidden raw = is_protected raw || is_marked (codes "ProtectInMemory") raw

-- ---- texts

-- hidden bytes in the clear, which follow those that the keystream has hidden before
abbrev pub revealed_text : Keystream → List ℕ → Cursor → ElementText × Cursor
revealed_text keystream bytes cursor = (
  hidden_bytes (xor_stream (keystream_byte keystream) cursor.offset bytes),
  record cursor { offset = cursor.offset + length bytes },
)

-- a document by itself has no keystream, and hides nothing
abbrev pub may_hide : DocForm → Bool
may_hide Plain = false
may_hide V3 = true
may_hide V4 = true

-- what the element at an offset says at its end, by its own text: that text, or as base64 the bytes
-- that the keystream hides
abbrev pub text_at_end : Setting → ℕ → List ℕ → List ℕ → Cursor
    → Result (ElementText × Cursor) DocFail
text_at_end s offset raw text cursor =
    if is_protected raw
    then (if may_hide s.form
    then (checked_value offset (base64_bytes (trim text)) >>= λ bytes. Ok
    (revealed_text s.keystream bytes cursor))
    else Err (BadValue offset))
    else Ok (plain_text text, cursor)

-- the same of an element with this content
abbrev pub element_text : Setting → ℕ → List ℕ → Content → Cursor
    → Result (ElementText × Cursor) DocFail
element_text s offset raw content cursor = text_at_end s offset raw (own_text content) cursor

abbrev mutual
  -- an element whose children are passed over: what it says
  pub read_element : Setting → Element → Cursor → Result (ElementText × Cursor) DocFail
  read_element s (element offset name raw content) cursor =
      pass_over s content cursor >>= λ after. element_text s offset raw content after

  -- elements that are passed over use the keystream too
  pub pass_over : Setting → Content → Cursor → Result Cursor DocFail
  pass_over s (last text) cursor = Ok cursor
  pass_over s (also text e more) cursor = read_element s e cursor >>= λ x. pass_over s more x.1
  pass_over s (cut text answer) cursor = markup_refusal answer

-- an element of which this text comes before this content: what it says
abbrev pub read_rest : Setting → ℕ → List ℕ → List ℕ → Content → Cursor
    → Result (ElementText × Cursor) DocFail
read_rest s offset raw text content cursor =
    pass_over s content cursor >>= λ after. text_at_end s offset raw (text ++ own_text content)
    after
