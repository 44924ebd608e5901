-- The children of an element: each is read by the row of its name, in their order.
use Rattle.std.specs.Prelude.{ℕ, ◌+◌, Bool, if◌then◌else◌, Option, List, [], ◌∷◌, ◌++◌, nat_lt, bytes_eq, Result, Ok, Err}
use Rattle.text_forms.specs.MarkupGrammar.Elements.{Element, Content, element, last, also, cut, own_text}
use Rattle.doc_forms.specs.declared.cursor.Cursor.{Cursor}
use Rattle.doc_forms.specs.declared.fails.DocFail.{DocFail}
use Rattle.doc_forms.specs.declared.fails.DocFail.TheVariants.{TooMany}
use Rattle.doc_forms.specs.ElementTexts.{ElementText, Setting, is_hidden, read_element, read_rest, text_at_end}
use Rattle.stream_core.specs.OutsideCore.Results.{◌>>=◌}
use Rattle.doc_forms.specs.Refusals.{checked_value, markup_refusal}

-- How a child is read of an element of which this much is known: what is known then, and how much
-- has been read.
abbrev pub Child : Type 0 → Type 0
Child P = P → Element → Cursor → Result (P × Cursor) DocFail

-- a child that is passed over
abbrev pub unknown_child : {P : Type 0} → Setting → Child P
unknown_child s parts e cursor = read_element s e cursor >>= λ x. Ok (parts, x.1)

-- the offset of an element
abbrev pub offset_of : Element → ℕ
offset_of (element offset name raw content) = offset

-- the name of an element
abbrev pub name_of : Element → List ℕ
name_of (element offset name raw content) = name

-- a child is read as the row of its name says; one without a row is passed over
abbrev pub by_name : {P : Type 0} → Setting → List (List ℕ × Child P) → Child P
by_name s [] parts e cursor = unknown_child s parts e cursor
by_name s (row ∷ rows) parts e cursor =
    if bytes_eq (name_of e) row.0 then row.1 parts e cursor else by_name s rows parts e cursor

-- all elements of some content, one after another
abbrev pub all_children : {P : Type 0} → Child P → Content → P → Cursor
    → Result (P × Cursor) DocFail
all_children child (last text) parts cursor = Ok (parts, cursor)
all_children child (also text e more) parts cursor =
    child parts e cursor >>= λ x. all_children child more x.0 x.1
all_children child (cut text answer) parts cursor = markup_refusal answer

-- ---- values

-- a value, which the element at an offset says by a rule
abbrev pub value_by : {A : Type 0}
    → Setting → (ElementText → Option A) → ℕ → List ℕ → Content → Cursor
    → Result (A × Cursor) DocFail
value_by s rule offset raw content cursor = do
  x ← read_rest s offset raw [] content cursor
  v ← checked_value offset (rule x.0)
  Ok (v, x.1)

-- a value, which is read by a rule and kept
abbrev pub value : {P A : Type 0} → Setting → (ElementText → Option A) → (P → A → P) → Child P
value s rule keep parts (element offset name raw content) cursor =
    value_by s rule offset raw content cursor >>= λ x. Ok (keep parts x.0, x.1)

-- the same, kept with whether its element hides it
abbrev pub hidden_value : {P A : Type 0}
    → Setting → (ElementText → Option A) → (P → A → Bool → P) → Child P
hidden_value s rule keep parts (element offset name raw content) cursor =
    value_by s rule offset raw content cursor >>= λ x. Ok (keep parts x.0 (is_hidden raw), x.1)

-- ---- containers

-- all children of the element at an offset, of which this text comes before this content, and then
-- its end
abbrev pub children_and_end : {P : Type 0}
    → Setting → Child P → ℕ → List ℕ → List ℕ → Content → P → Cursor → Result (P × Cursor) DocFail
children_and_end s child offset raw text content parts cursor = do
  x ← all_children child content parts cursor
  y ← text_at_end s offset raw (text ++ own_text content) x.1
  Ok (x.0, y.1)

-- a container: the rows of its children, what is known of it at first, and how it is kept
abbrev pub container : {P Q : Type 0}
    → Setting → List (List ℕ × Child Q) → Q → (P → Q → P) → Child P
container s rows first keep parts (element offset name raw content) cursor =
    children_and_end s (by_name s rows) offset raw [] content first cursor >>= λ x. Ok
    (keep parts x.0, x.1)

-- one more group, entry or history item has ended
abbrev pub count_node : Cursor → Result Cursor DocFail
count_node cursor =
    if nat_lt cursor.nodes 262144
    then Ok (record cursor { nodes = cursor.nodes + 1 }) else Err (TooMany 262145)
