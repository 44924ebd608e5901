-- What a start tag begins.
use Rattle.std.specs.Prelude.{[], Ok, Option}
use Rattle.markup_grammar.specs.Elements.{element}
use Rattle.doc_forms.specs.ElementTexts.{Setting, read_rest}
use Rattle.doc_forms.specs.Children.{Child, value_by, children_and_end, count_node}
use Rattle.outside_core.specs.Results.{◌>>=◌}
use Rattle.doc_forms.specs.ElementTexts.{ElementText}
use Rattle.doc_walk.specs.declared.walk.Tag.{Tag}
use Rattle.doc_walk.specs.Steps.{Rest}

-- what the element says whose start tag this is
abbrev pub text_step : Tag → Rest ElementText
text_step tag s content cursor = read_rest s tag.offset tag.attrs.raw.now [] content cursor

-- that it is passed over
abbrev pub pass_step : Tag → Rest (Unit {0})
pass_step tag s content cursor = read_rest s tag.offset tag.attrs.raw.now [] content cursor >>= λ x.
    Ok (tt {0}, x.1)

-- its value
abbrev pub value_step : {A : Type 0} → (ElementText → Option A) → Tag → Rest A
value_step rule tag s content cursor = value_by s rule tag.offset tag.attrs.raw.now content cursor

-- all children of it, and its end
abbrev pub contents_step : {P : Type 0} → (Setting → Child P) → P → Tag → Rest P
contents_step child parts tag s content cursor = children_and_end s (child s) tag.offset
    tag.attrs.raw.now [] content parts cursor

-- the same, of an element that counts as a node
abbrev pub counted_step : {P : Type 0} → (Setting → Child P) → P → Tag → Rest P
counted_step child parts tag s content cursor = do
  x ← contents_step child parts tag s content cursor
  after ← count_node x.1
  Ok (x.0, after)

-- the element as a child of another
abbrev pub child_step : {P : Type 0} → (Setting → Child P) → P → Tag → Rest P
child_step child parts tag s content cursor = child s parts
    (element tag.offset tag.name.now tag.attrs.raw.now content) cursor

-- that it has a value
abbrev pub check_step : {A : Type 0} → (ElementText → Option A) → Tag → Rest (Unit {0})
check_step rule tag s content cursor = value_by s rule tag.offset tag.attrs.raw.now content cursor
    >>= λ x. Ok (tt {0}, x.1)
