-- A walk over a document, and what one step of it does.
use Rattle.std.specs.Prelude.{◌≡◌, ◌<◌, List, length, Result, Ok, OnOk}
use Rattle.markup_grammar.specs.Answers.{Answer}
use Rattle.markup_grammar.specs.Elements.{Content, innermost, outer_contents, open_contents}
use Rattle.doc_forms.specs.declared.cursor.Cursor.{Cursor}
use Rattle.doc_forms.specs.declared.fails.DocFail.{DocFail}
use Rattle.doc_forms.specs.ElementTexts.{Setting}
use Rattle.outside_core.specs.Results.{◌>>=◌}
use Rattle.doc_forms.specs.Refusals.{Returns}

-- Where a walk is: what it reads with, the answers that are left, and how far it is.
pub record Course : Type 0 where
  pub setting : Setting
  pub answers : List Answer
  pub cursor : Cursor

-- What the rest of an element says, from here on.
abbrev pub Rest : Type 0 → Type 0
Rest Y = Setting → Content → Cursor → Result (Y × Cursor) DocFail

-- A step to the end of the element in which the walk is: what is given is what the rest of the
-- element says.
pub record Steps {X Y : Type 0} (view : X → Y) (old new : Course) (result : Result X DocFail)
    (rest : Rest Y) : Type 0 where
  pub gives : Returns (λ x. (view x, new.cursor)) result
      (rest old.setting (innermost (open_contents old.answers)) old.cursor)
  pub left : OnOk result (open_contents new.answers ≡ outer_contents (open_contents old.answers))
  pub shorter : OnOk result (length new.answers < length old.answers)
  pub setting : new.setting ≡ old.setting

-- with a value put in its place
abbrev pub map_rest : {Y Z : Type 0} → (Y → Z) → Rest Y → Rest Z
map_rest keep rest s content cursor = rest s content cursor >>= λ x. Ok (keep x.0, x.1)

-- a course of this setting, these answers and this cursor
abbrev pub course_of : Setting → List Answer → Cursor → Course
course_of setting answers cursor = record { setting = setting; answers = answers; cursor = cursor }
