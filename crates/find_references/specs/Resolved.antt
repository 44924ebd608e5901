-- How the references in a text are resolved.
use Rattle.std.specs.Prelude.{ℕ, zero, suc, ◌+◌, nat_lt, nat_le, if◌then◌else◌, List, [], ◌∷◌, ◌++◌, flat_map, length, Option, None, Some, Result, Ok, Err}
use Rattle.std.specs.List.{find}
use Rattle.outside_core.specs.Results.{◌>>=◌}
use Rattle.find_references.specs.declared.fail.FindFail.{FindFail}
use Rattle.find_references.specs.declared.fail.FindFail.TheVariants.{TooMuch}
use Rattle.find_references.specs.Fields.{has_at, part_value}
use Rattle.find_references.specs.References.{Piece, Reference, byte, pieces, reference}
use Rattle.vault_model.specs.Db.{NodeId}
use Rattle.vault_model.specs.Shape.{EntryRecord}
use Rattle.vault_model.specs.Tree.{BareDoc, entry_rows}

-- How many references may be looked for.
abbrev pub MOST_REFERENCES : ℕ
MOST_REFERENCES = 65536

-- How many bytes a resolved text may have.
abbrev pub MOST_BYTES : ℕ
MOST_BYTES = 1048576

-- How many replacements may lie within one another.
abbrev pub MOST_LEVELS : ℕ
MOST_LEVELS = 10

-- A step from left to right: bytes are copied, or the entry of a reference is looked for.
pub data Step : Type 0 where
  copied : List ℕ → Step
  sought : Step

-- What takes the place of a reference: the value wanted of the entry that was found, resolved, or
-- the reference as it is written where there is no such entry.
abbrev pub reference_steps : (List ℕ → List Step) → Reference → Option (NodeId × EntryRecord)
    → List Step
reference_steps deeper r (Some e) = deeper (part_value r.wanted e)
reference_steps deeper r None = copied r.written ∷ []

-- How a piece is resolved; the first of the entries that have the text answers.
abbrev pub piece_steps : List (NodeId × EntryRecord) → (List ℕ → List Step) → Piece → List Step
piece_steps rows deeper (byte b) = copied (b ∷ []) ∷ []
piece_steps rows deeper (reference r) =
    sought ∷ reference_steps deeper r (find (has_at r.place r.text) rows)

-- How a text is resolved in which so many replacements may still lie within one another.
abbrev pub steps : ℕ → List (NodeId × EntryRecord) → List ℕ → List Step
steps zero rows text = copied text ∷ []
steps (suc levels) rows text = flat_map (piece_steps rows (steps levels rows)) (pieces 0 text)

-- How many references were looked for, and the text so far.
pub record Made : Type 0 where
  pub references : ℕ
  pub text : List ℕ

-- After one step, or the first count that passes its limit.
abbrev pub after_step : Made → Step → Result Made FindFail
after_step made (copied bytes) =
    if nat_le (length made.text + length bytes) MOST_BYTES
    then Ok (record { references = made.references; text = made.text ++ bytes })
    else Err (TooMuch (MOST_BYTES + 1))
after_step made sought =
    if nat_lt made.references MOST_REFERENCES
    then Ok (record { references = made.references + 1; text = made.text })
    else Err (TooMuch (MOST_REFERENCES + 1))

-- After some steps.
abbrev pub after_steps : List Step → Made → Result Made FindFail
after_steps [] made = Ok made
after_steps (step ∷ steps) made = after_step made step >>= after_steps steps

-- A text with its references resolved over a document, or the first count that passes its limit.
unfoldable pub resolved : BareDoc → List ℕ → Result (List ℕ) FindFail
resolved doc text =
    after_steps (steps MOST_LEVELS (entry_rows doc.tree) text)
    (record { references = 0; text = [] })
    >>= λ made. Ok made.text
