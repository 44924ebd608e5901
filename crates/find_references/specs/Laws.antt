-- What holds of every resolved text.
use Rattle.std.specs.Prelude.{◌≡◌, ◌≤◌, ℕ, ◌+◌, List, [], ◌∷◌, ◌++◌, length, IfOk, IsOk, ◌↔◌}
use Rattle.find_references.specs.Resolved.{MOST_BYTES, MOST_LEVELS, MOST_REFERENCES, Step, copied, resolved, sought, steps}
use Rattle.vault_model.specs.Tree.{BareDoc, entry_rows}

-- How many references are looked for.
abbrev pub sought_in : List Step → ℕ
sought_in [] = 0
sought_in (copied bytes ∷ others) = sought_in others
sought_in (sought ∷ others) = 1 + sought_in others

-- The bytes that are copied, one after another.
abbrev pub copied_in : List Step → List ℕ
copied_in [] = []
copied_in (copied bytes ∷ others) = bytes ++ copied_in others
copied_in (sought ∷ others) = copied_in others

-- How a text is resolved over a document.
abbrev pub steps_over : BareDoc → List ℕ → List Step
steps_over doc text = steps MOST_LEVELS (entry_rows doc.tree) text

-- A text is resolved, to the bytes that are copied, just where no more references are looked for
-- than may be, and no more bytes copied.
pub record IsWithinLimits (doc : BareDoc) (text : List ℕ) : Type 0 where
  pub is_ok : IsOk (resolved doc text) ↔ ((sought_in (steps_over doc text) ≤ MOST_REFERENCES)
      × (length (copied_in (steps_over doc text)) ≤ MOST_BYTES))
  pub value : IfOk (resolved doc text) (λ bytes. bytes ≡ copied_in (steps_over doc text))
