-- What pieces are made of: names, attributes and runs of text.
use Rattle.std.specs.Prelude.{◌≢◌, List, [], ◌∷◌}
use Rattle.markup_grammar.specs.Answers.{Answer, start, words}
use Rattle.markup_grammar.specs.Bytes.{is_text, IsName}
use Rattle.markup_grammar.specs.Runs.{IsRun}
use Rattle.markup_grammar.specs.Tags.{IsTagText}

-- a start has a name and attributes, and words are a run of text that has bytes
abbrev pub IsMade : Answer → Type 0
IsMade (start place name raw) = IsName name × IsTagText raw
IsMade (words place raw) = (raw ≢ []) × IsRun is_text raw
IsMade _ = Unit {0}

-- so it is of each answer
abbrev pub AreMade : List Answer → Type 0
AreMade [] = Unit {0}
AreMade (answer ∷ answers) = IsMade answer × AreMade answers
