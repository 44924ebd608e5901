-- The first of several causes.
use Rattle.std.specs.Prelude.{Bool, if◌then◌else◌, List, [], ◌∷◌, Option, None, Some}
use Rattle.cli_causes.specs.declared.cause.Cause.{Cause}

-- The first of some tests that is met, with its cause.
abbrev pub first_of : List (Bool × Cause) → Option Cause
first_of [] = None
first_of ((met, cause) ∷ rest) = if met then Some cause else first_of rest
