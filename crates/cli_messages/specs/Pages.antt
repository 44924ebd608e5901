-- The pages: what the program prints where one word alone asks for it, its help and its version.
-- These two words are commands of their own, which open no file and read no line.
use Rattle.std.specs.Prelude.{ℕ, if◌then◌else◌, List, [], ◌∷◌, codes, Option, None, Some}
use Rattle.std.specs.Str.{bytes_eq}
use Rattle.cli_messages.specs.Texts.{help, version}

-- The page of a word.
abbrev pub page_named : List ℕ → Option (List ℕ)
page_named word =
    if bytes_eq word (codes "--help") then Some help
    else (if bytes_eq word (codes "--version") then Some version
    else None)

-- The page that the words ask for: the help or the version where one word alone does, and none
-- where any other word is beside it.
abbrev pub page_of : List (List ℕ) → Option (List ℕ)
page_of (word ∷ []) = page_named word
page_of words = None
