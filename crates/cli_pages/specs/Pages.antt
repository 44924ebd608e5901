-- The pages: what the program prints where its words ask for one. These words are commands of their
-- own, which open no file and read no line.
use Rattle.std.specs.Prelude.{ℕ, Bool, false, ◌||◌, if◌then◌else◌, is_some, List, [], ◌∷◌, codes, Option, None, Some}
use Rattle.std.specs.Str.{bytes_eq}
use Rattle.cli_messages.specs.Pages as alone
use Rattle.cli_causes.specs.Causes.{cause_of}
use Rattle.cli_pages.specs.Texts.{cause_line}

-- The word that asks why those after it are no command.
abbrev pub asks_why : List ℕ → Bool
asks_why word = bytes_eq word (codes "--why")

-- Words ask for a page.
abbrev pub is_page : List (List ℕ) → Bool
is_page [] = false
is_page (word ∷ words) = asks_why word || is_some (alone.page_of (word ∷ words))

-- Why words are no command, with a database or without one, open no session and ask for no page:
-- nothing where they do one of these, and else a line.
abbrev pub why : List (List ℕ) → List ℕ
why words = if is_page words then [] else cause_line (cause_of words)

-- The page that the words ask for: why the words after `--why` are no command; and the help or the
-- version where one word alone asks for it.
abbrev pub page_of : List (List ℕ) → Option (List ℕ)
page_of [] = None
page_of (word ∷ words) =
    if asks_why word then Some (why words) else alone.page_of (word ∷ words)
