-- What the laws of the pages speak of.
use Rattle.std.specs.Prelude.{◌≡◌, ◌⊎◌, ℕ, true, not, ◌&&◌, ◌==◌, nat_lt, List, ◌++◌, codes, Ok, Some}
use Rattle.std.specs.List.{list_all}
use Rattle.cli_standalone.specs.declared.standalone.Standalone.{Standalone}
use Rattle.cli_standalone.specs.Standalone.{standalone_of}
use Rattle.cli_parse.specs.Words.{command_of}
use Rattle.cli_needs.specs.declared.command.Command.{Command}
use Rattle.cli_sessions.specs.declared.opening.SessionDatabase.{SessionDatabase}
use Rattle.cli_sessions.specs.Openings.{opening_of}
use Rattle.cli_pages.specs.Pages.{page_of}

-- Words are a command, with a database or without one, or open a session, or ask for a page.
abbrev pub IsCommandOrPage : List (List ℕ) → Type 0
IsCommandOrPage words = ((command : Command) × (command_of words ≡ Ok command))
    ⊎ (((page : List ℕ) × (page_of words ≡ Some page))
    ⊎ (((standalone : Standalone) × (standalone_of words ≡ Some standalone))
    ⊎ ((database : SessionDatabase) × (opening_of words ≡ Some database))))

-- A text is one line: no byte of it is a control character but the line feed at its end.
abbrev pub IsLine : List ℕ → Type 0
IsLine text = (front : List ℕ) × (text ≡ front ++ codes "\n")
    × (list_all (λ byte. not (nat_lt byte 32) && not (byte == 127)) front ≡ true)
