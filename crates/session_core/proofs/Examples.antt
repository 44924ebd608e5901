-- Sessions of few lines, which neither read nor change the database.
use Rattle.std.proofs.Common.{◌≡◌, ℕ, true, false, List, [], ◌∷◌, codes, None, refl}
use Rattle.std.specs.Fmt.{digits}
use Rattle.std.specs.Str.{chars, is_utf8}
use Rattle.call_run.specs.CliFiles.Files.{Opened}
use Rattle.cli_sessions.specs.declared.opening.SessionDatabase.{SessionDatabase}
use Rattle.session_core.specs.Sessions.{SessionState, ended, session_from}

-- A database that is opened as a plain document.
abbrev database : SessionDatabase
database = record {
  access = record { plain = true; quiet = false; key_file = None; no_password = false };
  file = codes "P";
}

module _ (time : ℕ) (opened : Opened) (dice : List ℕ) where
  -- A state in which this is the number of the next line, and this is left of the input.
  abbrev at : ℕ → List ℕ → SessionState
  at number input = record { opened = opened; number = number; input = input; dice = dice }

  -- A session without input ends at once.
  no_line : session_from 4 time database (at 1 []) ≡ ended 0 [] (at 1 [])
  no_line = refl

  -- `quit` leaves the rest of the input unread.
  quits : session_from 4 time database (at 1 (codes "quit\nls\n")) ≡ ended 0 [] (at 2 (codes "ls\n"))
  unfolding is_utf8 chars lib.Utf8.encode
  quits = refl

  -- Lines without a word are passed over.
  blank : session_from 4 time database (at 2 (codes "\n  \nexit")) ≡ ended 0 [] (at 5 [])
  unfolding is_utf8 chars lib.Utf8.encode
  blank = refl

  -- An unclosed quotation mark, and a command that no line may have, are wrong words. The session
  -- continues.
  wrong : session_from 4 time database (at 1 (codes "ls \"\nmerge Q\n"))
      ≡ ended 0 (codes "keepass: words: wrong words\nkeepass: words: wrong words\n") (at 3 [])
  unfolding is_utf8 chars lib.Utf8.encode
  wrong = refl

  -- A line takes no option that says how the database is opened, and `open` is no command of a line.
  settled : session_from 4 time database (at 1 (codes "ls --plain\nopen P\n"))
      ≡ ended 0 (codes "keepass: words: wrong words\nkeepass: words: wrong words\n") (at 3 [])
  unfolding is_utf8 chars lib.Utf8.encode
  settled = refl

  -- The password of an entry is missing: it would be line 2.
  missing : session_from 4 time database (at 1 (codes "add -p X\n"))
      ≡ ended 12 (codes "keepass: input: line 2 missing\n") (at 2 [])
  unfolding is_utf8 chars lib.Utf8.encode digits
  missing = refl

  -- A line without a word has a number.
  numbered : session_from 4 time database (at 1 (codes "\nadd -p X\n"))
      ≡ ended 12 (codes "keepass: input: line 3 missing\n") (at 3 [])
  unfolding is_utf8 chars lib.Utf8.encode digits
  numbered = refl

  -- A line that is not UTF-8.
  not_text : session_from 4 time database (at 1 (10 ∷ 255 ∷ 10 ∷ codes "ls\n"))
      ≡ ended 4 (codes "keepass: input: line 2 is not UTF-8\n") (at 2 (codes "ls\n"))
  unfolding is_utf8 chars lib.Utf8.encode digits
  not_text = refl

  -- After the last command line that is read, one more is one too many, if it has a byte.
  last : session_from 2 time database (at 1 (codes "\n\n")) ≡ ended 0 [] (at 3 [])
  unfolding is_utf8 chars lib.Utf8.encode
  last = refl

  one_more : session_from 2 time database (at 1 (codes "\n\n\nquit\n"))
      ≡ ended 8 (codes "keepass: input: limit passed\n") (at 3 (codes "quit\n"))
  unfolding is_utf8 chars lib.Utf8.encode
  one_more = refl
