-- Words that open sessions, and words of lines, and which commands they are.
use Rattle.std.proofs.Common.{◌≡◌, refl, ℕ, List, [], ◌∷◌, codes, true, false, Some, None}
use Rattle.cli_parse.specs.CliNeeds.declared.command.Access.{Access}
use Rattle.cli_parse.specs.CliNeeds.declared.command.Command.TheVariants.{Ls, Show, Add, Info}
use Rattle.cli_sessions.specs.Openings.{opening_of}
use Rattle.cli_sessions.specs.SessionLines.{line_in}

-- A session whose database is opened by its password alone.
abbrev by_password : Access
by_password = record { plain = false; quiet = false; key_file = None; no_password = false }

-- One whose database is a plain document.
abbrev as_plain : Access
as_plain = record by_password { plain = true }

-- The database's own name.
abbrev vault : List ℕ
vault = codes "vault.kdbx"

-- ---- words that open sessions

opened_by_password : opening_of (codes "open" ∷ vault ∷ []) ≡ Some (record { access = by_password; file = vault })
opened_by_password = refl

opened_as_plain : opening_of (codes "open" ∷ codes "--plain" ∷ vault ∷ []) ≡ Some (record { access = as_plain; file = vault })
opened_as_plain = refl

opened_quietly : opening_of (codes "open" ∷ codes "-q" ∷ codes "-k" ∷ codes "K" ∷ vault ∷ [])
    ≡ Some (record { access = record by_password { quiet = true; key_file = Some (codes "K") }; file = vault })
opened_quietly = refl

no_database : opening_of (codes "open" ∷ []) ≡ None
no_database = refl

two_databases : opening_of (codes "open" ∷ codes "a" ∷ codes "b" ∷ []) ≡ None
two_databases = refl

-- A plain document has no key file.
plain_with_key : opening_of (codes "open" ∷ codes "--plain" ∷ codes "-k" ∷ codes "K" ∷ vault ∷ []) ≡ None
plain_with_key = refl

-- ---- lines

listed : line_in by_password vault (codes "ls" ∷ []) ≡ Some (Ls by_password vault None false false false)
listed = refl

group_listed : line_in by_password vault (codes "ls" ∷ codes "-R" ∷ codes "Mail" ∷ []) ≡ Some (Ls by_password vault (Some (codes "Mail")) true false false)
group_listed = refl

listed_quietly : line_in by_password vault (codes "ls" ∷ codes "-q" ∷ []) ≡ Some (Ls (record by_password { quiet = true }) vault None false false false)
listed_quietly = refl

-- In a quiet session each command is quiet, and `-q` may be said again.
quiet_twice : line_in (record by_password { quiet = true }) vault (codes "ls" ∷ codes "-q" ∷ []) ≡ Some (Ls (record by_password { quiet = true }) vault None false false false)
quiet_twice = refl

-- How the database is opened is settled.
opened_otherwise : line_in by_password vault (codes "ls" ∷ codes "--plain" ∷ []) ≡ None
opened_otherwise = refl

opened_so_again : line_in as_plain vault (codes "ls" ∷ codes "--plain" ∷ []) ≡ None
opened_so_again = refl

-- Other commands are none of a line.
merged_in : line_in by_password vault (codes "merge" ∷ codes "x" ∷ []) ≡ None
merged_in = refl

-- An entry is added to a plain document, with a password that is a line of the input.
added : line_in as_plain vault (codes "add" ∷ codes "-p" ∷ codes "X" ∷ [])
    ≡ Some (Add as_plain vault (codes "X") (record {
      title = None;
      user = None;
      url = None;
      notes = None;
      password = true;
      generated = None;
      otp = false;
    }))
added = refl

-- An entry whose name begins with `-`.
shown_after_end : line_in by_password vault (codes "show" ∷ codes "--" ∷ codes "-x" ∷ []) ≡ Some (Show by_password vault (codes "-x") false false false [] false 0)
shown_after_end = refl

-- A database whose name begins with `-`, and one that is opened by a key file alone.
of_any_name : line_in (record by_password { key_file = Some (codes "-k"); no_password = true }) (codes "--plain") (codes "db-info" ∷ [])
    ≡ Some (Info (record by_password { key_file = Some (codes "-k"); no_password = true }) (codes "--plain"))
of_any_name = refl
