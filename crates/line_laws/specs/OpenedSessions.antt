-- That a session of the program is its lines as single calls, each statement by itself.
use Rattle.std.specs.Prelude.{◌≡◌, ◌≢◌, ◌⊎◌, ℕ, List, Some, Ok}
use Rattle.cli_lines.specs.Lines.{Lines, lines_of}
use Rattle.cli_files.specs.Files.{Opened}
use Rattle.cli_sessions.specs.declared.opening.SessionDatabase.{SessionDatabase}
use Rattle.session_opening.specs.Opening.{opening_needs}
use Rattle.session_core.specs.ReadsBack.{SessionReadsBack}
use Rattle.session_laws.specs.SessionLaws.{IsItsLines}
use Rattle.keepass_call.specs.Outcome.{Counts, IsAsSaid, NoFaults, Seen, World}
use Rattle.keepass_call.specs.SessionCalls.{IsSession, IsSessionWorld, opening_over, session_outcome, session_start}

-- A session that begins over a world with this database, which the opening gave and after which this
-- is left of the input, is its lines over the files of the world, under the password that it read.
abbrev pub IsItsLinesOver : ℕ → SessionDatabase → World → Opened → List ℕ → Type 0
IsItsLinesOver time database world opened left = (lines : Lines)
    × (((lines_of (opening_needs database) world.input).answer ≡ Ok lines)
    × IsItsLines time database lines.password world.files
    (session_start database world opened left))

-- Where the program opens a session over a world, whose key file, if it has one, is another file, and
-- what its lines write reads back: the session is its lines.
abbrev pub OpenedSessionsAreTheirLines : Type 0
OpenedSessionsAreTheirLines = (time : ℕ) (database : SessionDatabase) (world : World)
    (opened : Opened) (left : List ℕ)
    → opening_over database world ≡ record { answer = Ok opened; left = left }
    → database.access.key_file ≢ Some database.file
    → SessionReadsBack time database (session_start database world opened left)
    → IsItsLinesOver time database world opened left

-- So it is with each session of the program, of which all is seen as its outcome says: where what is
-- promised of a session holds, and its status is 0, or nothing failed and memory did not run out.
abbrev pub SessionsOfTheProgramAreTheirLines : Type 0
SessionsOfTheProgramAreTheirLines = (database : SessionDatabase) (time result : ℕ)
    (before now : Seen) (counts counts' : Counts) (world : World) (opened : Opened)
    (left : List ℕ)
    → IsSession database time result before now counts counts' → IsSessionWorld before now world
    → (result ≡ 0) ⊎ ((result ≢ 9) × NoFaults counts counts')
    → opening_over database world ≡ record { answer = Ok opened; left = left }
    → database.access.key_file ≢ Some database.file
    → IsAsSaid (session_outcome database time world) result before now
    × IsItsLinesOver time database world opened left
