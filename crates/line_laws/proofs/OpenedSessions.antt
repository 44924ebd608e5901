-- A session of the program is its lines as single calls.
use Rattle.std.proofs.Common.{ap}
use Rattle.cli_files.specs.Files.{Opened}
use Rattle.cli_messages.specs.Phases.{StreamAnswer}
use Rattle.keepass_call.specs.SessionCalls.{session_start}
use Rattle.session_laws.proofs.Beginning.{begins}
use Rattle.session_laws.proofs.Sessions.{are_their_lines}
use Rattle.line_laws.specs.OpenedSessions.{OpenedSessionsAreTheirLines, SessionsOfTheProgramAreTheirLines}

pub opened_sessions : OpenedSessionsAreTheirLines
opened_sessions time database world opened left opens apart reads =
    let b = begins time database world.input world.files opened (ap (λ (a : StreamAnswer Opened). a.answer) opens) in
    (b.0, (b.1.0, are_their_lines time database b.0.password world.files (session_start database world opened left) b.1.1 apart reads))

pub program_sessions : SessionsOfTheProgramAreTheirLines
program_sessions database time result before now counts counts' world opened left promised w when opens apart =
    (promised.as_said world w when, opened_sessions time database world opened left opens apart (promised.reads_back world w when opened left opens))
