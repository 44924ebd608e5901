use Rattle.line_laws.proofs.OpenedSessions.{program_sessions}
use Rattle.line_laws.proofs.laws.sessions_of_the_program_are_their_lines.Goals as goal

pub returns : goal.returns
returns c = program_sessions
