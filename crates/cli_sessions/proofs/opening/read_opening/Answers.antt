use Rattle.std.proofs.Common.{subst}
use Rattle.std.specs.Prelude.{IfSome, map, string_bytes}
use Rattle.cli_sessions.proofs.Opened.{HasOwnKey, opening_key}
use Rattle.cli_sessions.proofs.opening.read_opening.Goals as goal

pub returns-in-Ok-clause-has_key : goal.returns-in-Ok-clause-has_key
returns-in-Ok-clause-has_key c =
    subst (λ database. IfSome database HasOwnKey) c.in-Ok.ensures (opening_key (map string_bytes c.args.words.now))
