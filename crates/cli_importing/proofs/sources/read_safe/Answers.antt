use Rattle.std.proofs.Common.{ℕ, List, [], option_map, subst}
use Rattle.outside_core.specs.Results.{Fails}
use Rattle.psafe_core.specs.Outcome.{psafe_outcome}
use Rattle.psafe_file.specs.Results.{meaning_of}
use Rattle.cli_importing.specs.Imports.{given_password, safe_or_refusal}
use Rattle.cli_importing.proofs.Refused.{lent_whole, safe_refused, source_refused}
use Rattle.cli_importing.proofs.sources.read_safe.Goals as goal

pub returns-in-Err-clause-gives : goal.returns-in-Err-clause-gives
returns-in-Err-clause-gives c =
    let password = given_password (option_map (λ p. p.now) c.args.password) in
    let lent = lent_whole c.args.bytes.now.bytes c.lend.result.now c.len.result c.lend.ensures c.len.ensures in
    source_refused [] c.safe_stop.result (safe_or_refusal c.args.name.now (psafe_outcome c.args.bytes.now.bytes password c.args.now))
    (safe_refused c.in-Err.fail c.safe_stop.result c.args.name.now (psafe_outcome c.args.bytes.now.bytes password c.args.now) c.safe_stop.ensures.stop
    (subst (λ (b : List ℕ). Fails (meaning_of c.in-Err.fail) (psafe_outcome b password c.args.now)) lent
    (subst (λ (p : List ℕ). Fails (meaning_of c.in-Err.fail) (psafe_outcome c.lend.result.now p c.args.now)) c.given_password.ensures c.in-Err.ensures)))
