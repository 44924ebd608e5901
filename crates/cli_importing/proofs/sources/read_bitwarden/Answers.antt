use Rattle.std.proofs.Common.{ℕ, List, [], subst}
use Rattle.bitwarden_core.specs.Documents.{bitwarden_document}
use Rattle.bitwarden_forms.specs.Refusals.{meaning_of}
use Rattle.outside_core.specs.Results.{Fails}
use Rattle.cli_importing.specs.Imports.{bitwarden_or_refusal}
use Rattle.cli_importing.proofs.Refused.{bitwarden_refused, lent_whole, source_refused}
use Rattle.cli_importing.proofs.sources.read_bitwarden.Goals as goal

pub returns-in-Err-clause-gives : goal.returns-in-Err-clause-gives
returns-in-Err-clause-gives c =
    let lent = lent_whole c.args.bytes.now.bytes c.lend.result.now c.len.result c.lend.ensures c.len.ensures in
    source_refused [] c.bitwarden_stop.result (bitwarden_or_refusal c.args.name.now (bitwarden_document c.args.bytes.now.bytes c.args.now))
    (bitwarden_refused c.in-Err.fail c.bitwarden_stop.result c.args.name.now (bitwarden_document c.args.bytes.now.bytes c.args.now) c.bitwarden_stop.ensures.stop
    (subst (λ (b : List ℕ). Fails (meaning_of c.in-Err.fail) (bitwarden_document b c.args.now)) lent c.in-Err.ensures))
