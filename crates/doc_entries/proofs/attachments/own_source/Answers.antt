use Rattle.std.proofs.Common.{Result, Ok, ap, sym}
use Rattle.secret_core.specs.Secret.{SecretBuffer}
use Rattle.doc_forms.specs.declared.fails.DocFail.{DocFail}
use Rattle.doc_forms.specs.Entries.{ReadSource, own_bytes}
use Rattle.doc_entries.proofs.attachments.own_source.Goals as goal

pub returns-in-Ok : goal.returns-in-Ok
returns-in-Ok c = ap (λ (bytes : SecretBuffer). let r : Result ReadSource DocFail = Ok (own_bytes bytes.bytes) in r) (sym c.in-Ok.ensures.ok)
