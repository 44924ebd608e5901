use Rattle.std.proofs.Common.{sym, ◌∙◌}
use Rattle.std.specs.Str.{bytes_eq}
use Rattle.bitwarden_fields.specs.declared.fields.TextField.{TextField}
use Rattle.vault_model.proofs.Tests.{any_map}
use Rattle.vault_model.specs.Bare.{BareField}
use Rattle.vault_model.specs.Seen.{bare_field}
use Rattle.bitwarden_fields.proofs.keys.has_key.Goals as goal

pub returns : goal.returns
returns c = c.any_has_key.ensures ∙ sym (any_map (λ (f : TextField). bare_field f.field) (λ (f : BareField). bytes_eq f.key c.args.key.now) c.args.fields.now)
