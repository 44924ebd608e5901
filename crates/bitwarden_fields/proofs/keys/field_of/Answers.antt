use Rattle.std.proofs.Common.{◌≡◌, true, sym, ap, ◌∙◌}
use Rattle.std.proofs.lemmas.Str.{is_utf8-from_IsUtf8}
use Rattle.std.specs.Str.{is_utf8}
use Rattle.vault_model.proofs.Tests.{and_both}
use Rattle.bitwarden_fields.proofs.keys.field_of.Goals as goal

pub invariant_of-result : goal.invariant_of-result
invariant_of-result c =
    let key : is_utf8 c.args.key ≡ true = ap is_utf8 (sym c.as_str.ensures) ∙ is_utf8-from_IsUtf8 c.as_str.result.now c.as_str.utf8 in
    record { text = and_both (is_utf8 c.args.key) (is_utf8 c.in_ok-value.value.bytes) key c.in_ok-value.ensures.utf8 }
