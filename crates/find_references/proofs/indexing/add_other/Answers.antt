use Rattle.std.proofs.Common.{sym, ap, ◌∙◌}
use Rattle.std.specs.List.{list_any}
use Rattle.std.specs.Str.{bytes_eq}
use Rattle.find_references.proofs.IndexSteps.{adds_named, adds_unnamed, all_lent}
use Rattle.find_references.specs.Fields.{named_keys}
use Rattle.vault_model.specs.Seen.{bare_field}
use Rattle.find_references.proofs.indexing.add_other.Goals as goal

pub returns-then-is_named_key : goal.returns-then-is_named_key
returns-then-is_named_key c =
    adds_named _ (bare_field c.args.field.now) _
    (ap (λ key. list_any (bytes_eq key) named_keys) (sym c.as_str.ensures) ∙ sym c.is_named_key.ensures ∙ c.if-is_named_key.true)

pub returns : goal.returns
returns c =
    adds_unnamed _ _ (bare_field c.args.field.now) _ _
    (ap (λ key. list_any (bytes_eq key) named_keys) (sym c.as_str.ensures) ∙ sym c.is_named_key.ensures ∙ c.if-is_named_key.false)
    (all_lent c.args.field.now.value.bytes c.lend-value.result.now c.len.result c.lend-value.ensures c.len.ensures) c.in_ok-add_text.ensures
