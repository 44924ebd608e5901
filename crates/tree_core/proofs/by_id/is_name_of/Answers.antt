use Rattle.std.proofs.Common.{◌∙◌, ap, sym}
use Rattle.std.specs.Prelude.{codes, option_map}
use Rattle.uuid.specs.Text.{hyphenated_text, lower}
use Rattle.tree_core.specs.Path as spec
use Rattle.tree_core.proofs.ByIds.{named_where_left, not_named}
use Rattle.tree_core.proofs.by_id.is_name_of.Goals as goal

pub returns-in_default : goal.returns-in_default
returns-in_default c =
    not_named (hyphenated_text lower c.args.id.now) c.args.text.now (sym c.strip_prefix.ensures ∙ ap (option_map (λ r. r.now)) c.in_default.is)

pub returns : goal.returns
returns c =
    let shown = hyphenated_text lower c.args.id.now in
    let rest = c.in-Some.rest.now in
    c.is_exactly.ensures
    ∙ ap (spec.is_exactly (codes "}")) (c.strip_prefix-2.ensures ∙ ap (λ t. spec.strip_prefix t rest) (c.as_bytes.ensures.value ∙ c.encode_hyphenated-shown.ensures))
    ∙ named_where_left shown c.args.text.now rest (sym c.strip_prefix.ensures ∙ ap (option_map (λ r. r.now)) c.in-Some.is)
