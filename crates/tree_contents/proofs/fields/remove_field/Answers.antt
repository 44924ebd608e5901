use Rattle.std.proofs.Common.{List, refl, sym, ap, ◌∙◌}
use Rattle.std.specs.List.{position_from}
use Rattle.vault_model.specs.Seen.{bare_field}
use Rattle.vault_model.specs.declared.contents.Field.{Field}
use Rattle.tree_core.specs.NewNodes.{without_field}
use Rattle.tree_contents.proofs.Taken.{has_key, index_within, not_there, removed_at}
use Rattle.tree_contents.proofs.fields.remove_field.Goals as goal

pub remove-requires : goal.remove-requires
remove-requires c =
    let key = c.args.key.now in
    let place = sym (c.field_index.ensures ∙ ap (λ (fs : List Field). position_from (has_key key) 0 fs) c.as_slice.ensures) ∙ c.in-Some.is in
    index_within bare_field (has_key key) (without_field key) refl (λ f fs. refl) c.args.fields.now c.in-Some.at place

pub returns-in-Some : goal.returns-in-Some
returns-in-Some c =
    let key = c.args.key.now in
    let place = sym (c.field_index.ensures ∙ ap (λ (fs : List Field). position_from (has_key key) 0 fs) c.as_slice.ensures) ∙ c.in-Some.is in
    removed_at bare_field (has_key key) (without_field key) refl (λ f fs. refl) c.args.fields.now c.remove.new.self c.in-Some.at place c.remove.ensures.rest

pub returns-in_default : goal.returns-in_default
returns-in_default c =
    let key = c.args.key.now in
    let place = sym (c.field_index.ensures ∙ ap (λ (fs : List Field). position_from (has_key key) 0 fs) c.as_slice.ensures) ∙ c.in_default.is in
    not_there bare_field (has_key key) (without_field key) refl (λ f fs. refl) c.args.fields.now place
