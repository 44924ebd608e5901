use Rattle.std.proofs.Common.{List, refl, sym, ap, ◌∙◌}
use Rattle.std.specs.List.{position_from}
use Rattle.vault_model.specs.Seen.{bare_attachment}
use Rattle.vault_model.specs.declared.contents.Attachment.{Attachment}
use Rattle.tree_core.specs.Attachments.{but_attachment}
use Rattle.tree_contents.proofs.Taken.{has_name, index_within, not_there, removed_at}
use Rattle.tree_contents.proofs.attachments.remove_named.Goals as goal

pub remove-requires : goal.remove-requires
remove-requires c =
    let name = c.args.name.now in
    let place = sym (c.attachment_index.ensures ∙ ap (λ (list : List Attachment). position_from (has_name name) 0 list) c.as_slice.ensures) ∙ c.in-Some.is in
    index_within bare_attachment (has_name name) (but_attachment name) refl (λ a list. refl) c.args.attachments.now c.in-Some.at place

pub returns-in-Some : goal.returns-in-Some
returns-in-Some c =
    let name = c.args.name.now in
    let place = sym (c.attachment_index.ensures ∙ ap (λ (list : List Attachment). position_from (has_name name) 0 list) c.as_slice.ensures) ∙ c.in-Some.is in
    removed_at bare_attachment (has_name name) (but_attachment name) refl (λ a list. refl) c.args.attachments.now c.remove.new.self c.in-Some.at place c.remove.ensures.rest

pub returns-in_default : goal.returns-in_default
returns-in_default c =
    let name = c.args.name.now in
    let place = sym (c.attachment_index.ensures ∙ ap (λ (list : List Attachment). position_from (has_name name) 0 list) c.as_slice.ensures) ∙ c.in_default.is in
    not_there bare_attachment (has_name name) (but_attachment name) refl (λ a list. refl) c.args.attachments.now place
