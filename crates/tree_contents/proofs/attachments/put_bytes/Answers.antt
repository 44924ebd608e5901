use Rattle.std.proofs.Common.{List, sym, ap, ◌∙◌, true}
use Rattle.vault_model.specs.Bare.{BareAttachment}
use Rattle.vault_model.specs.Orders.{bytes_cmp}
use Rattle.vault_model.specs.Seen.{bare_attachment}
use Rattle.vault_model.specs.declared.contents.Attachment.{Attachment}
use Rattle.tree_contents.specs.Spots.{spot}
use Rattle.tree_contents.proofs.Places.{inserted_at_spot, joined_at_spot, spot_end, spot_seen}
use Rattle.tree_contents.proofs.attachments.put_bytes.Goals as goal

pub insert_at-requires : goal.insert_at-requires
insert_at-requires c =
    spot_end (λ (a : Attachment). bytes_cmp c.args.name.now a.name) c.args.attachments.now c.in-Err.at c.attachment_spot.result
    (c.attachment_spot.ensures ∙ ap (λ (list : List Attachment). spot (λ (a : Attachment). bytes_cmp c.args.name.now a.name) list) c.as_slice.ensures) c.in-Err.is

pub returns-in-Ok : goal.returns-in-Ok
returns-in-Ok c =
    let name = c.args.name.now in
    let bytes = c.args.bytes.now.value.bytes in
    let place = c.attachment_spot.ensures ∙ ap (λ (list : List Attachment). spot (λ (a : Attachment). bytes_cmp name a.name) list) c.as_slice.ensures in
    joined_at_spot bare_attachment (λ (a : BareAttachment). bytes_cmp name a.name) (record { name = name; bytes = bytes; hidden = true }) (λ (a : BareAttachment). record a { bytes = bytes })
    c.args.attachments.now c.replace_bytes.new.attachments c.in-Ok.at c.replace_bytes.result
    (spot_seen bare_attachment (λ (a : BareAttachment). bytes_cmp name a.name) c.args.attachments.now ∙ sym place ∙ c.in-Ok.is) c.replace_bytes.ensures

pub returns-in_ok-new-in-Err : goal.returns-in_ok-new-in-Err
returns-in_ok-new-in-Err c =
    let name = c.args.name.now in
    let bytes = c.args.bytes.now.value.bytes in
    let place = c.attachment_spot.ensures ∙ ap (λ (list : List Attachment). spot (λ (a : Attachment). bytes_cmp name a.name) list) c.as_slice.ensures in
    inserted_at_spot bare_attachment (λ (a : BareAttachment). bytes_cmp name a.name) (record { name = name; bytes = bytes; hidden = true }) (λ (a : BareAttachment). record a { bytes = bytes })
    c.args.attachments.now c.insert_at.new.list c.in-Err.at c.in_ok-new-in-Err.new c.insert_at.result c.in_ok-new-in-Err.ensures
    (spot_seen bare_attachment (λ (a : BareAttachment). bytes_cmp name a.name) c.args.attachments.now ∙ sym place ∙ c.in-Err.is) c.insert_at.ensures
