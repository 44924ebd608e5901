use Rattle.std.proofs.Common.{sym, ◌∙◌}
use Rattle.std.proofs.lemmas.List.Folds.{list_all-map}
use Rattle.std.specs.Str.{is_utf8}
use Rattle.secret_core.specs.Secret.{SecretBuffer}
use Rattle.vault_model.specs.SeenDoc.{doc_seen}
use Rattle.cli_commands.specs.SeenChange.{inputs_seen}
use Rattle.cli_commands.proofs.Changes.{bin_needed, exported_given, lent_text, printed_given}
use Rattle.cli_commands.proofs.performing.change_document.Goals as goal

pub add_entry-requires : goal.add_entry-requires
add_entry-requires c = rw c.given_of-given.ensures.password (lent_text c.args.input.line c.requires.more)

pub edit_entry-requires-clause-password : goal.edit_entry-requires-clause-password
edit_entry-requires-clause-password c = rw c.given_of-given.ensures.password (lent_text c.args.input.line c.requires.more)

pub edit_entry-requires-clause-otp : goal.edit_entry-requires-clause-otp
edit_entry-requires-clause-otp c = rw c.given_of-given.ensures.otp (lent_text c.args.input.otp c.requires.otp)

pub edit_entry-requires-clause-fields : goal.edit_entry-requires-clause-fields
edit_entry-requires-clause-fields c =
    rw c.given_of-given.ensures.fields (sym (list_all-map is_utf8 (λ (value : SecretBuffer). value.bytes) c.args.input.fields.now) ∙ c.requires.fields)

pub remove_entry_of-requires : goal.remove_entry_of-requires
remove_entry_of-requires c = bin_needed _ c.args.id (doc_seen c.args.doc.now) c.bin_id-bin.ensures

pub remove_group_of-requires : goal.remove_group_of-requires
remove_group_of-requires c = bin_needed _ c.args.id (doc_seen c.args.doc.now) c.bin_id-bin-in-RemoveGroup.ensures

pub returns-in-Some-clause-told : goal.returns-in-Some-clause-told
returns-in-Some-clause-told c =
    let k = c.in-ExportAttachment in
    exported_given _ c.exported_file.result c.args.input.now c.args.command.now k.access k.file k.entry k.name k.to (inputs_seen c.args.input) c.args.id
    (doc_seen c.args.doc.now) k.is c.in-Some.to c.given_of-given.result.quiet c.given_of-given.result.file.now c.as_str-in-ExportAttachment.result.now
    c.as_str-in-ExportAttachment-2.result.now c.as_str-in-Some.result.now c.as_str-in-Some-2.result.now c.as_str-in-Some-3.result.now c.in-Some.is
    c.given_of-given.ensures.quiet c.given_of-given.ensures.file c.as_str-in-ExportAttachment.ensures c.as_str-in-ExportAttachment-2.ensures
    c.as_str-in-Some.ensures c.as_str-in-Some-2.ensures c.as_str-in-Some-3.ensures
    (c.exported_file.ensures.told _ _ c.attachment_of-taken.ensures.told)

pub returns-in-None-clause-told : goal.returns-in-None-clause-told
returns-in-None-clause-told c =
    let k = c.in-ExportAttachment in
    printed_given _ c.attachment_printed.result c.args.input.now c.args.command.now k.access k.file k.entry k.name k.to (inputs_seen c.args.input) c.args.id
    (doc_seen c.args.doc.now) k.is c.given_of-given.result.file.now c.as_str-in-ExportAttachment.result.now c.as_str-in-ExportAttachment-2.result.now c.in-None.is
    c.given_of-given.ensures.file c.as_str-in-ExportAttachment.ensures c.as_str-in-ExportAttachment-2.ensures
    (c.attachment_printed.ensures.told _ _ c.attachment_of-taken.ensures.told)
