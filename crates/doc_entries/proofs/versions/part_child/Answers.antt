use Rattle.std.proofs.Common.{List}
use Rattle.std.proofs.lemmas.Result.{err_from_is_err_and}
use Rattle.vault_model.specs.declared.contents.AutoType.{AutoType}
use Rattle.vault_model.specs.declared.contents.Item.{Item}
use Rattle.doc_forms.specs.declared.times.Times.{Times}
use Rattle.doc_forms.specs.Entries.{EntryParts, part_rows, with_attachment, with_content, with_field}
use Rattle.doc_entries.specs.SeenBuilders.{entry_known}
use Rattle.doc_walk.proofs.Branches.{passed_over, put_in, refused_in}
use Rattle.doc_walk.proofs.Rests.{kept_in}
use Rattle.doc_entries.proofs.versions.part_child.Goals as goal

pub returns-in-Times : goal.returns-in-Times
returns-in-Times c = rw c.in-Times.is (kept_in (λ (v : Times). let p : EntryParts = record (entry_known c.args.known.now) { times = v } in p) c.times.ensures)

pub returns-in_ok-field-in-String : goal.returns-in_ok-field-in-String
returns-in_ok-field-in-String c = rw c.in-String.is (put_in (with_field (entry_known c.args.known.now)) c.in_ok-field-in-String.ensures c.put_field.ensures)

pub returns-in_err-field-in-String : goal.returns-in_err-field-in-String
returns-in_err-field-in-String c =
    let p = err_from_is_err_and c.from_residual.result c.from_residual.ensures.1 in
    rw (p.1, p.2, c.in-String.is) (refused_in (with_field (entry_known c.args.known.now)) c.in_err-field-in-String.ensures)

pub returns-in_ok-attachment-in-Binary : goal.returns-in_ok-attachment-in-Binary
returns-in_ok-attachment-in-Binary c = rw c.in-Binary.is (put_in (with_attachment (entry_known c.args.known.now)) c.in_ok-attachment-in-Binary.ensures c.put_attachment.ensures)

pub returns-in_err-attachment-in-Binary : goal.returns-in_err-attachment-in-Binary
returns-in_err-attachment-in-Binary c =
    let p = err_from_is_err_and c.from_residual-in_err-attachment-in-Binary.result c.from_residual-in_err-attachment-in-Binary.ensures.1 in
    rw (p.1, p.2, c.in-Binary.is) (refused_in (with_attachment (entry_known c.args.known.now)) c.in_err-attachment-in-Binary.ensures)

pub returns-in-AutoType : goal.returns-in-AutoType
returns-in-AutoType c = rw c.in-AutoType.is (kept_in (λ (v : AutoType). with_content (λ m. record m { auto_type = v }) (entry_known c.args.known.now)) c.auto_type.ensures)

pub returns-in-CustomData : goal.returns-in-CustomData
returns-in-CustomData c = rw c.in-CustomData.is (kept_in (λ (v : List Item). with_content (λ m. record m { items = v }) (entry_known c.args.known.now)) c.custom_data.ensures)

pub returns-in_default : goal.returns-in_default
returns-in_default c =
    passed_over c.args.walk.now c.pass.new.self c.pass.result part_rows (entry_known c.args.known.now) c.args.tag.now
    (λ _. (c.in_default.not-Times, (c.in_default.not-String, (c.in_default.not-Binary, (c.in_default.not-AutoType, (c.in_default.not-CustomData, tt))))))
    c.pass.ensures
