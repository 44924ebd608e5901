use Rattle.std.proofs.Common.{List, Ok, [], ap, sym, ◌∙◌}
use Rattle.psafe_file.specs.Fields.{contents_of, records_of}
use Rattle.psafe_file.specs.SeenFields.{fields_seen}
use Rattle.psafe_file.specs.declared.fields.SafeField as memory
use Rattle.vault_model.specs.SeenDoc.{doc_seen}
use Rattle.psafe_core.proofs.Whole.{content_read}
use Rattle.psafe_core.proofs.import.read_bytes.Goals as goal

pub returns : goal.returns
returns c = λ key absorbed.
    let fields = fields_seen c.as_slice.result.now in
    let absorbed_all = c.absorb_fields.ensures key [] absorbed in
    let checked = c.check_mac.ensures key (contents_of fields) absorbed_all in
    content_read doc_seen key c.args.now (record { bytes = c.args.bytes.now; mac = c.args.mac.now }) fields (records_of (fields_seen c.as_slice-2.result.now)) c.read_records-read.result
    (c.in_ok-fields.ensures ∙ ap (λ (l : List memory.SafeField). Ok (fields_seen l)) (sym c.as_slice.ensures))
    (sym checked ∙ c.in_default.is)
    (ap (λ (l : List memory.SafeField). records_of (fields_seen l)) (c.as_slice-2.ensures ∙ sym c.as_slice.ensures))
    c.read_records-read.ensures
