use Rattle.std.proofs.Common.{◌≡◌, drop}
use Rattle.std.specs.Prelude.{map}
use Rattle.std.specs.List.{filter}
use Rattle.find_references.specs.Fields.{is_other}
use Rattle.vault_model.specs.Seen.{bare_field}
use Rattle.vault_model.specs.SeenDoc.{doc_seen}
use Rattle.cli_showing.specs.Showing.{with_fields}
use Rattle.cli_showing.proofs.values.append_others.Given as goal

abbrev pub invariant-loop-field : goal.invariant-loop-field
invariant-loop-field l =
    with_fields (doc_seen l.doc) l.clear (filter is_other (map bare_field (drop l.field-index l.fields))) l.text.bytes
    ≡ with_fields (doc_seen l.doc) l.clear (filter is_other (map bare_field l.fields)) l.fn.text.bytes
