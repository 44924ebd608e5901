use Rattle.std.proofs.Common.{◌≡◌, drop}
use Rattle.std.specs.Prelude.{map}
use Rattle.vault_model.specs.Seen.{bare_field}
use Rattle.vault_model.specs.SeenDoc.{doc_seen}
use Rattle.cli_showing.specs.Showing.{with_names}
use Rattle.cli_showing.proofs.values.append_names.Given as goal

abbrev pub invariant-loop-name : goal.invariant-loop-name
invariant-loop-name l =
    with_names (doc_seen l.doc) (map bare_field l.fields) (drop l.name-index l.names) l.text.bytes
    ≡ with_names (doc_seen l.doc) (map bare_field l.fields) l.names l.fn.text.bytes
