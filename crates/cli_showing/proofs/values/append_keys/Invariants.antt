use Rattle.std.proofs.Common.{◌≡◌, drop}
use Rattle.std.specs.Prelude.{map}
use Rattle.vault_model.specs.Seen.{bare_field}
use Rattle.vault_model.specs.SeenDoc.{doc_seen}
use Rattle.cli_showing.specs.Showing.{with_keys}
use Rattle.cli_showing.proofs.values.append_keys.Given as goal

abbrev pub invariant-loop-key : goal.invariant-loop-key
invariant-loop-key l =
    with_keys (doc_seen l.doc) l.clear (map bare_field l.fields) (map (λ key. key.now) (drop l.key-index l.keys)) l.text.bytes
    ≡ with_keys (doc_seen l.doc) l.clear (map bare_field l.fields) (map (λ key. key.now) l.keys) l.fn.text.bytes
