use Rattle.std.proofs.Common.{◌≡◌, drop}
use Rattle.std.specs.Prelude.{map}
use Rattle.vault_model.specs.Bare.{BareField}
use Rattle.vault_model.specs.Seen.{bare_field}
use Rattle.cli_showing.specs.inside.Names.{put_names}
use Rattle.cli_showing.proofs.changes.append_all.Given as goal

abbrev pub invariant-loop-field : goal.invariant-loop-field
invariant-loop-field l =
    put_names (map (λ (f : BareField). f.key) (map bare_field (drop l.field-index l.fields))) (l.text.bytes, l.more)
    ≡ put_names (map (λ (f : BareField). f.key) (map bare_field l.fields)) (l.fn.text.bytes, l.fn.some)
