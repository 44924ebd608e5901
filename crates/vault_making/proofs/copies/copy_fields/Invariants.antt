use Rattle.std.proofs.Common.{◌≡◌, ◌++◌, drop, map}
use Rattle.vault_model.specs.Seen.{bare_field}
use Rattle.vault_making.proofs.copies.copy_fields.Given as goal

abbrev pub invariant-loop-field : goal.invariant-loop-field
invariant-loop-field l = map bare_field l.copy ++ map bare_field (drop l.field-index l.fields) ≡ map bare_field l.fields
