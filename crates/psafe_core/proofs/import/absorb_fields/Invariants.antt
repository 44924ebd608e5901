use Rattle.std.proofs.Common.{ℕ, List, ◌++◌, take}
use Rattle.mac_core.specs.Hmac256.{HasAbsorbed}
use Rattle.psafe_file.specs.Fields.{contents_of}
use Rattle.psafe_file.specs.SeenFields.{fields_seen}
use Rattle.psafe_core.proofs.import.absorb_fields.Given as goal

abbrev pub invariant-loop-field : goal.invariant-loop-field
invariant-loop-field l = (key message : List ℕ) → HasAbsorbed l.initial.computed key message
    → HasAbsorbed l.computed key (message ++ contents_of (fields_seen (take l.field-index l.fields)))
