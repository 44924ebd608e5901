use Rattle.std.proofs.Common.{◌≡◌, drop, map}
use Rattle.bitwarden_fields.specs.Keys.{with_fields}
use Rattle.bitwarden_fields.specs.Said.{custom_field}
use Rattle.bitwarden_fields.specs.Seen.{fields_seen}
use Rattle.serde_json.specs.View.{view}
use Rattle.bitwarden_fields.proofs.said.add_customs.Given as goal

-- the fields so far, and those that are left, are all
abbrev pub invariant-loop-custom : goal.invariant-loop-custom
invariant-loop-custom l =
    with_fields (map custom_field (map view l.fn.customs)) (fields_seen l.initial.fields.items)
    ≡ with_fields (map custom_field (map view (drop l.custom-index l.fn.customs))) (fields_seen l.fields.items)
