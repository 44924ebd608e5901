use Rattle.std.proofs.Common.{◌≡◌, ◌+◌, drop, map}
use Rattle.std.specs.List.{enumerate_from}
use Rattle.bitwarden_fields.specs.Keys.{with_fields}
use Rattle.bitwarden_fields.specs.Said.{address_field, more_addresses}
use Rattle.bitwarden_fields.specs.Seen.{fields_seen}
use Rattle.serde_json.specs.View.{view}
use Rattle.bitwarden_fields.proofs.said.add_addresses.Given as goal

-- the fields so far, and those that are left, are all
abbrev pub invariant-loop-at : goal.invariant-loop-at
invariant-loop-at l =
    with_fields (more_addresses (map view l.fn.addresses)) (fields_seen l.initial.fields.items)
    ≡ with_fields (map address_field (enumerate_from (l.at + 1) (drop l.at (map view l.fn.addresses)))) (fields_seen l.fields.items)
