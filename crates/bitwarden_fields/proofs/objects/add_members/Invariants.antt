use Rattle.std.proofs.Common.{◌≡◌}
use Rattle.bitwarden_fields.specs.Keys.{with_fields}
use Rattle.bitwarden_fields.specs.Said.{member_fields}
use Rattle.bitwarden_fields.specs.Seen.{fields_seen}
use Rattle.serde_json.specs.View.{members_view}
use Rattle.bitwarden_fields.proofs.objects.add_members.Given as goal

-- the fields so far, and those that are left, are all
abbrev pub invariant-loop-key : goal.invariant-loop-key
invariant-loop-key l =
    with_fields (member_fields l.fn.is_card (members_view l.fn.members.entries)) (fields_seen l.initial.fields.items)
    ≡ with_fields (member_fields l.fn.is_card (members_view l.key-iterator)) (fields_seen l.fields.items)
