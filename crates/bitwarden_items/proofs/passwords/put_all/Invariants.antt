use Rattle.std.proofs.Common.{◌≡◌, drop, map}
use Rattle.bitwarden_items.specs.Passwords.{earlier_password, put_passwords}
use Rattle.bitwarden_items.specs.Seen.{passwords_seen}
use Rattle.serde_json.specs.View.{view}
use Rattle.bitwarden_items.proofs.passwords.put_all.Given as goal

-- the passwords so far, with those that are left, are all
abbrev pub invariant-loop-value : goal.invariant-loop-value
invariant-loop-value l =
    put_passwords (map (earlier_password l.fn.now) (map view l.fn.history)) (passwords_seen l.initial.rising.items)
    ≡ put_passwords (map (earlier_password l.fn.now) (map view (drop l.value-index l.fn.history))) (passwords_seen l.rising.items)
