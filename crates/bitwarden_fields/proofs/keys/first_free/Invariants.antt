use Rattle.std.proofs.Common.{◌≡◌, ◌+◌, ◌-◌, length}
use Rattle.bitwarden_fields.specs.Keys.{first_free}
use Rattle.bitwarden_fields.specs.Seen.{fields_seen}
use Rattle.bitwarden_fields.proofs.keys.first_free.Given as goal

-- the first of the numbers that are left is the first of all
abbrev pub invariant-loop-number : goal.invariant-loop-number
invariant-loop-number l =
    first_free (length l.fn.fields) 2 (fields_seen l.fn.fields) l.fn.key ≡ first_free (length l.fn.fields + 2 - l.number) l.number (fields_seen l.fn.fields) l.fn.key
