use Rattle.bitwarden_items.proofs.Places.{IsPutFrom}
use Rattle.bitwarden_items.specs.Seen.{password_seen}
use Rattle.bitwarden_items.proofs.passwords.place_among.Given as goal

-- what is put among the passwords is put among those that are left
abbrev pub invariant-loop-at : goal.invariant-loop-at
invariant-loop-at l = IsPutFrom (password_seen l.fn.p) l.fn.rising l.at
