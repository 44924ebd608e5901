use Rattle.std.proofs.Common.{◌≡◌, ◌+◌, ◌∷◌, drop, map, max}
use Rattle.bitwarden_items.specs.Passwords.{EarlierPassword}
use Rattle.bitwarden_items.specs.Seen.{passwords_seen}
use Rattle.vault_model.specs.Db.{greatest}
use Rattle.bitwarden_items.proofs.entries.latest_of.Given as goal

-- the latest so far, and of those that are left, is the latest of all
abbrev pub invariant-loop-at : goal.invariant-loop-at
invariant-loop-at l =
    greatest (l.fn.seconds ∷ map (λ (p : EarlierPassword). p.date + 1) (passwords_seen l.fn.earlier))
    ≡ max l.latest (greatest (map (λ (p : EarlierPassword). p.date + 1) (passwords_seen (drop l.at l.fn.earlier))))
