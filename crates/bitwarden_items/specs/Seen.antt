-- What is seen of earlier passwords in memory.
use Rattle.std.specs.Prelude.{List, map}
use Rattle.bitwarden_items.specs.Passwords.{EarlierPassword}
use Rattle.bitwarden_items.specs.declared.passwords.EarlierPassword as memory

-- a password without memory
abbrev pub password_seen : memory.EarlierPassword → EarlierPassword
password_seen p = record { date = p.date; password = p.password }

-- passwords without memory
abbrev pub passwords_seen : List memory.EarlierPassword → List EarlierPassword
passwords_seen ps = map password_seen ps
