-- The check of the MAC of a file of Password Safe V3.
use Rattle.std.specs.Prelude.{ℕ, List, bytes_eq, if◌then◌else◌, Result, Ok, Err}
use Rattle.psafe_file.specs.declared.fails.PsafeFail.{PsafeFail}
use Rattle.psafe_file.specs.declared.fails.PsafeFail.TheVariants as fail

-- The MAC that a file keeps is the one that was found.
abbrev pub mac_check : (kept found : List ℕ) → Result (Unit {0}) PsafeFail
mac_check kept found = if bytes_eq kept found then Ok tt else Err (fail.Mac kept found)
