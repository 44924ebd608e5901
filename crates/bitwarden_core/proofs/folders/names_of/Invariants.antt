use Rattle.std.proofs.Common.{◌≡◌, ◌++◌, Bor, List, ℕ, drop, filter, map}
use Rattle.bitwarden_core.specs.Folders.{is_name}
use Rattle.bitwarden_core.proofs.folders.names_of.Given as goal

-- the names so far, with those that are left, are all
abbrev pub invariant-loop-part : goal.invariant-loop-part
invariant-loop-part l = filter is_name (map (λ (part : Bor (List ℕ)). part.now) l.parts) ≡ l.names ++ filter is_name (map (λ (part : Bor (List ℕ)). part.now) (drop l.part-index l.parts))
