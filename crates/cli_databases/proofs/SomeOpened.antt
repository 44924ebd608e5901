-- What is known of a database that some file holds.
use Rattle.std.proofs.Common.{◌≡◌, ℕ, List, sym, ap, Bool, true, false, Option}
use Rattle.std.specs.Prelude.{is_some, not}
use Rattle.cli_files.specs.Files.{Opened}
use Rattle.cli_databases.specs.SomeFiles.{SomeHolds}

-- It is sealed exactly where it is no plain document.
pub sealed_unless_plain : (plain : Bool) (key_file password : Option (List ℕ)) (o : Opened) → SomeHolds plain key_file password o
    → is_some o.sealing ≡ not plain
sealed_unless_plain true key_file password o h = ap (λ (x : Opened). is_some x.sealing) (sym h.is)
sealed_unless_plain false key_file password o h = ap (λ (x : Opened). is_some x.sealing) (sym h.sealed.1.1)
