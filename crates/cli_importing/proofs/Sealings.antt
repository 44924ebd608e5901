-- What a new file is sealed with.
use Rattle.std.proofs.Common.{◌≡◌, ℕ, List, refl, ap, Bool, true, false, Option}
use Rattle.std.specs.Prelude.{is_some, not}
use Rattle.kdbx_frame.specs.declared.sealings.Sealing.{Sealing}
use Rattle.kdbx_frame.specs.Settings.{IsInOrder}
use Rattle.cli_importing.specs.Held.{SomeSealing}
use Rattle.cli_importing.specs.Imports.{new_settings}

-- It is sealed exactly where it is to be no plain document.
pub sealed_anew : (plain : Bool) (key_file password : Option (List ℕ)) (sealing : Option Sealing) → SomeSealing plain key_file password sealing
    → is_some sealing ≡ not plain
sealed_anew true key_file password sealing h = ap is_some h
sealed_anew false key_file password sealing h = ap is_some h.1.1

-- The settings of a new file are in order.
pub new_in_order : IsInOrder new_settings
new_in_order = record { kdf = refl; version = tt; public = tt }
