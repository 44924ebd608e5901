-- What a version of KDBX 4 can have.
use Rattle.std.proofs.Common.{ℕ, List, Option}
use Rattle.kdbx_parts.specs.KeyCore.declared.kdf.Kdf.{Kdf}
use Rattle.vault_model.specs.declared.forms.FileVersion.{FileVersion}
use Rattle.vault_model.specs.declared.forms.FileVersion.TheVariants.{V31, V40, V41}
use Rattle.kdbx_frame.specs.Settings.{IsOfVersion, IsVersion4}

-- It can have any key derivation, and public data.
pub any_of_version : (version : FileVersion) (kdf : Kdf) (public : Option (List ℕ))
    → IsVersion4 version → IsOfVersion version kdf public
any_of_version V31 kdf public h = absurd h
any_of_version V40 kdf public h = tt
any_of_version V41 kdf public h = tt
