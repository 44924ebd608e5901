-- Settings that are alike but for the seed or salt of their key derivation.
use Rattle.std.specs.Prelude.{◌≡◌, ℕ, List, []}
use Rattle.vault_model.specs.Tree.{BareDoc}
use Rattle.kdbx_frame.specs.declared.settings.Settings.{Settings}
use Rattle.cli_sealing.specs.KdbxWriting.Kdf.{with_salt}
use Rattle.cli_sealing.specs.Sealing.{sealed_file}

-- Settings without the seed or salt of their key derivation.
abbrev pub unsalted : Settings → Settings
unsalted settings = record settings { kdf = with_salt settings.kdf [] }

-- Settings differ in that seed or salt at most.
abbrev pub AreAlike : Settings → Settings → Type 0
AreAlike one other = unsalted one ≡ unsalted other

-- With such settings the same file is written of a document, over the same dice, and the same is
-- left of them; or the same is refused.
abbrev pub OldSaltsAreNotSeen : Type 0
OldSaltsAreNotSeen = (one other : Settings) → AreAlike one other
    → (name composite : List ℕ) (doc : BareDoc) (dice : List ℕ)
    → sealed_file name one composite doc dice ≡ sealed_file name other composite doc dice
