-- Under which condition dice choose a password.
use Rattle.std.specs.Prelude.{◌≡◌, ◌<◌, ◌≤◌, ◌*◌, ℕ, List, ◌∷◌, ◌++◌, length, Ok}
use Rattle.cli_generating.specs.Generated.{generated}
use Rattle.gen_core.specs.Chosen.{bound, tries}

-- One of some bytes is accepted for an alphabet of n characters: it is below the greatest multiple
-- of n up to 256.
pub record HasAccepted (n : ℕ) (bytes : List ℕ) : Type 0 where
  pub front : List ℕ
  pub byte : ℕ
  pub back : List ℕ
  pub is : bytes ≡ front ++ (byte ∷ back)
  pub below : byte < bound n

-- The dice give 128 bytes for each character of a text, and of any 128 bytes one after the other one
-- is accepted.
pub record CanChoose (alphabet : List ℕ) (wanted : ℕ) (dice : List ℕ) : Type 0 where
  pub enough : wanted * tries ≤ length dice
  pub accepted : (front part back : List ℕ) → dice ≡ front ++ (part ++ back)
      → length part ≡ tries → HasAccepted (length alphabet) part

-- Such dice choose a password.
abbrev pub PasswordsAreChosen : Type 0
PasswordsAreChosen = (alphabet : List ℕ) (wanted : ℕ) (dice : List ℕ)
    → CanChoose alphabet wanted dice
    → (password : List ℕ) × ((generated alphabet wanted dice).answer ≡ Ok password)
