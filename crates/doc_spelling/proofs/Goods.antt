-- What the parts of a document must be so that they are read back: their numbers are of their types,
-- their ids have 16 bytes, and their times are stamps.
use Rattle.std.proofs.Common.{◌≡◌, ℕ, ◌≤◌, true, Option, Some, None, List, [], ◌∷◌, length, ℤ, int_le}
use Rattle.base64.specs.GeneralPurpose.{IsBytes}
use Rattle.time_core.specs.Times.{last_stamp}
use Rattle.doc_forms.specs.declared.times.Times.{Times}

-- each of some things
abbrev pub Each : {A : Type 0} → (A → Type 0) → List A → Type 0
Each P [] = Unit {0}
Each P (x ∷ xs) = P x × Each P xs

-- a thing, where there is one
abbrev pub If : {A : Type 0} → (A → Type 0) → Option A → Type 0
If P None = Unit {0}
If P (Some x) = P x

-- The bytes of an id.
pub record IsId (u : List ℕ) : Type 0 where
  pub bytes : IsBytes u
  pub sixteen : length u ≡ 16

-- The bytes of a SHA-256.
pub record IsHash (h : List ℕ) : Type 0 where
  pub bytes : IsBytes h
  pub length : length h ≡ 32

-- A whole number with a sign, between these two.
pub record IsSigned (least most z : ℤ) : Type 0 where
  pub low : int_le least z ≡ true
  pub high : int_le z most ≡ true

-- Times of the years 1 to 9999, and a count of 64 bits.
pub record GoodTimes (t : Times) : Type 0 where
  pub modified : t.modified ≤ last_stamp
  pub created : t.created ≤ last_stamp
  pub accessed : t.accessed ≤ last_stamp
  pub expiry : t.expiry ≤ last_stamp
  pub placed : t.placed ≤ last_stamp
  pub usage : t.usage ≤ 18446744073709551615
