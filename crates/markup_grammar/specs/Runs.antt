-- Runs of text: bytes that stand for themselves, and references.
use Rattle.std.specs.Prelude.{ℕ, ◌≡◌, Bool, true, List, [], ◌∷◌, ◌++◌}
use Rattle.markup_grammar.specs.References.{Reference, reference_body, IsReference}

-- one of a run
pub data Bit : Type 0 where
  -- a byte that stands for itself
  plain : ℕ → Bit
  reference : Reference → Bit

-- the bytes of a run
abbrev pub spelled_bits : List Bit → List ℕ
spelled_bits [] = []
spelled_bits (plain b ∷ bits) = b ∷ spelled_bits bits
spelled_bits (reference r ∷ bits) = 38 ∷ (reference_body r ++ (59 ∷ spelled_bits bits))

-- bytes that stand for themselves pass the test, and references are good
abbrev pub AreBits : (ℕ → Bool) → List Bit → Type 0
AreBits test [] = Unit {0}
AreBits test (plain b ∷ bits) = (test b ≡ true) × AreBits test bits
AreBits test (reference r ∷ bits) = IsReference r × AreBits test bits

-- the bytes are a run
pub record IsRun (test : ℕ → Bool) (bytes : List ℕ) : Type 0 where
  pub bits : List Bit
  pub are_bits : AreBits test bits
  pub spells : bytes ≡ spelled_bits bits
