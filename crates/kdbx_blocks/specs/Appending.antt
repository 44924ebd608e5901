-- A content on its way into the blocks of a draft.
use Rattle.std.specs.Prelude.{◌≡◌, ℕ, zero, suc, ◌+◌, ◌<◌, ◌≤◌, List, [], ◌++◌, take, drop, slice_index_or}
use Rattle.kdbx_blocks.specs.Pieces.{blocks_to_end, pieces}

-- So many heads from the one of this index on, each with the next piece of a content after it.
unfoldable pub headed : ℕ → ℕ → List (List ℕ) → List ℕ → List ℕ
headed zero index heads left = []
headed (suc n) index heads left =
    slice_index_or heads index [] ++ take 1048576 left
    ++ headed n (suc index) heads (drop 1048576 left)

-- Of what was left of a content, whose blocks begin with block i, these bytes are the first blocks,
-- and the blocks of what is left now begin with block j.
abbrev pub AreNext : List ℕ → ℕ → List ℕ → List ℕ → ℕ → List ℕ → Type 0
AreNext base i left bytes j rest =
    bytes ++ blocks_to_end base j (pieces rest) ≡ blocks_to_end base i (pieces left)

-- A draft with the blocks of what was left of a content, from block i on, is a draft with the
-- blocks of what is left now, from block j on.
abbrev pub GoesOn : List ℕ → List ℕ → ℕ → List ℕ → List ℕ → ℕ → List ℕ → Type 0
GoesOn base old i left new j rest =
    new ++ blocks_to_end base j (pieces rest) ≡ old ++ blocks_to_end base i (pieces left)

-- Of what was left, so many bytes were appended, some at least, in no more blocks than bytes.
pub record IsStep (i j n left : ℕ) : Type 0 where
  pub some : 0 < n
  pub within : n ≤ left
  pub index : j ≤ i + n
