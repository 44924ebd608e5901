-- The stack of a reader: for each open element where its name begins in the text, and where it
-- ends.
use Rattle.std.specs.Prelude.{ℕ, zero, suc, ◌≤◌, ◌<◌, List, [], ◌∷◌, length, slice_range, slice_index_or}

-- each of the first spans lies in the text
abbrev pub SpansFit : List ℕ → List (ℕ × ℕ) → ℕ → Type 0
SpansFit text spans depth =
    (k : ℕ) → k < depth
    → ((slice_index_or spans k (0, 0)).0 ≤ (slice_index_or spans k (0, 0)).1)
    × ((slice_index_or spans k (0, 0)).1 ≤ length text)

-- the bytes of the text in a span
abbrev pub part : List ℕ → ℕ × ℕ → List ℕ
part text span = slice_range text span.0 span.1

-- the names of the elements that are open, the innermost first
abbrev pub open_names : List ℕ → List (ℕ × ℕ) → ℕ → List (List ℕ)
open_names text spans zero = []
open_names text spans (suc depth) = part text (slice_index_or spans depth (0, 0)) ∷ open_names text
    spans depth
