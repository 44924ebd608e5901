-- How binaries are found by their numbers.
use Rattle.std.specs.Prelude.{◌≡◌, ℕ, List, map, option_and_then}
use Rattle.std.specs.BTreeMap.{BTreeMap, get}
use Rattle.std.specs.List.{slice_get}
use Rattle.std.specs.Ordering.{nat_cmp}
use Rattle.doc_forms.specs.declared.drafts.Binary.{Binary}
use Rattle.doc_forms.specs.Attachments.{binary_of}
use Rattle.doc_forms.specs.SeenDrafts.{binary_seen}

-- the binary at the position that is kept of a number is the binary of the number
abbrev pub Finds : BTreeMap ℕ ℕ → List Binary → Type 0
Finds positions binaries =
    (n : ℕ) → option_and_then (slice_get (map binary_seen binaries)) (get nat_cmp positions n)
    ≡ binary_of (map binary_seen binaries) n
