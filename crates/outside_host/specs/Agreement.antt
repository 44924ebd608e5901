-- Just those answers agree with the content that an object reports which the traits allow to an
-- object that holds this content.
use Rattle.std.specs.Prelude.{◌≡◌, ℕ, ◌<◌, ◌≤◌, List, [], ◌++◌, length, take, drop, option_map, None, Some, Decides}
use Rattle.std.specs.FinMap.{get}
use Rattle.outside_core.specs.Files.{FileMap, window_of}
use Rattle.outside_host.specs.Answers.{lacks, has_length, has_window, begins_with, gives}

-- That a file is missing.
abbrev pub MissingAgrees : Type 0
MissingAgrees = (name : List ℕ) (files : FileMap)
    → Decides (lacks name files) (get files name ≡ None)

-- A length.
abbrev pub LengthAgrees : Type 0
LengthAgrees = (name : List ℕ) (len : ℕ) (files : FileMap)
    → Decides (has_length name len files) (option_map length (get files name) ≡ Some len)

-- Bytes of a file from an offset on.
abbrev pub WindowAgrees : Type 0
WindowAgrees = (name : List ℕ) (from : ℕ) (out : List ℕ) (read : ℕ) (files : FileMap)
    → Decides (has_window name from out read files)
    (window_of files name from (length out) ≡ Some (take read out))

-- Bytes of input.
abbrev pub ReadAgrees : Type 0
ReadAgrees = (out : List ℕ) (read : ℕ) (left : List ℕ) → read ≤ length out
    → Decides (gives out read left)
    ((left ≡ take read out ++ drop read left) × (read ≡ 0 → 0 < length out → left ≡ []))

-- Random bytes.
abbrev pub FillAgrees : Type 0
FillAgrees = (out left : List ℕ)
    → Decides (begins_with out left) (left ≡ out ++ drop (length out) left)
