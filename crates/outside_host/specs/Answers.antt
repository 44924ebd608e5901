-- Which answers of the host agree with what an object reports: those that an outside which holds
-- just that would give. A refusal agrees with everything, but that of a missing file.
use Rattle.std.specs.Prelude.{ℕ, Bool, true, false, ◌&&◌, ◌||◌, ◌==◌, not, List, length, take, drop, Option, None, Some, is_none, Result, Ok, Err}
use Rattle.std.specs.Str.{bytes_eq}
use Rattle.std.specs.FinMap.{get}
use Rattle.outside_core.specs.Files.{FileMap, window_of}
use Rattle.outside_core.specs.declared.fails.FileFail.{FileFail}
use Rattle.outside_core.specs.declared.fails.FileFail.TheVariants.{Failed, NoSuchFile, NoMemory}

-- Something is there, and is so.
abbrev pub has : {A : Type 0} → (A → Bool) → Option A → Bool
has is None = false
has is (Some it) = is it

-- There is no file of this name.
abbrev pub lacks : List ℕ → FileMap → Bool
lacks name files = is_none (get files name)

-- The file of this name has this length.
abbrev pub has_length : List ℕ → ℕ → FileMap → Bool
has_length name len files = has (λ bytes. length bytes == len) (get files name)

-- From an offset on, the file of this name has the first bytes of `out`, as many as were read, and it
-- has no more of them that `out` has room for.
abbrev pub has_window : List ℕ → ℕ → List ℕ → ℕ → FileMap → Bool
has_window name from out read files =
    has (λ bytes. bytes_eq bytes (take read out)) (window_of files name from (length out))

-- A stream begins with these bytes.
abbrev pub begins_with : List ℕ → List ℕ → Bool
begins_with bytes left = bytes_eq (take (length bytes) left) bytes

-- A stream begins with the first bytes of `out`, as many as were read; where none was read though
-- there was room, it is at its end.
abbrev pub gives : List ℕ → ℕ → List ℕ → Bool
gives out read left =
    begins_with (take read out) left && (not (read == 0) || length out == 0 || length left == 0)

-- What a refusal says of the files.
abbrev pub agrees_refusal : List ℕ → FileFail → FileMap → Bool
agrees_refusal name Failed files = true
agrees_refusal name NoSuchFile files = lacks name files
agrees_refusal name NoMemory files = true

-- What the answer to opening a file says of the files.
abbrev pub agrees_open : {T : Type 0} → List ℕ → Result T FileFail → FileMap → Bool
agrees_open name (Ok opened) files = true
agrees_open name (Err fail) files = agrees_refusal name fail files

-- The length that was answered is that of the file.
abbrev pub agrees_size : List ℕ → Result ℕ FileFail → FileMap → Bool
agrees_size name (Ok len) files = has_length name len files
agrees_size name (Err fail) files = agrees_refusal name fail files

-- The bytes that were read from an offset on are those of the file.
abbrev pub agrees_window : List ℕ → ℕ → List ℕ → Result ℕ FileFail → FileMap → Bool
agrees_window name from out (Ok read) files = has_window name from out read files
agrees_window name from out (Err fail) files = agrees_refusal name fail files

-- The bytes that were read are the next of the input.
abbrev pub agrees_read : {E : Type 0} → List ℕ → Result ℕ E → List ℕ → Bool
agrees_read out (Ok read) left = gives out read left
agrees_read out (Err fail) left = true

-- What is left of the input after an answer.
abbrev pub after_read : {E : Type 0} → Result ℕ E → List ℕ → List ℕ
after_read (Ok read) left = drop read left
after_read (Err fail) left = left

-- The bytes that were drawn are the next of the random ones.
abbrev pub agrees_fill : {T E : Type 0} → List ℕ → Result T E → List ℕ → Bool
agrees_fill out (Ok filled) left = begins_with out left
agrees_fill out (Err fail) left = true

-- What is left of the random bytes after an answer.
abbrev pub after_fill : {T E : Type 0} → List ℕ → Result T E → List ℕ → List ℕ
after_fill out (Ok filled) left = drop (length out) left
after_fill out (Err fail) left = left
