-- What a key is and what key files hold, both ways.
use Rattle.std.proofs.Common.{◌≡◌, ℕ, List, length, refl, sym, ◌∙◌, ap, Bool, true, false, cond, nat_le, Option, Some, None, Result, Ok, Err}
use Rattle.std.proofs.lemmas.Bool.{le-leb, leb-true}
use Rattle.std.specs.FinMap as finmap
use Rattle.outside_core.specs.Files.{FileMap}
use Rattle.outside_core.specs.Results.{◌>>=◌}
use Rattle.cli_lines.specs.KeyCore.KeyFile.{key_file_key}
use Rattle.cli_lines.specs.KeyCore.declared.key_file.KeyFileFail.{KeyFileFail}
use Rattle.cli_lines.specs.KdbxFrame.Fields.{file_limit}
use Rattle.cli_messages.specs.Messages.{refusal_of}
use Rattle.cli_messages.specs.declared.answers.Reason.TheVariants.{TooLarge}
use Rattle.cli_messages.specs.declared.answers.Refusal.{Refusal}
use Rattle.cli_files.specs.Files.{key_in, key_of, key_or_refusal, of_file}
use Rattle.cli_files.specs.Held.{GivesKey, IsThere}

-- One phase, and then the next.
pub in_turn : {A B : Type 0} (phase : Result A Refusal) (next : A → Result B Refusal) (y : B) → (phase >>= next) ≡ Ok y
    → (x : A) × ((phase ≡ Ok x) × (next x ≡ Ok y))
in_turn (Ok x) next y h = (x, (refl, h))
in_turn (Err refusal) next y h = cc

-- ---- a file that was used

-- What a file gave, told of its bytes.
pub record Used {A : Type 0} (name : List ℕ) (files : FileMap) (made : List ℕ → Result A Refusal) (x : A) : Type 0 where
  pub bytes : List ℕ
  pub there : IsThere files name bytes
  pub gives : made bytes ≡ Ok x

is_within : {A : Type 0} (small : Bool) (made : Result A Refusal) (x : A) (refusal : Refusal) → cond small made (Err refusal) ≡ Ok x → (small ≡ true) × (made ≡ Ok x)
is_within true made x refusal h = (refl, h)
is_within false made x refusal h = cc

pub used : {A : Type 0} (name : List ℕ) (files : FileMap) (made : List ℕ → Result A Refusal) (x : A) (file : Option (List ℕ))
    → finmap.get files name ≡ file → of_file name made file ≡ Ok x → Used name files made x
used name files made x None is h = cc
used name files made x (Some bytes) is h =
    let w = is_within (nat_le (length bytes) file_limit) (made bytes) x (refusal_of TooLarge name) h in
    record { bytes = bytes; there = record { found = is; within = leb-true (length bytes) file_limit w.0 }; gives = w.1 }

pub given : {A : Type 0} (name : List ℕ) (files : FileMap) (made : List ℕ → Result A Refusal) (x : A) (bytes : List ℕ)
    → IsThere files name bytes → made bytes ≡ Ok x → of_file name made (finmap.get files name) ≡ Ok x
given name files made x bytes there gives =
    ap (of_file name made) there.found
    ∙ ap (λ b. cond b (made bytes) (Err (refusal_of TooLarge name))) (le-leb (length bytes) file_limit there.within)
    ∙ gives

-- ---- key files

keyed_by : (name : List ℕ) (r : Result (List ℕ) KeyFileFail) (key : List ℕ) → key_or_refusal name r ≡ Ok key → r ≡ Ok key
keyed_by name (Ok k) key h = cc
keyed_by name (Err fail) key h = cc

some_key : (r : Result (List ℕ) Refusal) (key : Option (List ℕ)) → (r >>= (λ k. Ok (Some k))) ≡ Ok key
    → (k : List ℕ) × ((r ≡ Ok k) × (key ≡ Some k))
some_key (Ok k) key h = (k, (refl, cc))
some_key (Err refusal) key h = cc

pub key_held : (key_file : Option (List ℕ)) (files : FileMap) (key : Option (List ℕ)) → key_of key_file files ≡ Ok key → GivesKey key_file files key
key_held None files key h = cc
key_held (Some name) files key h =
    let s = some_key (key_in name (finmap.get files name)) key h in
    let u = used name files (λ bytes. key_or_refusal name (key_file_key bytes)) s.0 (finmap.get files name) refl s.1.0 in
    (s.0, (record { bytes = u.bytes; there = u.there; gives = keyed_by name (key_file_key u.bytes) s.0 u.gives }, s.1.1))

pub key_given : (key_file : Option (List ℕ)) (files : FileMap) (key : Option (List ℕ)) → GivesKey key_file files key → key_of key_file files ≡ Ok key
key_given None files key h = ap Ok (sym h)
key_given (Some name) files key (k, (is, same)) =
    ap (λ r. r >>= (λ x. Ok (Some x))) (given name files (λ bytes. key_or_refusal name (key_file_key bytes)) k is.bytes is.there (ap (key_or_refusal name) is.gives))
    ∙ ap Ok (sym same)
