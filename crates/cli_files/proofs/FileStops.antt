-- Stops at files, one after another.
use Rattle.std.proofs.Common.{◌≤◌, ℕ, List, [], ◌∷◌, ◌++◌, inl, inr, arith, Result, Ok, Err}
use Rattle.std.specs.Prelude.{IfErr}
use Rattle.std.proofs.lemmas.List.Elements.{Contains-append_left, Contains-append_right}
use Rattle.outside_core.specs.Counts.{Increased}
use Rattle.cli_messages.specs.declared.answers.Stop.{Stop}
use Rattle.cli_messages.specs.declared.answers.Stop.TheVariants.{Refused, FileFault, InputFault, NoMemory}
use Rattle.cli_messages.specs.Phases.{IsFileStop}

pub rose_before : (before mid now : ℕ) → before ≤ mid → Increased mid now → Increased before now
rose_before before mid now h (inl less) = inl (omega arith)
rose_before before mid now h (inr last) = inr last

pub rose_behind : (before mid now : ℕ) → mid ≤ now → Increased before mid → Increased before now
rose_behind before mid now h (inl less) = inl (omega arith)
rose_behind before mid now h (inr last) = inr (omega arith)

-- a stop at one file, behind others that were read
at_file : (front : List (List ℕ)) (name : List ℕ) (f f' f'' a a' a'' : ℕ) (stop : Stop) → f ≤ f' → a ≤ a'
    → IsFileStop (name ∷ []) f' f'' a' a'' stop → IsFileStop (front ++ name ∷ []) f f'' a a'' stop
at_file front name f f' f'' a a' a'' (Refused refusal) p q h = λ e. rose_before a a' a'' q (h e)
at_file front name f f' f'' a a' a'' (FileFault given) p q h = (rose_before f f' f'' p h.0, Contains-append_right front (name ∷ []) given h.1)
at_file front name f f' f'' a a' a'' InputFault p q h = h
at_file front name f f' f'' a a' a'' NoMemory p q h = tt

pub later_at_file : {X : Type 0} (result : Result X Stop) (front : List (List ℕ)) (name : List ℕ) (f f' f'' a a' a'' : ℕ) → f ≤ f' → a ≤ a'
    → IfErr result (IsFileStop (name ∷ []) f' f'' a' a'') → IfErr result (IsFileStop (front ++ name ∷ []) f f'' a a'')
later_at_file (Ok x) front name f f' f'' a a' a'' p q h = tt
later_at_file (Err stop) front name f f' f'' a a' a'' p q h = at_file front name f f' f'' a a' a'' stop p q h

-- a stop at the first files, of all
pub first_at_files : (first later : List (List ℕ)) (f f' a a' : ℕ) (stop : Stop) → IsFileStop first f f' a a' stop → IsFileStop (first ++ later) f f' a a' stop
first_at_files first later f f' a a' (Refused refusal) h = h
first_at_files first later f f' a a' (FileFault given) h = (h.0, Contains-append_left first later given h.1)
first_at_files first later f f' a a' InputFault h = h
first_at_files first later f f' a a' NoMemory h = tt

-- a stop at later files, after others that were read
pub later_at_files : (first later : List (List ℕ)) (f f' f'' a a' a'' : ℕ) (stop : Stop) → f ≤ f' → a ≤ a'
    → IsFileStop later f' f'' a' a'' stop → IsFileStop (first ++ later) f f'' a a'' stop
later_at_files first later f f' f'' a a' a'' (Refused refusal) p q h = λ e. rose_before a a' a'' q (h e)
later_at_files first later f f' f'' a a' a'' (FileFault given) p q h = (rose_before f f' f'' p h.0, Contains-append_right first later given h.1)
later_at_files first later f f' f'' a a' a'' InputFault p q h = h
later_at_files first later f f' f'' a a' a'' NoMemory p q h = tt
