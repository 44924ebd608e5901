-- Stops at the files of a database whose file is changed.
use Rattle.std.proofs.Common.{◌≡◌, ◌≤◌, ℕ, List, [], ◌∷◌, ◌++◌, arith, subst, Result, Ok, Err}
use Rattle.std.specs.Prelude.{IfErr}
use Rattle.cli_messages.specs.Phases.{IsFileStop}
use Rattle.cli_messages.specs.declared.answers.Stop.{Stop}
use Rattle.cli_databases.proofs.CliFiles.FileStops.{first_at_files, later_at_files}

-- A stop at the new key file, after the database was opened.
pub stops_changed : {X : Type 0} (result : Result X Stop) (own new : List (List ℕ)) (f f' f'' g a a' a'' b : ℕ) → f ≤ f' → f' ≤ f'' → a ≤ a' → a' ≤ a''
    → IfErr result (IsFileStop new f'' g a'' b) → IfErr result (IsFileStop (own ++ new) f g a b)
stops_changed (Ok x) own new f f' f'' g a a' a'' b p p' q q' h = tt
stops_changed (Err stop) own new f f' f'' g a a' a'' b p p' q q' h =
    later_at_files own new f f'' g a a'' b stop (omega (arith, p, p')) (omega (arith, q, q')) h

-- A stop at the database, after its key file was read.
pub stops_opened : (stop : Stop) (keys : List (List ℕ)) (file given : List ℕ) (new : List (List ℕ)) (f f' f'' a a' a'' : ℕ) → given ≡ file → f ≤ f' → a ≤ a'
    → IsFileStop (given ∷ []) f' f'' a' a'' stop → IsFileStop ((keys ++ file ∷ []) ++ new) f f'' a a'' stop
stops_opened stop keys file given new f f' f'' a a' a'' is p q h =
    first_at_files (keys ++ file ∷ []) new f f'' a a'' stop
    (later_at_files keys (file ∷ []) f f' f'' a a' a'' stop p q (subst (λ (x : List ℕ). IsFileStop (x ∷ []) f' f'' a' a'' stop) is h))
