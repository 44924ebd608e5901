-- An import, phase after phase.
use Rattle.std.proofs.Common.{◌≡◌, ◌≤◌, ℕ, List, [], ◌∷◌, ◌∙◌, ap, subst, Option, Ok, Err}
use Rattle.std.specs.FinMap as finmap
use Rattle.outside_core.specs.Files.{FileMap}
use Rattle.outside_core.specs.Results.{◌>>=◌}
use Rattle.kdbx_frame.specs.declared.sealings.Sealing.{Sealing}
use Rattle.cli_messages.specs.Phases.{IsFileStop, Stops}
use Rattle.cli_messages.specs.declared.answers.Stop.{Stop}
use Rattle.cli_messages.specs.declared.answers.Stop.TheVariants.{Refused, FileFault, InputFault, NoMemory}
use Rattle.cli_needs.specs.Needs.{ImportNeeds}
use Rattle.cli_lines.specs.Lines.{Lines}
use Rattle.cli_files.proofs.FileStops.{first_at_files, later_at_files}
use Rattle.cli_importing.specs.Imports.{Source, imported_of, refuse_file, sealing_of, source_of}

module _ (import : ImportNeeds) (lines : Lines) (time : ℕ) (files : FileMap) (password : Option (List ℕ)) (name : List ℕ) (source : Source)
    (p : password ≡ lines.password) (n : name ≡ import.file) (s : source_of import password time files ≡ Ok source) where
  source_is : source_of import lines.password time files ≡ Ok source
  source_is = subst (λ (w : Option (List ℕ)). source_of import w time files ≡ Ok source) p s

  -- A file has the new one's name.
  pub existing_refused : (stop : Stop) → Stops stop (refuse_file name (finmap.get files name)) → Stops stop (imported_of import lines time files)
  unfolding imported_of
  existing_refused (Refused refusal) h =
      ap (λ r. r >>= λ source. refuse_file import.file (finmap.get files import.file) >>= λ u. sealing_of import.access.plain import.access.key_file lines.more files >>= λ sealing. Ok (record { doc = source.doc; sealing = sealing; passed_over = source.passed_over })) source_is
      ∙ ap (λ r. r >>= λ u. sealing_of import.access.plain import.access.key_file lines.more files >>= λ sealing. Ok (record { doc = source.doc; sealing = sealing; passed_over = source.passed_over }))
      (subst (λ (x : List ℕ). refuse_file x (finmap.get files x) ≡ Err refusal) n h)
  existing_refused (FileFault other) h = tt
  existing_refused InputFault h = tt
  existing_refused NoMemory h = tt

  module _ (more : Option (List ℕ)) (u : Unit {0}) (m : more ≡ lines.more) (f : refuse_file name (finmap.get files name) ≡ Ok u) where
    absent_is : refuse_file import.file (finmap.get files import.file) ≡ Ok u
    absent_is = subst (λ (x : List ℕ). refuse_file x (finmap.get files x) ≡ Ok u) n f

    -- The key file is refused.
    pub sealing_refused : (stop : Stop) → Stops stop (sealing_of import.access.plain import.access.key_file more files) → Stops stop (imported_of import lines time files)
    unfolding imported_of
    sealing_refused (Refused refusal) h =
        ap (λ r. r >>= λ source. refuse_file import.file (finmap.get files import.file) >>= λ u. sealing_of import.access.plain import.access.key_file lines.more files >>= λ sealing. Ok (record { doc = source.doc; sealing = sealing; passed_over = source.passed_over })) source_is
        ∙ ap (λ r. r >>= λ u. sealing_of import.access.plain import.access.key_file lines.more files >>= λ sealing. Ok (record { doc = source.doc; sealing = sealing; passed_over = source.passed_over })) absent_is
        ∙ ap (λ r. r >>= λ sealing. Ok (record { doc = source.doc; sealing = sealing; passed_over = source.passed_over }))
        (subst (λ (w : Option (List ℕ)). sealing_of import.access.plain import.access.key_file w files ≡ Err refusal) m h)
    sealing_refused (FileFault other) h = tt
    sealing_refused InputFault h = tt
    sealing_refused NoMemory h = tt

    -- Nothing is.
    pub imported_is : (sealing : Option Sealing) → sealing_of import.access.plain import.access.key_file more files ≡ Ok sealing
        → imported_of import lines time files ≡ Ok (record { doc = source.doc; sealing = sealing; passed_over = source.passed_over })
    unfolding imported_of
    imported_is sealing h =
        ap (λ r. r >>= λ source. refuse_file import.file (finmap.get files import.file) >>= λ u. sealing_of import.access.plain import.access.key_file lines.more files >>= λ sealing. Ok (record { doc = source.doc; sealing = sealing; passed_over = source.passed_over })) source_is
        ∙ ap (λ r. r >>= λ u. sealing_of import.access.plain import.access.key_file lines.more files >>= λ sealing. Ok (record { doc = source.doc; sealing = sealing; passed_over = source.passed_over })) absent_is
        ∙ ap (λ r. r >>= λ sealing. Ok (record { doc = source.doc; sealing = sealing; passed_over = source.passed_over }))
        (subst (λ (w : Option (List ℕ)). sealing_of import.access.plain import.access.key_file w files ≡ Ok sealing) m h)

-- ---- causes

-- A stop at the new file, after the source was read.
pub at_new_file : (stop : Stop) (source name : List ℕ) (given : List ℕ) (keys : List (List ℕ)) (f f' f'' a a' a'' : ℕ) → given ≡ name → f ≤ f' → a ≤ a'
    → IsFileStop (given ∷ []) f' f'' a' a'' stop → IsFileStop (source ∷ name ∷ keys) f f'' a a'' stop
at_new_file stop source name given keys f f' f'' a a' a'' n p q h =
    first_at_files (source ∷ name ∷ []) keys f f'' a a'' stop
    (later_at_files (source ∷ []) (name ∷ []) f f' f'' a a' a'' stop p q
    (subst (λ (x : List ℕ). IsFileStop (x ∷ []) f' f'' a' a'' stop) n h))

-- A stop at its key file, after these.
pub at_new_key : (stop : Stop) (source name : List ℕ) (keys : List (List ℕ)) (f f' f'' f''' a a' a'' a''' : ℕ) → f ≤ f' → f' ≤ f'' → a ≤ a' → a' ≤ a''
    → IsFileStop keys f'' f''' a'' a''' stop → IsFileStop (source ∷ name ∷ keys) f f''' a a''' stop
at_new_key stop source name keys f f' f'' f''' a a' a'' a''' p p' q q' h =
    later_at_files (source ∷ []) (name ∷ keys) f f' f''' a a' a''' stop p q
    (later_at_files (name ∷ []) keys f' f'' f''' a' a'' a''' stop p' q' h)
