-- The databases of a call, one file after another.
use Rattle.std.proofs.Common.{◌≡◌, ℕ, List, sym, ◌∙◌, ap, subst, Bool, false, Option, Result, Ok}
use Rattle.outside_core.specs.Files.{FileMap}
use Rattle.outside_core.specs.Results.{◌>>=◌}
use Rattle.vault_model.specs.Tree.{BareDoc}
use Rattle.cli_messages.specs.declared.answers.Refusal.{Refusal}
use Rattle.cli_messages.specs.declared.answers.Stop.{Stop}
use Rattle.cli_messages.specs.declared.answers.Stop.TheVariants.{FileFault, InputFault, NoMemory, Refused}
use Rattle.cli_messages.specs.Phases.{Returns, Stops}
use Rattle.cli_needs.specs.Needs.{Needs}
use Rattle.cli_lines.specs.Lines.{Lines}
use Rattle.cli_files.specs.Files.{Databases, Opened, key_of}
use Rattle.cli_files.specs.SeenOpened.{opened_seen}
use Rattle.cli_files.specs.declared.documents.Opened as memory
use Rattle.cli_databases.specs.Databases.{databases_of, held_in, sealed_in, sources_of}

-- A phase that stopped stops what comes after it.
pub stops_both : {A B : Type 0} (stop : Stop) (phase : Result A Refusal) (next : A → Result B Refusal) → Stops stop phase → Stops stop (phase >>= next)
stops_both (Refused refusal) phase next h = ap (λ r. r >>= next) h
stops_both (FileFault name) phase next h = tt
stops_both InputFault phase next h = tt
stops_both NoMemory phase next h = tt

-- The key file of a sealed file is read, and then the file.
pub held_sealed : (plain : Bool) (key_file given : Option (List ℕ)) (file : List ℕ) (password key : Option (List ℕ)) (files : FileMap)
    (result : Result memory.Opened Stop) → plain ≡ false → given ≡ key_file → key_of given files ≡ Ok key
    → Returns opened_seen result (sealed_in file files password key) → Returns opened_seen result (held_in plain key_file file password files)
held_sealed plain key_file given file password key files result p n k h =
    subst (λ (b : Bool). Returns opened_seen result (held_in b key_file file password files)) (sym p)
    (subst (λ (r : Result (Option (List ℕ)) Refusal). Returns opened_seen result (r >>= sealed_in file files password))
    (sym (ap (λ (x : Option (List ℕ)). key_of x files) (sym n) ∙ k)) h)

module _ (needs : Needs) (lines : Lines) (file : List ℕ) (password : Option (List ℕ)) (files : FileMap) (target : Opened)
    (n : file ≡ needs.file) (p : password ≡ lines.password)
    (h : held_in needs.access.plain needs.access.key_file file password files ≡ Ok target) where
  target_is : held_in needs.access.plain needs.access.key_file needs.file lines.password files ≡ Ok target
  target_is =
      subst (λ (f : List ℕ). held_in needs.access.plain needs.access.key_file f lines.password files ≡ Ok target) n
      (subst (λ (w : Option (List ℕ)). held_in needs.access.plain needs.access.key_file file w files ≡ Ok target) p h)

  -- A source is refused.
  pub sources_refused : (stop : Stop) → Stops stop (sources_of needs lines files) → Stops stop (databases_of needs lines files)
  unfolding databases_of
  sources_refused stop s =
      subst (λ (r : Result Opened Refusal). Stops {Y = Databases} stop (r >>= λ target. sources_of needs lines files >>= λ sources. Ok (record { target = target; sources = sources })))
      (sym target_is)
      (stops_both stop (sources_of needs lines files) (λ sources. Ok (record { target = target; sources = sources })) s)

  -- All are opened.
  pub databases_are : (sources : List BareDoc) → sources_of needs lines files ≡ Ok sources
      → databases_of needs lines files ≡ Ok (record { target = target; sources = sources })
  unfolding databases_of
  databases_are sources s =
      ap (λ r. r >>= λ target. sources_of needs lines files >>= λ sources. Ok (record { target = target; sources = sources })) target_is
      ∙ ap (λ r. r >>= λ sources. Ok (record { target = target; sources = sources })) s
