-- A document that is not changed, as the refusal of a command.
use Rattle.std.proofs.Common.{◌≡◌, ◌⊎◌, inl, inr, ℕ, List, Result, Err, ap, sym, subst, ◌∙◌}
use Rattle.outside_core.specs.Results.{◌>>=◌}
use Rattle.tree_core.specs.declared.fails.TreeFail.{TreeFail}
use Rattle.tree_core.specs.declared.fails.TreeFail.TheVariants as fail
use Rattle.cli_messages.specs.Messages.{Refuses, refusal_of}
use Rattle.cli_messages.specs.Phases.{IsMemoryStop, Stops}
use Rattle.cli_messages.specs.declared.answers.Refusal.{Refusal}
use Rattle.cli_messages.specs.declared.answers.Stop.{Stop}
use Rattle.cli_messages.specs.declared.answers.Stop.TheVariants.{Refused, FileFault, InputFault, NoMemory}
use Rattle.cli_changes.specs.Entries.{AfterCommand}
use Rattle.cli_changes.specs.Fails.{IsUnchanged, IsUnchangedBy, change_or_refusal, named_answer, named_or_refusal, tree_answer}

refused_so : {Y : Type 0} (stop : Stop) (refusal : Refusal) (defined : Result Y Refusal) → Refuses stop refusal → defined ≡ Err refusal → Stops stop defined
refused_so (Refused given) refusal defined h is = is ∙ ap Err (sym h)
refused_so (FileFault name) refusal defined h is = absurd h
refused_so InputFault refusal defined h is = absurd h
refused_so NoMemory refusal defined h is = tt

without_memory : {Y : Type 0} (stop : Stop) (defined : Result Y Refusal) → IsMemoryStop stop → Stops stop defined
without_memory (Refused given) defined h = absurd h
without_memory (FileFault name) defined h = absurd h
without_memory InputFault defined h = absurd h
without_memory NoMemory defined h = tt

refused_by : (why : TreeFail) (file : List ℕ) (stop : Stop) (defined : Result AfterCommand Refusal) → defined ≡ Err (refusal_of (tree_answer why) file)
    → IsUnchanged why file stop → Stops stop defined
refused_by fail.NoMemory file stop defined is h = without_memory stop defined h
refused_by why file stop defined is h = refused_so stop (refusal_of (tree_answer why) file) defined h is

-- A command stops where its document is not changed.
pub stopped : {A : Type 0} (after : Result A TreeFail) (why : TreeFail) (file : List ℕ) (stop : Stop) (next : A → Result AfterCommand Refusal)
    → (after ≡ Err why) ⊎ (why ≡ fail.NoMemory) → IsUnchanged why file stop → Stops stop (change_or_refusal file after >>= next)
stopped after why file stop next (inl is) h =
    refused_by why file stop (change_or_refusal file after >>= next) (ap (λ (r : Result _ TreeFail). change_or_refusal file r >>= next) is) h
stopped after why file stop next (inr is) h =
    without_memory stop (change_or_refusal file after >>= next) (subst (λ (w : TreeFail). IsUnchanged w file stop) is h)

named_refusal_or_memory : {Y : Type 0} (why : TreeFail) (file : List ℕ) (unset : List (List ℕ)) (attachment : List ℕ) (stop : Stop) (defined : Result Y Refusal)
    → defined ≡ Err (refusal_of (named_answer unset attachment why) file)
    → Refuses stop (refusal_of (named_answer unset attachment why) file) ⊎ (stop ≡ NoMemory) → Stops stop defined
named_refusal_or_memory why file unset attachment stop defined is (inl h) = refused_so stop (refusal_of (named_answer unset attachment why) file) defined h is
named_refusal_or_memory why file unset attachment stop defined is (inr h) = subst (λ (s : Stop). Stops s defined) (sym h) tt

refused_by_name : {Y : Type 0} (why : TreeFail) (file : List ℕ) (unset : List (List ℕ)) (attachment : List ℕ) (stop : Stop) (defined : Result Y Refusal)
    → defined ≡ Err (refusal_of (named_answer unset attachment why) file) → IsUnchangedBy why file unset attachment stop → Stops stop defined
refused_by_name fail.NoMemory file unset attachment stop defined is h = without_memory stop defined h
refused_by_name why file unset attachment stop defined is h = named_refusal_or_memory why file unset attachment stop defined is h

-- The same where it names the fields that are taken away, and an attachment.
pub stopped_by_name : {A Y : Type 0} (after : Result A TreeFail) (why : TreeFail) (file : List ℕ) (unset : List (List ℕ)) (attachment : List ℕ) (stop : Stop)
    (next : A → Result Y Refusal) → (after ≡ Err why) ⊎ (why ≡ fail.NoMemory) → IsUnchangedBy why file unset attachment stop
    → Stops stop (named_or_refusal file unset attachment after >>= next)
stopped_by_name after why file unset attachment stop next (inl is) h =
    refused_by_name why file unset attachment stop (named_or_refusal file unset attachment after >>= next)
    (ap (λ (r : Result _ TreeFail). named_or_refusal file unset attachment r >>= next) is) h
stopped_by_name after why file unset attachment stop next (inr is) h =
    without_memory stop (named_or_refusal file unset attachment after >>= next)
    (subst (λ (w : TreeFail). IsUnchangedBy w file unset attachment stop) is h)
