-- That the conditions of a command and of a call suffice.
use Rattle.std.specs.Prelude.{◌≤◌, ℕ, List, ◌∷◌, Option}
use Rattle.time_core.specs.Times.{last_stamp}
use Rattle.vault_model.specs.Db.{NodeId}
use Rattle.vault_model.specs.Tree.{BareDoc}
use Rattle.agreed_laws.specs.Merges.{AreDocs}
use Rattle.cli_needs.specs.declared.command.Command.{Command}
use Rattle.cli_commands.specs.Commands.{Inputs}
use Rattle.call_run.specs.Endings.{Ending}
use Rattle.keepass_call.specs.Held.{IsCarried}
use Rattle.keepass_call.specs.Outcome.{World}
use Rattle.call_conditions.specs.Conditions.{Answers, CanBeCarried, CanChange}

-- Under its condition a command is not refused on a document, at a moment of the calendar.
abbrev pub CommandsSucceed : Type 0
CommandsSucceed = (time : ℕ) (command : Command) (input : Inputs) (id : NodeId)
    (d : BareDoc)
    → time ≤ last_stamp → AreDocs (d ∷ input.sources) → CanChange time command input id d
    → Answers time command input id d

-- A call ends in some way as it is defined, without a refusal.
pub record IsCarriedOut (words : List (List ℕ)) (time : ℕ) (world : World) : Type 0 where
  pub ending : Ending
  pub is : IsCarried words time world ending

-- Such a call can be carried out.
abbrev pub ConditionsSuffice : Type 0
ConditionsSuffice = (words : List (List ℕ)) (time : ℕ) (world : World)
    → CanBeCarried words time world
    → IsCarriedOut words time world
