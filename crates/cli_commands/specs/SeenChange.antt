-- What is seen of a command's change in memory.
use Rattle.std.specs.Prelude.{◌≡◌, ◌++◌, ℕ, Bool, true, false, List, Option, None, Some, Result, Ok, Err, map, option_map}
use Rattle.std.specs.Borrow.{Bor}
use Rattle.cli_lines.specs.KdbxFrame.declared.settings.Settings.{Settings}
use Rattle.secret_core.specs.Secret.{SecretBuffer}
use Rattle.vault_model.specs.Tree.{BareDoc}
use Rattle.cli_messages.specs.declared.answers.Stop.{Stop}
use Rattle.cli_commands.specs.declared.output.Change as declared
use Rattle.cli_commands.specs.declared.output.Output.{Output}
use Rattle.cli_commands.specs.declared.output.Output.TheVariants.{Attachment, Listing, Report}
use Rattle.cli_merging.specs.declared.merging.MergeReport.{MergeReport}
use Rattle.vault_model.specs.Db.{NodeId}
use Rattle.cli_messages.specs.Phases.{with_left}
use Rattle.cli_lines.specs.SeenLines.{values_seen}
use Rattle.cli_commands.specs.declared.performing.CommandInput.{CommandInput}
use Rattle.cli_commands.specs.Commands.{Change, Inputs, drawn_id}
use Rattle.tree_core.specs.NewNodes.{lent_value}
use Rattle.vault_model.specs.SeenDoc.{doc_seen}

-- The text that a command prints.
abbrev pub output_text : Output → List ℕ
output_text (Listing text) = text
output_text (Report text) = text.bytes
output_text (Attachment bytes) = bytes.value.bytes

-- The document, if it is to be written.
abbrev pub doc_if : Bool → BareDoc → Option BareDoc
doc_if true doc = Some doc
doc_if false doc = None

-- A command's change, after which the document is this.
abbrev pub change_seen : declared.Change → BareDoc → Change
change_seen change doc =
    record {
      text = output_text change.output;
      doc = doc_if change.is_written doc;
      attachment = option_map (λ bytes. bytes.value.bytes) change.attachment;
    }

-- The change of a merge that reports this.
abbrev pub merge_change : Result MergeReport Stop → Result declared.Change Stop
merge_change (Ok report) =
    Ok (record { output = Report report.text; is_written = report.is_written; attachment = None })
merge_change (Err stop) = Err stop

-- The change of a command that reports this, and whose document is to be written.
abbrev pub change_reported : Result SecretBuffer Stop → Result declared.Change Stop
change_reported (Ok text) =
    Ok (record { output = Report text; is_written = true; attachment = None })
change_reported (Err stop) = Err stop

-- The change of a command that prints this, and whose document is not to be written.
abbrev pub change_printed : Result SecretBuffer Stop → Result declared.Change Stop
change_printed (Ok text) =
    Ok (record { output = Report text; is_written = false; attachment = None })
change_printed (Err stop) = Err stop

-- The settings of a file that are lent, if it has any.
abbrev pub lent_settings : Option (Bor Settings) → Option Settings
lent_settings settings = option_map (λ s. s.now) settings

-- What a command works with, without the loans.
abbrev pub inputs_seen : CommandInput → Inputs
inputs_seen input = record {
  line = lent_value input.line;
  otp = lent_value input.otp;
  fields = values_seen input.fields.now;
  attached = option_map (λ bytes. bytes.now.value.bytes) input.attached;
  sources = map doc_seen input.sources.now;
  settings = lent_settings input.settings;
  passed_over = input.passed_over.now;
}

-- Some bytes before any others draw this id, and leave the others.
pub record IsDrawnBySome (is_made : Bool) (id : NodeId) : Type 0 where
  pub bytes : List ℕ
  pub draws : (rest : List ℕ) → drawn_id is_made (bytes ++ rest) ≡ with_left (Ok id) rest
