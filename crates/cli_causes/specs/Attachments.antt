-- What is wrong in what is said of an attachment.
use Rattle.std.specs.Prelude.{ℕ, if◌then◌else◌, List, [], ◌∷◌, Option, None, Some}
use Rattle.cli_options.specs.declared.forms.CommandOption.TheVariants as option
use Rattle.cli_options.specs.Said.{Said, is_given}
use Rattle.cli_needs.specs.Needs.{is_filled}
use Rattle.cli_causes.specs.declared.cause.Cause.{Cause}
use Rattle.cli_causes.specs.declared.cause.Cause.TheVariants.{EmptyAttachmentName, FileBesideStdout, NoFileOrStdout}

-- An attachment that is taken out is printed, and a file is named too; or it is not, and none is.
abbrev pub export_attachment_cause : Said → List (List ℕ) → Option Cause
export_attachment_cause said (file ∷ entry ∷ name ∷ []) =
    if is_given option.Stdout said then None else Some NoFileOrStdout
export_attachment_cause said (file ∷ entry ∷ name ∷ to ∷ []) =
    if is_given option.Stdout said then Some (FileBesideStdout to) else None
export_attachment_cause said positions = None

-- A new attachment has no name.
abbrev pub import_attachment_cause : List (List ℕ) → Option Cause
import_attachment_cause (file ∷ entry ∷ name ∷ source ∷ []) =
    if is_filled name then None else Some EmptyAttachmentName
import_attachment_cause positions = None
