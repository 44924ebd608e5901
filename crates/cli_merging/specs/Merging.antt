-- What `merge` makes of a document.
use Rattle.std.specs.Prelude.{◌≡◌, ◌&&◌, not, ℕ, Bool, if◌then◌else◌, List, Option, None, Some, Result, Ok, Err}
use Rattle.outside_core.specs.Results.{◌>>=◌}
use Rattle.vault_model.specs.Join.{join}
use Rattle.vault_model.specs.Tree.{BareDoc, db_in, shape_of}
use Rattle.merge_changes.specs.Equality.{same_all, same_doc, same_meta, same_tomb}
use Rattle.merge_core.specs.Refusals.{members}
use Rattle.merge_changes.specs.Changes.{all_changes}
use Rattle.merge_changes.specs.declared.changes.Change.{Change}
use Rattle.document_merge.specs.Merging.{MergeResult, merge_result}
use Rattle.document_merge.specs.declared.merging.MergeFail.{MergeFail}
use Rattle.document_merge.specs.declared.merging.MergeFail.TheVariants as fail
use Rattle.cli_messages.specs.Messages.{refusal_of, Refuses}
use Rattle.cli_messages.specs.Phases.{IsMemoryStop, Stops}
use Rattle.cli_messages.specs.declared.answers.Reason.{Reason}
use Rattle.cli_messages.specs.declared.answers.Reason.TheVariants as answer
use Rattle.cli_messages.specs.declared.answers.Refusal.{Refusal}
use Rattle.cli_messages.specs.declared.answers.Stop.{Stop}
use Rattle.cli_merging.specs.declared.merging.MergeReport.{MergeReport}
use Rattle.cli_merging.specs.Details.{merge_report}

-- What `merge` makes of a document: what it prints, and the document, if it is to be written.
pub record AfterMerge : Type 0 where
  pub text : List ℕ
  pub doc : Option BareDoc

-- The answer that a refusal to merge is.
abbrev pub merge_answer : MergeFail → Reason
merge_answer (fail.RootClash id) = answer.Clash id
merge_answer (fail.KindClash id) = answer.Clash id
merge_answer (fail.MoveCycle ids) = answer.MoveCycle ids
merge_answer (fail.TooDeep id) = answer.TooDeep
merge_answer fail.NoMemory = answer.OutOfMemory

-- The merged document, or the refusal, which is about the file of the target.
abbrev pub merged_or_refusal : List ℕ → MergeResult → Result BareDoc Refusal
merged_or_refusal file (Ok doc) = Ok doc
merged_or_refusal file (Err why) = Err (refusal_of (merge_answer why) file)

-- The changes that a merge with sources made of a document.
abbrev pub changes_between : BareDoc → List BareDoc → BareDoc → List Change
changes_between t ss new = all_changes (shape_of t).entries (db_in t) (join (members t ss))
    (same_meta t.meta new.meta) (same_all same_tomb t.tombs new.tombs) (same_doc t new)

-- What `merge` makes of the document of a file that others were merged into, with these changes, if
-- any. Where nothing is changed, and in a dry run, no document is written.
abbrev pub after_merged : List ℕ → (quiet dry details : Bool) → List (List ℕ) → BareDoc
    → List BareDoc → Bool → BareDoc → List Change → AfterMerge
after_merged file quiet dry details names t ss changed new changes = record {
  text = merge_report quiet dry details (not changed) file names t ss new changes;
  doc = if changed && not dry then Some new else None;
}

-- What `merge` makes of the document of a file and those of its sources.
unfoldable pub after_merge : List ℕ → (quiet dry details : Bool) → List (List ℕ) → BareDoc
    → List BareDoc → Result AfterMerge Refusal
after_merge file quiet dry details names t ss = do
  new ← merged_or_refusal file (merge_result t ss)
  Ok (after_merged file quiet dry details names t ss (not (same_doc t new)) new
      (changes_between t ss new))

-- ---- how the code relates to it

-- The stop of a merge that was refused, whose target is of this file.
abbrev pub IsUnmerged : MergeFail → List ℕ → Stop → Type 0
IsUnmerged fail.NoMemory file stop = IsMemoryStop stop
IsUnmerged why file stop = Refuses stop (refusal_of (merge_answer why) file)

-- The report of a merge whose document is this now.
abbrev pub report_seen : MergeReport → BareDoc → AfterMerge
report_seen report doc =
    record { text = report.text.bytes; doc = if report.is_written then Some doc else None }

-- A merge reported what is defined, and the document is the defined one, if it is to be written; or
-- it stopped, and the document is as it was.
abbrev pub MergeChanges : Result MergeReport Stop → Result AfterMerge Refusal → (old new : BareDoc)
    → Type 0
MergeChanges (Ok report) defined old new = defined ≡ Ok (report_seen report new)
MergeChanges (Err stop) defined old new = Stops stop defined × (new ≡ old)
