use Rattle.std.proofs.Common.{◌≡◌, drop, map}
use Rattle.std.specs.List.{flat_map}
use Rattle.doc_forms.specs.Attachments.{first_missing, first_missing_of, missing_entry}
use Rattle.doc_forms.specs.SeenDrafts.{entry_seen}
use Rattle.doc_attachments.proofs.missing.missing_in_entries.Given as goal

-- what is missing first so far, or in what is left
abbrev pub invariant-loop-entry : goal.invariant-loop-entry
invariant-loop-entry l =
    first_missing_of l.missing (first_missing (flat_map (missing_entry l.pool) (map entry_seen (drop l.entry-index l.entries))))
    ≡ first_missing (flat_map (missing_entry l.pool) (map entry_seen l.entries))
