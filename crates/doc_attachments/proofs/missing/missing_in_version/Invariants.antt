use Rattle.std.proofs.Common.{◌≡◌, drop, map}
use Rattle.std.specs.List.{flat_map}
use Rattle.doc_forms.specs.Attachments.{first_missing, first_missing_of, missing_attachment}
use Rattle.doc_forms.specs.SeenDrafts.{attachment_seen}
use Rattle.doc_attachments.proofs.missing.missing_in_version.Given as goal

-- what is missing first so far, or in what is left
abbrev pub invariant-loop-attachment : goal.invariant-loop-attachment
invariant-loop-attachment l =
    first_missing_of l.missing (first_missing (flat_map (missing_attachment l.pool) (map attachment_seen (drop l.attachment-index l.attachment-items))))
    ≡ first_missing (flat_map (missing_attachment l.pool) (map attachment_seen l.attachment-items))
