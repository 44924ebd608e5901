use Rattle.std.proofs.Common.{◌≡◌, drop, map}
use Rattle.std.specs.List.{flat_map}
use Rattle.doc_forms.specs.Attachments.{first_missing, first_missing_of, missing_in}
use Rattle.doc_forms.specs.SeenDrafts.{draft_seen}
use Rattle.doc_attachments.proofs.missing.+missing_in.Given as goal

-- what is missing first so far, or in what is left
abbrev pub invariant-loop-group : goal.invariant-loop-group
invariant-loop-group l =
    first_missing_of l.missing (first_missing (flat_map (missing_in l.pool) (map draft_seen (drop l.group-index l.group-items))))
    ≡ first_missing_of l.initial.missing (first_missing (flat_map (missing_in l.pool) (map draft_seen l.group-items)))
