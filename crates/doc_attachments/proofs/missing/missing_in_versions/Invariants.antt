use Rattle.std.proofs.Common.{◌≡◌, drop, map}
use Rattle.std.specs.List.{flat_map}
use Rattle.doc_forms.specs.Attachments.{first_missing, first_missing_of, missing_version}
use Rattle.doc_forms.specs.SeenDrafts.{version_seen}
use Rattle.doc_attachments.proofs.missing.missing_in_versions.Given as goal

-- what is missing first so far, or in what is left
abbrev pub invariant-loop-version : goal.invariant-loop-version
invariant-loop-version l =
    first_missing_of l.missing (first_missing (flat_map (missing_version l.pool) (map version_seen (drop l.version-index l.versions))))
    ≡ first_missing (flat_map (missing_version l.pool) (map version_seen l.versions))
