use Rattle.std.proofs.Common.{[], ◌∷◌, ◌++◌, map, ap, sym, ◌∙◌}
use Rattle.doc_forms.specs.SeenDrafts.{version_seen}
use Rattle.doc_entries.proofs.EntryPuts.{one_more_seen, seen_after}
use Rattle.doc_entries.proofs.histories.add_version.Goals as goal

pub returns : goal.returns
returns c =
    seen_after c.append.result (c.args.versions.now.items ++ c.args.version ∷ []) c.append.new.list.items _ _
    (λ e. sym (one_more_seen version_seen c.args.versions.now.items c.args.version) ∙ ap (map version_seen) e) c.append.ensures
