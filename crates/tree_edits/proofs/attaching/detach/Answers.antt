use Rattle.std.proofs.Common.{Ok, map, sym, ap, ◌∙◌}
use Rattle.vault_model.proofs.DocumentLaws.{is_doc}
use Rattle.vault_model.specs.SeenDoc.{doc_seen}
use Rattle.vault_model.specs.SeenNodes.{bare_version, entry_row}
use Rattle.tree_core.specs.After.{Holding, time_after}
use Rattle.tree_core.specs.Attachments.{has_attachment, without_attachment}
use Rattle.tree_edits.proofs.AfterChange.{done}
use Rattle.tree_edits.proofs.NamedEntries.{with_versions_is_doc}
use Rattle.tree_edits.proofs.attaching.detach.Goals as goal

pub change_versions-requires : goal.change_versions-requires
change_versions-requires c =
    let held : Holding = record { group = c.in-Ok.held.group; entry = entry_row c.in-Ok.held.entry.now } in
    let versions = c.in-Ok-detached_versions.versions in
    with_versions_is_doc c.args.path.now (doc_seen c.args.doc.now) held c.in-Ok.ensures (bare_version versions.current) (map bare_version versions.history)
    (is_doc c.args.doc.now) c.in-Ok-detached_versions.ensures.proper

pub returns-in-Ok-detached_versions : goal.returns-in-Ok-detached_versions
returns-in-Ok-detached_versions c =
    let held : Holding = record { group = c.in-Ok.held.group; entry = entry_row c.in-Ok.held.entry.now } in
    let versions = c.in-Ok-detached_versions.versions in
    let allowed = sym c.check_attached.ensures ∙ c.in_ok-check_attached.was in
    let then = sym (c.time_after.ensures ∙ ap (time_after c.args.now) c.entry_stamp.ensures) ∙ c.in_ok-time.was in
    done c.args.path.now (has_attachment c.args.name.now) (λ meta. without_attachment c.args.name.now) c.args.now (doc_seen c.args.doc.now) held c.in-Ok.ensures
    allowed c.in_ok-time.time then (bare_version versions.current) (map bare_version versions.history) c.in-Ok-detached_versions.ensures.is
    ∙ ap Ok (sym c.change_versions.ensures)
