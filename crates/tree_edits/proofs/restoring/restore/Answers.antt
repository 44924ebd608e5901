use Rattle.std.proofs.Common.{Ok, map, sym, ap, ◌∙◌}
use Rattle.std.specs.Prelude.{option_map}
use Rattle.vault_model.proofs.DocumentLaws.{is_doc}
use Rattle.vault_model.specs.SeenDoc.{doc_seen}
use Rattle.vault_model.specs.SeenNodes.{bare_version, entry_record, entry_row}
use Rattle.tree_core.specs.After.{Holding, time_after}
use Rattle.tree_edits.proofs.AfterChange.{restore_done}
use Rattle.tree_edits.proofs.NamedEntries.{named_proper, with_versions_is_doc}
use Rattle.tree_edits.proofs.Proper.{numbered_good}
use Rattle.tree_edits.proofs.restoring.restore.Goals as goal

pub change_versions-requires : goal.change_versions-requires
change_versions-requires c =
    let d = doc_seen c.args.doc.now in
    let held : Holding = record { group = c.in-Ok.held.group; entry = entry_row c.in-Ok.held.entry.now } in
    let old = sym c.version_numbered.ensures ∙ ap (option_map (λ found. bare_version found.now)) c.in-Some.is in
    let good = numbered_good c.args.number (entry_record c.in-Ok.held.entry.now) (bare_version c.in-Some.version.now) old
    (named_proper c.args.path.now d held c.in-Ok.ensures (is_doc c.args.doc.now)) in
    let versions = c.in-Ok-restored_versions.versions in
    with_versions_is_doc c.args.path.now d held c.in-Ok.ensures (bare_version versions.current) (map bare_version versions.history)
    (is_doc c.args.doc.now) (c.in-Ok-restored_versions.ensures.proper good)

pub returns-in-Ok-restored_versions : goal.returns-in-Ok-restored_versions
returns-in-Ok-restored_versions c =
    let held : Holding = record { group = c.in-Ok.held.group; entry = entry_row c.in-Ok.held.entry.now } in
    let old = sym c.version_numbered.ensures ∙ ap (option_map (λ found. bare_version found.now)) c.in-Some.is in
    let versions = c.in-Ok-restored_versions.versions in
    let then = sym (c.time_after.ensures ∙ ap (time_after c.args.now) c.entry_stamp.ensures) ∙ c.in_ok-time.was in
    restore_done c.args.path.now c.args.number c.args.now (doc_seen c.args.doc.now) held c.in-Ok.ensures (bare_version c.in-Some.version.now) old
    c.in_ok-time.time then (bare_version versions.current) (map bare_version versions.history) c.in-Ok-restored_versions.ensures.is
    ∙ ap Ok (sym c.change_versions.ensures)
