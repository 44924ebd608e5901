use Rattle.std.proofs.Common.{List, Ok, map, sym, ap, ◌∙◌}
use Rattle.vault_model.proofs.DocumentLaws.{is_doc}
use Rattle.vault_model.specs.SeenDoc.{doc_seen}
use Rattle.vault_model.specs.SeenNodes.{bare_version, entry_row}
use Rattle.tree_core.specs.After.{Holding, edited_so, time_after}
use Rattle.tree_core.specs.FurtherChanges.{further_seen, has_unset, missing_from}
use Rattle.tree_core.specs.NewNodes.{given_values}
use Rattle.vault_model.specs.Seen.{bare_field}
use Rattle.vault_model.specs.declared.contents.Field.{Field}
use Rattle.tree_edits.proofs.AfterChange.{done}
use Rattle.tree_edits.proofs.NamedEntries.{with_versions_is_doc}
use Rattle.tree_edits.proofs.editing.edit.Goals as goal

pub change_versions-requires : goal.change_versions-requires
change_versions-requires c =
    let held : Holding = record { group = c.in-Ok.held.group; entry = entry_row c.in-Ok.held.entry.now } in
    let versions = c.in-Ok-edited_versions.versions in
    with_versions_is_doc c.args.path.now (doc_seen c.args.doc.now) held c.in-Ok.ensures (bare_version versions.current) (map bare_version versions.history)
    (is_doc c.args.doc.now) c.in-Ok-edited_versions.ensures.proper

pub returns-in-Ok-edited_versions : goal.returns-in-Ok-edited_versions
returns-in-Ok-edited_versions c =
    let held : Holding = record { group = c.in-Ok.held.group; entry = entry_row c.in-Ok.held.entry.now } in
    let versions = c.in-Ok-edited_versions.versions in
    let allowed = sym (c.check_fields.ensures ∙ ap (λ (fields : List Field). missing_from 0 c.args.further.now.unset.now (map bare_field fields)) c.as_slice.ensures) ∙ c.in_ok-check_fields.was in
    let then = sym (c.time_after.ensures ∙ ap (time_after c.args.now) c.entry_stamp.ensures) ∙ c.in_ok-time.was in
    done c.args.path.now (has_unset (further_seen c.args.further.now)) (edited_so (given_values c.args.values.now) (further_seen c.args.further.now)) c.args.now (doc_seen c.args.doc.now) held c.in-Ok.ensures
    allowed c.in_ok-time.time then (bare_version versions.current) (map bare_version versions.history) c.in-Ok-edited_versions.ensures.is
    ∙ ap Ok (sym c.change_versions.ensures)
