use Rattle.std.proofs.Common.{map, ap, ◌∙◌, List}
use Rattle.std.specs.List.{list_any}
use Rattle.vault_model.specs.SeenNodes.{bare_version, entry_record}
use Rattle.vault_model.specs.Shape.{BareVersion}
use Rattle.vault_model.specs.declared.nodes.Version.{Version}
use Rattle.merge_details.specs.Conflicts.{same_mark}
use Rattle.merge_details.proofs.EntryVersions.{version_current, version_older}
use Rattle.merge_details.proofs.conflicts.has_version.Goals as goal

pub returns-then-is_same : goal.returns-then-is_same
returns-then-is_same c =
    version_current (entry_record c.args.entry.now) (bare_version c.args.version.now).mark c.is_same.result c.is_same.ensures c.if-is_same.true

pub returns-else-is_same : goal.returns-else-is_same
returns-else-is_same c =
    version_older (entry_record c.args.entry.now) (bare_version c.args.version.now).mark c.is_same.result c.is_among.result c.is_same.ensures c.if-is_same.false
    (c.is_among.ensures
    ∙ ap (λ (vs : List Version). list_any (λ (v : BareVersion). same_mark (bare_version c.args.version.now).mark v.mark) (map bare_version vs)) c.as_slice.ensures)
