use Rattle.std.proofs.Common.{◌≡◌, drop, map, max}
use Rattle.vault_model.specs.Db.{greatest}
use Rattle.vault_model.specs.SeenNodes.{bare_version, entry_record, entry_time}
use Rattle.vault_model.specs.Shape.{BareVersion}
use Rattle.vault_model.proofs.nodes.entry_stamp.Given as goal

abbrev pub invariant-loop-version : goal.invariant-loop-version
invariant-loop-version l =
    max l.newest (greatest (map (λ (v : BareVersion). v.mark.modified) (map bare_version (drop l.version-index l.version-items))))
    ≡ entry_time (entry_record l.entry)
