use Rattle.vault_making.specs.NeededVersion.{needed_version}
use Rattle.vault_model.specs.SeenDoc.{doc_seen}
use Rattle.cli_sealing.proofs.Sealed.{in_order, is_late}
use Rattle.cli_sealing.proofs.sealing.write_sealed.Goals as goal

pub seal-requires : goal.seal-requires
seal-requires g c =
    rw c.raise.ensures (record {
      in_order = in_order c.args.sealing.now.settings (doc_seen c.args.doc.now) c.requires;
      needed = is_late (needed_version (doc_seen c.args.doc.now)) c.args.sealing.now.settings.version;
    })
