use Rattle.vault_model.specs.SeenDoc.{doc_seen}
use Rattle.kdbx_seal.proofs.WrittenDocs.{version_4, writes_4}
use Rattle.kdbx_seal.proofs.sealing.write_content.Goals as goal

pub returns-in-V40 : goal.returns-in-V40
returns-in-V40 c =
    writes_4 c.args.settings.now c.args.draws.now (doc_seen c.args.doc.now) c.write_content_4.result (version_4 c.args.settings.now.version c.in-V40.is)
    c.write_content_4.ensures
