use Rattle.std.proofs.Common.{ap, ◌∙◌}
use Rattle.sha2.specs.Sha256.{sha256}
use Rattle.vault_model.specs.SeenDoc.{doc_seen}
use Rattle.kdbx_seal.proofs.HashedDocs.{writes_31}
use Rattle.kdbx_seal.proofs.sealing.write_content_31.Goals as goal

pub returns : goal.returns
returns c =
    writes_31 c.args.settings.now c.args.draws.now (doc_seen c.args.doc.now) c.digest.result c.write_hashed.result c.requires.version
    (c.digest.ensures ∙ ap sha256 (c.as_slice.ensures ∙ c.in_ok-header.ensures)) c.requires.start c.write_hashed.ensures
