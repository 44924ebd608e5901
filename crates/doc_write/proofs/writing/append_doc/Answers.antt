use Rattle.std.proofs.Common.{refl}
use Rattle.std.specs.Option.{option_copied}
use Rattle.vault_model.specs.SeenDoc.{doc_seen}
use Rattle.doc_write.proofs.WrittenTexts.{put_bytes, put_spare}
use Rattle.doc_write.proofs.writing.append_doc.Goals as goal

pub returns-clause-bytes : goal.returns-clause-bytes
returns-clause-bytes c =
    put_bytes c.args.form _ (option_copied c.args.header_hash) (doc_seen c.args.doc.now) _ c.requires.pool _ _ refl refl c.requires.limit c.requires.room c.put_document.ensures.puts

pub returns-clause-spare : goal.returns-clause-spare
returns-clause-spare c =
    put_spare c.args.form _ (option_copied c.args.header_hash) (doc_seen c.args.doc.now) _ c.requires.pool _ _ refl refl c.requires.limit c.requires.room c.put_document.ensures.puts
