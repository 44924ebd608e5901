-- The invariant of a document, said of what is seen of it.
use Rattle.vault_model.proofs.DocumentLaws.{is_doc}
use Rattle.vault_model.proofs.documents.laws.parts_in_order.Goals as goal

pub returns : goal.returns
returns c = is_doc c.args.doc.now
