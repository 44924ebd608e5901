-- What is laid is a document, and what is rooted elsewhere is.
use Rattle.merge_core.proofs.LaidDocs.{laid_is_doc}
use Rattle.merge_core.proofs.Rooted.{rooted_is_doc, rooted_at_home}
use Rattle.merge_core.proofs.document_laws.documents.Goals as goal

pub returns-clause-laid : goal.returns-clause-laid
returns-clause-laid c m t s fits is = laid_is_doc m t s fits is

pub returns-clause-rooted : goal.returns-clause-rooted
returns-clause-rooted c d r is some off = rooted_is_doc d r is some off

pub returns-clause-at_home : goal.returns-clause-at_home
returns-clause-at_home c d is = rooted_at_home d is
