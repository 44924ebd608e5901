-- Documents fit their levels, and what fits is not too deep.
use Rattle.agreed_laws.proofs.Heights.{document_fits}
use Rattle.agreed_laws.proofs.Shallow.{fits, shallow}
use Rattle.agreed_laws.proofs.laws.levels.Goals as goal

pub returns-clause-documents : goal.returns-clause-documents
returns-clause-documents c d is = document_fits d is

pub returns-clause-shallow : goal.returns-clause-shallow
returns-clause-shallow c n S more al sound = (fits S al sound n more, shallow S al sound n more)
