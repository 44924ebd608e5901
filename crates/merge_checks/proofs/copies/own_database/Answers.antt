-- Under its own root a document is as it was.
use Rattle.std.proofs.Common.{ap, ◌∙◌}
use Rattle.vault_model.specs.Tree.{db_in}
use Rattle.merge_checks.proofs.OwnDocs.{at_home, is_own}
use Rattle.merge_checks.proofs.copies.own_database.Goals as goal

pub database_of-requires : goal.database_of-requires
database_of-requires c = is_own c.args.doc.now

pub returns : goal.returns
returns c = c.in_ok-read.ensures ∙ ap db_in (at_home c.args.doc.now)
