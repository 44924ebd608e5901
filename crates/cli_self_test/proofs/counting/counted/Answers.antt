-- Under its own root a document is as it was.
use Rattle.std.proofs.Common.{◌≡◌, IfOk, ap, subst, ◌∙◌}
use Rattle.vault_model.specs.Db.{Db}
use Rattle.vault_model.specs.Tree.{db_in}
use Rattle.merge_again.proofs.MergeChecks.OwnDocs.{at_home, is_own}
use Rattle.cli_self_test.specs.declared.counting.Counts.{Counts}
use Rattle.cli_self_test.specs.SelfTest.{counts_of}
use Rattle.cli_self_test.proofs.counting.counted.Goals as goal

pub database_of-requires : goal.database_of-requires
database_of-requires c = is_own c.args.doc.now

pub returns : goal.returns
returns c =
    subst (λ (m : Db). IfOk c.counts_in-counts.result (λ (counts : Counts). counts ≡ counts_of m))
    (c.in_ok-read.ensures ∙ ap db_in (at_home c.args.doc.now)) c.counts_in-counts.ensures
