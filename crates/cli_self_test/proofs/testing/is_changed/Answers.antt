-- Merged once more the first result is as it was.
use Rattle.std.proofs.Common.{sym, ◌∙◌}
use Rattle.vault_model.specs.SeenDoc.{doc_seen}
use Rattle.cli_self_test.specs.SelfTest.{first_merged, second_merged}
use Rattle.cli_self_test.proofs.Merges.{again_is}
use Rattle.cli_self_test.proofs.Told.{is_merged, merged_to, same_merge}
use Rattle.cli_self_test.proofs.testing.is_changed.Goals as goal

pub merged-requires : goal.merged-requires
merged-requires c =
    let n = c.args._count in
    is_merged (doc_seen c.args.first.now) (doc_seen c.args.second.now) (first_merged n)
    (same_merge (doc_seen c.args.first.now) (doc_seen c.args.second.now) (first_merged n) (second_merged n) (first_merged n) c.requires.first c.requires.second (again_is n c.requires.few))

pub returns : goal.returns
returns c =
    let n = c.args._count in
    c.in_ok-again.ensures.same
    (merged_to (doc_seen c.args.first.now) (doc_seen c.args.second.now) (first_merged n) (second_merged n) (first_merged n) (doc_seen c.in_ok-again.again.doc)
    c.requires.first c.requires.second (again_is n c.requires.few) c.in_ok-again.ensures.doc ∙ sym c.requires.first)
