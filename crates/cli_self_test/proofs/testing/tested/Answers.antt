-- Both merges of the copies are carried out.
use Rattle.vault_model.specs.SeenDoc.{doc_seen}
use Rattle.merge_twins.specs.Twins.{first_twin, second_twin}
use Rattle.cli_self_test.specs.SelfTest.{first_merged, second_merged}
use Rattle.cli_self_test.proofs.Merges.{first_is, second_is}
use Rattle.cli_self_test.proofs.Told.{is_merged, merged_to, same_merge}
use Rattle.cli_self_test.proofs.testing.tested.Goals as goal

pub merged-requires : goal.merged-requires
merged-requires c =
    let n = c.args.count in
    is_merged (doc_seen c.args.first.now) (doc_seen c.args.second.now) (first_merged n)
    (same_merge (doc_seen c.args.first.now) (doc_seen c.args.second.now) (first_twin n) (second_twin n) (first_merged n) c.requires.first c.requires.second (first_is n c.requires.few))

pub merged-requires-2 : goal.merged-requires-2
merged-requires-2 c =
    let n = c.args.count in
    is_merged (doc_seen c.args.second.now) (doc_seen c.args.first.now) (second_merged n)
    (same_merge (doc_seen c.args.second.now) (doc_seen c.args.first.now) (second_twin n) (first_twin n) (second_merged n) c.requires.second c.requires.first (second_is n c.requires.few))

pub told_of-text-requires : goal.told_of-text-requires
told_of-text-requires c =
    let n = c.args.count in
    record {
      few = c.requires.few;
      first =
          merged_to (doc_seen c.args.first.now) (doc_seen c.args.second.now) (first_twin n) (second_twin n) (first_merged n) (doc_seen c.in_ok-one.one.doc)
          c.requires.first c.requires.second (first_is n c.requires.few) c.in_ok-one.ensures.doc;
      second =
          merged_to (doc_seen c.args.second.now) (doc_seen c.args.first.now) (second_twin n) (first_twin n) (second_merged n) (doc_seen c.in-Ok.other.doc)
          c.requires.second c.requires.first (second_is n c.requires.few) c.in-Ok.ensures.doc;
    }
