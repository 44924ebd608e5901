-- Documents' databases are sound and have one root.
use Rattle.std.proofs.Common.{map}
use Rattle.vault_model.specs.SeenDoc.{doc_seen}
use Rattle.merge_tables.specs.Databases.{databases}
use Rattle.document_merge.proofs.MergedDocs.{all_rooted, all_sound, path_refused, some_members}
use Rattle.document_merge.proofs.merging.lay_kinds.Goals as goal

pub kept_marks-requires-clause-some : goal.kept_marks-requires-clause-some
kept_marks-requires-clause-some c = some_members c.args.copies.now _ _ c.requires.copies

pub kept_marks-requires-clause-root : goal.kept_marks-requires-clause-root
kept_marks-requires-clause-root c = all_rooted c.args.target.now c.args.sources.now (databases c.args.copies.now) c.requires.copies c.requires.clear

pub kept_marks-requires-clause-sound : goal.kept_marks-requires-clause-sound
kept_marks-requires-clause-sound c = all_sound c.args.target.now c.args.sources.now (databases c.args.copies.now) c.requires.copies c.requires.clear

pub returns-in-Err : goal.returns-in-Err
returns-in-Err c =
    path_refused (doc_seen c.args.target.now) (map doc_seen c.args.sources.now) (databases c.args.copies.now) c.requires.copies c.in-Err.refusal c.fail_of.result
    c.in-Err.ensures c.fail_of.ensures
