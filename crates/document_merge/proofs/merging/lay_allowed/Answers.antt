-- Some members are at least one.
use Rattle.document_merge.proofs.MergedDocs.{some_members}
use Rattle.document_merge.proofs.merging.lay_allowed.Goals as goal

pub join_marked-requires-clause-some : goal.join_marked-requires-clause-some
join_marked-requires-clause-some c = some_members c.args.copies.now _ _ c.requires.copies
