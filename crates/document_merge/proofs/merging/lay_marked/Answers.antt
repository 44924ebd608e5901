-- Nothing is refused, so the documents can be merged.
use Rattle.std.proofs.Common.{sym, ◌∙◌}
use Rattle.merge_tables.specs.Databases.{databases}
use Rattle.document_merge.proofs.MergedDocs.{all_allowed, all_merge, all_sound, some_members}
use Rattle.document_merge.proofs.merging.lay_marked.Goals as goal

pub least_too_deep-found-requires-clause-some : goal.least_too_deep-found-requires-clause-some
least_too_deep-found-requires-clause-some c = some_members c.args.copies.now _ _ c.requires.copies

pub least_too_deep-found-requires-clause-allowed : goal.least_too_deep-found-requires-clause-allowed
least_too_deep-found-requires-clause-allowed c =
    all_allowed c.args.target.now c.args.sources.now (databases c.args.copies.now) c.requires.copies c.requires.clear c.requires.kinds c.requires.strays

pub least_too_deep-found-requires-clause-sound : goal.least_too_deep-found-requires-clause-sound
least_too_deep-found-requires-clause-sound c = all_sound c.args.target.now c.args.sources.now (databases c.args.copies.now) c.requires.copies c.requires.clear

pub lay_allowed-requires-clause-can_merge : goal.lay_allowed-requires-clause-can_merge
lay_allowed-requires-clause-can_merge c =
    all_merge c.args.target.now c.args.sources.now (databases c.args.copies.now) c.requires.copies c.requires.clear c.requires.kinds c.requires.strays
    (sym c.least_too_deep-found.ensures ∙ c.in_default.is)
