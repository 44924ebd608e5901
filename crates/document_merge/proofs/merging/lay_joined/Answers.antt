-- The first of the members is the target's database, and all of them are the copies.
use Rattle.std.proofs.Common.{ap, ◌∙◌}
use Rattle.vault_model.specs.Join.{join}
use Rattle.vault_model.specs.SeenDoc.{doc_seen}
use Rattle.vault_model.specs.Shape.{Shape}
use Rattle.vault_model.specs.Tree.{db_in}
use Rattle.document_merge.proofs.MergedDocs.{first_of}
use Rattle.document_merge.proofs.merging.lay_joined.Goals as goal

pub lay_over-laid-requires-clause-joined : goal.lay_over-laid-requires-clause-joined
lay_over-laid-requires-clause-joined c = c.requires.joined ∙ ap join c.requires.copies

pub lay_over-laid-requires-clause-before : goal.lay_over-laid-requires-clause-before
lay_over-laid-requires-clause-before c = first_of c.args.copies.now c.index-copies-0.result (db_in (doc_seen c.args.target.now)) _ c.index-copies-0.is c.requires.copies

pub lay_over-laid-requires-clause-entries : goal.lay_over-laid-requires-clause-entries
lay_over-laid-requires-clause-entries c = ap (λ (s : Shape). s.entries) c.in_ok-older.ensures
