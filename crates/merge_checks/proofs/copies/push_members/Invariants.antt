use Rattle.std.proofs.Common.{◌≡◌, ◌++◌, map, drop}
use Rattle.vault_model.specs.SeenDoc.{doc_seen}
use Rattle.vault_model.specs.Tree.{BareDoc, db_in, id_of, rooted}
use Rattle.merge_core.specs.Refusals.{members}
use Rattle.merge_tables.specs.Databases.{databases}
use Rattle.merge_checks.proofs.copies.push_members.Given as goal

abbrev pub invariant-loop-source : goal.invariant-loop-source
invariant-loop-source l =
    databases l.copies.items ++ map (λ (s : BareDoc). db_in (rooted s (id_of (doc_seen l.target).tree))) (map doc_seen (drop l.source-index l.sources))
    ≡ members (doc_seen l.target) (map doc_seen l.sources)
