use Rattle.std.proofs.Common.{◌≡◌, ◌||◌, ◌∷◌, drop, map}
use Rattle.std.specs.List.{list_any}
use Rattle.vault_model.specs.Db.{NodeId}
use Rattle.vault_model.specs.Join.{is_id}
use Rattle.vault_model.specs.SeenDoc.{doc_seen}
use Rattle.vault_model.specs.Tree.{BareDoc, id_of}
use Rattle.merge_core.specs.Marking.{is_marked}
use Rattle.merge_checks.proofs.roots.put_roots.Given as goal

abbrev pub invariant-loop-source : goal.invariant-loop-source
invariant-loop-source l =
    (u : NodeId) → (is_marked l.roots u || list_any (λ (d : BareDoc). is_id u (id_of d.tree)) (map doc_seen (drop l.source-index l.sources)))
    ≡ list_any (λ (d : BareDoc). is_id u (id_of d.tree)) (doc_seen l.target ∷ map doc_seen l.sources)
