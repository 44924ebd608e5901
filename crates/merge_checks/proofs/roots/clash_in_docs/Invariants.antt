use Rattle.std.proofs.Common.{◌≡◌, ◌∷◌, None, drop, map}
use Rattle.vault_model.specs.SeenDoc.{doc_seen}
use Rattle.merge_core.specs.Marking.{is_marked}
use Rattle.merge_checks.specs.Clashes.{clash_in_docs}
use Rattle.merge_checks.proofs.roots.clash_in_docs.Given as goal

abbrev pub invariant-loop-source : goal.invariant-loop-source
invariant-loop-source l =
    clash_in_docs (is_marked l.roots) (map doc_seen (drop l.source-index l.sources)) l.found
    ≡ clash_in_docs (is_marked l.roots) (doc_seen l.target ∷ map doc_seen l.sources) None
