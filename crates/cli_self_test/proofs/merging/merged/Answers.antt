-- A merge that is defined is carried out.
use Rattle.std.proofs.Common.{List, ap, map, sym, ◌∙◌}
use Rattle.vault_model.specs.declared.documents.Doc.{Doc}
use Rattle.vault_model.specs.SeenDoc.{doc_seen}
use Rattle.merge_again.specs.DocumentMerge.Merging.{merge_result}
use Rattle.cli_self_test.proofs.Stops.{is_memory}
use Rattle.cli_self_test.proofs.merging.merged.Goals as goal

pub only_memory-requires : goal.only_memory-requires
only_memory-requires c =
    is_memory (doc_seen c.args.target.now) c.args.source.now c.from_ref.result.now c.in-Err.why c.from_ref.ensures.value c.requires c.in-Err.ensures

pub returns-in-Ok-clause-doc : goal.returns-in-Ok-clause-doc
returns-in-Ok-clause-doc c =
    ap (λ (ds : List Doc). merge_result (doc_seen c.args.target.now) (map doc_seen ds)) (sym c.from_ref.ensures.value) ∙ c.in-Ok.ensures.0

pub returns-in-Ok-clause-same : goal.returns-in-Ok-clause-same
returns-in-Ok-clause-same c = c.in-Ok.ensures.1.same
