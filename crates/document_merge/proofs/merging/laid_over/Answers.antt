-- What is laid over the target is a document, and its root is one of its groups.
use Rattle.std.proofs.Common.{◌≡◌, true, ap, sym, map, subst}
use Rattle.std.specs.Prelude.{IfOk}
use Rattle.std.specs.FinMap.{contains_key}
use Rattle.vault_model.specs.declared.documents.Doc.{Doc}
use Rattle.vault_model.specs.Join.{join}
use Rattle.vault_model.specs.SeenDoc.{doc_seen}
use Rattle.vault_model.specs.Shape.{Shape}
use Rattle.vault_model.specs.Tree.{BareDoc, IsDoc, LEVELS, doc_of, shape_of}
use Rattle.merge_core.specs.Refusals.{members}
use Rattle.document_merge.proofs.MergedDocs.{laid_root}
use Rattle.document_merge.proofs.merging.laid_over.Goals as goal

pub built-requires-clause-doc : goal.built-requires-clause-doc
built-requires-clause-doc c = subst IsDoc (sym (ap (doc_of LEVELS) c.requires.shape)) c.requires.can_merge.laid

pub built-requires-clause-root : goal.built-requires-clause-root
built-requires-clause-root c =
    subst (λ (s : Shape). contains_key s.groups s.root ≡ true) (sym c.requires.shape)
    (laid_root (join (members (doc_seen c.args._target.now) (map doc_seen c.args._sources.now))) (shape_of (doc_seen c.args._target.now)) c.requires.can_merge.joined)

pub returns : goal.returns
returns c = subst (λ (x : BareDoc). IfOk c.built.result (λ (d : Doc). doc_seen d ≡ x)) (ap (doc_of LEVELS) c.requires.shape) c.built.ensures
