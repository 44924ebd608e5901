use Rattle.std.proofs.Common.{List, Result, map, subst, sym}
use Rattle.vault_model.specs.SeenNodes.{tree_seen}
use Rattle.vault_model.specs.Tree.{Tree}
use Rattle.vault_model.specs.declared.nodes.Tombstone.{Tombstone}
use Rattle.doc_forms.specs.declared.fails.DocFail.{DocFail}
use Rattle.doc_forms.specs.Attachments.{pool_from}
use Rattle.doc_forms.specs.Refusals.{Returns}
use Rattle.doc_forms.specs.SeenDocuments.{pool_item}
use Rattle.doc_forms.specs.SeenDrafts.{binary_seen, draft_seen}
use Rattle.doc_resolving.specs.declared.resolving.SoundTree.{SoundTree}
use Rattle.doc_resolving.proofs.SoundTrees.{by_parts}
use Rattle.doc_resolving.proofs.resolving.sound_tree.Goals as goal

pub returns-in-Ok : goal.returns-in-Ok
returns-in-Ok c =
    let pool = pool_from c.args.form (map pool_item c.args.given.now) (map binary_seen c.args.own.now) in
    subst (λ (d : Result (Tree × List Tombstone) DocFail). Returns (λ (t : SoundTree). (tree_seen t.root, t.tombs)) c.sound_parts.result d)
    (sym (by_parts pool (draft_seen c.args.draft) c.args.tombs.now c.in-Ok.parts c.in-Ok.ensures)) c.sound_parts.ensures
