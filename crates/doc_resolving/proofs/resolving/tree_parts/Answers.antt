use Rattle.std.proofs.Common.{map}
use Rattle.doc_forms.specs.Attachments.{pool_from}
use Rattle.doc_forms.specs.SeenDocuments.{pool_item}
use Rattle.doc_forms.specs.SeenDrafts.{binary_seen, draft_seen}
use Rattle.doc_resolving.proofs.SoundTrees.{parts_as}
use Rattle.doc_resolving.proofs.resolving.tree_parts.Goals as goal

pub returns-in-Ok : goal.returns-in-Ok
returns-in-Ok c =
    let pool = pool_from c.args.form (map pool_item c.args.given.now) (map binary_seen c.args.own.now) in
    parts_as pool (draft_seen c.args.draft) c.args.tombs.now c.in-Ok.tree c.parts_of.result c.in-Ok.ensures c.parts_of.ensures
