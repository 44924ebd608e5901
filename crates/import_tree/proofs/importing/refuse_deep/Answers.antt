use Rattle.std.proofs.Common.{sym, ◌∙◌, arith}
use Rattle.import_tree.specs.Trees.{import_root}
use Rattle.import_tree.specs.SeenDrafts.{draft_seen}
use Rattle.import_tree.proofs.Deep.{fits}
use Rattle.import_tree.proofs.Levels.{few_levels}
use Rattle.import_tree.proofs.importing.refuse_deep.Goals as goal

pub returns-then-is_deep-clause-fits : goal.returns-then-is_deep-clause-fits
returns-then-is_deep-clause-fits c = fits (draft_seen c.args.draft.now).tree c.refuse_draft.result c.refuse_draft.ensures

pub returns-else-is_deep-clause-fits : goal.returns-else-is_deep-clause-fits
returns-else-is_deep-clause-fits c =
    let draft = c.args.draft.now in
    few_levels draft.places.items (import_root draft.moment) (sym c.is_deep.ensures ∙ c.if-is_deep.false) (omega arith)
