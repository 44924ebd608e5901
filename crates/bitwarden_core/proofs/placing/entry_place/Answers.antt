use Rattle.std.proofs.Common.{sym, ◌∙◌}
use Rattle.serde_json.specs.View.{view}
use Rattle.bitwarden_core.proofs.OneByOne.{entry_id}
use Rattle.bitwarden_core.proofs.placing.entry_place.Goals as goal

pub of_entry-requires-clause-not_nil : goal.of_entry-requires-clause-not_nil
of_entry-requires-clause-not_nil c = λ nil. c.requires (sym (entry_id c.args.now c.args.id (view c.args.item.now) _ c.in_ok-entry.ensures.is) ∙ nil)
