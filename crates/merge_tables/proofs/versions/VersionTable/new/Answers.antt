use Rattle.std.proofs.Common.{ap, ◌∙◌}
use Rattle.std.specs.FinMap.{from_sorted}
use Rattle.vault_model.specs.Db.{mark_cmp}
use Rattle.merge_tables.proofs.PutRows.{sorted_none}
use Rattle.merge_tables.proofs.versions.VersionTable.new.Goals as goal

pub returns : goal.returns
returns c = ap from_sorted c.new.ensures.items ∙ sorted_none mark_cmp
