use Rattle.std.proofs.Common.{◌≡◌, Bool, subst}
use Rattle.std.specs.FinMap.{FinMap, keys}
use Rattle.std.specs.Prelude.{IfOk}
use Rattle.vault_model.specs.Db.{id_cmp}
use Rattle.merge_checks.proofs.cycles.rising_list.Goals as goal

pub returns : goal.returns
returns c = subst (λ (t : FinMap id_cmp Bool). IfOk c.list_of.result (λ us. us ≡ keys t)) c.in_ok-table.ensures c.list_of.ensures
