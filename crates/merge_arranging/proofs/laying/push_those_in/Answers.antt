use Rattle.std.proofs.Common.{◌≡◌, ◌++◌, Bool, subst}
use Rattle.std.specs.Prelude.{OnOk}
use Rattle.std.specs.List.{filter}
use Rattle.vault_model.specs.Db.{NodeId}
use Rattle.merge_arranging.proofs.laying.push_those_in.Goals as goal

pub returns : goal.returns
returns c =
    subst (λ (wanted : NodeId → Bool). OnOk c.push_kept.result (c.push_kept.new.order.items ≡ c.args.order.now.items ++ filter wanted c.args.before.now))
    (λ i u. c.in_ok-now.ensures u i) c.push_kept.ensures
