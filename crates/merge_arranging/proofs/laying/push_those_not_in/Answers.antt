use Rattle.std.proofs.Common.{◌≡◌, ◌++◌, Bool, not, subst}
use Rattle.std.specs.Prelude.{OnOk}
use Rattle.std.specs.List.{filter}
use Rattle.vault_model.specs.Db.{NodeId}
use Rattle.merge_arranging.proofs.laying.push_those_not_in.Goals as goal

pub returns : goal.returns
returns c =
    subst (λ (wanted : NodeId → Bool). OnOk c.push_newcomers.result (c.push_newcomers.new.order.items ≡ c.args.order.now.items ++ filter wanted c.args.present.now))
    (λ i u. not (c.in_ok-old.ensures u i)) c.push_newcomers.ensures
