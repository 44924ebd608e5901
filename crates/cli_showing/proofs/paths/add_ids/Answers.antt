use Rattle.std.proofs.Common.{◌||◌, ap}
use Rattle.std.specs.List.{list_any}
use Rattle.vault_model.specs.Join.{is_id}
use Rattle.cli_showing.proofs.FoundIds.{one_more}
use Rattle.cli_showing.proofs.paths.add_ids.Goals as goal

pub loop-id-init : goal.loop-id-init
loop-id-init c = λ v. ap (λ b. b || list_any (is_id v) c.args.ids.now) (c.requires v)

pub loop-id-preserved : goal.loop-id-preserved
loop-id-preserved c =
    one_more c.args.ids.now c.loop-id.id-index c.id-item.result c.loop-id.set c.insert.new.self c.loop-id-test.true c.id-item.is
    c.in_ok-insert.ensures.updates c.loop-id.invariant
