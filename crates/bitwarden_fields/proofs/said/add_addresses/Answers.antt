use Rattle.std.proofs.Common.{◌∙◌}
use Rattle.bitwarden_fields.specs.Seen.{fields_seen}
use Rattle.bitwarden_fields.proofs.Gathered.{address_more}
use Rattle.bitwarden_fields.proofs.said.add_addresses.Goals as goal

pub loop-at-preserved : goal.loop-at-preserved
loop-at-preserved c =
    c.loop-at.invariant
    ∙ address_more c.args.addresses.now c.loop-at.at c.index-addresses-at.result (fields_seen c.loop-at.fields.items) (fields_seen c.add_address.new.fields.items)
    c.loop-at-test.true c.index-addresses-at.is c.in_ok-add_address.ensures
