use Rattle.std.proofs.Common.{ap, min, ◌+◌, ◌-◌, ◌^◌, ◌∙◌, ◌++◌}
use Rattle.std.specs.Fmt.{decimal}
use Rattle.import_ids.specs.Ids.{entry_space}
use Rattle.import_ids.specs.SeenNames.{name_bytes, texts_seen}
use Rattle.import_ids.proofs.Counted.{gives}
use Rattle.import_ids.proofs.NamedIds.{own_or_named}
use Rattle.import_ids.proofs.counts.NameCounts.next_id.Goals as goal

pub returns-clause-gives : goal.returns-clause-gives
returns-clause-gives c = λ before was few.
    gives before (texts_seen c.args.texts) c.in_ok-name.name c.args.self.now (record { counts = c.insert.new.self }) c.saturating_add-number.result
    c.in_ok-name.ensures was few (c.saturating_add-number.ensures ∙ ap (λ n. min (n + 1) (2 ^ 64 - 1)) c.count_of.ensures) c.in_ok-insert.ensures.updates.0 c.args.own c.in_ok-id.id c.in_ok-id.ensures

pub returns-clause-not_nil : goal.returns-clause-not_nil
returns-clause-not_nil c =
    own_or_named c.args.own c.in_ok-id.id entry_space (name_bytes c.in_ok-name.name ++ decimal c.saturating_add-number.result) c.in_ok-id.ensures
