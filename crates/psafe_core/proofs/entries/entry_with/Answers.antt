use Rattle.std.proofs.Common.{ap, ◌∙◌}
use Rattle.psafe_core.specs.Outcome.{is_nil}
use Rattle.psafe_file.specs.SeenFields.{fields_seen}
use Rattle.vault_model.specs.Db.{NodeId}
use Rattle.std.specs.Prelude.{Option}
use Rattle.psafe_core.proofs.Records.{not_nil}
use Rattle.psafe_core.proofs.Texts.{record_texts}
use Rattle.psafe_core.proofs.entries.entry_with.Goals as goal

pub invariant_of-result : goal.invariant_of-result
invariant_of-result c = record {
  not_nil = not_nil c.own_id.result (ap (λ (o : Option NodeId). is_nil o) c.own_id.ensures ∙ c.requires.not_nil);
  texts = rw (c.in-Ok.ensures.title, c.in-Ok.ensures.user, c.in-Ok.ensures.url, c.requires.password, c.requires.notes, c.requires.history) (record_texts (fields_seen c.args.record_fields.now));
}
