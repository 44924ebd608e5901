use Rattle.std.proofs.Common.{true≢false, sym, ◌∙◌}
use Rattle.bitwarden_forms.proofs.Lists.{bad_json, good_json}
use Rattle.serde_json.specs.View.{view}
use Rattle.bitwarden_forms.proofs.export.json_of.Goals as goal

pub returns-in-Ok : goal.returns-in-Ok
returns-in-Ok c = good_json c.args.bytes.now (view c.in-Ok.value) c.in-Ok.ensures.ok.0 c.in-Ok.ensures.ok.1

pub returns-in-Err-2 : goal.returns-in-Err-2
returns-in-Err-2 c = bad_json c.args.bytes.now (c.in-Err.ensures.err (λ memory. true≢false (sym (c.is_memory.ensures.1 memory) ∙ c.if-is_memory.false)))
