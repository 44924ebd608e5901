use Rattle.std.proofs.Common.{sym, ap, ◌∙◌, true≢false}
use Rattle.std.specs.Option.{option_map}
use Rattle.std.specs.Borrow.{Bor}
use Rattle.std.proofs.Common.{List, ℕ}
use Rattle.bitwarden_forms.proofs.Lists.{no_id}
use Rattle.serde_json.specs.View.{view}
use Rattle.bitwarden_forms.proofs.kinds.id_in.Goals as goal

pub returns-in-Err : goal.returns-in-Err
returns-in-Err c =
    no_id (view c.args.value.now) c.in_ok-as_str.field-0.now
    (sym (ap (option_map (λ (s : Bor (List ℕ)). s.now)) c.in_ok-as_str.was) ∙ c.as_str.ensures)
    (λ h. true≢false (sym (c.in-Err.ensures.ok.1 h)))
