use Rattle.std.proofs.Common.{◌≡◌, ◌≢◌, ℕ, List, refl, sym, ap, subst, ◌∙◌}
use Rattle.cli_messages.specs.Messages.{Refuses, refusal_of}
use Rattle.cli_messages.specs.Phases.{IsPlainStop}
use Rattle.cli_messages.specs.declared.answers.Reason.{Reason}
use Rattle.cli_messages.specs.declared.answers.Reason.TheVariants as answer
use Rattle.cli_messages.specs.declared.answers.Refusal.{Refusal}
use Rattle.cli_messages.specs.declared.answers.Stop.{Stop}
use Rattle.cli_messages.specs.declared.answers.Stop.TheVariants.{Refused, FileFault, InputFault, NoMemory}
use Rattle.tree_core.specs.declared.fails.TreeFail.{TreeFail}
use Rattle.tree_core.specs.declared.fails.TreeFail.TheVariants as fail
use Rattle.cli_changes.specs.Fails.{IsUnchanged, tree_answer}
use Rattle.cli_changes.proofs.fails.unchanged.Goals as goal

unchanged_by : (why : TreeFail) (stop : Stop) (file : List ℕ) (reason : Reason) → reason ≡ tree_answer why → why ≢ fail.NoMemory
    → Refuses stop (refusal_of reason file) → IsUnchanged why file stop
unchanged_by fail.NoMemory stop file reason is other h = absurd (other refl)
unchanged_by why stop file reason is other h = subst (λ (r : Reason). Refuses stop (refusal_of r file)) is h

plain_by : (stop : Stop) (refusal : Refusal) → refusal.reason ≢ answer.NoSuchFile → Refuses stop refusal → IsPlainStop stop
plain_by (Refused given) refusal there h = λ p. there (sym (ap (λ (r : Refusal). r.reason) h) ∙ p)
plain_by (FileFault name) refusal there h = h
plain_by InputFault refusal there h = h
plain_by NoMemory refusal there h = tt

pub returns-in_default-clause-is : goal.returns-in_default-clause-is
returns-in_default-clause-is c =
    unchanged_by c.args.fail c.refused.result c.args.file.now c.tree_answer.result c.tree_answer.ensures.is c.in_default.not-NoMemory c.refused.ensures

pub returns-in_default-clause-plain : goal.returns-in_default-clause-plain
returns-in_default-clause-plain c = plain_by c.refused.result _ c.tree_answer.ensures.there c.refused.ensures
