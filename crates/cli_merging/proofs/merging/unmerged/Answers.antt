use Rattle.std.proofs.Common.{◌≡◌, ◌≢◌, ℕ, List, refl, sym, ap, subst, ◌∙◌}
use Rattle.cli_messages.specs.Messages.{Refuses, refusal_of}
use Rattle.cli_messages.specs.Phases.{IsPlainStop}
use Rattle.cli_messages.specs.declared.answers.Reason.{Reason}
use Rattle.cli_messages.specs.declared.answers.Reason.TheVariants as answer
use Rattle.cli_messages.specs.declared.answers.Refusal.{Refusal}
use Rattle.cli_messages.specs.declared.answers.Stop.{Stop}
use Rattle.cli_messages.specs.declared.answers.Stop.TheVariants.{Refused, FileFault, InputFault, NoMemory}
use Rattle.document_merge.specs.declared.merging.MergeFail.{MergeFail}
use Rattle.document_merge.specs.declared.merging.MergeFail.TheVariants as fail
use Rattle.cli_merging.specs.Merging.{IsUnmerged, merge_answer}
use Rattle.cli_merging.proofs.merging.unmerged.Goals as goal

unmerged_by : (why : MergeFail) (stop : Stop) (file : List ℕ) (reason : Reason) → reason ≡ merge_answer why → why ≢ fail.NoMemory
    → Refuses stop (refusal_of reason file) → IsUnmerged why file stop
unmerged_by fail.NoMemory stop file reason is other h = absurd (other refl)
unmerged_by why stop file reason is other h = subst (λ (r : Reason). Refuses stop (refusal_of r file)) is h

plain_by : (stop : Stop) (refusal : Refusal) → refusal.reason ≢ answer.NoSuchFile → Refuses stop refusal → IsPlainStop stop
plain_by (Refused given) refusal there h = λ p. there (sym (ap (λ (r : Refusal). r.reason) h) ∙ p)
plain_by (FileFault name) refusal there h = h
plain_by InputFault refusal there h = h
plain_by NoMemory refusal there h = tt

pub returns-in_default-clause-is : goal.returns-in_default-clause-is
returns-in_default-clause-is c =
    unmerged_by c.args.fail c.refused.result c.args.file.now c.merge_answer.result c.merge_answer.ensures.is c.in_default.not-NoMemory c.refused.ensures

pub returns-in_default-clause-plain : goal.returns-in_default-clause-plain
returns-in_default-clause-plain c = plain_by c.refused.result _ c.merge_answer.ensures.there c.refused.ensures
