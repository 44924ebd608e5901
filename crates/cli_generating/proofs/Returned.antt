-- What a choice says of the defined answer.
use Rattle.std.proofs.Common.{◌≡◌, ℕ, List, [], Option, Some, codes, option_map, drop, Ok, Err, sym, ap, subst, ◌∙◌}
use Rattle.outside_core.specs.Streams.{LosesPrefix}
use Rattle.gen_core.specs.declared.choosing.GenFail.{GenFail}
use Rattle.gen_core.specs.declared.choosing.GenFail.TheVariants as fail
use Rattle.gen_core.specs.Chosen.{Between, Choice, IsChosen, choose, chosen, spent}
use Rattle.cli_messages.specs.declared.answers.Reason.TheVariants.{Spent}
use Rattle.cli_messages.specs.declared.answers.Stop.{Stop}
use Rattle.cli_messages.specs.declared.answers.Stop.TheVariants.{Refused, FileFault, InputFault, NoMemory}
use Rattle.cli_messages.specs.declared.answers.Refusal.{Refusal}
use Rattle.cli_messages.specs.Messages.{Refuses, refusal_of}
use Rattle.cli_messages.specs.Phases.{RefusesStream, StreamAnswer}
use Rattle.cli_generating.specs.Generated.{generated, password_chosen}

-- What is left of a stream that is reported is reported.
reported_after : (before now : Option (List ℕ)) (d : List ℕ) → before ≡ Some d → LosesPrefix before now → (rest : List ℕ) × (now ≡ Some rest)
reported_after before now d told loses = (drop loses.0 d, loses.1 ∙ ap (option_map (drop loses.0)) told)

pub password_returned : (before now : Option (List ℕ)) (alphabet : List ℕ) (length : ℕ) (d text : List ℕ) → before ≡ Some d → LosesPrefix before now
    → Between before now (λ (stream rest : List ℕ). choose alphabet length [] stream ≡ chosen text rest)
    → ((generated alphabet length d).answer ≡ Ok text) × (now ≡ Some (generated alphabet length d).left)
password_returned before now alphabet length d text told loses between =
    let after = reported_after before now d told loses in
    let is = between d after.0 told after.1 in
    (ap (λ (c : Choice). (password_chosen c).answer) is, after.1 ∙ ap Some (sym (ap (λ (c : Choice). (password_chosen c).left) is)))

refuses_stream : {Y : Type 0} (stop : Stop) (refusal : Refusal) (now : Option (List ℕ)) (defined : StreamAnswer Y) → Refuses stop refusal
    → defined.answer ≡ Err refusal → now ≡ Some defined.left → RefusesStream stop now defined
refuses_stream (Refused given) refusal now defined same answer left = (answer ∙ ap Err (sym same), left)
refuses_stream (FileFault name) refusal now defined same answer left = absurd same
refuses_stream InputFault refusal now defined same answer left = absurd same
refuses_stream NoMemory refusal now defined same answer left = tt

spent_between : (before now : Option (List ℕ)) (alphabet : List ℕ) (length k : ℕ) (why : GenFail) → why ≡ fail.Spent k
    → Between before now (IsChosen alphabet length (Err why))
    → Between before now (λ (stream rest : List ℕ). choose alphabet length [] stream ≡ spent k rest)
spent_between before now alphabet length k why is = subst (λ (w : GenFail). Between before now (IsChosen alphabet length (Err w))) is

pub spent_returned : (before now : Option (List ℕ)) (alphabet : List ℕ) (length k : ℕ) (why : GenFail) (d : List ℕ) (stop : Stop) → before ≡ Some d
    → LosesPrefix before now → why ≡ fail.Spent k → Between before now (IsChosen alphabet length (Err why))
    → Refuses stop (refusal_of Spent (codes "input")) → RefusesStream stop now (generated alphabet length d)
spent_returned before now alphabet length k why d stop told loses why_is between refuses =
    let after = reported_after before now d told loses in
    let is = spent_between before now alphabet length k why why_is between d after.0 told after.1 in
    refuses_stream stop (refusal_of Spent (codes "input")) now (generated alphabet length d) refuses
    (ap (λ (c : Choice). (password_chosen c).answer) is) (after.1 ∙ ap Some (sym (ap (λ (c : Choice). (password_chosen c).left) is)))
