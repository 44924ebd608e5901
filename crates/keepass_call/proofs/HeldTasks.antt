-- What a call gives on files that hold what it uses, both ways.
use Rattle.std.proofs.Common.{◌≡◌, ℕ, List, Option, inl, inr, ◌∙◌, ap, subst, Result, Ok}
use Rattle.std.specs.Prelude.{◌⊎◌}
use Rattle.cli_standalone.specs.declared.standalone.Standalone.{Standalone}
use Rattle.cli_messages.specs.declared.answers.Refusal.{Refusal}
use Rattle.cli_messages.specs.Phases.{StreamAnswer}
use Rattle.cli_files.proofs.HeldKeys.{in_turn}
use Rattle.call_input.proofs.Opened.{databases_follow, databases_hold}
use Rattle.call_input.specs.Attaching.{attached_for}
use Rattle.call_input.specs.Opening.{databases_for}
use Rattle.cli_lines.proofs.Having.{lines_have}
use Rattle.cli_lines.specs.Lines.{lines_of}
use Rattle.cli_needs.specs.Needs.{needs_of}
use Rattle.session_run.specs.CallRun.Endings.{Ending}
use Rattle.keepass_call.specs.Held.{IsCarried, IsCarriedAlone, IsTask}
use Rattle.keepass_call.specs.Outcome.{World, answer_of, standalone_or_command}
use Rattle.cli_parse.specs.Words.{command_of}
use Rattle.cli_files.specs.Tasks.{Task, databases_in, task_with}
use Rattle.call_input.specs.Reading.{task_of}
use Rattle.keepass_call.proofs.Answered.{answer_is, unpaged}
use Rattle.keepass_call.proofs.Pages.{standalone_no_page}
use Rattle.call_input.proofs.ReadTasks.{opened_is, task_is}

ok_is : {A : Type 0} (a b : A) → ◌≡◌ {A = Result A Refusal} (Ok a) (Ok b) → a ≡ b
ok_is a b h = cc

-- What words ask for is what their files hold.
pub is_task : (words : List (List ℕ)) (time : ℕ) (world : World) (task : Task) → task_of words time world.input world.files ≡ Ok task → IsTask words time world task
unfolding task_of
is_task words time world task h =
    let c = in_turn (command_of words) _ task h in
    let l = in_turn (lines_of (needs_of c.0) world.input).answer _ task c.1.1 in
    let d = in_turn (databases_for c.0 l.0 time world.files) _ task l.1.1 in
    let a = in_turn (attached_for c.0 world.files) _ task d.1.1 in
    let same = ok_is (task_with c.0 l.0 d.0 a.0) task a.1.1 in
    subst (λ (x : Task). IsTask words time world x) same
    (record {
      is_command = c.1.0;
      are_lines = l.1.0;
      holds = databases_hold c.0 l.0 time world.files d.0 (lines_have (needs_of c.0) world.input l.0 l.1.0) d.1.0;
      attaches = a.1.0;
    })

-- And what files hold is asked for.
pub task_given : (words : List (List ℕ)) (time : ℕ) (world : World) (task : Task) → IsTask words time world task → task_of words time world.input world.files ≡ Ok task
task_given words time world task h =
    task_is words time world.input world.files task.command task.lines task h.is_command h.are_lines
    (opened_is task.command task.lines time world.files (databases_in task) task.attached
    (databases_follow task.command task.lines time world.files (databases_in task) h.holds) h.attaches)

-- What a task is carried out to is given.
pub is_given : (words : List (List ℕ)) (time : ℕ) (world : World) (ending : Ending) → IsCarried words time world ending
    → (answer_of words time world).answer ≡ Ok ending
is_given words time world ending h =
    ap (λ (a : StreamAnswer Ending). a.answer) (answer_is words time world h.task (task_given words time world h.task h.is_task))
    ∙ h.gives

-- So is a command that needs no database.
pub is_chosen : (words : List (List ℕ)) (time : ℕ) (world : World) (ending : Ending) → IsCarriedAlone words world ending
    → (answer_of words time world).answer ≡ Ok ending
is_chosen words time world ending h =
    ap (λ (a : StreamAnswer Ending). a.answer) (unpaged words time world (standalone_no_page words h.standalone h.asks)
    ∙ ap (λ (p : Option Standalone). standalone_or_command p words time world) h.asks)
    ∙ h.gives

pub is_gained : (words : List (List ℕ)) (time : ℕ) (world : World) (ending : Ending) → IsCarried words time world ending ⊎ IsCarriedAlone words world ending
    → (answer_of words time world).answer ≡ Ok ending
is_gained words time world ending (inl carried) = is_given words time world ending carried
is_gained words time world ending (inr chosen) = is_chosen words time world ending chosen
