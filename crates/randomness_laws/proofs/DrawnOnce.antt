-- No byte of the dice is drawn twice.
use Rattle.std.proofs.Common.{◌≡◌, ◌≤◌, ◌+◌, ℕ, Bool, true, false, List, [], ◌∷◌, ◌++◌, length, drop, Option, None, Some, Result, Ok, Err, refl, sym, ap, ◌∙◌, arith, append_assoc, append-nil, length-append}
use Rattle.std.specs.List.{concat}
use Rattle.vault_model.specs.Db.{NodeId, nil_id}
use Rattle.vault_model.specs.Tree.{BareDoc}
use Rattle.kdbx_frame.specs.declared.settings.Settings.{Settings}
use Rattle.kdbx_frame.specs.declared.sealings.Sealing.{Sealing}
use Rattle.kdbx_seal.specs.Answers.{size_refusal}
use Rattle.kdbx_seal.specs.Made.{made_file}
use Rattle.kdbx_seal.specs.declared.fail.SealFail.{SealFail}
use Rattle.cli_messages.specs.declared.answers.Refusal.{Refusal}
use Rattle.cli_messages.specs.Phases.{StreamAnswer, after_left, then_left, with_left}
use Rattle.cli_changes.specs.Ids.{new_id}
use Rattle.cli_generating.specs.Generated.{generated}
use Rattle.gen_core.specs.Chosen.{chosen}
use Rattle.cli_profiles.specs.declared.profiles.PasswordProfile.{PasswordProfile}
use Rattle.cli_needs.specs.Needs.{generated_by, target_of}
use Rattle.cli_writing.specs.Drawing.{next_bytes}
use Rattle.cli_writing.specs.Writing.{NewFile, plain_file}
use Rattle.cli_sealing.specs.Draws.{after_draws, draws_of}
use Rattle.cli_sealing.specs.Sealing.{file_by, file_unless, sealed_file, settings_for}
use Rattle.cli_commands.specs.Commands.{Change, change_by, change_with, drawn_id, makes_node, password_of, some_password, with_password}
use Rattle.cli_files.specs.Tasks.{Task}
use Rattle.call_run.specs.Endings.{Ending, Targets, carried_out, change_of_task, ended_so, ended_with, ending_with, inputs_of, targets_of}
use Rattle.randomness_laws.specs.Pieces.{Call, CallsDrawOnce, DrawsFewBytes, FilesAreOfPieces, IdsAreOfPieces, PasswordsAreOfPieces, PrintedAreOfPieces, TasksDrawOnce, after_id, all_left, all_pieces, call_left, call_pieces, task_call, change_pieces, password_call, id_pieces, password_most, password_pieces, sealing_pieces, task_pieces, written_pieces}
use Rattle.randomness_laws.proofs.Choices.{made_with, password_cut, password_left, password_len}
use Rattle.randomness_laws.proofs.Cuts.{concat_append, cut_is, cut_len, lens, lens_most, next_is, next_len, pieces_cut}

-- ---- an id

abbrev id_in : Bool → List ℕ → NodeId
id_in true dice = new_id (next_bytes 16 dice)
id_in false dice = nil_id

id_is : {A : Type 0} (b : Bool) (next : NodeId → List ℕ → StreamAnswer A) (dice : List ℕ) → then_left (drawn_id b dice) next ≡ next (id_in b dice) (after_id b dice)
id_is true next dice = refl
id_is false next dice = refl

id_drawn : (b : Bool) (dice : List ℕ) → (drawn_id b dice).answer ≡ Ok (id_in b dice)
id_drawn true dice = refl
id_drawn false dice = refl

id_cut : (b : Bool) (dice : List ℕ) → length (concat (id_pieces b dice)) ≤ length dice → dice ≡ concat (id_pieces b dice) ++ after_id b dice
id_cut true dice most =
    let len = next_len 16 dice in
    let none = ap length (append-nil (next_bytes 16 dice)) in
    next_is 16 dice (omega (arith, len, none, most)) ∙ ap (λ xs. xs ++ drop 16 dice) (sym (append-nil (next_bytes 16 dice)))
id_cut false dice most = refl

id_len : (b : Bool) (dice : List ℕ) → length (concat (id_pieces b dice)) ≤ 16
id_len true dice = let len = next_len 16 dice in let none = ap length (append-nil (next_bytes 16 dice)) in omega (arith, len, none)
id_len false dice = omega arith

-- ---- a file

file_left : (text : List ℕ) (taken : StreamAnswer NewFile) → (then_left taken (λ file left. with_left (Ok (ending_with text file)) left)).left ≡ taken.left
file_left text taken = of taken.answer
  where
    of : (answer : Result NewFile Refusal) → (after_left answer taken.left (λ file left. with_left (Ok (ending_with text file)) left)).left ≡ taken.left
    of (Ok file) = refl
    of (Err refusal) = refl

sealed_left : (name : List ℕ) (s : Settings) (composite : List ℕ) (doc : BareDoc) (dice : List ℕ) → (file_by name s composite doc dice).left ≡ after_draws s dice
unfolding file_by
sealed_left name s composite doc dice = refl

written_cut : (targets : Targets) (text : List ℕ) (sealing : Option Sealing) (doc : Option BareDoc) (attachment : Option (List ℕ)) (dice : List ℕ) → length (concat (written_pieces sealing doc dice)) ≤ length dice
    → dice ≡ concat (written_pieces sealing doc dice) ++ (ended_so targets sealing text doc attachment dice).left
written_cut targets text sealing None attachment dice most = refl
written_cut targets text None (Some doc) attachment dice most = sym (file_left text (with_left (plain_file targets.database doc) dice))
written_cut targets text (Some sealing) (Some doc) attachment dice most =
    let name = targets.database in
    let s = settings_for sealing.settings doc in
    let same = ap concat (pieces_cut s dice) in
    let len = ap length same in
    let sums = cut_len (lens s) dice in
    cut_is (lens s) dice (omega (arith, len, sums, most)) ∙ ap (λ xs. xs ++ after_draws s dice) (sym same)
    ∙ ap (λ xs. concat (sealing_pieces s dice) ++ xs) (sym (file_left text (sealed_file name sealing.settings sealing.composite doc dice) ∙ sealed_left name s sealing.composite doc dice))

change_cut : (targets : Targets) (sealing : Option Sealing) (answer : Result Change Refusal) (dice : List ℕ) → length (concat (change_pieces sealing answer dice)) ≤ length dice
    → dice ≡ concat (change_pieces sealing answer dice) ++ (after_left answer dice (λ change left. ended_with targets sealing change left)).left
change_cut targets sealing (Ok change) dice most = written_cut targets change.text sealing change.doc change.attachment dice most
change_cut targets sealing (Err refusal) dice most = refl

change_len : (sealing : Option Sealing) (answer : Result Change Refusal) (dice : List ℕ) → length (concat (change_pieces sealing answer dice)) ≤ 176
change_len sealing (Err refusal) dice = omega arith
change_len sealing (Ok change) dice = of sealing change.doc
  where
    of : (sealing : Option Sealing) (doc : Option BareDoc) → length (concat (written_pieces sealing doc dice)) ≤ 176
    of sealing None = omega arith
    of None (Some doc) = omega arith
    of (Some sealing) (Some doc) =
        let s = settings_for sealing.settings doc in
        let len = ap (λ ps. length (concat ps)) (pieces_cut s dice) in
        let sums = cut_len (lens s) dice in
        let most = lens_most s in
        omega (arith, len, sums, most)

-- ---- a task

module _ (time : ℕ) (task : Task) (dice : List ℕ) where
  abbrev taken : StreamAnswer Change
  taken = change_of_task time task dice

  abbrev makes : Bool
  makes = makes_node task.command task.opened.doc

  abbrev ids : List (List ℕ)
  ids = id_pieces makes dice

  abbrev after : List ℕ
  after = after_id makes dice

  abbrev profile : Option PasswordProfile
  profile = generated_by task.command

  abbrev passwords : List (List ℕ)
  passwords = password_pieces profile after

  abbrev rest : List (List ℕ)
  rest = change_pieces task.opened.sealing taken.answer taken.left

  -- what the command makes with the id that is drawn
  abbrev made : Option (List ℕ) → Result Change Refusal
  made password = change_with time task.command (with_password password (inputs_of task)) (id_in makes dice) task.opened.doc

  pub taken_is : taken ≡ then_left (password_of profile task.lines.more after) (λ password left. with_left (made password) left)
  taken_is = id_is makes (λ id. change_by time task.command (inputs_of task) id task.opened.doc) dice

  taken_left : taken.left ≡ (password_of profile task.lines.more after).left
  taken_left = ap (λ (t : StreamAnswer Change). t.left) taken_is ∙ password_left profile task.lines.more made after

  -- the password and what comes after it
  later_len : length (concat (passwords ++ rest)) ≡ length (concat passwords) + length (concat rest)
  later_len = ap length (concat_append passwords rest) ∙ length-append (concat passwords) (concat rest)

  all_len : length (concat (task_pieces time task dice)) ≡ length (concat ids) + length (concat (passwords ++ rest))
  all_len = ap length (concat_append ids (passwords ++ rest)) ∙ length-append (concat ids) (concat (passwords ++ rest))

  password_is : after ≡ concat passwords ++ taken.left
  password_is = password_cut profile task.lines.more after ∙ ap (λ xs. concat passwords ++ xs) (sym taken_left)

  later_cut : length (concat rest) ≤ length taken.left → after ≡ concat (passwords ++ rest) ++ (carried_out time task dice).left
  unfolding carried_out
  later_cut most =
      password_is ∙ ap (λ xs. concat passwords ++ xs) (change_cut (targets_of task.command) task.opened.sealing taken.answer taken.left most)
      ∙ sym (append_assoc (concat passwords) (concat rest) (carried_out time task dice).left) ∙ ap (λ xs. xs ++ (carried_out time task dice).left) (sym (concat_append passwords rest))

  task_cut : length (concat (task_pieces time task dice)) ≤ length dice → dice ≡ concat (task_pieces time task dice) ++ (carried_out time task dice).left
  task_cut most =
      let all = all_len in
      let later = later_len in
      let id = id_cut makes dice (omega (arith, all, most)) in
      let first = ap length id ∙ length-append (concat ids) after in
      let second = ap length password_is ∙ length-append (concat passwords) taken.left in
      id ∙ ap (λ xs. concat ids ++ xs) (later_cut (omega (arith, all, later, first, second, most)))
      ∙ sym (append_assoc (concat ids) (concat (passwords ++ rest)) (carried_out time task dice).left)
      ∙ ap (λ xs. xs ++ (carried_out time task dice).left) (sym (concat_append ids (passwords ++ rest)))

  task_len : length (concat (task_pieces time task dice)) ≤ 192 + password_most profile
  task_len =
      let all = all_len in
      let later = later_len in
      let id = id_len makes dice in
      let password = password_len profile after in
      let file = change_len task.opened.sealing taken.answer taken.left in
      omega (arith, all, later, id, password, file)

pub tasks_draw_once : TasksDrawOnce
tasks_draw_once time task dice most = task_cut time task dice most

pub draws_few_bytes : DrawsFewBytes
draws_few_bytes time task dice = task_len time task dice

-- one call
call_draws_once : (c : Call) (dice : List ℕ) → length (concat (call_pieces c dice)) ≤ length dice → dice ≡ concat (call_pieces c dice) ++ call_left c dice
call_draws_once (task_call time task) dice most = tasks_draw_once time task dice most
call_draws_once (password_call profile) dice most = password_cut (Some profile) None dice

pub calls_draw_once : CallsDrawOnce
calls_draw_once [] dice most = refl
calls_draw_once (c ∷ cs) dice most =
    let first = call_pieces c dice in
    let left = call_left c dice in
    let both = ap length (concat_append first (all_pieces cs left)) ∙ length-append (concat first) (concat (all_pieces cs left)) in
    let here = call_draws_once c dice (omega (arith, both, most)) in
    let len = ap length here ∙ length-append (concat first) left in
    here ∙ ap (λ xs. concat first ++ xs) (calls_draw_once cs left (omega (arith, both, len, most)))
    ∙ sym (append_assoc (concat first) (concat (all_pieces cs left)) (all_left cs left)) ∙ ap (λ xs. xs ++ all_left cs left) (sym (concat_append first (all_pieces cs left)))

-- ---- what the pieces are for

pub ids_are_of_pieces : IdsAreOfPieces
ids_are_of_pieces time task dice makes =
    ap (λ b. then_left (drawn_id b dice) (λ id. change_by time task.command (inputs_of task) id task.opened.doc)) makes

pub passwords_are_of_pieces : PasswordsAreOfPieces
passwords_are_of_pieces time task profile dice change is h =
    let b = makes_node task.command task.opened.doc in
    let so = ap (λ (t : StreamAnswer Change). t.answer) (sym (taken_is time task dice)) ∙ h in
    let m = made_with profile task.lines.more (made time task dice) (after_id b dice) change
    (ap (λ p. (then_left (password_of p task.lines.more (after_id b dice)) (λ password left. with_left (made time task dice password) left)).answer) (sym is) ∙ so) in
    record { id = id_in b dice; drawn = id_drawn b dice; password = m.password; chooses = m.chooses; makes = m.makes }

-- a password as what is made of it
abbrev as_made : Option (List ℕ) → Result (List ℕ) Refusal
as_made None = Ok []
as_made (Some password) = Ok password

abbrev password_in : Result (List ℕ) Refusal → List ℕ
password_in (Ok password) = password
password_in (Err refusal) = []

pub printed_are_of_pieces : PrintedAreOfPieces
printed_are_of_pieces profile dice password is =
    let left = (generated profile.alphabet profile.length dice).left in
    let m = made_with profile None as_made dice password
    (ap (λ a. (then_left (some_password (with_left a left)) (λ password left. with_left (as_made password) left)).answer) is) in
    m.chooses ∙ ap (λ r. chosen (password_in r) []) m.makes

abbrev bytes_in : Option NewFile → List ℕ
bytes_in None = []
bytes_in (Some file) = file.bytes

abbrev file_in : Result Ending Refusal → Option NewFile
file_in (Ok ending) = ending.file
file_in (Err refusal) = None

-- what a file is made of that is not refused
made_so : (name text : List ℕ) (refusal : Option SealFail) (made bytes left : List ℕ) (ending : Ending)
    → (then_left (with_left (file_unless name refusal made) left) (λ file left. with_left (Ok (ending_with text file)) left)).answer ≡ Ok ending
    → ending.file ≡ Some (record { name = name; bytes = bytes }) → bytes ≡ made
made_so name text None made bytes left ending is has = ap bytes_in (sym has ∙ ap file_in (sym is))
made_so name text (Some why) made bytes left ending is has = cc is

pub files_are_of_pieces : FilesAreOfPieces
unfolding carried_out file_by
files_are_of_pieces time task dice sealing change doc ending bytes sealed makes writes ends has =
    let left = (change_of_task time task dice).left in
    let s = settings_for sealing.settings doc in
    let name = target_of task.command in
    let targets = targets_of task.command in
    let so : (after_left (change_of_task time task dice).answer left (λ change left. ended_with targets task.opened.sealing change left)).answer
    ≡ (ended_so targets (Some sealing) change.text (Some doc) change.attachment left).answer =
    ap (λ a. (after_left a left (λ change left. ended_with targets task.opened.sealing change left)).answer) makes
    ∙ (λ i. (ended_so targets (sealed i) change.text (writes i) change.attachment left).answer) in
    record {
      draws = draws_of s left;
      made = made_so name change.text (size_refusal s (draws_of s left) doc) (made_file s (draws_of s left) sealing.composite doc) bytes (after_draws s left) ending (sym so ∙ ends) has;
      pieces = ap (λ ps. id_pieces (makes_node task.command task.opened.doc) dice
          ++ (password_pieces (generated_by task.command) (after_id (makes_node task.command task.opened.doc) dice) ++ ps))
          (ap (λ a. change_pieces task.opened.sealing a left) makes ∙ (λ i. written_pieces (sealed i) (writes i) left));
    }
