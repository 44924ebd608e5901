-- What a command draws, piece by piece, and the laws that no byte of the dice is in two pieces.
use Rattle.std.specs.Prelude.{◌≡◌, ◌≤◌, ◌+◌, ◌-◌, ◌*◌, ℕ, Bool, true, false, List, [], ◌∷◌, ◌++◌, drop, length, take, Option, None, Some, Result, Ok, Err}
use Rattle.std.specs.List.{concat}
use Rattle.gen_core.specs.Chosen.{choose, chosen, tries}
use Rattle.vault_model.specs.Db.{NodeId}
use Rattle.vault_model.specs.Tree.{BareDoc}
use Rattle.kdbx_frame.specs.declared.settings.Settings.{Settings}
use Rattle.kdbx_frame.specs.declared.sealings.Sealing.{Sealing}
use Rattle.kdbx_frame.specs.Settings.{iv_len}
use Rattle.kdbx_writing.specs.declared.draws.Draws.{Draws}
use Rattle.kdbx_writing.specs.Draws.{start_len, stream_len}
use Rattle.kdbx_seal.specs.Made.{made_file}
use Rattle.cli_messages.specs.declared.answers.Refusal.{Refusal}
use Rattle.cli_generating.specs.Generated.{generated}
use Rattle.cli_profiles.specs.declared.profiles.PasswordProfile.{PasswordProfile}
use Rattle.cli_needs.specs.Needs.{generated_by, target_of}
use Rattle.cli_writing.specs.Drawing.{next_bytes}
use Rattle.cli_sealing.specs.Draws.{draws_of}
use Rattle.cli_sealing.specs.Sealing.{settings_for}
use Rattle.cli_changes.specs.Ids.{new_id}
use Rattle.cli_commands.specs.Commands.{Change, change_by, change_with, drawn_id, makes_node, with_password}
use Rattle.cli_files.specs.Tasks.{Task}
use Rattle.call_run.specs.Endings.{Ending, carried_out, change_of_task, inputs_of}

-- ---- pieces

-- The piece that the id of a new node is made of, where a command makes one.
abbrev pub id_pieces : Bool → List ℕ → List (List ℕ)
id_pieces true dice = next_bytes 16 dice ∷ []
id_pieces false dice = []

-- What is left of the dice after the id of a new node, where a command makes one.
abbrev pub after_id : Bool → List ℕ → List ℕ
after_id makes dice = (drawn_id makes dice).left

-- The bytes that a password is chosen by: those before what the choice leaves.
abbrev pub password_piece : PasswordProfile → List ℕ → List ℕ
password_piece profile dice =
    take (length dice - length (generated profile.alphabet profile.length dice).left) dice

-- The piece that a password is chosen by, where a command generates one.
abbrev pub password_pieces : Option PasswordProfile → List ℕ → List (List ℕ)
password_pieces (Some profile) dice = password_piece profile dice ∷ []
password_pieces None dice = []

-- The most bytes that a password is chosen by: so many for each of its characters.
abbrev pub password_most : Option PasswordProfile → ℕ
password_most (Some profile) = tries * profile.length
password_most None = 0

-- The pieces that a file is sealed with: the seed or the salt of its key derivation, its master
-- seed, its IV, the key of its inner stream, and the bytes that its content begins with in version
-- 3.1.
abbrev pub file_pieces : Settings → Draws → List (List ℕ)
file_pieces s draws =
    draws.kdf ∷ draws.seed ∷ take (iv_len s.cipher) draws.iv
    ∷ take (stream_len s.version) draws.stream ∷ take (start_len s.version) draws.start ∷ []

-- The pieces of a file that is sealed with these settings and holds this document, drawn from these
-- dice.
abbrev pub sealing_pieces : Settings → List ℕ → List (List ℕ)
sealing_pieces s dice = file_pieces s (draws_of s dice)

-- The pieces of the file that is written, if one is: a plain document draws none.
abbrev pub written_pieces : Option Sealing → Option BareDoc → List ℕ → List (List ℕ)
written_pieces sealing None dice = []
written_pieces None (Some doc) dice = []
written_pieces (Some sealing) (Some doc) dice =
    sealing_pieces (settings_for sealing.settings doc) dice

-- The pieces of what is written after a change, if it was not refused.
abbrev pub change_pieces : Option Sealing → Result Change Refusal → List ℕ → List (List ℕ)
change_pieces sealing (Ok change) dice = written_pieces sealing change.doc dice
change_pieces sealing (Err refusal) dice = []

-- All pieces that a task draws at a moment, in their order.
abbrev pub task_pieces : ℕ → Task → List ℕ → List (List ℕ)
task_pieces time task dice =
    id_pieces (makes_node task.command task.opened.doc) dice
    ++ (password_pieces (generated_by task.command)
    (after_id (makes_node task.command task.opened.doc) dice)
    ++ change_pieces task.opened.sealing (change_of_task time task dice).answer
    (change_of_task time task dice).left)

-- ---- many calls

-- A call that draws: one that carries out a task at a moment, or one that prints a password.
pub data Call : Type 0 where
  task_call : ℕ → Task → Call
  password_call : PasswordProfile → Call

-- The pieces that a call draws.
abbrev pub call_pieces : Call → List ℕ → List (List ℕ)
call_pieces (task_call time task) dice = task_pieces time task dice
call_pieces (password_call profile) dice = password_pieces (Some profile) dice

-- What a call leaves of the dice.
abbrev pub call_left : Call → List ℕ → List ℕ
call_left (task_call time task) dice = (carried_out time task dice).left
call_left (password_call profile) dice = (generated profile.alphabet profile.length dice).left

-- The pieces of calls one after another, each of which goes on with what the one before left.
abbrev pub all_pieces : List Call → List ℕ → List (List ℕ)
all_pieces [] dice = []
all_pieces (c ∷ cs) dice = call_pieces c dice ++ all_pieces cs (call_left c dice)

-- What such calls leave of the dice.
abbrev pub all_left : List Call → List ℕ → List ℕ
all_left [] dice = dice
all_left (c ∷ cs) dice = all_left cs (call_left c dice)

-- ---- laws

-- Where the dice are long enough for what a task draws, they are its pieces and then what it
-- leaves.
abbrev pub TasksDrawOnce : Type 0
TasksDrawOnce = (time : ℕ) (task : Task) (dice : List ℕ)
    → length (concat (task_pieces time task dice)) ≤ length dice
    → dice ≡ concat (task_pieces time task dice) ++ (carried_out time task dice).left

-- The same of calls one after another.
abbrev pub CallsDrawOnce : Type 0
CallsDrawOnce = (calls : List Call) (dice : List ℕ)
    → length (concat (all_pieces calls dice)) ≤ length dice
    → dice ≡ concat (all_pieces calls dice) ++ all_left calls dice

-- The id of a new node is made of its piece.
abbrev pub IdsAreOfPieces : Type 0
IdsAreOfPieces = (time : ℕ) (task : Task) (dice : List ℕ)
    → makes_node task.command task.opened.doc ≡ true
    → change_of_task time task dice
    ≡ change_by time task.command (inputs_of task) (new_id (next_bytes 16 dice))
    task.opened.doc (drop 16 dice)

-- A change is made with a password that its piece chooses, to its last byte.
pub record IsOfPassword (time : ℕ) (task : Task) (profile : PasswordProfile) (dice : List ℕ)
    (change : Change) : Type 0 where
  pub id : NodeId
  pub drawn : (drawn_id (makes_node task.command task.opened.doc) dice).answer ≡ Ok id
  pub password : List ℕ
  pub chooses : choose profile.alphabet profile.length []
      (password_piece profile (after_id (makes_node task.command task.opened.doc) dice))
      ≡ chosen password []
  pub makes : change_with time task.command (with_password (Some password) (inputs_of task)) id
      task.opened.doc ≡ Ok change

-- So is that of each command that generates a password.
abbrev pub PasswordsAreOfPieces : Type 0
PasswordsAreOfPieces = (time : ℕ) (task : Task) (profile : PasswordProfile) (dice : List ℕ)
    (change : Change) → generated_by task.command ≡ Some profile
    → (change_of_task time task dice).answer ≡ Ok change
    → IsOfPassword time task profile dice change

-- A password that is printed is chosen by its piece, to its last byte.
abbrev pub PrintedAreOfPieces : Type 0
PrintedAreOfPieces = (profile : PasswordProfile) (dice password : List ℕ)
    → (generated profile.alphabet profile.length dice).answer ≡ Ok password
    → choose profile.alphabet profile.length [] (password_piece profile dice) ≡ chosen password []

-- The file that a task writes is sealed with its pieces: it is the file of draws that are these
-- pieces.
pub record IsOfPieces (time : ℕ) (task : Task) (dice : List ℕ) (sealing : Sealing) (doc : BareDoc)
    (bytes : List ℕ) : Type 0 where
  pub draws : Draws
  pub made : bytes ≡ made_file (settings_for sealing.settings doc) draws sealing.composite doc
  pub pieces : task_pieces time task dice
      ≡ id_pieces (makes_node task.command task.opened.doc) dice
      ++ (password_pieces (generated_by task.command)
      (after_id (makes_node task.command task.opened.doc) dice)
      ++ file_pieces (settings_for sealing.settings doc) draws)

-- A file that a call seals is made of the pieces that were drawn for it.
abbrev pub FilesAreOfPieces : Type 0
FilesAreOfPieces = (time : ℕ) (task : Task) (dice : List ℕ) (sealing : Sealing) (change : Change)
    (doc : BareDoc) (ending : Ending) (bytes : List ℕ) → task.opened.sealing ≡ Some sealing
    → (change_of_task time task dice).answer ≡ Ok change → change.doc ≡ Some doc
    → (carried_out time task dice).answer ≡ Ok ending
    → ending.file ≡ Some (record { name = target_of task.command; bytes = bytes })
    → IsOfPieces time task dice sealing doc bytes

-- Dice of 192 bytes are long enough for every task that generates no password, and where one is
-- generated, so are dice that are longer by as many bytes as it is chosen by at most.
abbrev pub DrawsFewBytes : Type 0
DrawsFewBytes = (time : ℕ) (task : Task) (dice : List ℕ)
    → length (concat (task_pieces time task dice))
    ≤ 192 + password_most (generated_by task.command)
