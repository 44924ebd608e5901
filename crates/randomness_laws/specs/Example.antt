-- A plain and a sealed database in which a group is made, and a password that is printed, so that each
-- law but that of a command's password speaks of something.
use Rattle.std.specs.Prelude.{◌≡◌, ◌≤◌, ◌+◌, ℕ, zero, suc, Bool, true, false, List, [], ◌∷◌, length, Option, None, Some, Ok, codes}
use Rattle.std.specs.List.{concat}
use Rattle.vault_model.specs.Tree.{BareDoc}
use Rattle.merge_core.specs.Example.{as_it_was}
use Rattle.kdbx_frame.specs.declared.sealings.Sealing.{Sealing}
use Rattle.cli_generating.specs.Generated.{generated}
use Rattle.cli_profiles.specs.declared.profiles.PasswordProfile.{PasswordProfile}
use Rattle.cli_needs.specs.declared.command.Command.TheVariants.{MakeGroup}
use Rattle.cli_needs.specs.Needs.{target_of}
use Rattle.cli_commands.specs.Commands.{Change, makes_node}
use Rattle.cli_files.specs.Tasks.{Task}
use Rattle.call_run.specs.Endings.{Ending, carried_out, change_of_task}
use Rattle.file_limits.specs.Example.{composite, settings}
use Rattle.randomness_laws.specs.Pieces.{Call, all_pieces, task_call, password_call, task_pieces}

-- a file is sealed with these settings under this key
abbrev pub sealing : Sealing
sealing = record { settings = settings; composite = composite }

-- a group is made in the database of the worked example, which is plain or sealed
abbrev pub making : Bool → Option Sealing → Task
making plain sealing = record {
  command = MakeGroup
      (record { plain = plain; quiet = false; key_file = None; no_password = false })
      (codes "family.kdbx") (codes "Home");
  lines = record { password = None; sources = []; more = None; otp = None; fields = [] };
  opened = record { doc = as_it_was; sealing = sealing; passed_over = [] };
  sources = [];
  attached = None;
}

-- the same in a sealed one
abbrev pub sealed_making : Task
sealed_making = making false (Some sealing)

-- and in a plain one
abbrev pub plain_making : Task
plain_making = making true None

-- so many numbers from one on
abbrev pub rising : ℕ → ℕ → List ℕ
rising zero n = []
rising (suc k) n = n ∷ rising k (n + 1)

-- a password of two letters
abbrev pub two_letters : PasswordProfile
two_letters = record { length = 2; alphabet = codes "ab" }

-- one in the sealed database, then a password, and then one in the plain database
abbrev pub three_calls : List Call
three_calls =
    task_call 50 sealed_making ∷ password_call two_letters ∷ task_call 60 plain_making ∷ []

-- Of 180 bytes the first call draws six pieces, which are no part of each other, and of the 24 that it
-- leaves the second and the third draw one each. What the first call ends with is a sealed file.
pub record ExampleDraws : Type 0 where
  pub pieces : task_pieces 50 sealed_making (rising 180 0)
      ≡ rising 16 0 ∷ rising 32 16 ∷ rising 32 48 ∷ rising 12 80 ∷ rising 64 92 ∷ [] ∷ []
  pub enough : length (concat (task_pieces 50 sealed_making (rising 180 0)))
      ≤ length (rising 180 0)
  pub three : all_pieces three_calls (rising 180 0)
      ≡ rising 16 0 ∷ rising 32 16 ∷ rising 32 48 ∷ rising 12 80 ∷ rising 64 92 ∷ []
      ∷ rising 2 156 ∷ rising 16 158 ∷ []
  pub more : length (concat (all_pieces three_calls (rising 180 0))) ≤ length (rising 180 0)
  pub prints : (generated two_letters.alphabet two_letters.length (rising 24 156)).answer
      ≡ Ok (codes "ab")
  pub draws : makes_node sealed_making.command as_it_was ≡ true
  pub change : Change
  pub doc : BareDoc
  pub ending : Ending
  pub bytes : List ℕ
  pub makes : (change_of_task 50 sealed_making (rising 180 0)).answer ≡ Ok change
  pub writes : change.doc ≡ Some doc
  pub ends : (carried_out 50 sealed_making (rising 180 0)).answer ≡ Ok ending
  pub file : ending.file
      ≡ Some (record { name = target_of sealed_making.command; bytes = bytes })
