-- Calls over plain files that meet the premises of laws.
use Rattle.std.specs.Prelude.{◌≡◌, ℕ, List, [], ◌∷◌, None, Some, Ok, codes, replicate}
use Rattle.std.specs.FinMap.{empty, get, insert}
use Rattle.outside_core.specs.Files.{FileMap}
use Rattle.merge_core.specs.Example.{as_it_was, edited}
use Rattle.cli_codes.specs.Codes.{EPOCH}
use Rattle.cli_pages.specs.Pages.{page_of}
use Rattle.cli_profiles.specs.declared.profiles.PasswordProfile.{PasswordProfile}
use Rattle.cli_needs.specs.Needs.{files_named, generated_by}
use Rattle.cli_parse.specs.Words.{command_of}
use Rattle.cli_needs.specs.declared.command.Command.TheVariants.{Add}
use Rattle.cli_writing.specs.Writing.{NewFile}
use Rattle.cli_commands.specs.Commands.{Change}
use Rattle.cli_files.specs.Tasks.{Task}
use Rattle.call_run.specs.Endings.{change_of_task}
use Rattle.keepass_call.specs.Outcome.{World, outcome}
use Rattle.law_examples.specs.Files.{plain_bytes, three_files, world_of}
use Rattle.call_conditions.specs.Agreeing.{AgreeOn}
use Rattle.call_conditions.specs.Conditions.{CanBeCarried}
use Rattle.law_examples.specs.Commands.{coded, nothing_asked, plainly}

-- ---- calls

-- a plain file is listed
abbrev pub list_first : List (List ℕ)
list_first = codes "ls" ∷ codes "--plain" ∷ codes "a.xml" ∷ []

-- the title of an entry is shown, and its code
abbrev pub show_code : List (List ℕ)
show_code =
    codes "show" ∷ codes "--plain" ∷ codes "-t" ∷ codes "-a" ∷ codes "Title" ∷ codes "a.xml"
    ∷ codes "Bank" ∷ []

-- a file with that entry
abbrev pub coded_file : FileMap
coded_file = insert empty (codes "a.xml") (plain_bytes coded)

-- an entry is added, with a password of two characters
abbrev pub add_generated : List (List ℕ)
add_generated =
    codes "add" ∷ codes "--plain" ∷ codes "-g" ∷ codes "-L" ∷ codes "2" ∷ codes "a.xml"
    ∷ codes "Chat" ∷ []

-- the dice that its password leaves
abbrev pub dice_left : List ℕ
dice_left = replicate 254 0

-- dice for its id, and 128 bytes for each character of its password, of which the first is accepted
abbrev pub adding_dice : List ℕ
adding_dice =
    0 ∷ 1 ∷ 2 ∷ 3 ∷ 4 ∷ 5 ∷ 6 ∷ 7 ∷ 8 ∷ 9 ∷ 10 ∷ 11 ∷ 12 ∷ 13 ∷ 14 ∷ 15 ∷ 16 ∷ 17 ∷ dice_left

-- the files, with these dice
abbrev pub with_dice : World
with_dice = record (world_of three_files) { dice = adding_dice }

-- They meet the condition of a call.
pub record ExampleCalls : Type 0 where
  pub list : CanBeCarried list_first 50 (world_of three_files)
  pub code : CanBeCarried show_code EPOCH (world_of coded_file)
  pub add : CanBeCarried add_generated 50 with_dice

-- ---- what calls result in

-- the file that is listed, without the two others
abbrev pub first_file : FileMap
first_file = insert empty (codes "a.xml") (plain_bytes as_it_was)

-- Other files agree on the one that is listed, and are not the same; the call that adds an entry
-- writes a file; and a word asks for a page.
pub record ExampleOutcomes : Type 0 where
  pub agree : AgreeOn (files_named (command_of list_first)) three_files first_file
  pub has_second : get three_files (codes "b.xml") ≡ Some (plain_bytes edited)
  pub lacks_second : get first_file (codes "b.xml") ≡ None
  pub file : NewFile
  pub writes : (outcome add_generated 50 with_dice).file ≡ Some file
  pub page : List ℕ
  pub asks : page_of (codes "--version" ∷ []) ≡ Some page

-- ---- a generated password

-- what the call that adds an entry is to do
abbrev pub adding : PasswordProfile → Task
adding profile = record {
  command = Add plainly (codes "a.xml") (codes "Chat")
      (record nothing_asked { generated = Some profile });
  lines = record { password = None; sources = []; more = None; otp = None; fields = [] };
  opened = record { doc = as_it_was; sealing = None; passed_over = [] };
  sources = [];
  attached = None;
}

-- two letters or digits
abbrev pub two_characters : PasswordProfile
two_characters = record {
  length = 2;
  alphabet =
      codes "abcdefghijklmnopqrstuvwxyzABCDEFGHIJKLMNOPQRSTUVWXYZ0123456789";
}

-- It generates a password, and is not refused.
pub record ExamplePassword : Type 0 where
  pub generates : generated_by (adding two_characters).command ≡ Some two_characters
  pub change : Change
  pub makes : (change_of_task 50 (adding two_characters) adding_dice).answer ≡ Ok change
