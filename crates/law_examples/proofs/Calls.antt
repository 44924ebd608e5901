-- Calls over plain files meet the premises of laws.
use Rattle.std.proofs.Common.{◌≡◌, ◌≤◌, ℕ, Bool, true, false, inl, inr, List, [], ◌∷◌, ◌++◌, drop, Option, Some, None, Result, Ok, Err, length, codes, nat_le, nat_lt, refl, sym, ap, subst, ◌∙◌, arith}
use Rattle.std.proofs.lemmas.Bool.{ltb-true}
use Rattle.std.proofs.lemmas.Option.{same_Some}
use Rattle.std.specs.List.{list_all}
use Rattle.std.specs.Fmt.{digits}
use Rattle.std.specs.FinMap.{empty, get, get-empty}
use Rattle.std.specs.Option.{unwrap_or}
use Rattle.base64.specs.Rfc4648.{encode_symbols}
use Rattle.stream_core.specs.InnerStream.{NoKeystream}
use Rattle.markup_grammar.specs.Escapes.{escaped_byte}
use Rattle.vault_model.proofs.Tests.{and_true}
use Rattle.vault_model.specs.Join.{IsIn}
use Rattle.vault_model.specs.Tree.{BareDoc}
use Rattle.vault_model.specs.declared.forms.DocForm.TheVariants.{Plain}
use Rattle.merge_core.specs.Example.{as_it_was, root}
use Rattle.tree_core.specs.Finding.{group_at_path, group_found, has_entry_path}
use Rattle.doc_spelling.specs.Moments.{moment_at, month_from, year_from}
use Rattle.doc_spelling.specs.Ranges.{IsWritable, are_bytes, tree_nodes}
use Rattle.doc_write.specs.Written.{write_outcome, written_len}
use Rattle.doc_write.specs.declared.writing.WriteFail.{WriteFail}
use Rattle.gen_core.specs.Chosen.{bound, choose, next}
use Rattle.cli_messages.specs.Phases.{StreamAnswer, then_left, with_left}
use Rattle.cli_messages.specs.Texts.{version}
use Rattle.cli_messages.specs.declared.answers.Refusal.{Refusal}
use Rattle.cli_codes.specs.Codes.{EPOCH}
use Rattle.cli_needs.specs.declared.command.Command.TheVariants.{Ls, Show}
use Rattle.cli_writing.specs.Drawing.{next_bytes}
use Rattle.cli_writing.specs.Writing.{NewFile, file_or_refusal}
use Rattle.cli_changes.specs.Entries.{after_add_command}
use Rattle.cli_commands.specs.Commands.{Change, printed_text, printing}
use Rattle.cli_showing.specs.Showing.{code_shown}
use Rattle.cli_printing.specs.Listing.{group_lines}
use Rattle.cli_lines.specs.Lines.{Lines}
use Rattle.cli_files.specs.Tasks.{Task}
use Rattle.file_limits.proofs.Example.{written_so}
use Rattle.call_run.specs.Endings.{Ending, carried_out, change_of_task, ending_with}
use Rattle.call_input.specs.Reading.{left_of}
use Rattle.keepass_call.specs.Held.{IsCarried, IsTask}
use Rattle.keepass_call.specs.Outcome.{answer_of, ended, outcome}
use Rattle.keepass_call.proofs.HeldTasks.{is_given}
use Rattle.law_examples.specs.Files.{plain_bytes, three_files, world_of}
use Rattle.law_examples.proofs.Files.{found_first, found_second, is_plain, opened_as, plain_first, put_last}
use Rattle.generation_laws.specs.Conditions.{CanChoose, HasAccepted}
use Rattle.call_conditions.specs.Conditions.{CanBeCarried, FitsFile}
use Rattle.law_examples.specs.Calls.{ExampleCalls, ExampleOutcomes, ExamplePassword, add_generated, adding, adding_dice, coded_file, dice_left, first_file, list_first, show_code, two_characters, with_dice}
use Rattle.law_examples.specs.Commands.{coded, plainly}
use Rattle.law_examples.proofs.Commands.{coded_doc, example_code}

-- the lines of a call that asks for none
abbrev no_lines : Lines
no_lines = record { password = None; sources = []; more = None; otp = None; fields = [] }

ok_is : (a b : Change) → ◌≡◌ {A = Result Change Refusal} (Ok a) (Ok b) → a ≡ b
ok_is a b h = cc h

-- what a command prints that writes nothing
nothing_written : (r : Result (List ℕ) Refusal) (change : Change) → printed_text r ≡ Ok change → change.doc ≡ None
nothing_written (Ok text) change is = ap (λ (c : Change). c.doc) (sym (ok_is (printing text) change is))
nothing_written (Err refusal) change is = cc is

never : {A : Type 0} (o : Option BareDoc) (d : BareDoc) → o ≡ None → o ≡ Some d → A
never o d none some = cc (sym none ∙ some)

-- ---- a listing

abbrev list_task : Task
list_task = record {
  command = Ls plainly (codes "a.xml") None false false false;
  lines = no_lines;
  opened = opened_as as_it_was;
  sources = [];
  attached = None;
}

list_carried : CanBeCarried list_first 50 (world_of three_files)
list_carried = record {
  task = list_task;
  is_task = record { is_command = refl; are_lines = refl; holds = record { target = plain_first; sources = tt }; attaches = refl };
  in_calendar = omega arith;
  can_generate = tt;
  can = (as_it_was.tree, refl);
  fits = λ change d is writes. never change.doc d (nothing_written (Ok (group_lines false false false [] as_it_was.tree)) change is) writes;
}

-- ---- a code

write_coded : IsWritable coded
unfolding are_bytes
write_coded = record { fits = refl; nodes = omega arith; pool = omega arith }

short_coded : nat_le (length (plain_bytes coded)) 10000 ≡ true
unfolding escaped_byte moment_at year_from month_from digits encode_symbols
short_coded = refl

abbrev code_task : Task
code_task = record {
  command = Show plainly (codes "a.xml") (codes "Bank") false false false (codes "Title" ∷ []) true 0;
  lines = no_lines;
  opened = opened_as coded;
  sources = [];
  attached = None;
}

code_carried : CanBeCarried show_code EPOCH (world_of coded_file)
code_carried = record {
  task = code_task;
  is_task = record {
    is_command = refl;
    are_lines = refl;
    holds = record {
      target = is_plain coded_file (codes "a.xml") coded coded_doc write_coded short_coded (put_last empty (codes "a.xml") (plain_bytes coded) (codes "a.xml"));
      sources = tt;
    };
    attaches = refl;
  };
  in_calendar = omega arith;
  can_generate = tt;
  can = example_code;
  fits = λ change d is writes. never change.doc d (nothing_written (code_shown (codes "a.xml") (codes "Title" ∷ []) 0 (codes "Bank") EPOCH coded) change is) writes;
}

-- ---- an entry with a generated password

abbrev pub dice : List ℕ
dice = adding_dice

-- Each byte after those of the id is accepted.
abbrev is_accepted : ℕ → Bool
is_accepted byte = nat_lt byte (bound (length two_characters.alphabet))

all_accepted : list_all is_accepted (drop 16 dice) ≡ true
all_accepted = refl

-- a byte in a list that passes a test
passed_at : (test : ℕ → Bool) (byte : ℕ) (front back : List ℕ) → list_all test (front ++ (byte ∷ back)) ≡ true → test byte ≡ true
passed_at test byte [] back all = (and_true (test byte) (list_all test back) all).0
passed_at test byte (first ∷ front) back all = passed_at test byte front back (and_true (test first) (list_all test (front ++ (byte ∷ back))) all).1

accepted_in : (front part back : List ℕ) → drop 16 dice ≡ front ++ (part ++ back) → length part ≡ 128 → HasAccepted (length two_characters.alphabet) part
accepted_in front [] back is whole = cc whole
accepted_in front (byte ∷ part) back is whole = record {
  front = [];
  byte = byte;
  back = part;
  is = refl;
  below = ltb-true byte (bound (length two_characters.alphabet))
      (passed_at is_accepted byte front (part ++ back) (sym (ap (list_all is_accepted) is) ∙ all_accepted));
}

can_choose : CanChoose two_characters.alphabet 2 (drop 16 dice)
can_choose = record { enough = subst (λ (n : ℕ). 256 ≤ n) (sym long) (omega arith); accepted = accepted_in }
  where
    long : length (drop 16 dice) ≡ 256
    long = refl

abbrev pub task : Task
task = adding two_characters

-- the change, and the document that is written
abbrev change_in : Result Change Refusal → Change
change_in (Ok change) = change
change_in (Err refusal) = printing []

abbrev pub change : Change
change = change_in (change_of_task 50 task dice).answer

abbrev pub doc : BareDoc
doc = unwrap_or change.doc as_it_was

pub makes : (change_of_task 50 task dice).answer ≡ Ok change
unfolding after_add_command group_at_path group_found has_entry_path next_bytes choose next
makes = refl

pub writes : change.doc ≡ Some doc
unfolding after_add_command group_at_path group_found has_entry_path next_bytes choose next
writes = refl

few_nodes : nat_lt 262144 (tree_nodes doc.tree) ≡ false
unfolding after_add_command group_at_path group_found has_entry_path next_bytes choose next
few_nodes = refl

short_text : nat_le (written_len Plain NoKeystream None doc) 10000 ≡ true
unfolding after_add_command group_at_path group_found has_entry_path next_bytes choose next escaped_byte moment_at year_from month_from digits encode_symbols
short_text = refl

written : write_outcome Plain NoKeystream None doc ≡ Ok (plain_bytes doc)
written = written_so Plain NoKeystream None doc few_nodes short_text

fits : (new : Change) (d : BareDoc) → (change_of_task 50 task dice).answer ≡ Ok new → new.doc ≡ Some d → FitsFile None d (change_of_task 50 task dice).left
fits new d is has =
    let same = ok_is change new (sym makes ∙ is) in
    subst (λ (e : BareDoc). FitsFile None e (change_of_task 50 task dice).left)
    (same_Some doc d (sym writes ∙ ap (λ (c : Change). c.doc) same ∙ has)) (plain_bytes doc, written)

pub is_adding : IsTask add_generated 50 with_dice task
is_adding = record { is_command = refl; are_lines = refl; holds = record { target = plain_first; sources = tt }; attaches = refl }

add_carried : CanBeCarried add_generated 50 with_dice
unfolding group_at_path group_found has_entry_path next_bytes choose next
add_carried = record {
  task = task;
  is_task = is_adding;
  in_calendar = omega arith;
  can_generate = can_choose;
  can = record { group = root; named = refl; free_path = refl; free_id = refl };
  fits = fits;
}

pub example_calls : ExampleCalls
example_calls = record { list = list_carried; code = code_carried; add = add_carried }

pub example_password : ExamplePassword
example_password = record { generates = refl; change = change; makes = makes }

-- ---- what calls result in

abbrev pub new_file : NewFile
new_file = record { name = codes "a.xml"; bytes = plain_bytes doc }

-- what the call comes to, by what is written of its document
abbrev ends_by : Result (List ℕ) WriteFail → StreamAnswer Ending
ends_by outcome = then_left (with_left (file_or_refusal (codes "a.xml") outcome) dice_left) (λ file left. with_left (Ok (ending_with change.text file)) left)

pub carried : carried_out 50 task dice ≡ ends_by (Ok (plain_bytes doc))
unfolding carried_out after_add_command group_at_path group_found has_entry_path next_bytes choose next
carried = ap ends_by written

is_carried : IsCarried add_generated 50 with_dice (ending_with change.text new_file)
is_carried = record { task = task; is_task = is_adding; gives = ap (λ (a : StreamAnswer Ending). a.answer) carried }

file_written : (outcome add_generated 50 with_dice).file ≡ Some new_file
file_written = ap (λ r. (ended (left_of add_generated with_dice.input) r (answer_of add_generated 50 with_dice).left).file)
    (is_given add_generated 50 with_dice (ending_with change.text new_file) is_carried)

same_first : (name : List ℕ) → IsIn name (codes "a.xml" ∷ []) → get three_files name ≡ get first_file name
same_first name (inl same) =
    subst (λ (n : List ℕ). get three_files n ≡ get first_file n) same
    (found_first ∙ sym (put_last empty (codes "a.xml") (plain_bytes as_it_was) (codes "a.xml")))
same_first name (inr no_more) = absurd no_more

pub example_outcomes : ExampleOutcomes
example_outcomes = record {
  agree = same_first;
  has_second = found_second;
  lacks_second = put_last empty (codes "a.xml") (plain_bytes as_it_was) (codes "b.xml") ∙ get-empty _ (codes "b.xml");
  file = new_file;
  writes = file_written;
  page = version;
  asks = refl;
}
