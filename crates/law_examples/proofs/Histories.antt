-- A call that adds an entry is one of the program's, and begins a history.
use Rattle.std.proofs.Common.{◌≡◌, ℕ, true, inl, List, Option, Some, None, Result, Ok, codes, refl, sym, ap, subst, ◌∙◌, arith, true≢false}
use Rattle.std.proofs.lemmas.Option.{same_Some}
use Rattle.std.specs.Str.{chars, is_utf8}
use Rattle.stream_core.specs.InnerStream.{NoKeystream}
use Rattle.vault_model.specs.Proper.{is_proper_content, is_proper_group_content}
use Rattle.vault_model.specs.Tree.{BareDoc, IsDoc}
use Rattle.vault_model.specs.declared.forms.DocForm.TheVariants.{Plain}
use Rattle.merge_core.specs.Example.{as_it_was}
use Rattle.tree_core.specs.Finding.{group_at_path, group_found, has_entry_path}
use Rattle.doc_spelling.specs.Ranges.{IsWritable, are_bytes}
use Rattle.doc_spelling.proofs.GoodDocs.{doc_good}
use Rattle.doc_spelling.proofs.RangeTests.{hash_if}
use Rattle.doc_spelling.proofs.ReadsBack.{says_document}
use Rattle.gen_core.specs.Chosen.{choose, next}
use Rattle.cli_messages.specs.Phases.{IsLeft, StreamAnswer}
use Rattle.cli_messages.specs.declared.answers.Refusal.{Refusal}
use Rattle.cli_changes.specs.Entries.{after_add_command}
use Rattle.cli_writing.specs.Drawing.{next_bytes}
use Rattle.cli_writing.specs.Held.{HoldsPlain, IsWritten}
use Rattle.cli_commands.specs.Commands.{may_write}
use Rattle.cli_files.specs.Tasks.{Task}
use Rattle.cli_pages.specs.Pages.{page_of}
use Rattle.call_run.specs.Endings.{EndsSo, HoldsNew, IsOfDice, ReadsBack, ReadsBackSo, targets_of}
use Rattle.keepass_call.specs.Call.{IsCall}
use Rattle.keepass_call.specs.Held.{IsTask}
use Rattle.keepass_call.specs.Outcome.{IsOfTask, IsWorldOf, Seen, World, answer_of}
use Rattle.keepass_call.proofs.Answered.{answer_is}
use Rattle.keepass_call.proofs.Calls.{Printed, printed_call}
use Rattle.keepass_call.proofs.HeldTasks.{task_given}
use Rattle.keepass_call.proofs.Pages.{asks_command}
use Rattle.call_conditions.specs.Copies.{CallSeen, OpensCopies}
use Rattle.call_conditions.specs.Histories.{IsCallOn}
use Rattle.law_examples.specs.Files.{plain_bytes, three_files}
use Rattle.law_examples.specs.PlainCopies.{plain_copies}
use Rattle.law_examples.proofs.Files.{says, write_first}
use Rattle.law_examples.proofs.PlainCopies.{are_apart, holds}
use Rattle.merge_examples.proofs.Merged.{all_docs, doc_first}
use Rattle.law_examples.specs.Calls.{add_generated, dice_left, with_dice}
use Rattle.law_examples.specs.Histories.{ExampleHistory, adding_call, after_adding, before_adding, no_counts}
use Rattle.law_examples.proofs.Calls.{carried, change, dice, doc, is_adding, makes, new_file, task, writes}

-- ---- the document that is written

doc_is : IsDoc doc
unfolding after_add_command group_at_path group_found has_entry_path next_bytes choose next is_proper_content is_proper_group_content is_utf8 chars lib.Utf8.encode
doc_is = record {
  distinct = refl;
  no_nil = refl;
  levels = omega arith;
  tombs_rise = refl;
  tombs_apart = refl;
  entries_proper = refl;
  groups_proper = refl;
  icons_rise = refl;
  items_rise = refl;
  meta_texts = refl;
}

write_doc : IsWritable doc
unfolding after_add_command group_at_path group_found has_entry_path next_bytes choose next are_bytes
write_doc = record { fits = refl; nodes = omega arith; pool = omega arith }

text_says : HoldsPlain doc (plain_bytes doc)
text_says = says_document Plain NoKeystream None (hash_if None refl) doc (doc_good doc doc_is write_doc)

-- ---- what is seen

abbrev now : Seen
now = after_adding change.text new_file

written_there : IsWritten (HoldsNew None doc) (codes "a.xml") before_adding.store now.store
written_there = record { bytes = plain_bytes doc; alone = record { files = refl; draft_name = refl }; holds = text_says }

reads_back : ReadsBack (targets_of task.command) None change before_adding.store now.store
reads_back = subst (λ (d : Option BareDoc). ReadsBackSo (targets_of task.command) None d change.attachment before_adding.store now.store) (sym writes) written_there

of_dice : IsOfDice 50 task dice change.text before_adding.store now.store
of_dice = record { change = change; makes = makes; text = refl; reads_back = reads_back }

given : answer_of add_generated 50 with_dice ≡ record { answer = Ok (record { text = change.text; file = Some new_file }); left = dice_left }
given = answer_is add_generated 50 with_dice task (task_given add_generated 50 with_dice task is_adding) ∙ carried

-- The outside reports one world, and answers like it.
one_world : (w : World) → IsWorldOf add_generated before_adding now w → with_dice ≡ w
one_world w t =
    ap (λ f. record with_dice { files = f }) (same_Some three_files w.files t.files)
    ∙ ap (λ i. record { files = w.files; input = i; dice = dice }) t.input
    ∙ ap (λ d. record { files = w.files; input = w.input; dice = d }) t.dice

told : IsWorldOf add_generated before_adding now with_dice
told = record { truthful = record { files = refl; input = refl; dice = refl }; files = refl; input = refl; dice = refl }

printed : Printed add_generated 50 change.text 0 before_adding now no_counts no_counts
printed = record {
  gives = λ w t. subst (λ (v : World). EndsSo change.text (answer_of add_generated 50 v).answer before_adding.store now.store
      × IsLeft before_adding.stream now.stream (answer_of add_generated 50 v).left) (one_world w t) (
        record {
          ending = record { text = change.text; file = Some new_file };
          is = ap (λ (a : StreamAnswer _). a.answer) given;
          text = refl;
          store = record { files = refl; draft_name = refl };
        },
        ap (λ (a : StreamAnswer _). Some a.left) (sym given),
      );
  left = λ w t. ap Some t.input;
  wrote = (inl (refl, refl), inl refl);
  faultless = λ zero. record { files = refl; input = refl; out = refl; err = refl; dice = refl };
  draft = inl refl;
  held = λ none w t. subst (λ (v : World). IsOfTask add_generated 50 v change.text before_adding.store now.store) (one_world w t)
      (record { task = task; gives = task_given add_generated 50 with_dice task is_adding; of_dice = of_dice });
  unwritten = λ e. absurd (true≢false e);
  undrawn = λ e. absurd (true≢false e);
  stream = (18, refl);
  some_file = λ none. record {
    task = task;
    has_file = record {
      is_command = refl;
      has_lines = record { has_password = refl; have_passwords = refl; has_more = refl; has_otp = refl; has_fields = refl };
      holds = record {
        target = record { bytes = plain_bytes as_it_was; read = (as_it_was, None); says = says as_it_was doc_first write_first; is = refl };
        sources = tt;
      };
      attaches = refl;
    };
    of_dice = (dice, of_dice);
  };
  page = λ text asked. absurd (no_none text asked);
}
  where
    no_none : (text : List ℕ) → page_of add_generated ≡ Some text → ⊥
    no_none text asked = cc (sym (asks_command add_generated task.command refl).no_page ∙ asked)

call_is : IsCall add_generated 50 0 before_adding now no_counts no_counts
call_is = printed_call add_generated 50 change.text 0 before_adding now no_counts no_counts printed

-- ---- the history

ok_is : (a b : Task) → ◌≡◌ {A = Result Task Refusal} (Ok a) (Ok b) → a ≡ b
ok_is a b h = cc h

abbrev c : CallSeen
c = adding_call change.text new_file

opens : (other : Task) → IsTask add_generated 50 with_dice other → may_write other.command ≡ true → OpensCopies plain_copies c other
opens other is may =
    let same = ok_is other task (sym (task_given add_generated 50 with_dice other is) ∙ task_given add_generated 50 with_dice task is_adding) in
    let these : OpensCopies plain_copies c task = record {
      opens = refl;
      target = record { there = omega arith; disk = refl; named = refl; key = refl };
      sources = tt;
    } in
    subst (OpensCopies plain_copies c) (sym same) these

on : IsCallOn plain_copies (λ _. three_files) c
on = record { is_call = call_is; told = told; files = λ i less e. refl; opens = opens }

pub example_history : ExampleHistory
example_history = record {
  text = change.text;
  file = new_file;
  is_call = call_is;
  is_history = record {
    apart = are_apart;
    are_docs = all_docs;
    hold = λ i less. holds i;
    events = (on, ((omega arith, omega arith, refl), tt));
  };
}
