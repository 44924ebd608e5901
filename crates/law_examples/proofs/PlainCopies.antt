-- A merge of the three files is the beginning of a history.
use Rattle.std.proofs.Common.{◌≡◌, ℕ, zero, suc, true, false, List, None, Result, Ok, codes, refl, sym, ap, subst, ◌∙◌, arith, true≢false}
use Rattle.vault_model.specs.Join.{is_id}
use Rattle.cli_messages.specs.declared.answers.Refusal.{Refusal}
use Rattle.merge_examples.specs.Cases.{example_docs}
use Rattle.merge_core.specs.Example.{as_it_was, edited, moved}
use Rattle.merge_examples.proofs.Merged.{all_docs, doc_first, doc_second, doc_third}
use Rattle.cli_files.specs.Tasks.{Task}
use Rattle.cli_commands.specs.Commands.{may_write}
use Rattle.keepass_call.specs.Call.{IsCall}
use Rattle.keepass_call.specs.Held.{IsTask}
use Rattle.keepass_call.specs.Outcome.{Counts, IsWorldOf, Seen}
use Rattle.keepass_call.proofs.HeldTasks.{task_given}
use Rattle.call_conditions.specs.Copies.{AreApart, CallSeen, CopyHolds, OpensCopies}
use Rattle.call_conditions.specs.Histories.{IsCallOn}
use Rattle.law_examples.specs.Files.{merge_three, plain_bytes, three_files, world_of}
use Rattle.law_examples.specs.PlainCopies.{MergingIsAHistory, merging, plain_copies}
use Rattle.law_examples.proofs.Files.{found_first, found_second, found_third, says, three_is_task, three_task, write_first, write_second, write_third}

-- names that are compared and found different are so
differ : {A : Type 0} (a b : List ℕ) → is_id a a ≡ true → is_id a b ≡ false → a ≡ b → A
differ a b same other e = absurd (true≢false (sym same ∙ ap (is_id a) e ∙ other))

pub are_apart : AreApart plain_copies
are_apart zero zero less more d e = refl
are_apart zero (suc zero) less more d e = differ (codes "a.xml") (codes "b.xml") refl refl e
are_apart zero (suc (suc l)) less more d e = differ (codes "a.xml") (codes "c.xml") refl refl e
are_apart (suc zero) zero less more d e = differ (codes "b.xml") (codes "a.xml") refl refl e
are_apart (suc zero) (suc zero) less more d e = refl
are_apart (suc zero) (suc (suc l)) less more d e = differ (codes "b.xml") (codes "c.xml") refl refl e
are_apart (suc (suc k)) zero less more d e = differ (codes "c.xml") (codes "a.xml") refl refl e
are_apart (suc (suc k)) (suc zero) less more d e = differ (codes "c.xml") (codes "b.xml") refl refl e
are_apart (suc (suc k)) (suc (suc l)) less more d e = omega (arith, less, more)

pub holds : (i : ℕ) → CopyHolds (λ _. three_files) (plain_copies.copy i) (example_docs i)
holds zero = record { bytes = plain_bytes as_it_was; found = found_first; holds = ((as_it_was, None), (says as_it_was doc_first write_first, refl)) }
holds (suc zero) = record { bytes = plain_bytes edited; found = found_second; holds = ((edited, None), (says edited doc_second write_second, refl)) }
holds (suc (suc k)) = record { bytes = plain_bytes moved; found = found_third; holds = ((moved, None), (says moved doc_third write_third, refl)) }

ok_is : (a b : Task) → ◌≡◌ {A = Result Task Refusal} (Ok a) (Ok b) → a ≡ b
ok_is a b h = cc h

module _ (time : ℕ) (before now : Seen) (counts counts' : Counts) where
  abbrev c : CallSeen
  c = merging time before now counts counts'

  opens : (task : Task) → IsTask merge_three time (world_of three_files) task → may_write task.command ≡ true → OpensCopies plain_copies c task
  opens task is writes =
      let same = ok_is task three_task (sym (task_given merge_three time (world_of three_files) task is) ∙ task_given merge_three time (world_of three_files) three_task (three_is_task time)) in
      let these : OpensCopies plain_copies c three_task = record {
        opens = refl;
        target = record { there = omega arith; disk = refl; named = refl; key = refl };
        sources = (
          record { there = omega arith; disk = refl; named = refl; key = refl },
          (record { there = omega arith; disk = refl; named = refl; key = refl }, tt),
        );
      } in
      subst (OpensCopies plain_copies c) (sym same) these

  on : IsCall merge_three time 0 before now counts counts' → IsWorldOf merge_three before now (world_of three_files) → IsCallOn plain_copies (λ _. three_files) c
  on is_call told = record {
    is_call = is_call;
    told = told;
    files = λ i less e. refl;
    opens = opens;
  }

pub merging_is_a_history : MergingIsAHistory
merging_is_a_history time before now counts counts' is_call told = record {
  apart = are_apart;
  are_docs = all_docs;
  hold = λ i less. holds i;
  events = (on time before now counts counts' is_call told, ((omega arith, omega arith, refl), tt));
}
