-- The session meets the premises of the law.
use Rattle.std.proofs.Common.{◌≡◌, ◌≢◌, ℕ, true, false, List, [], Some, None, Result, Ok, Err, length, codes, nat_le, nat_lt, refl, sym, ap, subst, ◌∙◌, arith}
use Rattle.std.specs.Option.{unwrap_or}
use Rattle.std.proofs.lemmas.Bool.{leb-true}
use Rattle.std.specs.Fmt.{digits}
use Rattle.std.specs.Str.{chars, is_utf8}
use Rattle.std.specs.FinMap.{empty}
use Rattle.base64.specs.Rfc4648.{encode_symbols}
use Rattle.stream_core.specs.InnerStream.{NoKeystream}
use Rattle.markup_grammar.specs.Escapes.{escaped_byte}
use Rattle.vault_model.specs.declared.forms.DocForm.TheVariants.{Plain}
use Rattle.vault_model.specs.Proper.{is_proper_content, is_proper_group_content}
use Rattle.vault_model.specs.Tree.{BareDoc, IsDoc}
use Rattle.doc_spelling.specs.Moments.{moment_at, month_from, year_from}
use Rattle.doc_spelling.specs.Ranges.{IsWritable, are_bytes, tree_nodes}
use Rattle.doc_spelling.proofs.GoodDocs.{doc_good}
use Rattle.doc_spelling.proofs.RangeTests.{hash_if}
use Rattle.doc_spelling.proofs.ReadsBack.{says_document}
use Rattle.cli_files.specs.Files.{plain_document}
use Rattle.file_limits.proofs.Example.{written_so}
use Rattle.tree_core.specs.Finding.{group_at_path, group_found, has_group_path}
use Rattle.doc_spelling.specs.Documents.{spelled_document}
use Rattle.doc_write.specs.Written.{write_outcome, written_len}
use Rattle.doc_write.specs.declared.writing.WriteFail.{WriteFail}
use Rattle.cli_messages.specs.declared.answers.Refusal.{Refusal}
use Rattle.cli_messages.specs.Phases.{then_left, with_left}
use Rattle.cli_needs.specs.declared.command.Command.TheVariants.{MakeGroup}
use Rattle.cli_changes.specs.Nodes.{after_mkdir}
use Rattle.cli_commands.specs.Commands.{Change, printing, writing}
use Rattle.cli_files.specs.Tasks.{Task}
use Rattle.cli_writing.specs.Drawing.{next_bytes}
use Rattle.cli_writing.specs.Held.{HoldsPlain}
use Rattle.cli_writing.specs.Writing.{NewFile, file_or_refusal}
use Rattle.call_run.specs.Endings.{change_of_task, ending_with, opened_after}
use Rattle.session_core.specs.Sessions.{LineOutcome, SessionState, continues, last_file, line_by_file, line_outcome, line_task, session, session_from, then_rest}
use Rattle.session_core.specs.ReadsBack.{IfContinues, LineReadsBack, LinesReadBack, SessionReadsBack}
use Rattle.session_laws.specs.SessionLaws.{no_last}
use Rattle.session_laws.proofs.Files.{put_here}
use Rattle.session_laws.proofs.Opening.{Reopened, in_files}
use Rattle.session_laws.proofs.Sessions.{are_their_lines}
use Rattle.session_examples.specs.Sessions.{IsSession, bare, database, moment, one_file, state, text}

is_doc : IsDoc bare
unfolding is_proper_content is_proper_group_content is_utf8 chars lib.Utf8.encode
is_doc = record {
  distinct = refl;
  no_nil = refl;
  levels = omega arith;
  tombs_rise = refl;
  tombs_apart = refl;
  entries_proper = refl;
  groups_proper = refl;
  icons_rise = refl;
  items_rise = refl;
  meta_texts = refl;
}

written : IsWritable bare
unfolding are_bytes
written = record { fits = refl; nodes = omega arith; pool = omega arith }

short : nat_le (length text) 10000 ≡ true
unfolding escaped_byte moment_at year_from month_from digits encode_symbols
short = refl

says : plain_document text ≡ Ok (bare, None)
unfolding plain_document
says = says_document Plain NoKeystream None (hash_if None refl) bare (doc_good bare is_doc written)

opened_again : Reopened database None one_file state.opened
opened_again =
    let low = leb-true (length text) 10000 short in
    record {
      target = state.opened;
      holds = record {
        bytes = text;
        there = record { found = put_here empty (codes "a.xml") text; within = omega (arith, low) };
        read = (bare, None);
        says = says;
        is = refl;
      };
      alike = refl;
    }

no_key_file : database.access.key_file ≢ Some database.file
no_key_file e = cc

-- ---- the line that makes a group

abbrev task : Task
task = line_task state.opened (MakeGroup database.access database.file (codes "Bank")) no_last

abbrev change_in : Result Change Refusal → Change
change_in (Ok change) = change
change_in (Err refusal) = printing []

-- What it makes, and the document that is written.
abbrev change : Change
change = change_in (change_of_task moment task state.dice).answer

abbrev doc : BareDoc
doc = unwrap_or change.doc bare

doc_is : IsDoc doc
unfolding after_mkdir group_at_path group_found has_group_path next_bytes is_proper_content is_proper_group_content is_utf8 chars lib.Utf8.encode
doc_is = record {
  distinct = refl;
  no_nil = refl;
  levels = omega arith;
  tombs_rise = refl;
  tombs_apart = refl;
  entries_proper = refl;
  groups_proper = refl;
  icons_rise = refl;
  items_rise = refl;
  meta_texts = refl;
}

doc_written : IsWritable doc
unfolding after_mkdir group_at_path group_found has_group_path next_bytes are_bytes
doc_written = record { fits = refl; nodes = omega arith; pool = omega arith }

few_nodes : nat_lt 262144 (tree_nodes doc.tree) ≡ false
unfolding after_mkdir group_at_path group_found has_group_path next_bytes
few_nodes = refl

short_doc : nat_le (written_len Plain NoKeystream None doc) 10000 ≡ true
unfolding after_mkdir group_at_path group_found has_group_path next_bytes escaped_byte moment_at year_from month_from digits encode_symbols
short_doc = refl

abbrev bytes : List ℕ
bytes = spelled_document Plain NoKeystream None doc

spelled : write_outcome Plain NoKeystream None doc ≡ Ok bytes
spelled = written_so Plain NoKeystream None doc few_nodes short_doc

bytes_say : HoldsPlain doc bytes
bytes_say = says_document Plain NoKeystream None (hash_if None refl) doc (doc_good doc doc_is doc_written)

abbrev new : NewFile
new = record { name = database.file; bytes = bytes }

-- What the line does, by what is written of its document.
abbrev line_by : Result (List ℕ) WriteFail → LineOutcome
line_by outcome =
    let made = then_left (with_left (file_or_refusal database.file outcome) []) (λ file left. with_left (Ok (ending_with change.text file)) left) in
    line_by_file (record state { number = 2; input = codes "ls\nquit\n" }) (writing change.text doc) made.answer made.left

abbrev after : SessionState
after = record { opened = opened_after state.opened (Some doc); number = 2; input = codes "ls\nquit\n"; dice = [] }

line_is : line_outcome moment database state ≡ continues change.text [] (Some new) after
unfolding after_mkdir group_at_path group_found has_group_path next_bytes is_utf8 chars lib.Utf8.encode
line_is = ap line_by spelled

-- ---- all lines

-- The other lines write nothing.
nothing_written : LinesReadBack 65535 moment database after
unfolding after_mkdir group_at_path group_found has_group_path next_bytes is_utf8 chars lib.Utf8.encode
nothing_written = (tt, (tt, tt))

all_read_back : SessionReadsBack moment database state
all_read_back =
    subst (λ (line : LineOutcome). LineReadsBack None line × IfContinues line (LinesReadBack 65535 moment database)) (sym line_is) (bytes_say, nothing_written)

no_more : (session_from 65535 moment database after).file ≡ None
unfolding after_mkdir group_at_path group_found has_group_path next_bytes is_utf8 chars lib.Utf8.encode
no_more = refl

file_is : (session moment database state).file ≡ Some new
file_is =
    ap (λ (line : LineOutcome). (then_rest line (session_from 65535 moment database)).file) line_is
    ∙ ap (last_file (Some new)) no_more

pub is_session : IsSession
is_session =
    let held = in_files moment database None one_file state.opened opened_again in
    record {
      in_file = held;
      apart = no_key_file;
      reads_back = all_read_back;
      is_lines = are_their_lines moment database None one_file state held no_key_file all_read_back;
      file = new;
      writes = file_is;
    }
