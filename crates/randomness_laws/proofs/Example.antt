-- The draws of the calls, computed.
use Rattle.std.proofs.Common.{◌≡◌, ◌+◌, ℕ, true, false, List, [], ◌∷◌, ◌++◌, Option, Some, None, Result, Ok, Err, length, nat_le, nat_lt, codes, refl, ap, ◌∙◌, arith}
use Rattle.std.specs.Fmt.{digits}
use Rattle.std.specs.List.{concat}
use Rattle.std.specs.Option.{unwrap_or}
use Rattle.base64.specs.Rfc4648.{encode_symbols}
use Rattle.markup_grammar.specs.Escapes.{escaped_byte}
use Rattle.vault_model.specs.Tree.{BareDoc}
use Rattle.vault_making.specs.NeededVersion.{needed_version}
use Rattle.merge_core.specs.Example.{as_it_was}
use Rattle.tree_core.specs.Finding.{group_at_path, group_found, has_group_path}
use Rattle.doc_spelling.specs.Moments.{moment_at, month_from, year_from}
use Rattle.doc_spelling.specs.Ranges.{tree_nodes}
use Rattle.doc_write.specs.Written.{written_len}
use Rattle.kdbx_frame.specs.Fields.{header_limit}
use Rattle.kdbx_frame.specs.Forms.{form_of}
use Rattle.kdbx_frame.specs.Header.{sums_len}
use Rattle.kdbx_frame.specs.declared.settings.Settings.{Settings}
use Rattle.kdbx_writing.specs.Header.{spelled_header}
use Rattle.kdbx_writing.specs.Kdf.{spelled_kdf}
use Rattle.kdbx_writing.specs.declared.draws.Draws.{Draws}
use Rattle.kdbx_seal.specs.Answers.{size_refusal}
use Rattle.kdbx_seal.specs.Made.{hash_kept, made_file}
use Rattle.kdbx_seal.specs.PayloadMade.{written_keystream}
use Rattle.kdbx_seal.specs.declared.fail.SealFail.{SealFail}
use Rattle.gen_core.specs.Chosen.{choose, next}
use Rattle.cli_generating.specs.Generated.{generated}
use Rattle.cli_messages.specs.Phases.{StreamAnswer, then_left, with_left}
use Rattle.cli_messages.specs.declared.answers.Refusal.{Refusal}
use Rattle.cli_writing.specs.Drawing.{next_bytes}
use Rattle.cli_sealing.specs.Draws.{after_draws, draws_of}
use Rattle.cli_sealing.specs.Sealing.{file_by, file_unless, settings_for}
use Rattle.cli_changes.specs.Nodes.{after_mkdir}
use Rattle.cli_commands.specs.Commands.{Change, printing}
use Rattle.call_run.specs.Endings.{Ending, carried_out, change_of_task, ending_with}
use Rattle.file_limits.specs.Example.{settings}
use Rattle.file_limits.proofs.Example.{fits_so}
use Rattle.randomness_laws.specs.Example.{ExampleDraws, plain_making, rising, sealed_making, sealing, three_calls, two_letters}
use Rattle.randomness_laws.specs.Pieces.{all_pieces, task_call, password_call, task_pieces}

abbrev dice : List ℕ
dice = rising 180 0

-- the change, and the document that is written
abbrev change_in : Result Change Refusal → Change
change_in (Ok change) = change
change_in (Err refusal) = printing []

abbrev change : Change
change = change_in (change_of_task 50 sealed_making dice).answer

abbrev doc : BareDoc
doc = unwrap_or change.doc as_it_was

-- what its file is sealed with
abbrev new_settings : Settings
new_settings = settings_for settings doc

abbrev draws : Draws
draws = draws_of new_settings (rising 164 16)

-- ---- the file is within its limits

few_nodes : nat_lt 262144 (tree_nodes doc.tree) ≡ false
unfolding after_mkdir group_at_path group_found has_group_path next_bytes
few_nodes = refl

short_text : nat_le (written_len (form_of new_settings.version) (written_keystream new_settings.version draws) (hash_kept new_settings.version new_settings draws) doc) 10000 ≡ true
unfolding after_mkdir group_at_path group_found has_group_path next_bytes needed_version escaped_byte moment_at year_from month_from digits encode_symbols
short_text = refl

short_header : nat_lt header_limit (length (spelled_header new_settings draws) + sums_len new_settings.version) ≡ false
unfolding after_mkdir group_at_path group_found has_group_path next_bytes needed_version spelled_header spelled_kdf
short_header = refl

sealed_fits : size_refusal new_settings draws doc ≡ None
sealed_fits = fits_so new_settings draws doc few_nodes short_text short_header

-- ---- what is drawn

abbrev text : List ℕ
text = change.text

abbrev bytes : List ℕ
bytes = made_file new_settings draws sealing.composite doc

abbrev ending : Ending
ending = ending_with text (record { name = codes "family.kdbx"; bytes = bytes })

-- what the first call comes to, by whether its document is too large
abbrev ends_by : Option SealFail → StreamAnswer Ending
ends_by why = then_left (with_left (file_unless (codes "family.kdbx") why bytes) (after_draws new_settings (rising 164 16))) (λ file left. with_left (Ok (ending_with text file)) left)

carried : carried_out 50 sealed_making dice ≡ ends_by None
unfolding carried_out file_by after_mkdir group_at_path group_found has_group_path next_bytes
carried = ap ends_by sealed_fits

left_is : (carried_out 50 sealed_making dice).left ≡ rising 24 156
unfolding needed_version after_mkdir group_at_path group_found has_group_path next_bytes
left_is = ap (λ (a : StreamAnswer Ending). a.left) carried

abbrev first_pieces : List (List ℕ)
first_pieces = rising 16 0 ∷ rising 32 16 ∷ rising 32 48 ∷ rising 12 80 ∷ rising 64 92 ∷ [] ∷ []

pieces : task_pieces 50 sealed_making dice ≡ first_pieces
unfolding needed_version after_mkdir group_at_path group_found has_group_path next_bytes
pieces = refl

-- a password, of what the first call leaves
prints : (generated two_letters.alphabet two_letters.length (rising 24 156)).answer ≡ Ok (codes "ab")
unfolding choose next
prints = refl

later_pieces : all_pieces (password_call two_letters ∷ task_call 60 plain_making ∷ []) (rising 24 156) ≡ rising 2 156 ∷ rising 16 158 ∷ []
unfolding after_mkdir group_at_path group_found has_group_path next_bytes choose next
later_pieces = refl

abbrev later : List ℕ → List (List ℕ)
later left = all_pieces (password_call two_letters ∷ task_call 60 plain_making ∷ []) left

three : all_pieces three_calls dice ≡ first_pieces ++ (rising 2 156 ∷ rising 16 158 ∷ [])
three =
    ap (λ p. p ++ later (carried_out 50 sealed_making dice).left) pieces
    ∙ ap (λ l. first_pieces ++ later l) left_is
    ∙ ap (λ p. first_pieces ++ p) later_pieces

makes : (change_of_task 50 sealed_making dice).answer ≡ Ok change
unfolding after_mkdir group_at_path group_found has_group_path next_bytes
makes = refl

writes : change.doc ≡ Some doc
unfolding after_mkdir group_at_path group_found has_group_path next_bytes
writes = refl

pub example_draws : ExampleDraws
example_draws =
    let first : length (concat (task_pieces 50 sealed_making dice)) ≡ 156 = ap (λ p. length (concat p)) pieces in
    let all : length (concat (all_pieces three_calls dice)) ≡ 174 = ap (λ p. length (concat p)) three in
    record {
      pieces = pieces;
      enough = omega (arith, first);
      three = three;
      more = omega (arith, all);
      prints = prints;
      draws = refl;
      change = change;
      doc = doc;
      ending = ending;
      bytes = bytes;
      makes = makes;
      writes = writes;
      ends = ap (λ (a : StreamAnswer Ending). a.answer) carried;
      file = refl;
    }
