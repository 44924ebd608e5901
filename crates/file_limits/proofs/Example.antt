-- The files of a small document are within their limits, computed.
use Rattle.std.proofs.Common.{◌≡◌, ◌+◌, ℕ, true, false, if◌then◌else◌, List, Option, Some, None, Ok, Err, length, nat_le, nat_lt, codes, refl, ap, ◌∙◌, arith}
use Rattle.std.proofs.lemmas.Bool.{leb-true, ltb-true}
use Rattle.std.specs.Fmt.{digits}
use Rattle.base64.specs.Rfc4648.{encode_symbols}
use Rattle.stream_core.specs.InnerStream.{Keystream, NoKeystream}
use Rattle.markup_grammar.specs.Escapes.{escaped_byte}
use Rattle.vault_model.specs.Tree.{BareDoc}
use Rattle.vault_model.specs.declared.forms.DocForm.{DocForm}
use Rattle.vault_model.specs.declared.forms.DocForm.TheVariants.{Plain}
use Rattle.vault_model.proofs.Tests.{is_false}
use Rattle.vault_making.specs.NeededVersion.{needed_version}
use Rattle.merge_core.specs.Example.{as_it_was}
use Rattle.doc_spelling.specs.Documents.{spelled_document}
use Rattle.doc_spelling.specs.Moments.{moment_at, month_from, year_from}
use Rattle.doc_spelling.specs.Ranges.{tree_nodes}
use Rattle.doc_write.specs.Written.{text_or, up_to_u64, write_outcome, written_len}
use Rattle.doc_write.specs.declared.writing.WriteFail.TheVariants as write
use Rattle.kdbx_frame.specs.Fields.{header_limit}
use Rattle.kdbx_frame.specs.Forms.{form_of}
use Rattle.kdbx_frame.specs.Header.{sums_len}
use Rattle.kdbx_frame.specs.declared.settings.Settings.{Settings}
use Rattle.kdbx_writing.specs.Header.{spelled_header}
use Rattle.kdbx_writing.specs.Kdf.{spelled_kdf}
use Rattle.kdbx_writing.specs.declared.draws.Draws.{Draws}
use Rattle.cli_sealing.specs.KdbxSeal.Answers.{refusal_of, size_refusal}
use Rattle.cli_sealing.specs.KdbxSeal.Made.{hash_kept, made_file}
use Rattle.cli_sealing.specs.KdbxSeal.PayloadMade.{written_keystream}
use Rattle.cli_sealing.specs.KdbxSeal.declared.fail.SealFail.TheVariants.{TooLarge}
use Rattle.cli_writing.specs.Drawing.{next_bytes}
use Rattle.cli_writing.specs.Writing.{file_or_refusal}
use Rattle.cli_sealing.specs.Draws.{after_draws}
use Rattle.cli_sealing.specs.Sealing.{file_by, file_unless}
use Rattle.cli_messages.specs.Phases.{with_left}
use Rattle.file_limits.proofs.Within.{are_drawn}
use Rattle.file_limits.specs.Example.{ExampleFiles, composite, dice, draws, settings}

-- a document of few nodes and bytes is written
pub written_so : (form : DocForm) (k : Keystream) (hash : Option (List ℕ)) (d : BareDoc) → nat_lt 262144 (tree_nodes d.tree) ≡ false → nat_le (written_len form k hash d) 10000 ≡ true
    → write_outcome form k hash d ≡ Ok (spelled_document form k hash d)
written_so form k hash d few short =
    let low = leb-true (written_len form k hash d) 10000 short in
    let within : nat_lt 134086656 (written_len form k hash d) ≡ false =
    is_false (nat_lt 134086656 (written_len form k hash d)) (λ p. let over = ltb-true 134086656 (written_len form k hash d) p in omega (arith, over, low)) in
    ap (λ b. if b then Err (write.TooMany (up_to_u64 (tree_nodes d.tree))) else text_or form k hash d) few
    ∙ ap (λ b. if b then Err (write.TooLarge (up_to_u64 (written_len form k hash d))) else Ok (spelled_document form k hash d)) within

-- with a short header it is sealed
pub fits_so : (s : Settings) (w : Draws) (d : BareDoc) → nat_lt 262144 (tree_nodes d.tree) ≡ false
    → nat_le (written_len (form_of s.version) (written_keystream s.version w) (hash_kept s.version s w) d) 10000 ≡ true
    → nat_lt header_limit (length (spelled_header s w) + sums_len s.version) ≡ false → size_refusal s w d ≡ None
fits_so s w d few short header =
    ap (λ r. refusal_of r (length (spelled_header s w) + sums_len s.version)) (written_so (form_of s.version) (written_keystream s.version w) (hash_kept s.version s w) d few short)
    ∙ ap (λ b. if b then Some (TooLarge (length (spelled_header s w) + sums_len s.version)) else None) header

short_text : nat_le (written_len (form_of settings.version) (written_keystream settings.version draws) (hash_kept settings.version settings draws) as_it_was) 10000 ≡ true
unfolding escaped_byte moment_at year_from month_from digits encode_symbols
short_text = refl

short_header : nat_lt header_limit (length (spelled_header settings draws) + sums_len settings.version) ≡ false
unfolding next_bytes spelled_header spelled_kdf
short_header = refl

fits : size_refusal settings draws as_it_was ≡ None
fits = fits_so settings draws as_it_was refl short_text short_header

short_plain : nat_le (written_len Plain NoKeystream None as_it_was) 10000 ≡ true
unfolding escaped_byte moment_at year_from month_from digits encode_symbols
short_plain = refl

pub example_files : ExampleFiles
unfolding next_bytes needed_version file_by
example_files = record {
  drawn = are_drawn settings dice;
  fits = fits;
  sealed = record { name = codes "family.kdbx"; bytes = made_file settings draws composite as_it_was };
  seals = ap (λ why. (with_left (file_unless (codes "family.kdbx") why (made_file settings draws composite as_it_was)) (after_draws settings dice)).answer) fits;
  plain = record { name = codes "family.xml"; bytes = spelled_document Plain NoKeystream None as_it_was };
  writes = ap (file_or_refusal (codes "family.xml")) (written_so Plain NoKeystream None as_it_was refl short_plain);
}
