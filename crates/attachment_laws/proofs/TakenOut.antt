-- What is put into a file is taken out of it.
use Rattle.std.proofs.Common.{◌≡◌, ◌∙◌, ℕ, List, [], Option, None, Some, Result, Ok, Err, ap, sym, refl, subst}
use Rattle.outside_core.specs.Results.{◌>>=◌}
use Rattle.doc_forms.specs.Documents.{DocumentAndHash}
use Rattle.doc_forms.specs.declared.fails.DocFail.{DocFail}
use Rattle.vault_model.specs.Bare.{BareAttachment}
use Rattle.vault_model.specs.Tree.{BareDoc}
use Rattle.tree_core.specs.declared.fails.TreeFail.{TreeFail}
use Rattle.tree_core.specs.After.{attachment_in}
use Rattle.kdbx_frame.specs.declared.sealings.Sealing.{Sealing}
use Rattle.kdbx_open.specs.Opening.{FileContents}
use Rattle.kdbx_open.proofs.SealedFiles.{one_vault}
use Rattle.cli_files.specs.Files.{plain_document}
use Rattle.cli_sealing.specs.Held.{contents_with}
use Rattle.cli_sealing.specs.Sealing.{settings_for}
use Rattle.cli_changes.specs.Attachments.{attachment_bytes}
use Rattle.cli_changes.specs.Fails.{named_or_refusal}
use Rattle.call_run.specs.Endings.{HoldsNew}
use Rattle.call_conditions.specs.Copies.{HoldsDoc}
use Rattle.frame_laws.proofs.FoundAgain.{export_gives_imported}
use Rattle.attachment_laws.specs.TakenOut.{TakesOutWhatWasPutIn, key_under}

one_read : (a b : DocumentAndHash) → ◌≡◌ {A = Result DocumentAndHash DocFail} (Ok a) (Ok b) → a ≡ b
one_read a b h = cc h

-- What was written under a key and what is opened under it are one document.
one_doc : (sealing : Option Sealing) (bytes : List ℕ) (after opened : BareDoc) → HoldsNew sealing after bytes → HoldsDoc (key_under sealing) opened bytes → opened ≡ after
unfolding plain_document
one_doc None bytes after opened h k = sym k.1.1 ∙ ap (λ (r : DocumentAndHash). r.0) (one_read k.0 (after, None) (sym k.1.0 ∙ h))
one_doc (Some sealing) bytes after opened h k =
    sym k.1.1 ∙ ap (λ (v : FileContents). v.doc)
    (one_vault bytes sealing.composite k.0 (contents_with (settings_for sealing.settings after) h.0 after) k.1.0 h.1)

-- The bytes of an attachment that is there.
there : (file name put : List ℕ) (r : Result BareAttachment TreeFail) (a : BareAttachment) → r ≡ Ok a → a.bytes ≡ put
    → (named_or_refusal file [] name r >>= λ attachment. Ok attachment.bytes) ≡ Ok put
there file name put r a is same =
    ap (λ (x : Result BareAttachment TreeFail). named_or_refusal file [] name x >>= λ attachment. Ok attachment.bytes) is ∙ ap Ok same

pub taken_out : TakesOutWhatWasPutIn
taken_out sealing path name put replaces now before after opened bytes file isb isa h written held =
    let found = export_gives_imported path name put replaces now before after isb isa h in
    ap (attachment_bytes file path name) (one_doc sealing bytes after opened written held)
    ∙ there file name put (attachment_in path name after) found.0 found.1.0 found.1.1
