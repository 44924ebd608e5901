-- The documents of a task keep what every document keeps, since they are read.
use Rattle.std.proofs.Common.{◌≡◌, ℕ, Bool, true, false, inl, inr, List, [], ◌∷◌, Option, Result, Ok, Err, map, refl, ap, subst}
use Rattle.outside_core.specs.Files.{FileMap}
use Rattle.stream_core.specs.InnerStream.{NoKeystream}
use Rattle.vault_model.specs.Tree.{BareDoc, IsDoc}
use Rattle.vault_model.specs.declared.forms.DocForm.TheVariants.{Plain}
use Rattle.doc_forms.specs.Documents.{DocumentAndHash, document}
use Rattle.doc_forms.specs.ElementTexts.{Setting}
use Rattle.doc_forms.specs.declared.fails.DocFail.{DocFail}
use Rattle.cli_files.proofs.DocRead.ReadDocuments.{read_is_doc}
use Rattle.kdbx_frame.specs.Forms.{form_of}
use Rattle.session_opening.specs.KdbxOpen.Documents.{attachment, document_or_refusal}
use Rattle.session_opening.specs.KdbxOpen.Opening.{FileContents}
use Rattle.session_opening.specs.KdbxOpen.Sealed.{Sealed}
use Rattle.session_opening.specs.KdbxOpen.declared.fail.OpenFail.{OpenFail}
use Rattle.cli_needs.specs.declared.command.Access.{Access}
use Rattle.cli_files.specs.Files.{Databases, Opened, plain_document}
use Rattle.call_input.specs.CliDatabases.Databases.{password_from}
use Rattle.call_input.specs.CliDatabases.Held.{HoldAll, HoldDatabases, HoldsBy}
use Rattle.call_input.specs.Opening.{HoldByOrigin}
use Rattle.cli_self_test.specs.AgreedLaws.Merges.{AreDocs}
use Rattle.cli_needs.specs.Needs as from
use Rattle.cli_needs.specs.Needs.{Needs, Origin, needs_of, origin_of}
use Rattle.cli_lines.specs.Lines.{Lines}
use Rattle.keepass_call.specs.Held.{IsTask}
use Rattle.keepass_call.specs.Outcome.{World}
use Rattle.cli_files.specs.Tasks.{Task, databases_in}

plain_is_doc : (bytes : List ℕ) (read : DocumentAndHash) → plain_document bytes ≡ Ok read → IsDoc read.0
unfolding plain_document
plain_is_doc bytes read h = read_is_doc (record { form = Plain; keystream = NoKeystream }) [] bytes read h

abbrev read_in : DocumentAndHash → Result DocumentAndHash OpenFail → DocumentAndHash
read_in other (Ok read) = read
read_in other (Err fail) = other

of_read : (result : DocumentAndHash) (r : Result DocumentAndHash DocFail) → ((read : DocumentAndHash) → r ≡ Ok read → IsDoc read.0)
    → document_or_refusal r ≡ Ok result → IsDoc result.0
of_read result (Ok read) is h = subst (λ (one : DocumentAndHash). IsDoc one.0) (ap (read_in result) h) (is read refl)
of_read result (Err fail) is h = cc h

vault_is_doc : (bytes composite : List ℕ) (vault : FileContents) → Sealed bytes composite vault → IsDoc vault.doc
vault_is_doc bytes composite vault s =
    let setting : Setting = record { form = form_of s.payload.settings.version; keystream = s.payload.stream } in
    subst IsDoc s.doc (of_read s.read (document setting (map attachment s.payload.pool) s.payload.text)
    (λ read e. read_is_doc setting (map attachment s.payload.pool) s.payload.text read e) s.document)

held_is_doc : (plain : Bool) (key_file : Option (List ℕ)) (file : List ℕ) (password : Option (List ℕ)) (files : FileMap) (opened : Opened)
    → HoldsBy plain key_file file password files opened → IsDoc opened.doc
held_is_doc true key_file file password files opened h = subst (λ (o : Opened). IsDoc o.doc) h.is (plain_is_doc h.bytes h.read h.says)
held_is_doc false key_file file password files opened h = subst (λ (o : Opened). IsDoc o.doc) h.is (vault_is_doc h.bytes _ h.vault h.sealed)

all_are_docs : (from : Access) (same : Bool) (target : Option (List ℕ)) (names : List (List ℕ)) (lines : List (Option (List ℕ))) (files : FileMap) (docs : List BareDoc)
    → HoldAll from same target names lines files docs → AreDocs docs
all_are_docs from same target [] lines files [] h d i = absurd i
all_are_docs from same target [] lines files (doc ∷ docs) h d i = absurd h
all_are_docs from same target (name ∷ names) [] files docs h d i = absurd h
all_are_docs from same target (name ∷ names) (line ∷ lines) files [] h d i = absurd h
all_are_docs from same target (name ∷ names) (line ∷ lines) files (doc ∷ docs) h d (inl p) =
    subst IsDoc p (subst IsDoc h.0.is (held_is_doc from.plain from.key_file name (password_from same target line) files h.0.opened h.0.holds))
all_are_docs from same target (name ∷ names) (line ∷ lines) files (doc ∷ docs) h d (inr i) = all_are_docs from same target names lines files docs h.1 d i

-- The documents of databases that files hold.
pub database_docs : (needs : Needs) (lines : Lines) (files : FileMap) (databases : Databases) → HoldDatabases needs lines files databases → AreDocs (databases.target.doc ∷ databases.sources)
database_docs needs lines files databases holds d (inl p) =
    subst IsDoc p (held_is_doc needs.access.plain needs.access.key_file needs.file lines.password files databases.target holds.target)
database_docs needs lines files databases holds d (inr i) =
    all_are_docs needs.from needs.same lines.password needs.sources lines.sources files databases.sources holds.sources d i

-- So it is with a task whose database is opened as it is.
pub task_docs : (words : List (List ℕ)) (time : ℕ) (world : World) (task : Task) → origin_of task.command ≡ from.Opened → IsTask words time world task
    → AreDocs (task.opened.doc ∷ task.sources)
task_docs words time world task none is =
    database_docs (needs_of task.command) task.lines world.files (databases_in task)
    (subst (λ (o : Origin). HoldByOrigin o (needs_of task.command) task.lines time world.files (databases_in task)) none is.holds)
