-- What a database is and what its files hold, both ways.
use Rattle.std.proofs.Common.{◌≡◌, ◌≤◌, ℕ, List, [], ◌∷◌, ◌++◌, length, map, refl, sym, ◌∙◌, ap, subst, Bool, true, false, cond, nat_lt, Option, Some, None, IfSome, Result, Ok, Err}
use Rattle.std.specs.Prelude.{is_some}
use Rattle.std.proofs.lemmas.Bool.{ltb-false}
use Rattle.std.proofs.lemmas.List.{append-nil, append_assoc}
use Rattle.std.specs.FinMap as finmap
use Rattle.outside_core.specs.Files.{FileMap}
use Rattle.key_core.specs.Keys.{composite_key}
use Rattle.doc_forms.specs.Documents.{DocumentAndHash}
use Rattle.doc_forms.specs.declared.fails.DocFail.{DocFail}
use Rattle.cli_lines.specs.KdbxFrame.Fields.{file_limit}
use Rattle.kdbx_open.specs.Files.{bytes_of, opening_of}
use Rattle.kdbx_open.specs.Opening.{FileContents, opening}
use Rattle.kdbx_open.specs.Sealed.{Sealed}
use Rattle.kdbx_open.specs.declared.fail.OpenFail.{OpenFail}
use Rattle.kdbx_open.specs.declared.fail.OpenFail.TheVariants.{File}
use Rattle.kdbx_open.proofs.NamedFiles.{opened_of_held}
use Rattle.kdbx_open.proofs.SealedFiles.{both, is_sealed}
use Rattle.secret_core.specs.declared.files.ReadFail.TheVariants.{TooLarge as FileTooLarge}
use Rattle.cli_files.specs.Files.{Databases, Opened, key_of, plain_document}
use Rattle.cli_files.proofs.HeldKeys.{given, in_turn, key_given, key_held, used}
use Rattle.cli_databases.specs.Databases.{document_in, document_or_refusal, database_of, databases_of, docs_from, held_in, held_under, opened_plain, opened_under, password_from, plain_of, sealed_in, sources_of, vault_or_refusal}
use Rattle.cli_databases.specs.Held.{HoldAll, HoldDatabases, Holds, HoldsBy, HoldsSource, IsPlain, IsSealed}
use Rattle.outside_core.specs.Results.{◌>>=◌}
use Rattle.cli_needs.specs.declared.command.Access.{Access}
use Rattle.cli_needs.specs.Needs.{Needs, asks_passwords_from}
use Rattle.cli_lines.specs.Lines.{HasLines, Lines}
use Rattle.vault_model.specs.Tree.{BareDoc}

-- ---- plain documents

built_by : (name : List ℕ) (r : Result DocumentAndHash DocFail) (o : Opened) → document_or_refusal name r ≡ Ok o → (read : DocumentAndHash) × ((r ≡ Ok read) × (opened_plain read.0 ≡ o))
built_by name (Ok read) o h = (read, (refl, cc))
built_by name (Err fail) o h = cc

plain_held : (file : List ℕ) (files : FileMap) (o : Opened) → plain_of file (finmap.get files file) ≡ Ok o → IsPlain file files o
plain_held file files o h =
    let u = used file files (λ bytes. document_or_refusal file (plain_document bytes)) o (finmap.get files file) refl h in
    let b = built_by file (plain_document u.bytes) o u.gives in
    record { bytes = u.bytes; there = u.there; read = b.0; says = b.1.0; is = b.1.1 }

plain_given : (file : List ℕ) (files : FileMap) (o : Opened) → IsPlain file files o → plain_of file (finmap.get files file) ≡ Ok o
plain_given file files o h =
    given file files (λ bytes. document_or_refusal file (plain_document bytes)) o h.bytes h.there (ap (document_or_refusal file) h.says ∙ ap Ok h.is)

-- ---- sealed files

not_large : (large : Bool) (bytes other : List ℕ) (n : ℕ)
    → ◌≡◌ {A = Result (List ℕ) OpenFail} (cond large (Err (File (FileTooLarge n))) (Ok bytes)) (Ok other)
    → (large ≡ false) × (bytes ≡ other)
not_large true bytes other n h = cc
not_large false bytes other n h = (refl, cc)

bytes_there : (file : Option (List ℕ)) (bytes : List ℕ) → bytes_of file ≡ Ok bytes → (file ≡ Some bytes) × (length bytes ≤ file_limit)
bytes_there None bytes h = cc
bytes_there (Some b) bytes h =
    let w = not_large (nat_lt file_limit (length b)) b bytes (length b) h in
    (ap Some w.1, subst (λ (x : List ℕ). length x ≤ file_limit) w.1 (ltb-false file_limit (length b) w.0))

-- what a file holds that was opened
opening_held : (file : Option (List ℕ)) (composite : List ℕ) (vault : FileContents) → opening_of file composite ≡ Ok vault
    → (bytes : List ℕ) × (((file ≡ Some bytes) × (length bytes ≤ file_limit)) × Sealed bytes composite vault)
unfolding opening_of
opening_held file composite vault h =
    let b = both (bytes_of file) (λ bytes. opening bytes composite) vault h in
    (b.0, (bytes_there file b.0 b.1.0, is_sealed b.0 composite vault b.1.1))

opening_given : (file : Option (List ℕ)) (composite : List ℕ) (vault : FileContents) (bytes : List ℕ)
    → file ≡ Some bytes → length bytes ≤ file_limit → Sealed bytes composite vault → opening_of file composite ≡ Ok vault
opening_given file composite vault bytes is within sealed =
    opened_of_held file composite vault (subst (λ (f : Option (List ℕ)). IfSome f (λ b. length b ≤ file_limit)) (sym is) within) (bytes, (is, sealed))

opened_by : (name composite : List ℕ) (r : Result FileContents OpenFail) (o : Opened) → vault_or_refusal name composite r ≡ Ok o
    → (vault : FileContents) × ((r ≡ Ok vault) × (opened_under composite vault ≡ o))
opened_by name composite (Ok vault) o h = (vault, (refl, cc))
opened_by name composite (Err fail) o h = cc

under_by : (file : List ℕ) (files : FileMap) (composite : List ℕ) (o : Opened) → held_under file files composite ≡ Ok o
    → (vault : FileContents) × ((opening_of (finmap.get files file) composite ≡ Ok vault) × (opened_under composite vault ≡ o))
unfolding held_under
under_by file files composite o h = opened_by file composite (opening_of (finmap.get files file) composite) o h

sealed_held : (key_file : Option (List ℕ)) (file : List ℕ) (password : Option (List ℕ)) (files : FileMap) (o : Opened)
    → held_in false key_file file password files ≡ Ok o → IsSealed key_file file password files o
sealed_held key_file file password files o h =
    let k = in_turn (key_of key_file files) (sealed_in file files password) o h in
    let v = under_by file files (composite_key password k.0) o k.1.1 in
    let b = opening_held (finmap.get files file) (composite_key password k.0) v.0 v.1.0 in
    record {
      key = k.0;
      gives_key = key_held key_file files k.0 k.1.0;
      bytes = b.0;
      there = record { found = b.1.0.0; within = b.1.0.1 };
      vault = v.0;
      sealed = b.1.1;
      is = v.1.1;
    }

under_again : (file : List ℕ) (files : FileMap) (composite : List ℕ) (vault : FileContents) → opening_of (finmap.get files file) composite ≡ Ok vault
    → held_under file files composite ≡ Ok (opened_under composite vault)
unfolding held_under
under_again file files composite vault h = ap (vault_or_refusal file composite) h

sealed_given : (key_file : Option (List ℕ)) (file : List ℕ) (password : Option (List ℕ)) (files : FileMap) (o : Opened)
    → IsSealed key_file file password files o → held_in false key_file file password files ≡ Ok o
sealed_given key_file file password files o s =
    ap (λ r. r >>= sealed_in file files password) (key_given key_file files s.key s.gives_key)
    ∙ under_again file files (composite_key password s.key) s.vault
    (opening_given (finmap.get files file) (composite_key password s.key) s.vault s.bytes s.there.found s.there.within s.sealed)
    ∙ ap Ok s.is

-- ---- databases

held : (plain : Bool) (key_file : Option (List ℕ)) (file : List ℕ) (password : Option (List ℕ)) (files : FileMap) (o : Opened)
    → held_in plain key_file file password files ≡ Ok o → HoldsBy plain key_file file password files o
held true key_file file password files o h = plain_held file files o h
held false key_file file password files o h = sealed_held key_file file password files o h

holding : (plain : Bool) (key_file : Option (List ℕ)) (file : List ℕ) (password : Option (List ℕ)) (files : FileMap) (o : Opened)
    → HoldsBy plain key_file file password files o → held_in plain key_file file password files ≡ Ok o
holding true key_file file password files o h = plain_given file files o h
holding false key_file file password files o h = sealed_given key_file file password files o h

pub database_held : (needs : Needs) (password : Option (List ℕ)) (files : FileMap) (o : Opened)
    → database_of needs password files ≡ Ok o → Holds needs password files o
database_held needs password files o h = held needs.access.plain needs.access.key_file needs.file password files o h

pub database_given : (needs : Needs) (password : Option (List ℕ)) (files : FileMap) (o : Opened)
    → Holds needs password files o → database_of needs password files ≡ Ok o
database_given needs password files o h = holding needs.access.plain needs.access.key_file needs.file password files o h

-- ---- sources

source_held : (from : Access) (same : Bool) (target line : Option (List ℕ)) (name : List ℕ) (files : FileMap) (doc : BareDoc)
    → document_in from name (password_from same target line) files ≡ Ok doc → HoldsSource from same target line name files doc
source_held from same target line name files doc h =
    let t = in_turn (held_in from.plain from.key_file name (password_from same target line) files) (λ opened. Ok opened.doc) doc h in
    let is : t.0.doc ≡ doc = cc t.1.1 in
    record { opened = t.0; holds = held from.plain from.key_file name (password_from same target line) files t.0 t.1.0; is = is }

source_given : (from : Access) (same : Bool) (target line : Option (List ℕ)) (name : List ℕ) (files : FileMap) (doc : BareDoc)
    → HoldsSource from same target line name files doc → document_in from name (password_from same target line) files ≡ Ok doc
source_given from same target line name files doc h =
    ap (λ r. r >>= λ opened. Ok opened.doc) (holding from.plain from.key_file name (password_from same target line) files h.opened h.holds)
    ∙ ap Ok h.is

-- The documents after those that were opened before are what the files of sources hold.
sources_held : (from : Access) (same : Bool) (target : Option (List ℕ)) (names : List (List ℕ)) (lines : List (Option (List ℕ)))
    (docs all : List BareDoc) (files : FileMap) (due : Bool) → map is_some lines ≡ map (λ name. due) names
    → docs_from from same target names lines docs files ≡ Ok all
    → (more : List BareDoc) × ((all ≡ docs ++ more) × HoldAll from same target names lines files more)
unfolding docs_from
sources_held from same target [] lines docs all files due l h = let is : docs ≡ all = cc h in ([], (sym is ∙ sym (append-nil docs), tt))
sources_held from same target (name ∷ names) [] docs all files due l h = cc
sources_held from same target (name ∷ names) (line ∷ lines) docs all files due l h =
    let rest : map is_some lines ≡ map (λ n. due) names = cc l in
    let t = in_turn (document_in from name (password_from same target line) files) (λ doc. docs_from from same target names lines (docs ++ doc ∷ []) files) all h in
    let r = sources_held from same target names lines (docs ++ t.0 ∷ []) all files due rest t.1.1 in
    (t.0 ∷ r.0, (r.1.0 ∙ append_assoc docs (t.0 ∷ []) r.0, (source_held from same target line name files t.0 t.1.0, r.1.1)))

sources_given : (from : Access) (same : Bool) (target : Option (List ℕ)) (names : List (List ℕ)) (lines : List (Option (List ℕ)))
    (docs more : List BareDoc) (files : FileMap) → HoldAll from same target names lines files more
    → docs_from from same target names lines docs files ≡ Ok (docs ++ more)
unfolding docs_from
sources_given from same target [] lines docs [] files h = ap Ok (sym (append-nil docs))
sources_given from same target [] lines docs (doc ∷ more) files h = absurd h
sources_given from same target (name ∷ names) [] docs more files h = absurd h
sources_given from same target (name ∷ names) (line ∷ lines) docs [] files h = absurd h
sources_given from same target (name ∷ names) (line ∷ lines) docs (doc ∷ more) files h =
    ap (λ r. r >>= λ d. docs_from from same target names lines (docs ++ d ∷ []) files) (source_given from same target line name files doc h.0)
    ∙ sources_given from same target names lines (docs ++ doc ∷ []) more files h.1
    ∙ ap Ok (append_assoc docs (doc ∷ []) more)

all_held : (needs : Needs) (lines : Lines) (files : FileMap) (docs : List BareDoc) → HasLines needs lines → sources_of needs lines files ≡ Ok docs
    → HoldAll needs.from needs.same lines.password needs.sources lines.sources files docs
all_held needs lines files docs has h =
    let s = sources_held needs.from needs.same lines.password needs.sources lines.sources [] docs files (asks_passwords_from needs) has.have_passwords h in
    subst (λ (x : List BareDoc). HoldAll needs.from needs.same lines.password needs.sources lines.sources files x) (sym s.1.0) s.1.1

-- ---- the databases of a call

pub databases_held : (needs : Needs) (lines : Lines) (files : FileMap) (databases : Databases) → HasLines needs lines
    → databases_of needs lines files ≡ Ok databases → HoldDatabases needs lines files databases
unfolding databases_of
databases_held needs lines files databases has h =
    let t = in_turn (database_of needs lines.password files) (λ target. sources_of needs lines files >>= λ sources. Ok (record { target = target; sources = sources })) databases h in
    let s = in_turn (sources_of needs lines files) (λ sources. Ok (record { target = t.0; sources = sources })) databases t.1.1 in
    let is : ◌≡◌ {A = Databases} (record { target = t.0; sources = s.0 }) databases = cc s.1.1 in
    subst (λ (x : Databases). HoldDatabases needs lines files x) is
    (record { target = database_held needs lines.password files t.0 t.1.0; sources = all_held needs lines files s.0 has s.1.0 })

pub databases_given : (needs : Needs) (lines : Lines) (files : FileMap) (databases : Databases) → HoldDatabases needs lines files databases
    → databases_of needs lines files ≡ Ok databases
unfolding databases_of
databases_given needs lines files databases h =
    ap (λ r. r >>= λ target. sources_of needs lines files >>= λ sources. Ok (record { target = target; sources = sources }))
    (database_given needs lines.password files databases.target h.target)
    ∙ ap (λ r. r >>= λ sources. Ok (record { target = databases.target; sources = sources }))
    (sources_given needs.from needs.same lines.password needs.sources lines.sources [] databases.sources files h.sources)
