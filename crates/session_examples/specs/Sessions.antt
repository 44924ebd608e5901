-- A session on a small plain document, of which one line makes a group and another lists them.
use Rattle.std.specs.Prelude.{◌≡◌, ◌≢◌, ℕ, true, false, List, [], None, Some, codes, replicate}
use Rattle.std.specs.FinMap.{empty, insert}
use Rattle.outside_core.specs.Files.{FileMap}
use Rattle.stream_core.specs.InnerStream.{NoKeystream}
use Rattle.vault_model.specs.declared.forms.DocForm.TheVariants.{Plain}
use Rattle.vault_model.specs.Tree.{BareDoc, node, none}
use Rattle.merge_core.specs.Example.{group, meta, root}
use Rattle.doc_spelling.specs.Documents.{spelled_document}
use Rattle.cli_writing.specs.Writing.{NewFile}
use Rattle.session_core.specs.Sessions.{SessionState, session}
use Rattle.cli_sessions.specs.declared.opening.SessionDatabase.{SessionDatabase}
use Rattle.session_core.specs.ReadsBack.{SessionReadsBack}
use Rattle.session_laws.specs.SessionLaws.{IsInFiles, IsItsLines}

-- A document with nothing in its root group.
abbrev pub bare : BareDoc
bare = record { tree = node root (group 10 (codes "Root")) [] none; tombs = []; meta = meta }

-- Its text.
abbrev pub text : List ℕ
text = spelled_document Plain NoKeystream None bare

-- It is in a file.
abbrev pub one_file : FileMap
one_file = insert empty (codes "a.xml") text

-- That is opened as a plain document.
abbrev pub database : SessionDatabase
database = record {
  access = record { plain = true; quiet = false; key_file = None; no_password = false };
  file = codes "a.xml";
}

-- The moment of the session.
abbrev pub moment : ℕ
moment = 50

-- It was opened so, and three lines follow; there are bytes to draw an id from.
abbrev pub state : SessionState
state = record {
  opened = record { doc = bare; sealing = None; passed_over = [] };
  number = 1;
  input = codes "mkdir Bank\nls\nquit\n";
  dice = replicate 16 9;
}

-- The premises of the law, what it says, and that a file is written.
pub record IsSession : Type 0 where
  pub in_file : IsInFiles moment database None one_file state.opened
  pub apart : database.access.key_file ≢ Some database.file
  pub reads_back : SessionReadsBack moment database state
  pub is_lines : IsItsLines moment database None one_file state
  pub file : NewFile
  pub writes : (session moment database state).file ≡ Some file
