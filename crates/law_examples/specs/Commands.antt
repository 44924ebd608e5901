-- Conditions of commands that hold of small databases.
use Rattle.std.specs.Prelude.{◌≤◌, ℕ, true, false, List, [], ◌∷◌, None, Some, codes}
use Rattle.time_core.specs.Times.{last_stamp}
use Rattle.vault_model.specs.Db.{NodeId, nil_id}
use Rattle.vault_model.specs.Shape.{BareVersion}
use Rattle.vault_model.specs.Tree.{BareDoc, node, none}
use Rattle.merge_core.specs.Example.{as_it_was, bank, edited, entry, group, home, meta, moved, root, version}
use Rattle.frame_laws.specs.Example.{with_key, without_bin}
use Rattle.agreed_laws.specs.Merges.{AreDocs}
use Rattle.cli_codes.specs.Codes.{EPOCH}
use Rattle.cli_needs.specs.declared.command.Access.{Access}
use Rattle.cli_needs.specs.declared.command.Asked.{Asked}
use Rattle.cli_needs.specs.declared.command.Command.{Command}
use Rattle.cli_needs.specs.declared.command.Command.TheVariants.{Ls, Show, History, Search, Add, Edit, Restore, ExportAttachment, ImportAttachment, RemoveAttachment, Move, Remove, MakeGroup, RemoveGroup, Merge, Import, Export, Info}
use Rattle.cli_needs.specs.declared.command.ExportFormat.TheVariants as format
use Rattle.cli_needs.specs.declared.command.FurtherAsked.{FurtherAsked}
use Rattle.cli_needs.specs.declared.command.ImportFormat.TheVariants as import_format
use Rattle.cli_commands.specs.Commands.{Inputs}
use Rattle.content_condition_laws.specs.Conditions.{CanShowCode}
use Rattle.call_conditions.specs.Conditions.{CanChange}

-- ---- a code

-- a version of an entry, of whose field `otp` one-time codes are made
abbrev pub coded_version : BareVersion
coded_version = record (version 10 (codes "Bank") []) {
  mark = record (version 10 (codes "Bank") []).mark {
    content = record (version 10 (codes "Bank") []).mark.content {
      fields = record { key = codes "Title"; value = codes "Bank"; hidden = false } ∷ record {
        key = codes "otp";
        value = codes "otpauth://totp/?secret=GE";
        hidden = true;
      } ∷ [];
    };
  };
}

-- a database of this entry alone
abbrev pub coded : BareDoc
coded = record {
  tree = node root (group 10 (codes "Root")) ((bank, entry 10 nil_id coded_version []) ∷ []) none;
  tombs = [];
  meta = meta;
}

-- Its code can be shown in the first second of 1970, after its title.
abbrev pub ExampleCode : Type 0
ExampleCode = CanShowCode (codes "Bank") (codes "Title" ∷ []) 0 EPOCH coded

-- ---- commands

-- a database is a plain file
abbrev pub plainly : Access
plainly = record { plain = true; quiet = false; key_file = None; no_password = false }

-- no value of an entry is asked for
abbrev pub nothing_asked : Asked
nothing_asked = record {
  title = None;
  user = None;
  url = None;
  notes = None;
  password = false;
  generated = None;
  otp = false;
}

-- a tag is put to an entry
abbrev pub one_tag : FurtherAsked
one_tag = record {
  set = [];
  protect = false;
  unset = [];
  tags = codes "home" ∷ [];
  untags = [];
  expiry = None;
}

-- A command is given no line of the input on a plain file, a file of one byte where it puts one into
-- its database, and these sources.
abbrev pub given_only : List BareDoc → Inputs
given_only sources = record {
  line = None;
  otp = None;
  fields = [];
  attached = Some (codes "k");
  sources = sources;
  settings = None;
  passed_over = [];
}

-- The premises of the law of a command that is given no more than that.
pub record MeetsConditions (time : ℕ) (command : Command) (sources : List BareDoc) (id : NodeId)
    (d : BareDoc) : Type 0 where
  pub in_calendar : time ≤ last_stamp
  pub docs : AreDocs (d ∷ sources)
  pub can : CanChange time command (given_only sources) id d

-- Each command meets them on some database.
pub record ExampleCommands : Type 0 where
  pub list : MeetsConditions 50 (Ls plainly (codes "a.xml") None false false false) [] nil_id
      as_it_was
  pub show : MeetsConditions 50
      (Show plainly (codes "a.xml") (codes "Bank") false true false [] false 0) [] nil_id as_it_was
  pub code : MeetsConditions EPOCH
      (Show plainly (codes "a.xml") (codes "Bank") false false false (codes "Title" ∷ []) true 0) []
      nil_id coded
  pub history : MeetsConditions 50 (History plainly (codes "a.xml") (codes "Bank")) [] nil_id
      as_it_was
  pub search : MeetsConditions 50 (Search plainly (codes "a.xml") (codes "bank")) [] nil_id
      as_it_was
  pub add : MeetsConditions 50 (Add plainly (codes "a.xml") (codes "Work/Chat") nothing_asked) []
      home as_it_was
  pub edit : MeetsConditions 50
      (Edit plainly (codes "a.xml") (codes "Bank") nothing_asked one_tag) [] nil_id as_it_was
  pub restore : MeetsConditions 50 (Restore plainly (codes "a.xml") (codes "Bank") 1) [] nil_id
      edited
  pub export_attachment : MeetsConditions 50
      (ExportAttachment plainly (codes "a.xml") (codes "Bank") (codes "key")
      (Some (codes "key.bin"))) [] nil_id with_key
  pub import_attachment : MeetsConditions 50
      (ImportAttachment plainly (codes "a.xml") (codes "Bank") (codes "key") (codes "key.bin")
      false) [] nil_id as_it_was
  pub remove_attachment : MeetsConditions 50
      (RemoveAttachment plainly (codes "a.xml") (codes "Bank") (codes "key")) [] nil_id with_key
  pub move_entry : MeetsConditions 50 (Move plainly (codes "a.xml") (codes "Bank") (codes "Work"))
      [] nil_id as_it_was
  pub move_group : MeetsConditions 50 (Move plainly (codes "a.xml") (codes "Work/") (codes "Home"))
      [] nil_id edited
  pub delete_entry : MeetsConditions 50 (Remove plainly (codes "a.xml") (codes "Mail")) [] nil_id
      as_it_was
  pub recycle_entry : MeetsConditions 50 (Remove plainly (codes "a.xml") (codes "Mail")) [] home
      without_bin
  pub make_group : MeetsConditions 50 (MakeGroup plainly (codes "a.xml") (codes "Home")) [] home
      as_it_was
  pub delete_group : MeetsConditions 50 (RemoveGroup plainly (codes "a.xml") (codes "Work")) []
      nil_id as_it_was
  pub recycle_group : MeetsConditions 50 (RemoveGroup plainly (codes "a.xml") (codes "Work")) []
      home without_bin
  pub merge : MeetsConditions 50
      (Merge plainly (codes "a.xml") (codes "b.xml" ∷ codes "c.xml" ∷ []) plainly false false false)
      (edited ∷ moved ∷ []) nil_id as_it_was
  pub make_by_import : MeetsConditions 50
      (Import plainly import_format.Xml (codes "b.xml") plainly (codes "a.xml")) [] nil_id as_it_was
  pub table : MeetsConditions 50 (Export plainly format.Csv (codes "a.xml")) [] nil_id as_it_was
  pub document : MeetsConditions 50 (Export plainly format.Xml (codes "a.xml")) [] nil_id as_it_was
  pub info : MeetsConditions 50 (Info plainly (codes "a.xml")) [] nil_id as_it_was
