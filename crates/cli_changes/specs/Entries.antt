-- What `add` and `edit` make of a document.
use Rattle.std.specs.Prelude.{◌≡◌, ℕ, Bool, if◌then◌else◌, nat_lt, List, [], zip, codes, Option, Result, Ok, Err}
use Rattle.std.specs.Option.{unwrap_or}
use Rattle.outside_core.specs.Results.{◌>>=◌}
use Rattle.secret_core.specs.Secret.{SecretBuffer}
use Rattle.time_core.specs.Times.{last_stamp}
use Rattle.vault_model.specs.Db.{NodeId}
use Rattle.vault_model.specs.Tree.{BareDoc}
use Rattle.vault_model.specs.Walk.{title_of}
use Rattle.tree_core.specs.After.{Holding, after_add, after_edit, entry_named}
use Rattle.tree_core.specs.FurtherChanges.{FurtherChange}
use Rattle.tree_core.specs.NewNodes.{GivenValues}
use Rattle.tree_core.specs.NewPaths.{after_last}
use Rattle.tree_core.specs.declared.fails.TreeFail.{TreeFail}
use Rattle.tree_core.specs.declared.fails.TreeFail.TheVariants.{StampLimit}
use Rattle.cli_messages.specs.Phases.{Stops}
use Rattle.cli_messages.specs.declared.answers.Refusal.{Refusal}
use Rattle.cli_messages.specs.declared.answers.Stop.{Stop}
use Rattle.cli_codes.specs.Codes.{code_refusal}
use Rattle.cli_needs.specs.declared.command.Asked.{Asked}
use Rattle.cli_needs.specs.declared.command.FurtherAsked.{FurtherAsked}
use Rattle.cli_changes.specs.Fails.{change_or_refusal, named_or_refusal}
use Rattle.cli_changes.specs.Texts.{report}

-- What a command makes of a document: what it reports, and the document after it.
pub record AfterCommand : Type 0 where
  pub text : List ℕ
  pub doc : BareDoc

-- The values that an entry is to have, with its password and what its one-time codes are made from,
-- where they are given.
abbrev pub values_of : Asked → (password otp : Option (List ℕ)) → GivenValues
values_of asked password otp = record {
  title = asked.title;
  user = asked.user;
  password = password;
  url = asked.url;
  notes = asked.notes;
  otp = otp;
}

-- What else of an entry is to change, with the values of its fields.
abbrev pub further_of : FurtherAsked → (values : List (List ℕ)) → FurtherChange
further_of asked values = record {
  set = zip asked.set values;
  protect = asked.protect;
  unset = asked.unset;
  tags = asked.tags;
  untags = asked.untags;
  expiry = asked.expiry;
}

-- A moment as a time of the calendar, which ends with the year 9999.
abbrev pub time_of : ℕ → Result ℕ TreeFail
time_of now = if nat_lt last_stamp now then Err (StampLimit now) else Ok now

-- ---- add

-- A document with an entry more, at a moment.
abbrev pub with_entry_at : List ℕ → NodeId → GivenValues → ℕ → BareDoc → Result BareDoc TreeFail
with_entry_at path id values now d = time_of now >>= λ time. after_add path id values time d

-- What `add` makes of the document of a file: an entry more, with this id. It reports the part of
-- the path after the last slash, which is the entry's title.
unfoldable pub after_add_command : List ℕ → Bool → List ℕ → NodeId → GivenValues → ℕ → BareDoc
    → Result AfterCommand Refusal
after_add_command file quiet path id values now d = do
  new ← change_or_refusal file (with_entry_at path id values now d)
  Ok (record { text = report quiet (codes "added") (after_last path); doc = new })

-- ---- edit

-- The title of the entry that was found.
abbrev pub held_title : Result Holding TreeFail → List ℕ
held_title (Ok held) = title_of held.entry.1
held_title (Err why) = []

-- The title of the entry that a path names.
abbrev pub entry_title : List ℕ → BareDoc → List ℕ
entry_title path d = held_title (entry_named path d)

-- The title that an entry has once it is edited, where a title may be given.
abbrev pub edited_title : Option (List ℕ) → List ℕ → BareDoc → List ℕ
edited_title given path d = unwrap_or given (entry_title path d)

-- A document with an entry edited, at a moment.
abbrev pub with_edited_at : List ℕ → GivenValues → FurtherChange → ℕ → BareDoc
    → Result BareDoc TreeFail
with_edited_at path values further now d =
    time_of now >>= λ time. after_edit path values further time d

-- What `edit` makes of the document of a file: an entry with other values, and what else is to change
-- of it. A text that no one-time codes are made from is refused before anything else; a field that
-- is to be taken away and is not there is refused by its name. It reports the title that the entry
-- has then.
unfoldable pub after_edit_command : List ℕ → Bool → List ℕ → GivenValues → FurtherChange → ℕ
    → BareDoc → Result AfterCommand Refusal
after_edit_command file quiet path values further now d = do
  _ ← code_refusal file values.otp
  new ← named_or_refusal file further.unset [] (with_edited_at path values further now d)
  Ok (record {
    text = report quiet (codes "edited") (edited_title values.title path d);
    doc = new;
  })

-- ---- how the code relates to it

-- A command reported what is defined and the document is the defined one; or it stopped, and the
-- document is as it was.
abbrev pub CommandChanges : Result SecretBuffer Stop → Result AfterCommand Refusal
    → (old new : BareDoc) → Type 0
CommandChanges (Ok text) defined old new = defined ≡ Ok (record { text = text.bytes; doc = new })
CommandChanges (Err stop) defined old new = Stops stop defined × (new ≡ old)
