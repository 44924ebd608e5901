-- What `edit --restore` makes of a document.
use Rattle.std.specs.Prelude.{ℕ, Bool, List, [], codes, Option, None, Some, Result, Ok, Err}
use Rattle.outside_core.specs.Results.{◌>>=◌}
use Rattle.vault_model.specs.Shape.{BareVersion}
use Rattle.vault_model.specs.Tree.{BareDoc}
use Rattle.vault_model.specs.Walk.{value_of}
use Rattle.tree_core.specs.After.{Holding, after_restore, entry_named}
use Rattle.tree_core.specs.Histories.{version_numbered}
use Rattle.tree_core.specs.declared.fails.TreeFail.{TreeFail}
use Rattle.cli_messages.specs.declared.answers.Refusal.{Refusal}
use Rattle.cli_changes.specs.Entries.{AfterCommand, time_of}
use Rattle.cli_changes.specs.Fails.{change_or_refusal}
use Rattle.cli_changes.specs.Texts.{report}

-- The title that a version says, if there is one.
abbrev pub title_in : Option BareVersion → List ℕ
title_in None = []
title_in (Some version) = value_of (codes "Title") version.mark.content.fields

-- The title that a version of the entry that was found says.
abbrev pub held_version_title : ℕ → Result Holding TreeFail → List ℕ
held_version_title number (Ok held) = title_in (version_numbered number held.entry.1)
held_version_title number (Err why) = []

-- The title that the entry that a path names has once it is restored.
abbrev pub restored_title : List ℕ → ℕ → BareDoc → List ℕ
restored_title path number d = held_version_title number (entry_named path d)

-- A document with a version of an entry restored, at a moment.
abbrev pub with_restored_at : List ℕ → ℕ → ℕ → BareDoc → Result BareDoc TreeFail
with_restored_at path number now d = time_of now >>= λ time. after_restore path number time d

-- What `edit --restore` makes of the document of a file: an entry that says what its version of this
-- number said. It reports the title that the entry has then, as every edit does.
unfoldable pub after_restore_command : List ℕ → Bool → List ℕ → ℕ → ℕ → BareDoc
    → Result AfterCommand Refusal
after_restore_command file quiet path number now d = do
  new ← change_or_refusal file (with_restored_at path number now d)
  Ok (record { text = report quiet (codes "edited") (restored_title path number d); doc = new })
