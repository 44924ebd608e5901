-- What the commands make of a document that move nodes, remove them and make groups.
use Rattle.std.specs.Prelude.{ℕ, Bool, if◌then◌else◌, List, [], codes, Option, None, Some, Result, Ok, Err}
use Rattle.std.specs.Io.BufRead.{ends_with_byte}
use Rattle.outside_core.specs.Results.{◌>>=◌}
use Rattle.vault_model.specs.Db.{NodeId}
use Rattle.vault_model.specs.Tree.{BareDoc, Tree}
use Rattle.vault_model.specs.Walk.{name_of}
use Rattle.tree_core.specs.Finding.{without_slashes}
use Rattle.tree_core.specs.After.{AfterRemoval, after_make_group, after_move_entry, after_move_group, after_remove_entry, after_remove_group, group_named}
use Rattle.tree_core.specs.NewPaths.{after_last}
use Rattle.tree_core.specs.declared.fails.TreeFail.{TreeFail}
use Rattle.cli_messages.specs.declared.answers.Refusal.{Refusal}
use Rattle.cli_changes.specs.Entries.{AfterCommand, entry_title, time_of}
use Rattle.cli_changes.specs.Fails.{change_or_refusal}
use Rattle.cli_changes.specs.Reports.{removal_report, report}

-- The name of the group that was found.
abbrev pub found_name : Result Tree TreeFail → List ℕ
found_name (Ok t) = name_of t
found_name (Err why) = []

-- The name of the group that a path names.
abbrev pub group_name : List ℕ → BareDoc → List ℕ
group_name path d = found_name (group_named path d)

-- ---- mkdir

-- A document with a group more, at a moment.
abbrev pub with_group_at : List ℕ → NodeId → ℕ → BareDoc → Result BareDoc TreeFail
with_group_at path id now d = time_of now >>= λ time. after_make_group path id time d

-- What `mkdir` makes of the document of a file: a group more, with this id. It reports the group's
-- name.
unfoldable pub after_mkdir : List ℕ → Bool → List ℕ → NodeId → ℕ → BareDoc
    → Result AfterCommand Refusal
after_mkdir file quiet path id now d = do
  new ← change_or_refusal file (with_group_at path id now d)
  Ok (record {
    text = report quiet (codes "added group ") (after_last (without_slashes path)) None;
    doc = new;
  })

-- ---- mv

-- A word names a group: it ends with a slash.
abbrev pub names_group : List ℕ → Bool
names_group word = ends_with_byte 47 word

-- A document with an entry in another group, at a moment.
abbrev pub with_entry_moved_at : List ℕ → List ℕ → ℕ → BareDoc → Result BareDoc TreeFail
with_entry_moved_at path group now d = time_of now >>= λ time. after_move_entry path group time d

-- What `mv` makes of the document of a file whose entry it moves. It reports the entry's title and
-- the word that names the group.
unfoldable pub after_entry_move : List ℕ → Bool → (path group : List ℕ) → ℕ → BareDoc
    → Result AfterCommand Refusal
after_entry_move file quiet path group now d = do
  new ← change_or_refusal file (with_entry_moved_at path group now d)
  Ok (record {
    text = report quiet (codes "moved entry ") (entry_title path d) (Some group);
    doc = new;
  })

-- A document with a group in another, at a moment.
abbrev pub with_group_moved_at : List ℕ → List ℕ → ℕ → BareDoc → Result BareDoc TreeFail
with_group_moved_at path group now d = time_of now >>= λ time. after_move_group path group time d

-- What `mv` makes of the document of a file whose group it moves. It reports the group's name and
-- the word that names the other group.
unfoldable pub after_group_move : List ℕ → Bool → (path group : List ℕ) → ℕ → BareDoc
    → Result AfterCommand Refusal
after_group_move file quiet path group now d = do
  new ← change_or_refusal file (with_group_moved_at path group now d)
  Ok (record {
    text = report quiet (codes "moved group ") (group_name path d) (Some group);
    doc = new;
  })

-- What `mv` makes of the document of a file: the node that the first word names, a group where that
-- ends with a slash and else an entry, is in the group that the second names.
abbrev pub after_mv : List ℕ → Bool → (path group : List ℕ) → ℕ → BareDoc
    → Result AfterCommand Refusal
after_mv file quiet path group now d =
    if names_group path then after_group_move file quiet path group now d
    else after_entry_move file quiet path group now d

-- ---- rm

-- A document without an entry, or with it in the bin, at a moment.
abbrev pub without_entry_at : List ℕ → Option NodeId → ℕ → BareDoc → Result AfterRemoval TreeFail
without_entry_at path bin now d = time_of now >>= λ time. after_remove_entry path bin time d

-- What `rm` makes of the document of a file, with the id of a bin that has to be made. It reports
-- what became of the entry, by its title.
unfoldable pub after_rm : List ℕ → Bool → List ℕ → Option NodeId → ℕ → BareDoc
    → Result AfterCommand Refusal
after_rm file quiet path bin now d = do
  after ← change_or_refusal file (without_entry_at path bin now d)
  Ok (record {
    text = removal_report quiet after.removed (codes "recycled entry ") (codes "deleted entry ")
        (entry_title path d);
    doc = after.doc;
  })

-- ---- rmdir

-- A document without a group, or with it in the bin, at a moment.
abbrev pub without_group_at : List ℕ → Option NodeId → ℕ → BareDoc → Result AfterRemoval TreeFail
without_group_at path bin now d = time_of now >>= λ time. after_remove_group path bin time d

-- What `rmdir` makes of the document of a file, with the id of a bin that has to be made. It
-- reports what became of the group, by its name.
unfoldable pub after_rmdir : List ℕ → Bool → List ℕ → Option NodeId → ℕ → BareDoc
    → Result AfterCommand Refusal
after_rmdir file quiet path bin now d = do
  after ← change_or_refusal file (without_group_at path bin now d)
  Ok (record {
    text = removal_report quiet after.removed (codes "recycled group ") (codes "deleted group ")
        (group_name path d);
    doc = after.doc;
  })
