-- Two databases that differ in a password alone, so that each law speaks of something.
use Rattle.std.specs.Prelude.{◌≡◌, ◌≢◌, ℕ, true, List, [], ◌∷◌, codes, Ok, Some}
use Rattle.vault_model.specs.Db.{NodeId, nil_id}
use Rattle.vault_model.specs.Shape.{BareVersion, EntryRecord}
use Rattle.vault_model.specs.Tree.{BareDoc, node, none}
use Rattle.merge_core.specs.Example.{as_it_was, bank, entry, group, root, version}
use Rattle.tree_core.specs.After.{Holding, entry_named}
use Rattle.cli_showing.specs.Showing.{version_shown}
use Rattle.noninterference_laws.specs.Masks.{LookAlike, LooksAtNoSecret, is_marked, is_secret, shows_no_reference}

-- A version that has a password, which is marked hidden.
abbrev pub version_with : List ℕ → BareVersion
version_with password =
    let bare = version 10 (codes "Bank") (codes "a") in
    record bare {
      mark = record bare.mark {
        content = record bare.mark.content {
          fields = record { key = codes "Password"; value = password; hidden = true }
              ∷ bare.mark.content.fields;
        };
      };
    }

-- A database of one entry, which has this password.
abbrev pub database_with : List ℕ → BareDoc
database_with password = record as_it_was {
  tree = node root (group 10 (codes "Root"))
      ((bank, entry 10 nil_id (version_with password) []) ∷ []) none;
}

-- a database
abbrev pub one : BareDoc
one = database_with (codes "first")

-- the same with another password
abbrev pub other : BareDoc
other = database_with (codes "second")

-- They are not the same, and look alike; no value of the entry that is shown has a reference; and a
-- search for its title looks at no hidden value.
pub record ExampleDatabases : Type 0 where
  pub apart : one ≢ other
  pub alike : LookAlike is_secret one other
  pub marked : LookAlike is_marked one other
  pub plain : (held : Holding) (shown : NodeId × EntryRecord)
      → entry_named (codes "Bank") one ≡ Ok held → version_shown 0 held.entry ≡ Some shown
      → shows_no_reference true shown.1 ≡ true
  pub searched : LooksAtNoSecret (codes "bank") one
