-- The entry that an item gives, with its versions.
use Rattle.std.specs.Prelude.{ℕ, ◌+◌, if◌then◌else◌, List, ◌∷◌, codes, map, nat_le, Result, Ok, Err}
use Rattle.bitwarden_fields.specs.Said.{fields_of, login_of}
use Rattle.bitwarden_fields.specs.BitwardenForms.Json.{text}
use Rattle.bitwarden_fields.specs.BitwardenForms.declared.fails.BitwardenFail.{BitwardenFail}
use Rattle.bitwarden_fields.specs.BitwardenForms.declared.fails.BitwardenFail.TheVariants as fail
use Rattle.bitwarden_items.specs.Passwords.{EarlierPassword, date_or, earlier_passwords}
use Rattle.bitwarden_fields.specs.ImportTree.Entries.{content_at}
use Rattle.outside_core.specs.Results.{◌>>=◌}
use Rattle.serde_json.specs.Data.{Data}
use Rattle.time_core.specs.Times.{last_stamp}
use Rattle.vault_model.specs.Db.{NodeId, greatest, nil_id}
use Rattle.vault_model.specs.Shape.{BareVersion, EntryRecord}

-- when an item was made, which is this moment where it does not say it
abbrev pub created_at : ℕ → Data → ℕ
created_at now item = date_or now (codes "creationDate") item

-- when an item was changed last: at the date that it says, or else at this moment, and after each of
-- the passwords that it had before
abbrev pub modified_at : ℕ → Data → ℕ
modified_at now item =
    greatest (date_or now (codes "revisionDate") item
    ∷ map (λ (p : EarlierPassword). p.date + 1) (earlier_passwords now item))

-- an item as a version with this password, which was modified then
abbrev pub version_at : ℕ → Data → List ℕ → ℕ → BareVersion
version_at now item password modified = record {
  mark = record {
    modified = modified;
    content = content_at now (created_at now item) (fields_of password item);
  };
  stats = record { accessed = now; usage = 0 };
}

-- a version with a password that an item had before
abbrev pub earlier_version : ℕ → Data → EarlierPassword → BareVersion
earlier_version now item p = version_at now item p.password p.date

-- the password of an item
abbrev pub password_of : Data → List ℕ
password_of item = text (codes "password") (login_of item)

-- the entry of an item that was modified then, put there at a moment
abbrev pub entry_modified : ℕ → Data → ℕ → EntryRecord
entry_modified now item modified = record {
  placed = now;
  previous = nil_id;
  current = version_at now item (password_of item) modified;
  history = map (earlier_version now item) (earlier_passwords now item);
}

-- a time up to the last second of the year 9999
abbrev pub in_time : ℕ → Result ℕ BitwardenFail
in_time time = if nat_le time last_stamp then Ok time else Err (fail.StampLimit time)

-- The entry of an item, under this id.
abbrev pub item_row : ℕ → NodeId → Data → Result (NodeId × EntryRecord) BitwardenFail
item_row now id item = do
  modified ← in_time (modified_at now item)
  Ok (id, entry_modified now item modified)
