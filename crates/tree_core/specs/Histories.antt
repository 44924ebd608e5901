-- The history of an entry that is edited: in rising order, and within its limits.
use Rattle.std.specs.Prelude.{ℕ, ℤ, Bool, true, ◌&&◌, ◌+◌, cond, List, [], ◌∷◌, map, length, reverse, slice_get, sum, nat_le, negsuc, pos, Option}
use Rattle.std.specs.FinMap.{entries}
use Rattle.vault_model.specs.Bare.{BareAttachment, BareContent, BareField}
use Rattle.vault_model.specs.Shape.{BareVersion, EntryRecord, version_of, versions_of}

-- all versions of an entry, the current one too, in rising order; those of one mark are one
abbrev pub rising_versions : EntryRecord → List BareVersion
rising_versions e = map version_of (entries (versions_of e))

-- the bytes of a field
abbrev pub field_size : BareField → ℕ
field_size f = length f.key + length f.value

-- the bytes of an attachment
abbrev pub attachment_size : BareAttachment → ℕ
attachment_size a = length a.name + length a.bytes

-- the size of what a version says: the bytes of its fields and of its attachments
abbrev pub content_size : BareContent → ℕ
content_size c = sum (map field_size c.fields) + sum (map attachment_size c.attachments)

-- the size of versions
abbrev pub versions_size : List BareVersion → ℕ
versions_size versions = sum (map (λ (v : BareVersion). content_size v.mark.content) versions)

-- a number is within a limit; a negative limit is none
abbrev pub is_within : ℕ → ℤ → Bool
is_within n (pos limit) = nat_le n limit
is_within n (negsuc k) = true

-- the longest suffix of a history with at most so many versions and of at most this size
abbrev pub within_limits : ℤ → ℤ → List BareVersion → List BareVersion
within_limits items size [] = []
within_limits items size (v ∷ vs) =
    cond (is_within (length (v ∷ vs)) items && is_within (versions_size (v ∷ vs)) size) (v ∷ vs)
    (within_limits items size vs)

-- an entry whose history is within the limits
abbrev pub settled_history : ℤ → ℤ → EntryRecord → EntryRecord
settled_history items size e = record e { history = within_limits items size e.history }

-- the versions of an entry by their numbers: the current one is 0, the newest of its history, which
-- is the last there, 1, and so on
abbrev pub numbered_versions : EntryRecord → List BareVersion
numbered_versions e = e.current ∷ reverse e.history

-- the version that has a number
abbrev pub version_numbered : ℕ → EntryRecord → Option BareVersion
version_numbered number e = slice_get (numbered_versions e) number

-- an entry with another version; all that it had are its history, in rising order
abbrev pub with_version : BareVersion → EntryRecord → EntryRecord
with_version v e = record e { current = v; history = rising_versions e }
