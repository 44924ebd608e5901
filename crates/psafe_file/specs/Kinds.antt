-- The types of the fields of a record that are read (formatV3.txt, section 3.3), and what their
-- contents are.
use Rattle.std.specs.Prelude.{ℕ, ◌+◌, ◌==◌, ◌||◌, ◌&&◌, nat_lt, nat_le, Bool, not, if◌then◌else◌, Option, None, Some, List, length}
use Rattle.std.specs.Str.{is_utf8}
use Rattle.std.specs.Int.{from_le_bytes, w64}
use Rattle.time_core.specs.Times.{last_stamp}

-- The id of a record.
abbrev pub id_kind : ℕ
id_kind = 1

-- The names of its groups, with a dot between each two.
abbrev pub group_kind : ℕ
group_kind = 2

-- Its title.
abbrev pub title_kind : ℕ
title_kind = 3

-- The name of its user.
abbrev pub user_kind : ℕ
user_kind = 4

-- Its notes.
abbrev pub notes_kind : ℕ
notes_kind = 5

-- Its password.
abbrev pub password_kind : ℕ
password_kind = 6

-- When it was created.
abbrev pub created_kind : ℕ
created_kind = 7

-- When it was changed.
abbrev pub modified_kind : ℕ
modified_kind = 12

-- Its URL.
abbrev pub url_kind : ℕ
url_kind = 13

-- The passwords that it had before, in a form that is not read.
abbrev pub history_kind : ℕ
history_kind = 15

-- A type of fields whose content is a text.
abbrev pub is_text_kind : ℕ → Bool
is_text_kind kind = (nat_le 2 kind && nat_le kind 6) || (kind == url_kind) || (kind == history_kind)

-- A type of fields whose content is a time.
abbrev pub is_time_kind : ℕ → Bool
is_time_kind kind = (kind == created_kind) || (kind == modified_kind)

-- A time has 4, 5 or 8 bytes; one of any other length is passed over.
abbrev pub has_time : List ℕ → Bool
has_time content = (length content == 4) || (length content == 5) || (length content == 8)

-- The seconds from 0001-01-01T00:00:00Z to a time, which is kept as the seconds from
-- 1970-01-01T00:00:00Z, the least byte first; the bytes that a shorter one lacks are 0.
abbrev pub seconds_of : List ℕ → ℕ
seconds_of content = 62135596800 + from_le_bytes w64 content

-- The moment that the content of a field is, where it is one of the years up to 9999.
abbrev pub moment_of : List ℕ → Option ℕ
moment_of content =
    if has_time content && nat_le (seconds_of content) last_stamp then Some (seconds_of content)
    else None

-- A time after the year 9999.
abbrev pub is_late : List ℕ → Bool
is_late content = has_time content && nat_lt last_stamp (seconds_of content)

-- The content of a field of this type in a record is not what it must be: a text that is not UTF-8,
-- an id that has not 16 bytes, or a time after the year 9999.
abbrev pub is_faulty : ℕ → List ℕ → Bool
is_faulty kind content =
    if is_text_kind kind then not (is_utf8 content)
    else if kind == id_kind then not (length content == 16)
    else is_time_kind kind && is_late content
