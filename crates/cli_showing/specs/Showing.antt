-- What `show` and `search` print.
use Rattle.std.specs.Prelude.{ℕ, Bool, true, not, ◌&&◌, if◌then◌else◌, List, [], ◌∷◌, ◌++◌, bytes_eq, codes, flat_map, length, Option, None, Some, Result, Ok, Err}
use Rattle.std.specs.Fmt.{decimal}
use Rattle.std.specs.List.{filter, find, list_any}
use Rattle.std.specs.Option.{ok_or, option_map}
use Rattle.outside_core.specs.Results.{◌>>=◌}
use Rattle.uuid.specs.Text.{hyphenated_text, lower}
use Rattle.vault_model.specs.Bare.{BareAttachment, BareField}
use Rattle.vault_model.specs.Db.{NodeId}
use Rattle.vault_model.specs.Shape.{BareVersion, EntryRecord}
use Rattle.vault_model.specs.Tree.{BareDoc}
use Rattle.tree_core.specs.After.{Holding, entry_named}
use Rattle.tree_core.specs.Histories.{version_numbered}
use Rattle.tree_core.specs.declared.fails.TreeFail.{TreeFail}
use Rattle.find_references.specs.Terms.{terms_of}
use Rattle.find_references.specs.declared.fail.FindFail.{FindFail}
use Rattle.find_references.specs.Fields.{fields_of, is_other, named_keys}
use Rattle.find_references.specs.Resolved.{resolved}
use Rattle.find_core.specs.Search.{entries_found}
use Rattle.cli_messages.specs.Messages.{refusal_of}
use Rattle.cli_messages.specs.declared.answers.Reason.TheVariants.{NoAttribute, NoResult, NoSuchPath, NoVersion}
use Rattle.cli_messages.specs.declared.answers.Refusal.{Refusal}
use Rattle.cli_codes.specs.Codes.{code_line, code_or_refusal}
use Rattle.cli_showing.specs.Paths.{paths_found}
use Rattle.cli_showing.specs.Refusals.{found_or_refusal}

-- ---- values

-- A value as it is shown: `PROTECTED` where it is hidden and hidden values are not to be shown in
-- clear, and otherwise the value with its references resolved.
abbrev pub value_shown : BareDoc → (clear : Bool) → BareField → Result (List ℕ) FindFail
value_shown doc clear field =
    if field.hidden && not clear then Ok (codes "PROTECTED") else resolved doc field.value

-- A text after which a value is put, and the end of its line.
abbrev pub with_value : BareDoc → (clear : Bool) → BareField → List ℕ → Result (List ℕ) FindFail
with_value doc clear field text = do
  value ← value_shown doc clear field
  Ok ((text ++ value) ++ codes "\n")

-- The same of a field that an entry may lack. Then the line has no value.
abbrev pub with_value_of : BareDoc → (clear : Bool) → Option BareField → List ℕ
    → Result (List ℕ) FindFail
with_value_of doc clear None text = Ok (text ++ codes "\n")
with_value_of doc clear (Some field) text = with_value doc clear field text

-- A text after which a key is put, and what is between a key and its value.
abbrev pub with_key : List ℕ → List ℕ → List ℕ
with_key key text = (text ++ key) ++ codes ": "

-- The field of a key.
abbrev pub field_of : List ℕ → List BareField → Option BareField
field_of key fields = find (λ (f : BareField). bytes_eq key f.key) fields

-- ---- lines of values

-- A text after which a line `KEY: VALUE` is put for each of these keys.
abbrev pub with_keys : BareDoc → (clear : Bool) → List BareField → List (List ℕ) → List ℕ
    → Result (List ℕ) FindFail
with_keys doc clear fields [] text = Ok text
with_keys doc clear fields (key ∷ keys) text =
    with_value_of doc clear (field_of key fields) (with_key key text)
    >>= with_keys doc clear fields keys

-- A text after which such a line is put for each of these fields.
abbrev pub with_fields : BareDoc → (clear : Bool) → List BareField → List ℕ
    → Result (List ℕ) FindFail
with_fields doc clear [] text = Ok text
with_fields doc clear (field ∷ fields) text =
    with_value doc clear field (with_key field.key text) >>= with_fields doc clear fields

-- A text after which the values of the fields of these names are put, hidden ones too, each on a
-- line.
abbrev pub with_names : BareDoc → List BareField → List (List ℕ) → List ℕ
    → Result (List ℕ) FindFail
with_names doc fields [] text = Ok text
with_names doc fields (name ∷ names) text =
    with_value_of doc true (field_of name fields) text >>= with_names doc fields names

-- ---- an entry

-- The lines of an entry's id and its tags.
abbrev pub id_and_tags : NodeId × EntryRecord → List ℕ
id_and_tags e = codes "Uuid: {" ++ hyphenated_text lower e.0 ++ codes "}\nTags: "
    ++ e.1.current.mark.content.tags ++ codes "\n"

-- Those of an entry's fields that are shown after title, user name, password, URL and notes. Their
-- keys rise in every document.
abbrev pub others_shown : (all : Bool) → List BareField → List BareField
others_shown all fields = if all then filter is_other fields else []

-- A text after which the lines of an entry's fields are put.
abbrev pub with_fields_shown : BareDoc → (clear all : Bool) → List BareField → List ℕ
    → Result (List ℕ) FindFail
with_fields_shown doc clear all fields text =
    with_keys doc clear fields named_keys text
    >>= with_fields doc clear (others_shown all fields)

-- What is shown of an entry where no fields are named.
abbrev pub whole_entry : BareDoc → (clear all : Bool) → NodeId × EntryRecord
    → Result (List ℕ) FindFail
whole_entry doc clear all e = do
  text ← with_fields_shown doc clear all (fields_of e.1) []
  Ok (text ++ id_and_tags e)

-- The values that are shown of an entry: all, or those of the fields that are named.
abbrev pub values_shown : BareDoc → (clear all : Bool) → List (List ℕ) → NodeId × EntryRecord
    → Result (List ℕ) FindFail
values_shown doc clear all [] e = whole_entry doc clear all e
values_shown doc clear all (name ∷ names) e = with_names doc (fields_of e.1) (name ∷ names) []

-- The line of an attachment.
abbrev pub attachment_line : BareAttachment → List ℕ
attachment_line a =
    codes "  " ++ a.name ++ codes " (" ++ decimal (length a.bytes) ++ codes " bytes)\n"

-- A text after which an entry's attachments are put, where they are asked for.
abbrev pub with_attachments : (attachments : Bool) → EntryRecord → List ℕ → List ℕ
with_attachments attachments e text = if attachments
    then (text ++ codes "Attachments:\n")
    ++ flat_map attachment_line e.current.mark.content.attachments
    else text

-- What is shown of an entry.
abbrev pub entry_text : BareDoc → (clear all attachments : Bool) → List (List ℕ)
    → NodeId × EntryRecord → Result (List ℕ) FindFail
entry_text doc clear all attachments names e = do
  text ← values_shown doc clear all names e
  Ok (with_attachments attachments e.1 text)

-- ---- `show`

-- The entry that was found in the document of a file, or the refusal.
abbrev pub entry_or_refusal : List ℕ → Result Holding TreeFail
    → Result (NodeId × EntryRecord) Refusal
entry_or_refusal file (Ok held) = Ok held.entry
entry_or_refusal file (Err why) = Err (refusal_of NoSuchPath file)

-- An entry with another version in the place of its current one.
abbrev pub with_current : NodeId × EntryRecord → BareVersion → NodeId × EntryRecord
with_current e version = (e.0, record e.1 { current = version })

-- An entry with its version of a number in the place of its current one, which itself is 0.
abbrev pub version_shown : (at : ℕ) → NodeId × EntryRecord → Option (NodeId × EntryRecord)
version_shown at e = option_map (with_current e) (version_numbered at e.1)

-- The same, or the refusal of a number that no version of the entry has.
abbrev pub version_or_refusal : List ℕ → (at : ℕ) → NodeId × EntryRecord
    → Result (NodeId × EntryRecord) Refusal
version_or_refusal file at e = ok_or (version_shown at e) (refusal_of (NoVersion at) file)

-- A name of a field that is not among these. Title, user name, password, URL and notes are never
-- missing.
abbrev pub is_missing : List BareField → List ℕ → Bool
is_missing fields name = not (list_any (bytes_eq name) named_keys)
    && not (list_any (λ (f : BareField). bytes_eq name f.key) fields)

-- The refusal of the first name of a field that is missing.
abbrev pub refuse_missing : List ℕ → Option (List ℕ) → Result (Unit {0}) Refusal
refuse_missing file None = Ok tt
refuse_missing file (Some name) = Err (refusal_of (NoAttribute name) file)

-- What `show` prints of the document of a file, or why it refuses: the path names no entry; the
-- entry has no version of this number; a field that is named is missing; a value has too many
-- references, or is too long once they are resolved. What is shown is that version of the entry,
-- with its references resolved in the document as it is.
unfoldable pub entry_shown : List ℕ → (clear all attachments : Bool) → List (List ℕ) → (at : ℕ)
    → List ℕ → BareDoc → Result (List ℕ) Refusal
entry_shown file clear all attachments names at path doc = do
  entry ← entry_or_refusal file (entry_named path doc)
  version ← version_or_refusal file at entry
  _ ← refuse_missing file (find (is_missing (fields_of version.1)) names)
  found_or_refusal file (entry_text doc clear all attachments names version)

-- ---- `show -t`

-- A text after which the line of an entry's one-time code is put, or the refusal.
abbrev pub with_code : List ℕ → List BareField → ℕ → List ℕ → Result (List ℕ) Refusal
with_code file fields now text =
    code_or_refusal file (code_line fields now) >>= λ line. Ok (text ++ line)

-- What `show -t` prints of the document of a file at a moment, or why it refuses: the values of the
-- fields that are named, each on a line, and then the line of the one-time code, of the entry's
-- version of this number.
unfoldable pub code_shown : List ℕ → List (List ℕ) → (at : ℕ) → List ℕ → ℕ → BareDoc
    → Result (List ℕ) Refusal
code_shown file names at path now doc = do
  entry ← entry_or_refusal file (entry_named path doc)
  version ← version_or_refusal file at entry
  _ ← refuse_missing file (find (is_missing (fields_of version.1)) names)
  text ← found_or_refusal file (with_names doc (fields_of version.1) names [])
  with_code file (fields_of version.1) now text

-- ---- `search`

-- The paths of the entries of these ids, of which there is one at least.
abbrev pub paths_or_refusal : List ℕ → List NodeId → BareDoc → Result (List ℕ) Refusal
paths_or_refusal file [] doc = Err (refusal_of NoResult file)
paths_or_refusal file (id ∷ ids) doc = Ok (paths_found (id ∷ ids) doc)

-- What `search` prints of the document of a file: the paths of the entries that match all terms, in
-- document order. It refuses a term without a text, and terms that no entry matches.
unfoldable pub entries_shown : List ℕ → List ℕ → BareDoc → Result (List ℕ) Refusal
entries_shown file words doc = do
  terms ← found_or_refusal file (terms_of words)
  paths_or_refusal file (entries_found terms doc) doc
