-- What each answer says: the program's status, and the line on standard error.
use Rattle.std.specs.Prelude.{◌≡◌, ℕ, List, [], ◌∷◌, ◌++◌, codes}
use Rattle.std.specs.Fmt.{decimal}
use Rattle.hex.specs.Hex.{encode_lower}
use Rattle.uuid.specs.Text.{hyphenated_text, lower}
use Rattle.cli_messages.specs.declared.answers.NeededVersion.{NeededVersion}
use Rattle.cli_messages.specs.declared.answers.NeededVersion.TheVariants as needed
use Rattle.cli_messages.specs.declared.answers.Reason.{Reason}
use Rattle.cli_messages.specs.declared.answers.Reason.TheVariants.{WrongWords, EmptyTerm, NoSuchPath, NameTaken, AlreadyThere, RootFixed, IntoItself, IdTaken, NoAttribute, NoAttachment, NoVersion, NoResult, FileExists, NeedsVersion, DamagedOrWrongKey, DamagedBlock, WrongKeyOrDamaged, WrongPassword, KeyFileHash, NotKdbx, NotPsafe, EndsEarly, BadHeaderField, BadDictionary, Form, MissingElement, BadValue, NilId, NilRecord, DuplicateId, BinaryRef, BadKeyFile, BadField, NotUtf8, NoTitleColumn, BadRow, BadJson, BadFolder, BadItem, LineForm, Version, UnknownId, StreamUnknown, Compressed, Variant, EncryptedExport, Clash, MoveCycle, NoSuchFile, TooLarge, Depth, TooDeep, TooMany, KdfLimit, IterLimit, StampLimit, LineLimit, TooMuch, NoOtp, OtpForm, OtpUnknown, OtpLimit, Spent, OutOfMemory, InputEnded}
use Rattle.cli_messages.specs.declared.answers.Refusal.{Refusal}
use Rattle.cli_messages.specs.declared.answers.Stop.{Stop}
use Rattle.cli_messages.specs.declared.answers.Stop.TheVariants.{Refused, FileFault, InputFault, NoMemory}

-- The program's status for an answer.
abbrev pub status_of : Reason → ℕ
status_of WrongWords = 1
status_of (EmptyTerm place) = 1
status_of NoSuchPath = 2
status_of NameTaken = 2
status_of AlreadyThere = 2
status_of RootFixed = 2
status_of (IntoItself id) = 2
status_of (IdTaken id) = 2
status_of (NoAttribute name) = 2
status_of (NoAttachment name) = 2
status_of (NoVersion number) = 2
status_of NoResult = 2
status_of FileExists = 2
status_of (NeedsVersion version) = 2
status_of (DamagedOrWrongKey kept found) = 3
status_of (DamagedBlock number) = 3
status_of WrongKeyOrDamaged = 3
status_of WrongPassword = 3
status_of (KeyFileHash kept found) = 3
status_of NotKdbx = 4
status_of NotPsafe = 4
status_of (EndsEarly place) = 4
status_of (BadHeaderField id) = 4
status_of (BadDictionary place) = 4
status_of (Form place) = 4
status_of (MissingElement place) = 4
status_of (BadValue place) = 4
status_of (NilId place) = 4
status_of (NilRecord number) = 4
status_of (DuplicateId id) = 4
status_of (BinaryRef number) = 4
status_of (BadKeyFile place) = 4
status_of (BadField place) = 4
status_of (NotUtf8 place) = 4
status_of NoTitleColumn = 4
status_of (BadRow number) = 4
status_of BadJson = 4
status_of (BadFolder number) = 4
status_of (BadItem number) = 4
status_of (LineForm number) = 4
status_of (Version number) = 5
status_of (UnknownId id) = 5
status_of (StreamUnknown number) = 5
status_of Compressed = 5
status_of (Variant number) = 5
status_of EncryptedExport = 5
status_of (Clash id) = 6
status_of (MoveCycle ids) = 6
status_of NoSuchFile = 7
status_of TooLarge = 8
status_of Depth = 8
status_of TooDeep = 8
status_of TooMany = 8
status_of KdfLimit = 8
status_of IterLimit = 8
status_of StampLimit = 8
status_of LineLimit = 8
status_of TooMuch = 8
status_of NoOtp = 2
status_of (OtpForm place) = 4
status_of (OtpUnknown place) = 5
status_of OtpLimit = 8
status_of Spent = 8
status_of OutOfMemory = 9
status_of (InputEnded number) = 12

-- Ids in lower case with hyphens, each after a space.
abbrev pub spaced_ids : List (List ℕ) → List ℕ
spaced_ids [] = []
spaced_ids (id ∷ ids) = codes " " ++ hyphenated_text lower id ++ spaced_ids ids

-- The name of a version that is needed.
abbrev pub needed_text : NeededVersion → List ℕ
needed_text needed.V40 = codes "4.0"
needed_text needed.V41 = codes "4.1"

-- What an answer says of its subject: numbers in decimal, ids in lower case with hyphens, bytes in
-- lower-case hexadecimal.
abbrev pub reason_text : Reason → List ℕ
reason_text WrongWords = codes "wrong words"
reason_text (EmptyTerm place) = codes "empty term at " ++ decimal place
reason_text NoSuchPath = codes "not found"
reason_text NameTaken = codes "already there"
reason_text AlreadyThere = codes "already in that group"
reason_text RootFixed = codes "the root stays"
reason_text (IntoItself id) = hyphenated_text lower id ++ codes " into itself"
reason_text (IdTaken id) = codes "id taken " ++ hyphenated_text lower id
reason_text (NoAttribute name) = codes "no attribute " ++ name
reason_text (NoAttachment name) = codes "no attachment " ++ name
reason_text (NoVersion number) = codes "no version " ++ decimal number
reason_text NoResult = codes "no results"
reason_text FileExists = codes "file exists"
reason_text (NeedsVersion version) = codes "needs version " ++ needed_text version
reason_text (DamagedOrWrongKey kept found) = codes "damaged or wrong key: kept "
    ++ encode_lower kept ++ codes " found " ++ encode_lower found
reason_text (DamagedBlock number) = codes "damaged block " ++ decimal number
reason_text WrongKeyOrDamaged = codes "wrong key or damaged"
reason_text WrongPassword = codes "wrong password"
reason_text (KeyFileHash kept found) = codes "key file: kept " ++ encode_lower kept
    ++ codes " found " ++ encode_lower found
reason_text NotKdbx = codes "not a KDBX file"
reason_text NotPsafe = codes "not a psafe3 file"
reason_text (EndsEarly place) = codes "ends early at " ++ decimal place
reason_text (BadHeaderField id) = codes "bad header field " ++ decimal id
reason_text (BadDictionary place) = codes "bad dictionary at " ++ decimal place
reason_text (Form place) = codes "malformed text at " ++ decimal place
reason_text (MissingElement place) = codes "missing element at " ++ decimal place
reason_text (BadValue place) = codes "bad value at " ++ decimal place
reason_text (NilId place) = codes "nil id at " ++ decimal place
reason_text (NilRecord number) = codes "nil id at " ++ decimal number
reason_text (DuplicateId id) = codes "duplicate id " ++ hyphenated_text lower id
reason_text (BinaryRef number) = codes "no binary " ++ decimal number
reason_text (BadKeyFile place) = codes "bad key file at " ++ decimal place
reason_text (BadField place) = codes "bad field at " ++ decimal place
reason_text (NotUtf8 place) = codes "not UTF-8 at " ++ decimal place
reason_text NoTitleColumn = codes "no Title column"
reason_text (BadRow number) = codes "bad row " ++ decimal number
reason_text BadJson = codes "bad JSON"
reason_text (BadFolder number) = codes "bad folder " ++ decimal number
reason_text (BadItem number) = codes "bad item " ++ decimal number
reason_text (LineForm number) = codes "line " ++ decimal number ++ codes " is not UTF-8"
reason_text (Version number) = codes "version " ++ decimal number
reason_text (UnknownId id) = codes "unknown " ++ hyphenated_text lower id
reason_text (StreamUnknown number) = codes "stream " ++ decimal number
reason_text Compressed = codes "compressed"
reason_text (Variant number) = codes "variant " ++ decimal number
reason_text EncryptedExport = codes "encrypted export"
reason_text (Clash id) = codes "clash at " ++ hyphenated_text lower id
reason_text (MoveCycle ids) = codes "move cycle" ++ spaced_ids ids
reason_text NoSuchFile = codes "no such file"
reason_text TooLarge = codes "limit passed"
reason_text Depth = codes "limit passed"
reason_text TooDeep = codes "limit passed"
reason_text TooMany = codes "limit passed"
reason_text KdfLimit = codes "limit passed"
reason_text IterLimit = codes "limit passed"
reason_text StampLimit = codes "limit passed"
reason_text LineLimit = codes "limit passed"
reason_text TooMuch = codes "limit passed"
reason_text NoOtp = codes "no one-time code"
reason_text (OtpForm place) = codes "bad one-time code at " ++ decimal place
reason_text (OtpUnknown place) = codes "one-time code at " ++ decimal place
reason_text OtpLimit = codes "limit passed"
reason_text Spent = codes "limit passed"
reason_text OutOfMemory = codes "out of memory"
reason_text (InputEnded number) = codes "line " ++ decimal number ++ codes " missing"

-- The line `keepass: SUBJECT: TEXT`.
abbrev pub error_line : List ℕ → List ℕ → List ℕ
error_line subject text = codes "keepass: " ++ subject ++ codes ": " ++ text ++ codes "\n"

-- This answer about this subject.
abbrev pub refusal_of : Reason → List ℕ → Refusal
refusal_of reason subject = record { reason = reason; subject = subject }

-- The stop is this refusal, or that memory ran out.
abbrev pub Refuses : Stop → Refusal → Type 0
Refuses (Refused given) refusal = given ≡ refusal
Refuses (FileFault name) refusal = ⊥
Refuses InputFault refusal = ⊥
Refuses NoMemory refusal = Unit {0}
