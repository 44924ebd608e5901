-- What statuses refusals have.
use Rattle.std.proofs.Common.{◌≡◌, ◌≢◌, ℕ, refl, arith}
use Rattle.cli_messages.specs.declared.answers.Reason.{Reason}
use Rattle.cli_messages.specs.declared.answers.Reason.TheVariants.{WrongWords, EmptyTerm, NoSuchPath, NameTaken, AlreadyThere, RootFixed, IntoItself, IdTaken, NoAttribute, NoAttachment, NoVersion, NoResult, FileExists, NeedsVersion, DamagedOrWrongKey, DamagedBlock, WrongKeyOrDamaged, WrongPassword, KeyFileHash, NotKdbx, NotPsafe, EndsEarly, BadHeaderField, BadDictionary, Form, MissingElement, BadValue, NilId, NilRecord, DuplicateId, BinaryRef, BadKeyFile, BadField, NotUtf8, NoTitleColumn, BadRow, BadJson, BadFolder, BadItem, LineForm, Version, UnknownId, StreamUnknown, Compressed, Variant, EncryptedExport, Clash, MoveCycle, NoSuchFile, TooLarge, Depth, TooDeep, TooMany, KdfLimit, IterLimit, StampLimit, LineLimit, TooMuch, NoOtp, OtpForm, OtpUnknown, OtpLimit, Spent, OutOfMemory, InputEnded}
use Rattle.cli_messages.specs.Messages.{status_of}

-- A refusal of status 7 is that a file is missing.
pub seven_missing : (a : Reason) → status_of a ≡ 7 → a ≡ NoSuchFile
seven_missing WrongWords h = absurd (omega arith)
seven_missing (EmptyTerm place) h = absurd (omega arith)
seven_missing NoSuchPath h = absurd (omega arith)
seven_missing NameTaken h = absurd (omega arith)
seven_missing AlreadyThere h = absurd (omega arith)
seven_missing RootFixed h = absurd (omega arith)
seven_missing (IntoItself id) h = absurd (omega arith)
seven_missing (IdTaken id) h = absurd (omega arith)
seven_missing (NoAttribute name) h = absurd (omega arith)
seven_missing (NoAttachment name) h = absurd (omega arith)
seven_missing (NoVersion number) h = absurd (omega arith)
seven_missing NoResult h = absurd (omega arith)
seven_missing FileExists h = absurd (omega arith)
seven_missing (NeedsVersion version) h = absurd (omega arith)
seven_missing (DamagedOrWrongKey kept found) h = absurd (omega arith)
seven_missing (DamagedBlock number) h = absurd (omega arith)
seven_missing WrongKeyOrDamaged h = absurd (omega arith)
seven_missing WrongPassword h = absurd (omega arith)
seven_missing (KeyFileHash kept found) h = absurd (omega arith)
seven_missing NotKdbx h = absurd (omega arith)
seven_missing NotPsafe h = absurd (omega arith)
seven_missing (EndsEarly place) h = absurd (omega arith)
seven_missing (BadHeaderField id) h = absurd (omega arith)
seven_missing (BadDictionary place) h = absurd (omega arith)
seven_missing (Form place) h = absurd (omega arith)
seven_missing (MissingElement place) h = absurd (omega arith)
seven_missing (BadValue place) h = absurd (omega arith)
seven_missing (NilId place) h = absurd (omega arith)
seven_missing (NilRecord number) h = absurd (omega arith)
seven_missing (DuplicateId id) h = absurd (omega arith)
seven_missing (BinaryRef number) h = absurd (omega arith)
seven_missing (BadKeyFile place) h = absurd (omega arith)
seven_missing (BadField place) h = absurd (omega arith)
seven_missing (NotUtf8 place) h = absurd (omega arith)
seven_missing NoTitleColumn h = absurd (omega arith)
seven_missing (BadRow number) h = absurd (omega arith)
seven_missing BadJson h = absurd (omega arith)
seven_missing (BadFolder number) h = absurd (omega arith)
seven_missing (BadItem number) h = absurd (omega arith)
seven_missing (LineForm number) h = absurd (omega arith)
seven_missing (Version number) h = absurd (omega arith)
seven_missing (UnknownId id) h = absurd (omega arith)
seven_missing (StreamUnknown number) h = absurd (omega arith)
seven_missing Compressed h = absurd (omega arith)
seven_missing (Variant number) h = absurd (omega arith)
seven_missing EncryptedExport h = absurd (omega arith)
seven_missing (Clash id) h = absurd (omega arith)
seven_missing (MoveCycle ids) h = absurd (omega arith)
seven_missing NoSuchFile h = refl
seven_missing TooLarge h = absurd (omega arith)
seven_missing Depth h = absurd (omega arith)
seven_missing TooDeep h = absurd (omega arith)
seven_missing TooMany h = absurd (omega arith)
seven_missing KdfLimit h = absurd (omega arith)
seven_missing IterLimit h = absurd (omega arith)
seven_missing StampLimit h = absurd (omega arith)
seven_missing LineLimit h = absurd (omega arith)
seven_missing TooMuch h = absurd (omega arith)
seven_missing NoOtp h = absurd (omega arith)
seven_missing (OtpForm place) h = absurd (omega arith)
seven_missing (OtpUnknown place) h = absurd (omega arith)
seven_missing OtpLimit h = absurd (omega arith)
seven_missing Spent h = absurd (omega arith)
seven_missing OutOfMemory h = absurd (omega arith)
seven_missing (InputEnded number) h = absurd (omega arith)

-- No reason has status 0, 10 or 11.
pub record IsOwn (status : ℕ) : Type 0 where
  pub zero : status ≢ 0
  pub ten : status ≢ 10
  pub eleven : status ≢ 11

pub own : (reason : Reason) → IsOwn (status_of reason)
own WrongWords = record { zero = λ h. omega arith; ten = λ h. omega arith; eleven = λ h. omega arith }
own (EmptyTerm place) = record { zero = λ h. omega arith; ten = λ h. omega arith; eleven = λ h. omega arith }
own NoSuchPath = record { zero = λ h. omega arith; ten = λ h. omega arith; eleven = λ h. omega arith }
own NameTaken = record { zero = λ h. omega arith; ten = λ h. omega arith; eleven = λ h. omega arith }
own AlreadyThere = record { zero = λ h. omega arith; ten = λ h. omega arith; eleven = λ h. omega arith }
own RootFixed = record { zero = λ h. omega arith; ten = λ h. omega arith; eleven = λ h. omega arith }
own (IntoItself id) = record { zero = λ h. omega arith; ten = λ h. omega arith; eleven = λ h. omega arith }
own (IdTaken id) = record { zero = λ h. omega arith; ten = λ h. omega arith; eleven = λ h. omega arith }
own (NoAttribute name) = record { zero = λ h. omega arith; ten = λ h. omega arith; eleven = λ h. omega arith }
own (NoAttachment name) = record { zero = λ h. omega arith; ten = λ h. omega arith; eleven = λ h. omega arith }
own (NoVersion number) = record { zero = λ h. omega arith; ten = λ h. omega arith; eleven = λ h. omega arith }
own NoResult = record { zero = λ h. omega arith; ten = λ h. omega arith; eleven = λ h. omega arith }
own FileExists = record { zero = λ h. omega arith; ten = λ h. omega arith; eleven = λ h. omega arith }
own (NeedsVersion version) = record { zero = λ h. omega arith; ten = λ h. omega arith; eleven = λ h. omega arith }
own (DamagedOrWrongKey kept found) = record { zero = λ h. omega arith; ten = λ h. omega arith; eleven = λ h. omega arith }
own (DamagedBlock number) = record { zero = λ h. omega arith; ten = λ h. omega arith; eleven = λ h. omega arith }
own WrongKeyOrDamaged = record { zero = λ h. omega arith; ten = λ h. omega arith; eleven = λ h. omega arith }
own WrongPassword = record { zero = λ h. omega arith; ten = λ h. omega arith; eleven = λ h. omega arith }
own (KeyFileHash kept found) = record { zero = λ h. omega arith; ten = λ h. omega arith; eleven = λ h. omega arith }
own NotKdbx = record { zero = λ h. omega arith; ten = λ h. omega arith; eleven = λ h. omega arith }
own NotPsafe = record { zero = λ h. omega arith; ten = λ h. omega arith; eleven = λ h. omega arith }
own (EndsEarly place) = record { zero = λ h. omega arith; ten = λ h. omega arith; eleven = λ h. omega arith }
own (BadHeaderField id) = record { zero = λ h. omega arith; ten = λ h. omega arith; eleven = λ h. omega arith }
own (BadDictionary place) = record { zero = λ h. omega arith; ten = λ h. omega arith; eleven = λ h. omega arith }
own (Form place) = record { zero = λ h. omega arith; ten = λ h. omega arith; eleven = λ h. omega arith }
own (MissingElement place) = record { zero = λ h. omega arith; ten = λ h. omega arith; eleven = λ h. omega arith }
own (BadValue place) = record { zero = λ h. omega arith; ten = λ h. omega arith; eleven = λ h. omega arith }
own (NilId place) = record { zero = λ h. omega arith; ten = λ h. omega arith; eleven = λ h. omega arith }
own (NilRecord number) = record { zero = λ h. omega arith; ten = λ h. omega arith; eleven = λ h. omega arith }
own (DuplicateId id) = record { zero = λ h. omega arith; ten = λ h. omega arith; eleven = λ h. omega arith }
own (BinaryRef number) = record { zero = λ h. omega arith; ten = λ h. omega arith; eleven = λ h. omega arith }
own (BadKeyFile place) = record { zero = λ h. omega arith; ten = λ h. omega arith; eleven = λ h. omega arith }
own (BadField place) = record { zero = λ h. omega arith; ten = λ h. omega arith; eleven = λ h. omega arith }
own (NotUtf8 place) = record { zero = λ h. omega arith; ten = λ h. omega arith; eleven = λ h. omega arith }
own NoTitleColumn = record { zero = λ h. omega arith; ten = λ h. omega arith; eleven = λ h. omega arith }
own (BadRow number) = record { zero = λ h. omega arith; ten = λ h. omega arith; eleven = λ h. omega arith }
own BadJson = record { zero = λ h. omega arith; ten = λ h. omega arith; eleven = λ h. omega arith }
own (BadFolder number) = record { zero = λ h. omega arith; ten = λ h. omega arith; eleven = λ h. omega arith }
own (BadItem number) = record { zero = λ h. omega arith; ten = λ h. omega arith; eleven = λ h. omega arith }
own (LineForm number) = record { zero = λ h. omega arith; ten = λ h. omega arith; eleven = λ h. omega arith }
own (Version number) = record { zero = λ h. omega arith; ten = λ h. omega arith; eleven = λ h. omega arith }
own (UnknownId id) = record { zero = λ h. omega arith; ten = λ h. omega arith; eleven = λ h. omega arith }
own (StreamUnknown number) = record { zero = λ h. omega arith; ten = λ h. omega arith; eleven = λ h. omega arith }
own Compressed = record { zero = λ h. omega arith; ten = λ h. omega arith; eleven = λ h. omega arith }
own (Variant number) = record { zero = λ h. omega arith; ten = λ h. omega arith; eleven = λ h. omega arith }
own EncryptedExport = record { zero = λ h. omega arith; ten = λ h. omega arith; eleven = λ h. omega arith }
own (Clash id) = record { zero = λ h. omega arith; ten = λ h. omega arith; eleven = λ h. omega arith }
own (MoveCycle ids) = record { zero = λ h. omega arith; ten = λ h. omega arith; eleven = λ h. omega arith }
own NoSuchFile = record { zero = λ h. omega arith; ten = λ h. omega arith; eleven = λ h. omega arith }
own TooLarge = record { zero = λ h. omega arith; ten = λ h. omega arith; eleven = λ h. omega arith }
own Depth = record { zero = λ h. omega arith; ten = λ h. omega arith; eleven = λ h. omega arith }
own TooDeep = record { zero = λ h. omega arith; ten = λ h. omega arith; eleven = λ h. omega arith }
own TooMany = record { zero = λ h. omega arith; ten = λ h. omega arith; eleven = λ h. omega arith }
own KdfLimit = record { zero = λ h. omega arith; ten = λ h. omega arith; eleven = λ h. omega arith }
own IterLimit = record { zero = λ h. omega arith; ten = λ h. omega arith; eleven = λ h. omega arith }
own StampLimit = record { zero = λ h. omega arith; ten = λ h. omega arith; eleven = λ h. omega arith }
own LineLimit = record { zero = λ h. omega arith; ten = λ h. omega arith; eleven = λ h. omega arith }
own TooMuch = record { zero = λ h. omega arith; ten = λ h. omega arith; eleven = λ h. omega arith }
own NoOtp = record { zero = λ h. omega arith; ten = λ h. omega arith; eleven = λ h. omega arith }
own (OtpForm place) = record { zero = λ h. omega arith; ten = λ h. omega arith; eleven = λ h. omega arith }
own (OtpUnknown place) = record { zero = λ h. omega arith; ten = λ h. omega arith; eleven = λ h. omega arith }
own OtpLimit = record { zero = λ h. omega arith; ten = λ h. omega arith; eleven = λ h. omega arith }
own Spent = record { zero = λ h. omega arith; ten = λ h. omega arith; eleven = λ h. omega arith }
own OutOfMemory = record { zero = λ h. omega arith; ten = λ h. omega arith; eleven = λ h. omega arith }
own (InputEnded number) = record { zero = λ h. omega arith; ten = λ h. omega arith; eleven = λ h. omega arith }
