-- A refusal's status is at most 12.
use Rattle.std.proofs.Common.{◌≤◌, arith}
use Rattle.cli_messages.specs.declared.answers.Reason.{Reason}
use Rattle.cli_messages.specs.declared.answers.Reason.TheVariants.{WrongWords, EmptyTerm, NoSuchPath, NameTaken, AlreadyThere, RootFixed, IntoItself, IdTaken, NoAttribute, NoAttachment, NoVersion, NoResult, FileExists, NeedsVersion, DamagedOrWrongKey, DamagedBlock, WrongKeyOrDamaged, WrongPassword, KeyFileHash, NotKdbx, NotPsafe, EndsEarly, BadHeaderField, BadDictionary, Form, MissingElement, BadValue, NilId, NilRecord, DuplicateId, BinaryRef, BadKeyFile, BadField, NotUtf8, NoTitleColumn, BadRow, BadJson, BadFolder, BadItem, LineForm, Version, UnknownId, StreamUnknown, Compressed, Variant, EncryptedExport, Clash, MoveCycle, NoSuchFile, TooLarge, Depth, TooDeep, TooMany, KdfLimit, IterLimit, StampLimit, LineLimit, TooMuch, NoOtp, OtpForm, OtpUnknown, OtpLimit, Spent, OutOfMemory, InputEnded}
use Rattle.cli_messages.specs.Messages.{status_of}

pub status_range : (reason : Reason) → status_of reason ≤ 12
status_range WrongWords = omega arith
status_range (EmptyTerm place) = omega arith
status_range NoSuchPath = omega arith
status_range NameTaken = omega arith
status_range AlreadyThere = omega arith
status_range RootFixed = omega arith
status_range (IntoItself id) = omega arith
status_range (IdTaken id) = omega arith
status_range (NoAttribute name) = omega arith
status_range (NoAttachment name) = omega arith
status_range (NoVersion number) = omega arith
status_range NoResult = omega arith
status_range FileExists = omega arith
status_range (NeedsVersion version) = omega arith
status_range (DamagedOrWrongKey kept found) = omega arith
status_range (DamagedBlock number) = omega arith
status_range WrongKeyOrDamaged = omega arith
status_range WrongPassword = omega arith
status_range (KeyFileHash kept found) = omega arith
status_range NotKdbx = omega arith
status_range NotPsafe = omega arith
status_range (EndsEarly place) = omega arith
status_range (BadHeaderField id) = omega arith
status_range (BadDictionary place) = omega arith
status_range (Form place) = omega arith
status_range (MissingElement place) = omega arith
status_range (BadValue place) = omega arith
status_range (NilId place) = omega arith
status_range (NilRecord number) = omega arith
status_range (DuplicateId id) = omega arith
status_range (BinaryRef number) = omega arith
status_range (BadKeyFile place) = omega arith
status_range (BadField place) = omega arith
status_range (NotUtf8 place) = omega arith
status_range NoTitleColumn = omega arith
status_range (BadRow number) = omega arith
status_range BadJson = omega arith
status_range (BadFolder number) = omega arith
status_range (BadItem number) = omega arith
status_range (LineForm number) = omega arith
status_range (Version number) = omega arith
status_range (UnknownId id) = omega arith
status_range (StreamUnknown number) = omega arith
status_range Compressed = omega arith
status_range (Variant number) = omega arith
status_range EncryptedExport = omega arith
status_range (Clash id) = omega arith
status_range (MoveCycle ids) = omega arith
status_range NoSuchFile = omega arith
status_range TooLarge = omega arith
status_range Depth = omega arith
status_range TooDeep = omega arith
status_range TooMany = omega arith
status_range KdfLimit = omega arith
status_range IterLimit = omega arith
status_range StampLimit = omega arith
status_range LineLimit = omega arith
status_range TooMuch = omega arith
status_range NoOtp = omega arith
status_range (OtpForm place) = omega arith
status_range (OtpUnknown place) = omega arith
status_range OtpLimit = omega arith
status_range Spent = omega arith
status_range OutOfMemory = omega arith
status_range (InputEnded number) = omega arith
