-- What reading a payload from a store of files answers.
use Rattle.std.specs.Prelude.{◌≡◌, ℕ, ◌≤◌, ◌<◌, List, length, take, Option, Some, None, option_map, IfSome, IsErrOf, OnOk, Result, Ok, Err}
use Rattle.std.specs.FinMap as map
use Rattle.outside_core.specs.Counts.{Increased}
use Rattle.outside_core.specs.Files.{FileMap}
use Rattle.secret_core.specs.declared.files.ReadFail.{ReadFail}
use Rattle.secret_core.specs.declared.files.ReadFail.TheVariants.{TooLarge, NoSuchFile, FileFault}
use Rattle.kdbx_payload.specs.Payloads as payloads
use Rattle.kdbx_payload.specs.Reading.{IsFed}
use Rattle.kdbx_payload.specs.Results.{Returns}
use Rattle.kdbx_payload.specs.declared.fail.PayloadFail.{PayloadFail}
use Rattle.kdbx_payload.specs.declared.text.TextReader.{TextReader}
use Rattle.kdbx_reading.specs.declared.reading.FileFront.{FileFront}

-- ---- what a store handed out of a file

-- The first bytes of a file, which are in a window.
abbrev pub front_in : FileFront → List ℕ → List ℕ
front_in file window = take file.len window

-- Where the store reports its files, the file of this name begins with these bytes.
abbrev pub IsFront : Option FileMap → List ℕ → List ℕ → Type 0
IsFront files name front = (m : FileMap) (file : List ℕ) → files ≡ Some m
    → map.get m name ≡ Some file → front ≡ take (length front) file

-- Where the store reports its files, there is a file of this name, and it has this size.
abbrev pub HasSize : Option FileMap → List ℕ → ℕ → Type 0
HasSize files name size = IfSome files (λ m. option_map length (map.get m name) ≡ Some size)

-- Where the store reports its files, these are the bytes of the file of this name.
abbrev pub IsFile : Option FileMap → List ℕ → List ℕ → Type 0
IsFile files name file = IfSome files (λ m. map.get m name ≡ Some file)

-- A reader was fed with so many bytes that the store handed out of a file, the first of them these.
pub record IsFedFrom (files : Option FileMap) (name start : List ℕ) (reader : TextReader) (at : ℕ)
    : Type 0 where
  pub bytes : List ℕ
  pub fed : IsFed reader bytes
  pub len : length bytes ≡ at
  pub starts : start ≡ take (length start) bytes
  pub front : IsFront files name bytes

-- A reader was fed with a whole file of at most `size` bytes, the first of them these.
pub record IsFedWhole (files : Option FileMap) (name start : List ℕ) (size : ℕ)
    (reader : TextReader) : Type 0 where
  pub bytes : List ℕ
  pub fed : IsFed reader bytes
  pub within : length bytes ≤ size
  pub starts : start ≡ take (length start) bytes
  pub is : IsFile files name bytes

-- ---- what was read

-- A file that begins with these bytes and has at most `size` bytes has this.
pub record OfFileWith (files : Option FileMap) (name start : List ℕ) (size : ℕ) {X Y : Type 0}
    (seen : X → Y) (defined : List ℕ → Result Y PayloadFail) (result : Result X PayloadFail)
    : Type 0 where
  pub file : List ℕ
  pub is : IsFile files name file
  pub starts : start ≡ take (length start) file
  pub within : length file ≤ size
  pub returns : Returns seen result (defined file)

-- What may be answered of a file, if there is one: its payload, its length where it is too long, or
-- that it is missing. A fault and running out of memory say nothing of it.
abbrev pub PayloadIsRead : {X : Type 0} → (X → payloads.Payload) → Option (List ℕ) → ℕ → List ℕ
    → Result (Result X PayloadFail) ReadFail → Type 0
PayloadIsRead seen file limit composite (Ok result) = (bytes : List ℕ) × ((file ≡ Some bytes)
    × (length bytes ≤ limit) × Returns seen result (payloads.payload_of bytes composite))
PayloadIsRead seen file limit composite (Err (TooLarge n)) = option_map length file ≡ Some n
PayloadIsRead seen file limit composite (Err NoSuchFile) = file ≡ None
PayloadIsRead seen file limit composite (Err _) = Unit {0}

-- It is answered of the file of this name, where the store reports its files, and else of some file.
abbrev pub PayloadOfName : {X : Type 0} → (X → payloads.Payload) → Option FileMap → List ℕ → ℕ
    → List ℕ → Result (Result X PayloadFail) ReadFail → Type 0
PayloadOfName seen files name limit composite result = (file : Option (List ℕ))
    × (IfSome files (λ m. map.get m name ≡ file) × PayloadIsRead seen file limit composite result)

-- What each answer shows of the store's counts, which never fall, and of the limit, whatever the
-- store reports and answered: where the file was read, the count of faults is as it was.
pub record HasCauseOfReading {X : Type 0}
    (faults_before faults_now absences_before absences_now limit : ℕ) (result : Result X ReadFail) :
    Type 0 where
  pub faults_later : faults_before ≤ faults_now
  pub absences_later : absences_before ≤ absences_now
  pub fault : IsErrOf result FileFault → Increased faults_before faults_now
  pub kept : OnOk result (faults_now ≡ faults_before)
  pub missing : IsErrOf result NoSuchFile → Increased absences_before absences_now
  pub large : (n : ℕ) → IsErrOf result (TooLarge n) → limit < n
