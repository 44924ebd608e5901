-- What an answer of sealing says of the store and of the header.
use Rattle.std.specs.Prelude.{◌≡◌, ℕ, ◌<◌, ◌≤◌, List, [], Option, None, option_map, Result, Ok, Err}
use Rattle.std.specs.FinMap as map
use Rattle.std.specs.List.{AllByRecursion}
use Rattle.outside_core.specs.Files.{FileMap}
use Rattle.outside_core.specs.declared.fails.FileFail.{FileFail}
use Rattle.outside_core.specs.declared.fails.FileFail.TheVariants as file
use Rattle.vault_model.specs.declared.forms.FileVersion.{FileVersion}
use Rattle.vault_model.specs.declared.forms.FileVersion.TheVariants.{V31, V40, V41}
use Rattle.kdbx_frame.specs.declared.settings.Settings.{Settings}
use Rattle.kdbx_frame.specs.Fields.{header_limit}
use Rattle.kdbx_inner.specs.Inner.{Binary}
use Rattle.kdbx_payload.specs.Sealed.{SealedPayload}
use Rattle.kdbx_writing.specs.declared.draws.Draws.{Draws}
use Rattle.kdbx_writing.specs.Inner.{FitsField}
use Rattle.kdbx_seal.specs.PayloadMade.{made_payload, made_with, plain_content}
use Rattle.kdbx_seal.specs.declared.payload_fail.SealPayloadFail.{SealPayloadFail}
use Rattle.kdbx_seal.specs.declared.payload_fail.SealPayloadFail.TheVariants.{TooLarge, FileFault, NoMemory}

-- A refusal of the store, as one of sealing.
abbrev pub of_store : FileFail → SealPayloadFail
of_store file.NoMemory = NoMemory
of_store file.Failed = FileFault
of_store file.NoSuchFile = FileFault

-- The store has these bytes under a name, and all else as it was; after a refusal all is as it was.
abbrev pub Puts : {E : Type 0} → Result (Unit {0}) E → Option FileMap → Option FileMap → List ℕ
    → List ℕ → Type 0
Puts (Ok _) before now name bytes = now ≡ option_map (λ m. map.insert m name bytes) before
Puts (Err _) before now name bytes = now ≡ before

-- The header, in version 4 with the 64 bytes of hash and MAC, has its end here. TooLarge comes
-- where that passes the limit, and there unless memory runs out.
abbrev pub JudgesEnd : Result (Unit {0}) SealPayloadFail → ℕ → Type 0
JudgesEnd (Ok _) end = end ≤ header_limit
JudgesEnd (Err (TooLarge n)) end = (n ≡ end) × (header_limit < end)
JudgesEnd (Err FileFault) end = end ≤ header_limit
JudgesEnd (Err NoMemory) end = Unit {0}

-- There is no draft, unless the header is too large.
abbrev pub LeavesNoDraft : Result (Unit {0}) SealPayloadFail → Option (List ℕ) → Type 0
LeavesNoDraft (Err (TooLarge n)) draft = Unit {0}
LeavesNoDraft (Err FileFault) draft = draft ≡ None
LeavesNoDraft (Err NoMemory) draft = draft ≡ None
LeavesNoDraft (Ok _) draft = draft ≡ None

-- A file of a version can keep these attached files apart from its document: in 3.1 none.
abbrev pub CanKeepApart : FileVersion → List Binary → Type 0
CanKeepApart V31 pool = pool ≡ []
CanKeepApart V40 pool = AllByRecursion FitsField pool
CanKeepApart V41 pool = AllByRecursion FitsField pool

-- The file that is made of a content is sealed, with the attached files and the text of which the
-- content is.
abbrev pub IsSealedWith : Settings → Draws → List ℕ → List ℕ → Type 0
IsSealedWith s d composite plain = (pool : List Binary) (text : List ℕ)
    → CanKeepApart s.version pool → plain ≡ plain_content s.version d pool text
    → SealedPayload (made_with s d composite plain) composite (made_payload s d pool text)
