-- What a file that is made of a document holds.
use Rattle.vault_model.specs.Tree.{BareDoc}
use Rattle.kdbx_frame.specs.declared.settings.Settings.{Settings}
use Rattle.kdbx_seal.specs.KdbxWriting.declared.draws.Draws.{Draws}
use Rattle.kdbx_seal.specs.KdbxWriting.Header.{settings_with}
use Rattle.kdbx_open.specs.Opening.{FileContents}

-- The settings that were given, with the drawn seed or salt of the key derivation, and the document.
abbrev pub made_contents : Settings → Draws → BareDoc → FileContents
made_contents s draws d = record { settings = settings_with s draws; doc = d }
