-- A small document that is sealed, and written by itself, so that each law speaks of something.
use Rattle.std.specs.Prelude.{◌≡◌, ℕ, List, replicate, None, Ok, codes}
use Rattle.vault_model.specs.declared.forms.FileVersion.TheVariants.{V40}
use Rattle.merge_core.specs.Example.{as_it_was}
use Rattle.key_core.specs.declared.kdf.Kdf.TheVariants as kdf
use Rattle.kdbx_frame.specs.declared.settings.Cipher.TheVariants.{ChaCha}
use Rattle.kdbx_frame.specs.declared.settings.Settings.{Settings}
use Rattle.kdbx_writing.specs.declared.draws.Draws.{Draws}
use Rattle.kdbx_writing.specs.Draws.{AreDrawn}
use Rattle.cli_sealing.specs.KdbxSeal.Answers.{size_refusal}
use Rattle.cli_writing.specs.Writing.{NewFile, plain_file}
use Rattle.cli_sealing.specs.Draws.{draws_of}
use Rattle.cli_sealing.specs.Sealing.{sealed_file}

-- a file of version 4.0 with ChaCha20, whose key is derived by rounds of AES
abbrev pub settings : Settings
settings = record {
  version = V40;
  cipher = ChaCha;
  kdf = kdf.Aes 60000 (replicate 32 0);
  public = None;
}

-- bytes to draw from
abbrev pub dice : List ℕ
dice = replicate 140 9

-- what the file is sealed with
abbrev pub draws : Draws
draws = draws_of settings dice

-- its composite key
abbrev pub composite : List ℕ
composite = replicate 32 7

-- The database of the worked example can be sealed by these settings, and written by itself.
pub record ExampleFiles : Type 0 where
  pub drawn : AreDrawn settings draws
  pub fits : size_refusal settings draws as_it_was ≡ None
  pub sealed : NewFile
  pub seals : (sealed_file (codes "family.kdbx") settings composite as_it_was dice).answer
      ≡ Ok sealed
  pub plain : NewFile
  pub writes : plain_file (codes "family.xml") as_it_was ≡ Ok plain
