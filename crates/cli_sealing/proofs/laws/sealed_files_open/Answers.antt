use Rattle.kdbx_open.proofs.SealedFiles.{is_opened}
use Rattle.cli_sealing.specs.Held.{contents_with}
use Rattle.cli_sealing.proofs.laws.sealed_files_open.Goals as goal

pub returns : goal.returns
returns c settings composite doc bytes h = (h.0, is_opened bytes composite (contents_with settings h.0 doc) h.1)
