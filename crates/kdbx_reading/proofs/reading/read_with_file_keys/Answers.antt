use Rattle.std.proofs.Common.{take, arith}
use Rattle.std.proofs.lemmas.List.{length-take-le}
use Rattle.outside_core.specs.Reports.{reported}
use Rattle.kdbx_reading.proofs.StoredPayloads.{refused_at_front}
use Rattle.kdbx_reading.proofs.reading.read_with_file_keys.Goals as goal

pub returns-in-Err-clause-of_file : goal.returns-in-Err-clause-of_file
returns-in-Err-clause-of_file g c =
    let start = take c.args.file.now.len c.args.window.now in
    refused_at_front (reported (g.F.FileStore.truthful c.args.files.now) (g.F.FileStore.files c.args.files.now)) c.args.file.now.name.now start c.args.file.now.size _ _ c.in-Err.fail
    c.requires.sized c.requires.front (omega (arith, length-take-le c.args.file.now.len c.args.window.now c.requires.len, c.requires.size))
    (λ more len. c.in-Err.ensures.refused more)
