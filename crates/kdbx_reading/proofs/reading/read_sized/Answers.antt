use Rattle.std.proofs.Common.{take, sym, subst, arith, Option}
use Rattle.outside_core.specs.Files.{FileMap}
use Rattle.outside_core.specs.Reports.{reported}
use Rattle.kdbx_reading.specs.Stored.{HasSize, IsFront}
use Rattle.kdbx_reading.proofs.StoredFiles.{front_read, size_read}
use Rattle.kdbx_reading.proofs.StoredLater.{size_later}
use Rattle.kdbx_reading.proofs.reading.read_sized.Goals as goal

pub read_from_front-requires-clause-sized : goal.read_from_front-requires-clause-sized
read_from_front-requires-clause-sized g c =
    let told = c.in_ok-len.ensures in
    let content = g.F.FileStore.files c.args.files.now in
    let now = g.F.FileStore.truthful c.read_prefix.new.files in
    subst (λ (f : Option FileMap). HasSize (reported now f) c.args.name.now c.in_ok-len.len) (sym told.files)
    (size_read (reported now content) c.args.name.now c.read_prefix.new.out c.in_ok-len.len c.args.size told.bound
    (omega (arith, c.if-len-window.true)) (size_later _ now content c.args.name.now told.truthful c.args.size c.requires.sized) told.told)

pub read_from_front-requires-clause-front : goal.read_from_front-requires-clause-front
read_from_front-requires-clause-front g c =
    let told = c.in_ok-len.ensures in
    let content = g.F.FileStore.files c.args.files.now in
    let now = g.F.FileStore.truthful c.read_prefix.new.files in
    subst (λ (f : Option FileMap). IsFront (reported now f) c.args.name.now (take c.in_ok-len.len c.read_prefix.new.out)) (sym told.files)
    (front_read (reported now content) c.args.name.now c.read_prefix.new.out c.in_ok-len.len told.bound told.told)
