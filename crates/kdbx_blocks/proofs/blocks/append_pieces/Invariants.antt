use Rattle.std.proofs.Common.{◌≡◌, ◌-◌, ◌≤◌, ◌++◌, IfSome, IsSome}
use Rattle.outside_core.specs.Reports.{StaysTruthful}
use Rattle.kdbx_blocks.specs.Appending.{headed}
use Rattle.kdbx_blocks.proofs.blocks.append_pieces.Given as goal

-- What was appended and what is left to append are the whole.
abbrev pub invariant-heads : goal.invariant-heads
invariant-heads g l = record {
  draft : IsSome (g.F.FileStore.draft_name l.files);
  name : g.F.FileStore.draft_name l.files ≡ g.F.FileStore.draft_name l.fn.files;
  faults : g.F.FileStore.faults l.files ≡ g.F.FileStore.faults l.fn.files;
  truthful : StaysTruthful (g.F.FileStore.truthful l.fn.files) (g.F.FileStore.truthful l.files);
  absences : g.F.FileStore.absences l.fn.files ≤ g.F.FileStore.absences l.files;
  files : g.F.FileStore.files l.files ≡ g.F.FileStore.files l.fn.files;
  bytes : IfSome (g.F.FileStore.files l.fn.files) (λ _. g.F.FileStore.draft_bytes l.files ++ headed (4 - l.index) l.index l.heads l.left
      ≡ g.F.FileStore.draft_bytes l.fn.files ++ headed 4 0 l.heads l.fn.left);
}
