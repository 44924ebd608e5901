use Rattle.std.proofs.Common.{◌≡◌, ◌-◌, ◌≤◌, length, drop, IfSome, IsSome}
use Rattle.outside_core.specs.Reports.{StaysTruthful}
use Rattle.kdbx_blocks.specs.Appending.{GoesOn}
use Rattle.kdbx_blocks.proofs.blocks.append_blocks.Given as goal

-- What was appended and what is left to append are the whole.
abbrev pub invariant-pieces : goal.invariant-pieces
invariant-pieces g l = record {
  base : l.writer.base ≡ l.base;
  within : l.at ≤ length l.content;
  index : l.writer.index ≤ l.at;
  draft : IsSome (g.F.FileStore.draft_name l.files);
  name : g.F.FileStore.draft_name l.files ≡ g.F.FileStore.draft_name l.fn.files;
  faults : g.F.FileStore.faults l.files ≡ g.F.FileStore.faults l.fn.files;
  truthful : StaysTruthful (g.F.FileStore.truthful l.fn.files) (g.F.FileStore.truthful l.files);
  absences : g.F.FileStore.absences l.fn.files ≤ g.F.FileStore.absences l.files;
  files : g.F.FileStore.files l.files ≡ g.F.FileStore.files l.fn.files;
  bytes : IfSome (g.F.FileStore.files l.fn.files) (λ _. GoesOn l.base (g.F.FileStore.draft_bytes l.fn.files) 0 l.content
      (g.F.FileStore.draft_bytes l.files) l.writer.index (drop l.at l.content));
}

abbrev pub decreases-pieces : goal.decreases-pieces
decreases-pieces g l = length l.content - l.at
