use Rattle.std.proofs.Common.{◌≡◌, ℕ, List, Option, [], ◌++◌, ◌∙◌, arith, sym, subst, IfSome, IsSome, ◌+◌, ◌-◌}
use Rattle.std.specs.Prelude.{slice_index_or}
use Rattle.outside_core.specs.Files.{FileMap}
use Rattle.outside_core.proofs.Reports.{stays_on}
use Rattle.kdbx_blocks.specs.Appending.{headed}
use Rattle.kdbx_blocks.proofs.Appended.{all_headed, one_headed, some_more}
use Rattle.kdbx_blocks.proofs.blocks.append_pieces.Goals as goal

pub heads-preserved : goal.heads-preserved
heads-preserved g c =
    let inv = c.heads.invariant in
    let e = c.in_ok-append_headed.ensures in
    let old = g.F.FileStore.draft_bytes c.heads.files in
    let new = g.F.FileStore.draft_bytes c.append_headed.new.files in
    let whole : List ℕ = g.F.FileStore.draft_bytes c.args.files.now ++ headed 4 0 c.args.heads.now c.args.left.now in
    let put : Type 0 = new ≡ old ++ (slice_index_or c.args.heads.now c.heads.index [] ++ c.split_piece.result.0.now) in
    let said : Option FileMap → Type 0 = λ o. IfSome o (λ _. put) in
    record {
      draft = subst (λ (n : Option (List ℕ)). IsSome n) (sym e.name) inv.draft;
      name = e.name ∙ inv.name;
      faults = e.faults.kept ∙ inv.faults;
      truthful = stays_on _ _ _ inv.truthful e.truthful;
      absences = omega (arith, inv.absences, e.absences);
      files = e.files ∙ inv.files;
      bytes = some_more (g.F.FileStore.files c.args.files.now) (old ++ headed (4 - c.heads.index) c.heads.index c.args.heads.now c.heads.left.now ≡ whole) put _ inv.bytes
          (subst said inv.files e.bytes)
          (one_headed c.args.heads.now (4 - c.heads.index) (4 - (c.heads.index + 1)) c.heads.index old new whole c.heads.left.now c.split_piece.result.0.now c.split_piece.result.1.now
          (omega (arith, c.heads-test.true)) c.split_piece.ensures.piece c.split_piece.ensures.rest);
    }

pub returns-clause-bytes : goal.returns-clause-bytes
returns-clause-bytes g c =
    let inv = c.heads.invariant in
    let new = g.F.FileStore.draft_bytes c.heads.files in
    let whole : List ℕ = g.F.FileStore.draft_bytes c.args.files.now ++ headed 4 0 c.args.heads.now c.args.left.now in
    let so_far : Type 0 = new ++ headed (4 - c.heads.index) c.heads.index c.args.heads.now c.heads.left.now ≡ whole in
    some_more (g.F.FileStore.files c.args.files.now) so_far so_far _ inv.bytes inv.bytes
    (λ h _. all_headed c.args.heads.now (4 - c.heads.index) c.heads.index new whole c.heads.left.now (omega (arith, c.heads-test.false)) h)
