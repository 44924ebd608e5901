use Rattle.std.proofs.Common.{Bool, ℕ, List}
use Rattle.std.proofs.lemmas.Result.{err_from_is_err_and}
use Rattle.vault_model.specs.declared.contents.AutoType.{AutoType}
use Rattle.doc_forms.specs.Entries.{auto_type_rows, with_association}
use Rattle.doc_walk.proofs.Branches.{passed_over, put_in, refused_in}
use Rattle.doc_walk.proofs.Rests.{kept_in}
use Rattle.doc_entries.proofs.auto_types.AutoTypeDraftParts.read_child.Goals as goal

pub returns-in-Enabled : goal.returns-in-Enabled
returns-in-Enabled c = rw c.in-Enabled.is (kept_in (λ (v : Bool). let p : AutoType = record c.args.self.now.auto_type { enabled = v } in p) c.keep.ensures)

pub returns-in-DataTransferObfuscation : goal.returns-in-DataTransferObfuscation
returns-in-DataTransferObfuscation c = rw c.in-DataTransferObfuscation.is (kept_in (λ (v : ℕ). let p : AutoType = record c.args.self.now.auto_type { obfuscation = v } in p) c.keep-in-DataTransferObfuscation.ensures)

pub returns-in-DefaultSequence : goal.returns-in-DefaultSequence
returns-in-DefaultSequence c = rw c.in-DefaultSequence.is (kept_in (λ (v : List ℕ). let p : AutoType = record c.args.self.now.auto_type { sequence = v } in p) c.keep-in-DefaultSequence.ensures)

pub returns-in_ok-pair-in-Association : goal.returns-in_ok-pair-in-Association
returns-in_ok-pair-in-Association c = rw c.in-Association.is (put_in (with_association c.args.self.now.auto_type) c.in_ok-pair-in-Association.ensures c.add_association.ensures)

pub returns-in_err-pair-in-Association : goal.returns-in_err-pair-in-Association
returns-in_err-pair-in-Association c =
    let p = err_from_is_err_and c.from_residual.result c.from_residual.ensures.1 in
    rw (p.1, p.2, c.in-Association.is) (refused_in (with_association c.args.self.now.auto_type) c.in_err-pair-in-Association.ensures)

pub returns-in_default : goal.returns-in_default
returns-in_default c =
    passed_over c.args.walk.now c.pass.new.self c.pass.result auto_type_rows c.args.self.now.auto_type c.args.tag.now
    (λ _. (c.in_default.not-Enabled, (c.in_default.not-DataTransferObfuscation, (c.in_default.not-DefaultSequence, (c.in_default.not-Association, tt)))))
    c.pass.ensures
