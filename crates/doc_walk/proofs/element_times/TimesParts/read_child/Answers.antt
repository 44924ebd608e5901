use Rattle.std.proofs.Common.{ℕ, Bool}
use Rattle.doc_forms.specs.declared.times.Times.{Times}
use Rattle.doc_forms.specs.Tables.{times_rows}
use Rattle.doc_walk.proofs.Branches.{passed_over}
use Rattle.doc_walk.proofs.Rests.{kept_in}
use Rattle.doc_walk.proofs.element_times.TimesParts.read_child.Goals as goal

pub returns-in-LastModificationTime : goal.returns-in-LastModificationTime
returns-in-LastModificationTime c = rw c.in-LastModificationTime.is (kept_in (λ (v : ℕ). let p : Times = record c.args.self.now { modified = v } in p) c.keep.ensures)

pub returns-in-CreationTime : goal.returns-in-CreationTime
returns-in-CreationTime c = rw c.in-CreationTime.is (kept_in (λ (v : ℕ). let p : Times = record c.args.self.now { created = v } in p) c.keep-in-CreationTime.ensures)

pub returns-in-LastAccessTime : goal.returns-in-LastAccessTime
returns-in-LastAccessTime c = rw c.in-LastAccessTime.is (kept_in (λ (v : ℕ). let p : Times = record c.args.self.now { accessed = v } in p) c.keep-in-LastAccessTime.ensures)

pub returns-in-ExpiryTime : goal.returns-in-ExpiryTime
returns-in-ExpiryTime c = rw c.in-ExpiryTime.is (kept_in (λ (v : ℕ). let p : Times = record c.args.self.now { expiry = v } in p) c.keep-in-ExpiryTime.ensures)

pub returns-in-Expires : goal.returns-in-Expires
returns-in-Expires c = rw c.in-Expires.is (kept_in (λ (v : Bool). let p : Times = record c.args.self.now { expires = v } in p) c.keep-in-Expires.ensures)

pub returns-in-UsageCount : goal.returns-in-UsageCount
returns-in-UsageCount c = rw c.in-UsageCount.is (kept_in (λ (v : ℕ). let p : Times = record c.args.self.now { usage = v } in p) c.keep-in-UsageCount.ensures)

pub returns-in-LocationChanged : goal.returns-in-LocationChanged
returns-in-LocationChanged c = rw c.in-LocationChanged.is (kept_in (λ (v : ℕ). let p : Times = record c.args.self.now { placed = v } in p) c.keep-in-LocationChanged.ensures)

pub returns-in_default : goal.returns-in_default
returns-in_default c =
    passed_over c.args.walk.now c.pass.new.self c.pass.result times_rows c.args.self.now c.args.tag.now
    (λ _. (c.in_default.not-LastModificationTime, (c.in_default.not-CreationTime, (c.in_default.not-LastAccessTime, (c.in_default.not-ExpiryTime, (c.in_default.not-Expires, (c.in_default.not-UsageCount, (c.in_default.not-LocationChanged, tt))))))))
    c.pass.ensures
