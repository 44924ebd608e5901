use Rattle.std.proofs.Common.{◌-◌, Bool, Some, cond, subst, arith}
use Rattle.doc_resolving.specs.DocForms.Ids.{lesser_id}
use Rattle.doc_resolving.proofs.IdSets.{SetFrom, one_before}
use Rattle.import_tree.proofs.depths.least_duplicate_of.Goals as goal

pub loop-at-preserved-then-not-branch : goal.loop-at-preserved-then-not-branch
loop-at-preserved-then-not-branch c =
    let u = c.index-ids-at.result in
    let least = c.loop-at.duplicate in
    record {
      within = omega arith;
      known = rw c.lesser.ensures
          (subst (λ (b : Bool). SetFrom c.args.ids.now (c.loop-at.at - 1) (cond b least (Some (lesser_id u least))) c.insert.new.self) c.if-not-branch.true
          (one_before c.args.ids.now c.loop-at.at u least c.loop-at.set c.insert.new.self c.in_ok-insert.field-0 c.loop-at.invariant.known
          c.loop-at-test.true c.loop-at.invariant.within c.index-ids-at.is c.in_ok-insert.ensures.added c.in_ok-insert.ensures.updates));
    }

pub loop-at-preserved : goal.loop-at-preserved
loop-at-preserved c =
    let u = c.index-ids-at.result in
    let least = c.loop-at.duplicate in
    record {
      within = omega arith;
      known = subst (λ (b : Bool). SetFrom c.args.ids.now (c.loop-at.at - 1) (cond b least (Some (lesser_id u least))) c.insert.new.self) c.if-not-branch.false
          (one_before c.args.ids.now c.loop-at.at u least c.loop-at.set c.insert.new.self c.in_ok-insert.field-0 c.loop-at.invariant.known
          c.loop-at-test.true c.loop-at.invariant.within c.index-ids-at.is c.in_ok-insert.ensures.added c.in_ok-insert.ensures.updates);
    }
