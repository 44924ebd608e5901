use Rattle.std.proofs.Common.{max, ap, ◌∙◌, arith}
use Rattle.std.specs.Option.{unwrap_or}
use Rattle.doc_resolving.proofs.Burials.{bury_before}
use Rattle.doc_resolving.proofs.tombs.latest_of.Goals as goal

pub loop-at-preserved : goal.loop-at-preserved
loop-at-preserved c =
    let tomb = c.index-tombs-at.result in
    let time = c.later-deleted.ensures ∙ ap (λ o. max tomb.deleted (unwrap_or o 0)) (c.copied.ensures ∙ c.get.ensures.value) in
    record {
      within = omega arith;
      buried = bury_before c.args.tombs.now c.loop-at.at tomb c.loop-at.latest.entries c.insert.new.self.entries c.later-deleted.result
          c.loop-at.invariant.buried c.loop-at-test.true c.loop-at.invariant.within c.index-tombs-at.is c.insert.ensures.was_ordered time c.in_default.ensures.entries;
    }
