use Rattle.std.proofs.Common.{sym, ◌∙◌, arith}
use Rattle.bitwarden_items.specs.Seen.{password_seen}
use Rattle.bitwarden_items.proofs.Places.{comes_here, comes_later, is_there}
use Rattle.bitwarden_items.proofs.passwords.place_among.Goals as goal

pub returns-in-Less : goal.returns-in-Less
returns-in-Less c = (
  omega (arith, c.loop-at-test.true),
  comes_here (password_seen c.args.p.now) c.args.rising.now c.loop-at.at c.loop-at.invariant c.index-rising-at.result c.loop-at-test.true c.index-rising-at.is (sym c.compare.ensures ∙ c.in-Less.is),
)

pub returns-in-Equal : goal.returns-in-Equal
returns-in-Equal c =
    is_there (password_seen c.args.p.now) c.args.rising.now c.loop-at.at c.loop-at.invariant c.index-rising-at.result c.loop-at-test.true c.index-rising-at.is (sym c.compare.ensures ∙ c.in-Equal.is)

pub loop-at-preserved : goal.loop-at-preserved
loop-at-preserved c =
    comes_later (password_seen c.args.p.now) c.args.rising.now c.loop-at.at c.loop-at.invariant c.index-rising-at.result c.loop-at-test.true c.index-rising-at.is (sym c.compare.ensures ∙ c.in-Greater.is)
