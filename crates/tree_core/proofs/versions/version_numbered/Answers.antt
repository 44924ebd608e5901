use Rattle.std.proofs.Common.{◌≡◌, ◌-◌, ◌≤◌, length, arith, ap, ◌∙◌}
use Rattle.tree_core.proofs.Numbered.{numbered_seen}
use Rattle.tree_core.proofs.versions.version_numbered.Goals as goal

pub returns : goal.returns
returns c =
    let e = c.args.entry.now in
    let p = c.in_ok-at.ensures in
    let le : c.args.number ≤ length e.history = omega (arith, p.0, c.len.ensures) in
    let is : c.in_ok-at.at ≡ length e.history - c.args.number = p.1 ∙ ap (λ n. n - c.args.number) c.len.ensures in
    numbered_seen e c.args.number c.in_ok-at.at c.get.result c.if-number-eq0.false le is c.get.ensures
