-- One row after another, while the key is greater.
use Rattle.std.proofs.Common.{◌≡◌, ◌<◌, ◌+◌, ℕ, length, drop, List, Result, Ok, Err, arith, sym, ap, ◌∙◌}
use Rattle.std.specs.declared.cmp.Ordering.{Ordering}
use Rattle.vault_model.specs.Unite.{by_order}
use Rattle.merge_tables.specs.RowPositions.{position_of, further}
use Rattle.merge_tables.proofs.ListSteps.{drop_next}
use Rattle.merge_tables.proofs.rows.search.Goals as goal

further_twice : (n : ℕ) (p : Result ℕ ℕ) → further n (further 1 p) ≡ further (n + 1) p
further_twice n (Ok at) = let same : n + (1 + at) ≡ (n + 1) + at = omega arith in ap (λ (k : ℕ). Ok k) same
further_twice n (Err at) = let same : n + (1 + at) ≡ (n + 1) + at = omega arith in ap (λ (k : ℕ). Err k) same

pub loop-at-preserved : goal.loop-at-preserved
loop-at-preserved g c =
    let R = g.K.Ord.cmp in
    let rows = c.args.rows.now in
    let key = c.args.key.now in
    let i = c.loop-at.at in
    let e = c.index-rows-at.result in
    let lt = c.loop-at-test.true in
    let rest = position_of R key (drop (i + 1) rows) in
    c.loop-at.invariant
    ∙ ap (λ es. further i (position_of R key es)) (drop_next rows i e lt c.index-rows-at.is)
    ∙ ap (λ (o : Ordering). further i (by_order o (Err 0) (Ok 0) (further 1 rest))) (sym c.cmp.ensures ∙ c.in-Greater.is)
    ∙ further_twice i rest
