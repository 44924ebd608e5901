use Rattle.std.proofs.Common.{Bor, List, ℕ, map, ap, sym, ◌∙◌}
use Rattle.std.proofs.lemmas.List.{drop_all}
use Rattle.table_reading.specs.Columns.{is_among}
use Rattle.table_reading.proofs.Places.{among_here, among_later}
use Rattle.table_reading.proofs.columns.is_among.Goals as goal

pub returns-then-is_called : goal.returns-then-is_called
returns-then-is_called c =
    sym (among_here c.args.column.now c.args.names.now c.loop-name.name-index _ c.loop-name-test.true (sym c.is_called.ensures ∙ c.if-is_called.true)) ∙ c.loop-name.invariant

pub loop-name-preserved : goal.loop-name-preserved
loop-name-preserved c =
    among_later c.args.column.now c.args.names.now c.loop-name.name-index _ c.loop-name-test.true (sym c.is_called.ensures ∙ c.if-is_called.false) ∙ c.loop-name.invariant

pub returns : goal.returns
returns c =
    sym (ap (λ (l : List (Bor (List ℕ))). is_among (map (λ (name : Bor (List ℕ)). name.now) l) c.args.column.now) (drop_all c.loop-name.name-index c.args.names.now c.loop-name-test.false))
    ∙ c.loop-name.invariant
