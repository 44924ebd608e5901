use Rattle.std.proofs.Common.{◌≡◌, Bor, List, ℕ, map, Some, cond, sym, ap, ◌∙◌, arith}
use Rattle.csv.specs.Records.{fields_of}
use Rattle.table_reading.proofs.Places.{place_step}
use Rattle.table_reading.proofs.columns.place_of.Goals.{then-is_named, else-is_named}
use Rattle.table_reading.proofs.columns.place_of.Goals as goal

pub loop-at-preserved : goal.loop-at-preserved
loop-at-preserved c =
    let at = c.loop-at.at in
    let before = c.loop-at.place in
    let chosen : c.if-is_named.place ≡ cond c.is_named.result (Some at) before = elim c.if-is_named.branch [
      | then-is_named w ↦ w.place-is ∙ ap (λ b. cond b (Some at) before) (sym w.if-is_named.true)
      | else-is_named w ↦ w.place-is ∙ ap (λ b. cond b (Some at) before) (sym w.if-is_named.false)
    ] in
    place_step (map (λ (name : Bor (List ℕ)). name.now) c.args.names.now) (fields_of c.args.row.now) at before c.if-is_named.place c.is_named.result (omega (arith, c.loop-at-test.true, c.len-at-end.ensures)) c.loop-at.invariant c.is_named.ensures chosen
