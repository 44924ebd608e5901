-- The search finds the row, or where it is to be put.
use Rattle.std.proofs.Common.{◌≡◌, List, set, ap, sym, subst, ◌∙◌}
use Rattle.std.proofs.Math.Dec.{T}
use Rattle.std.specs.declared.cmp.Ordering.{Ordering}
use Rattle.std.specs.FinMap.{put, is_sorted}
use Rattle.std.specs.FinMap.Entries.{is_sorted-put}
use Rattle.merge_tables.specs.RowPositions.{position_of}
use Rattle.merge_tables.proofs.PutRows.{at_position, put_at}
use Rattle.merge_tables.proofs.rows.put.Goals as goal

stays : {K X : Type 0} (R : K → K → Ordering) (es fs : List (K × X)) → fs ≡ es → T (is_sorted R es) → T (is_sorted R fs)
stays {K} {X} R es fs e h = subst (λ (ds : List (K × X)). T (is_sorted R ds)) (sym e) h

pub returns-in-Ok-clause-ok : goal.returns-in-Ok-clause-ok
returns-in-Ok-clause-ok g c =
    let R = g.K.Ord.cmp in
    let rows = c.args.rows.now.items in
    let w = c.index_mut.result.now in
    ap (λ (e : g.row.K.Denot × g.row.X.Denot). set rows c.in-Ok.at (e.0, c.args.value)) c.index_mut.ensures.value
    ∙ ap (at_position R c.args.key c.args.value w rows) (c.in-Ok.ensures.position ∙ ap (position_of R c.args.key) c.as_slice.ensures.value)
    ∙ put_at R c.args.key c.args.value w rows

pub returns-in-Ok-clause-sorted : goal.returns-in-Ok-clause-sorted
returns-in-Ok-clause-sorted g c h =
    stays g.K.Ord.cmp (put g.K.Ord.cmp c.args.key c.args.value c.args.rows.now.items) _ (returns-in-Ok-clause-ok g c)
    (is_sorted-put g.K.Ord.cmp g.met.K.Ord.total c.args.key c.args.value c.args.rows.now.items h)

pub returns-in_ok-insert-in-Err-clause-ok : goal.returns-in_ok-insert-in-Err-clause-ok
returns-in_ok-insert-in-Err-clause-ok g c =
    let R = g.K.Ord.cmp in
    let rows = c.args.rows.now.items in
    let w : g.row.K.Denot × g.row.X.Denot = (c.args.key, c.args.value) in
    c.in_ok-insert-in-Err.ensures.items
    ∙ ap (at_position R c.args.key c.args.value w rows) (c.in-Err.ensures.position ∙ ap (position_of R c.args.key) c.as_slice.ensures.value)
    ∙ put_at R c.args.key c.args.value w rows

pub returns-in_ok-insert-in-Err-clause-sorted : goal.returns-in_ok-insert-in-Err-clause-sorted
returns-in_ok-insert-in-Err-clause-sorted g c h =
    stays g.K.Ord.cmp (put g.K.Ord.cmp c.args.key c.args.value c.args.rows.now.items) _ (returns-in_ok-insert-in-Err-clause-ok g c)
    (is_sorted-put g.K.Ord.cmp g.met.K.Ord.total c.args.key c.args.value c.args.rows.now.items h)
