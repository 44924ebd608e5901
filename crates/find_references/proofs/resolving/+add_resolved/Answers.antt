-- A step of the loop is a byte, or a reference that is looked for and then stays or is replaced.
use Rattle.std.proofs.Common.{◌≡◌, ◌<◌, ◌-◌, length, take, drop, sym, ap, ◌∙◌, subst, arith, length-drop}
use Rattle.std.proofs.lemmas.Result.{err_from_is_err_and}
use Rattle.find_references.specs.declared.seeking.Entries.{Entries}
use Rattle.find_references.specs.inside.Seen.{made_seen, reference_seen}
use Rattle.find_references.specs.inside.SeenEntries.{IsIndexed, rows_of}
use Rattle.find_references.proofs.Adding.{count_refused, made_over, of_whole, refused_over, replaced_left, rest_of, standing_left, standing_refused, value_refused}
use Rattle.find_references.proofs.IndexSteps.{sought_row}
use Rattle.find_references.proofs.Pieces.{stands_first}
use Rattle.find_references.proofs.Steps.{after_pieces}
use Rattle.vault_model.specs.SeenNodes.{entry_row}
use Rattle.find_references.proofs.resolving.+add_resolved.Goals as goal
use Rattle.find_references.proofs.resolving.+add_resolved.Goals.{in-Some-2+in_ok-add_resolved-in-Some-2, in-None+in_ok-copy-in-None}

pub returns-in_err-count-clause-made : goal.returns-in_err-count-clause-made
returns-in_err-count-clause-made t c =
    let rows = rows_of c.args.entries.now in
    let r = reference_seen c.in-Some.reference in
    let made = made_seen c.loop-rest.made in
    let p = err_from_is_err_and c.from_residual-in_err-count.result c.from_residual-in_err-count.ensures.1 in
    rw (p.1, p.2)
    (count_refused (c.args.levels - 1) rows c.loop-rest.rest.now r made _ (sym c.in-Some.ensures)
    (of_whole c.args.levels rows c.args.text.now c.loop-rest.rest.now made (made_seen c.args.made.now) c.loop-rest.invariant.0 c.loop-rest.invariant.1)
    _ c.in_err-count.ensures)

pub returns-in_err-add_resolved-in-Some-2-clause-made :
    goal.returns-in_err-add_resolved-in-Some-2-clause-made
returns-in_err-add_resolved-in-Some-2-clause-made t c =
    let rows = rows_of c.args.entries.now in
    let r = reference_seen c.in-Some.reference in
    let made = made_seen c.loop-rest.made in
    let p = err_from_is_err_and c.from_residual-in_err-add_resolved-in-Some-2.result c.from_residual-in_err-add_resolved-in-Some-2.ensures.1 in
    rw (p.1, p.2)
    (value_refused (c.args.levels - 1) rows c.loop-rest.rest.now r made _ (sym c.in-Some.ensures)
    (of_whole c.args.levels rows c.args.text.now c.loop-rest.rest.now made (made_seen c.args.made.now) c.loop-rest.invariant.0 c.loop-rest.invariant.1)
    _ (entry_row c.in-Some-2.entry.now) (made_seen c.count.new.made) c.part_value-value.result.now
    (sought_row r.place r.text c.in_ok-entry.field-0 _ c.loop-rest.entries.root c.args.entries.now.root
    c.in_ok-entry.ensures.found c.loop-rest.invariant.2 c.in-Some-2.is)
    c.in_ok-count.ensures c.part_value-value.ensures
    (refused_over _ c.find.new.self.root c.args.entries.now.root (c.args.levels - 1) c.part_value-value.result.now (made_seen c.count.new.made)
    (c.find.ensures.root ∙ c.loop-rest.invariant.2) c.in_err-add_resolved-in-Some-2.ensures.made))

pub returns-in_err-copy-in-None-clause-made : goal.returns-in_err-copy-in-None-clause-made
returns-in_err-copy-in-None-clause-made t c =
    let rows = rows_of c.args.entries.now in
    let r = reference_seen c.in-Some.reference in
    let made = made_seen c.loop-rest.made in
    let p = err_from_is_err_and c.from_residual-in_err-copy-in-None.result c.from_residual-in_err-copy-in-None.ensures.1 in
    rw (p.1, p.2)
    (standing_refused (c.args.levels - 1) rows c.loop-rest.rest.now r made _ (sym c.in-Some.ensures)
    (of_whole c.args.levels rows c.args.text.now c.loop-rest.rest.now made (made_seen c.args.made.now) c.loop-rest.invariant.0 c.loop-rest.invariant.1)
    _ (made_seen c.count.new.made)
    (sought_row r.place r.text c.in_ok-entry.field-0 _ c.loop-rest.entries.root c.args.entries.now.root
    c.in_ok-entry.ensures.found c.loop-rest.invariant.2 c.in-None.is)
    c.in_ok-count.ensures c.in_err-copy-in-None.ensures)

pub slice_bounds-rest-count-in-loop-rest : goal.slice_bounds-rest-count-in-loop-rest
slice_bounds-rest-count-in-loop-rest t c =
    (stands_first c.loop-rest.rest.now (reference_seen c.in-Some.reference) (sym c.in-Some.ensures)).within

pub slice_bounds-rest-start-in-loop-rest : goal.slice_bounds-rest-start-in-loop-rest
slice_bounds-rest-start-in-loop-rest t c =
    (stands_first c.loop-rest.rest.now (reference_seen c.in-Some.reference) (sym c.in-Some.ensures)).within

pub loop-rest-smaller : goal.loop-rest-smaller
loop-rest-smaller t c =
    let rest = c.loop-rest.rest.now in
    let n = length c.in-Some.reference.written.now in
    let s = stands_first rest (reference_seen c.in-Some.reference) (sym c.in-Some.ensures) in
    let less : length (take (length rest - n) (drop n rest)) < length rest =
    omega (arith, ap length (rest_of n rest), length-drop n rest, s.some, s.within) in
    less

pub loop-rest-preserved : goal.loop-rest-preserved
loop-rest-preserved t c =
    let rows = rows_of c.args.entries.now in
    let k = c.args.levels - 1 in
    let rest = c.loop-rest.rest.now in
    let r = reference_seen c.in-Some.reference in
    let n = length c.in-Some.reference.written.now in
    let made = made_seen c.loop-rest.made in
    let found = sym c.in-Some.ensures in
    let root : c.find.new.self.root ≡ c.args.entries.now.root = c.find.ensures.root ∙ c.loop-rest.invariant.2 in (
      c.loop-rest.invariant.0,
      ap (λ l. after_pieces k rows l (made_seen c.match-branch-4.made)) (rest_of n rest)
          ∙ elim c.match-branch-4.branch [
            | in-Some-2+in_ok-add_resolved-in-Some-2 w ↦
                ap (λ m. after_pieces k rows (drop n rest) (made_seen m)) w.made-is
                ∙ replaced_left k rows rest r made _ found c.loop-rest.invariant.1
                (entry_row w.in-Some-2.entry.now) (made_seen c.count.new.made) (made_seen w.add_resolved.new.made) w.part_value-value.result.now
                (sought_row r.place r.text c.in_ok-entry.field-0 _ c.loop-rest.entries.root c.args.entries.now.root
                c.in_ok-entry.ensures.found c.loop-rest.invariant.2 w.in-Some-2.is)
                c.in_ok-count.ensures w.part_value-value.ensures
                (made_over c.find.new.self.root c.args.entries.now.root k w.part_value-value.result.now (made_seen c.count.new.made)
                (made_seen w.add_resolved.new.made) root w.in_ok-add_resolved-in-Some-2.ensures.made)
            | in-None+in_ok-copy-in-None w ↦
                ap (λ m. after_pieces k rows (drop n rest) (made_seen m)) w.made-is
                ∙ standing_left k rows rest r made _ found c.loop-rest.invariant.1
                (made_seen c.count.new.made) (made_seen w.copy-in-None.new.made)
                (sought_row r.place r.text c.in_ok-entry.field-0 _ c.loop-rest.entries.root c.args.entries.now.root
                c.in_ok-entry.ensures.found c.loop-rest.invariant.2 w.in-None.is)
                c.in_ok-count.ensures w.in_ok-copy-in-None.ensures
          ],
      elim c.match-branch-4.branch [
        | in-Some-2+in_ok-add_resolved-in-Some-2 w ↦
            ap (λ (e : Entries). e.root) w.entries-is ∙ w.add_resolved.ensures.root ∙ root
        | in-None+in_ok-copy-in-None w ↦ ap (λ (e : Entries). e.root) w.entries-is ∙ root
      ],
      elim c.match-branch-4.branch [
        | in-Some-2+in_ok-add_resolved-in-Some-2 w ↦
            subst (λ (e : Entries). IsIndexed e) (sym w.entries-is) w.in_ok-add_resolved-in-Some-2.ensures.indexed
        | in-None+in_ok-copy-in-None w ↦
            subst (λ (e : Entries). IsIndexed e) (sym w.entries-is) c.in_ok-entry.ensures.indexed
      ],
    )
