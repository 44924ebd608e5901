use Rattle.std.proofs.Common.{List, map, sym, ap, ◌∙◌}
use Rattle.std.specs.List.{find}
use Rattle.find_references.specs.Fields.{has_at}
use Rattle.find_references.proofs.SoughtEntries.{found_below, found_here, found_nowhere, passed_by}
use Rattle.vault_model.specs.SeenNodes.{entry_row}
use Rattle.vault_model.specs.declared.nodes.Entry.{Entry}
use Rattle.find_references.proofs.seeking.+entry_in.Goals as goal

pub returns-in-Some : goal.returns-in-Some
returns-in-Some t c =
    found_here c.args.group.now c.args.place c.args.text.now (entry_row c.in-Some.entry.now)
    (ap (λ (es : List Entry). find (has_at c.args.place c.args.text.now) (map entry_row es)) (sym c.as_slice.ensures) ∙ sym c.in-Some.ensures)

pub returns-in-Some-entry_in : goal.returns-in-Some-entry_in
returns-in-Some-entry_in t c =
    found_below c.args.group.now c.args.place c.args.text.now c.as_slice-child-items.result.now c.loop-child.child-index c.child-item.result (entry_row c.in-Some-entry_in.entry.now)
    (ap (λ (es : List Entry). find (has_at c.args.place c.args.text.now) (map entry_row es)) (sym c.as_slice.ensures) ∙ sym c.in_default.ensures)
    c.as_slice-child-items.ensures c.loop-child-test.true c.child-item.is c.loop-child.invariant (sym c.in-Some-entry_in.ensures)

pub loop-child-preserved : goal.loop-child-preserved
loop-child-preserved t c =
    passed_by c.args.place c.args.text.now c.as_slice-child-items.result.now c.loop-child.child-index c.child-item.result _
    c.loop-child-test.true c.child-item.is (sym c.in_default-entry_in.ensures) c.loop-child.invariant

pub returns : goal.returns
returns t c =
    found_nowhere c.args.group.now c.args.place c.args.text.now c.as_slice-child-items.result.now c.loop-child.child-index
    (ap (λ (es : List Entry). find (has_at c.args.place c.args.text.now) (map entry_row es)) (sym c.as_slice.ensures) ∙ sym c.in_default.ensures)
    c.as_slice-child-items.ensures c.loop-child-test.false c.loop-child.invariant
