use Rattle.std.proofs.Common.{◌∙◌, sym, ap}
use Rattle.std.specs.Prelude.{find, is_some, map}
use Rattle.vault_model.specs.Db.{NodeId}
use Rattle.vault_model.specs.Join.{is_id}
use Rattle.vault_model.specs.SeenNodes.{entry_row}
use Rattle.vault_model.specs.Shape.{EntryRecord}
use Rattle.vault_model.specs.declared.nodes.Entry.{Entry}
use Rattle.std.proofs.Common.{List}
use Rattle.tree_steps.proofs.Holds.{holder_found, holder_here, holder_none}
use Rattle.tree_steps.proofs.searches.+holder.Goals as goal

pub returns-then-has_own_entry : goal.returns-then-has_own_entry
returns-then-has_own_entry t c =
    let own = ap (λ (es : List Entry). is_some (find (λ (e : NodeId × EntryRecord). is_id e.0 c.args.id) (map entry_row es))) (sym c.as_slice.ensures) ∙ sym c.has_own_entry.ensures ∙ c.if-has_own_entry.true in
    holder_here c.args.id c.args.group.now own

pub returns-in-Some : goal.returns-in-Some
returns-in-Some t c =
    let own = ap (λ (es : List Entry). is_some (find (λ (e : NodeId × EntryRecord). is_id e.0 c.args.id) (map entry_row es))) (sym c.as_slice.ensures) ∙ sym c.has_own_entry.ensures ∙ c.if-has_own_entry.false in
    holder_found c.args.id c.in-Some.found c.args.group.now c.child-item.result c.as_slice-child-items.result.now c.loop-child.child-index own c.as_slice-child-items.ensures
    c.loop-child-test.true c.child-item.is c.loop-child.invariant (sym c.holder.ensures ∙ c.in-Some.is)

pub returns : goal.returns
returns t c =
    let own = ap (λ (es : List Entry). is_some (find (λ (e : NodeId × EntryRecord). is_id e.0 c.args.id) (map entry_row es))) (sym c.as_slice.ensures) ∙ sym c.has_own_entry.ensures ∙ c.if-has_own_entry.false in
    holder_none c.args.id c.args.group.now c.as_slice-child-items.result.now c.loop-child.child-index own c.as_slice-child-items.ensures c.loop-child-test.false c.loop-child.invariant
