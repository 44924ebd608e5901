use Rattle.std.proofs.Common.{sym, ap, ◌∙◌}
use Rattle.std.specs.Borrow.{Bor}
use Rattle.std.specs.BTreeMap.{get}
use Rattle.std.specs.List.{find}
use Rattle.std.specs.Ordering.{nat_cmp}
use Rattle.find_references.proofs.IndexSteps.{found_at_once, ok_also}
use Rattle.find_references.proofs.SoughtEntries.{sought_along}
use Rattle.find_references.specs.Fields.{has_at}
use Rattle.find_references.specs.inside.SeenEntries.{rows_of}
use Rattle.vault_model.specs.SeenNodes.{tree_seen}
use Rattle.vault_model.specs.Tree.{entry_rows}
use Rattle.vault_model.specs.declared.nodes.Group.{Group}
use Rattle.find_references.proofs.seeking.Entries.find.Goals as goal

pub returns-then-self-lt-MOST_LOOKS-clause-found :
    goal.returns-then-self-lt-MOST_LOOKS-clause-found
returns-then-self-lt-MOST_LOOKS-clause-found c =
    c.entry_in.ensures ∙ sought_along c.args.place c.args.text.now (tree_seen c.args.self.now.root.now)

pub returns-in-Some-clause-found : goal.returns-in-Some-clause-found
returns-in-Some-clause-found c =
    let indexes = c.add_index.new.self.indexes in
    ok_also _ _ c.entry_at.result
    (λ found is.
    found_at_once (rows_of c.add_index.new.self) (rows_of c.args.self.now) indexes c.args.place c.args.text.now c.in-Some.index.now _
    (ap (λ (g : Bor Group). entry_rows (tree_seen g.now)) c.in_ok-add_index.ensures.root) c.in_ok-add_index.ensures.indexed
    (ap (get nat_cmp indexes) (sym c.number_of.ensures) ∙ sym c.in-Some.ensures.value) is)
    c.entry_at.ensures

pub returns-in-None-clause-found : goal.returns-in-None-clause-found
returns-in-None-clause-found c =
    c.entry_in-in-None.ensures
    ∙ sought_along c.args.place c.args.text.now (tree_seen c.add_index.new.self.root.now)
    ∙ ap (λ (g : Bor Group). find (has_at c.args.place c.args.text.now) (entry_rows (tree_seen g.now))) c.in_ok-add_index.ensures.root
