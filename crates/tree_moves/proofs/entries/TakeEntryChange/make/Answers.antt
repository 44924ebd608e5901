use Rattle.std.proofs.Common.{sym, ap, refl, ◌∙◌}
use Rattle.std.specs.List.{position}
use Rattle.vault_model.specs.Join.{is_id}
use Rattle.vault_model.specs.declared.nodes.Entry.{Entry}
use Rattle.vault_model.specs.SeenNodes.{tree_seen}
use Rattle.tree_moves.proofs.Taken.{entry_absent, entry_taken}
use Rattle.tree_steps.proofs.InPlace.{with_entries}
use Rattle.tree_moves.proofs.entries.TakeEntryChange.make.Goals as goal

pub returns : goal.returns
returns c =
    let h = entry_taken c.args.self.id c.args.group.now c.in_ok-at.at c.remove.result (ap (position (λ (e : Entry). is_id e.id c.args.self.id)) (sym c.as_slice.ensures) ∙ sym c.place_in.ensures ∙ c.in_ok-at.was) c.remove.ensures.value in
    (h.0, ap (λ es. tree_seen (with_entries c.args.group.now es)) c.remove.ensures.rest ∙ h.1)

pub returns-in_err-at : goal.returns-in_err-at
returns-in_err-at c =
    let absent = entry_absent c.args.self.id c.args.group.now (ap (position (λ (e : Entry). is_id e.id c.args.self.id)) (sym c.as_slice.ensures) ∙ sym c.place_in.ensures ∙ c.in_err-at.was) in
    rw c.from_residual.ensures (absent, refl)
