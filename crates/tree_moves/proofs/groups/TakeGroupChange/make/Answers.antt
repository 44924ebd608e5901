use Rattle.std.proofs.Common.{sym, ap, refl, List, ◌∙◌}
use Rattle.std.specs.List.{position}
use Rattle.vault_model.specs.Join.{is_id}
use Rattle.vault_model.specs.SeenNodes.{tree_seen}
use Rattle.vault_model.specs.declared.nodes.Group.{Group, out-Group}
use Rattle.tree_moves.proofs.GroupsTaken.{group_absent, group_taken}
use Rattle.tree_steps.proofs.InPlace.{with_groups}
use Rattle.tree_moves.proofs.groups.TakeGroupChange.make.Goals as goal

pub returns : goal.returns
returns c =
    let way = ap (position (λ (g : Group). is_id (out-Group g).id c.args.self.id)) (sym c.as_slice.ensures) ∙ sym c.place_in.ensures ∙ c.in_ok-at.was in
    let h = group_taken c.args.self.id c.args.group.now c.in_ok-at.at c.remove.result way c.remove.ensures.value in
    (h.0, ap (λ gs. tree_seen (with_groups c.args.group.now gs)) c.remove.ensures.rest ∙ h.1)

pub returns-in_err-at : goal.returns-in_err-at
returns-in_err-at c =
    let absent = group_absent c.args.self.id c.args.group.now (ap (position (λ (g : Group). is_id (out-Group g).id c.args.self.id)) (sym c.as_slice.ensures) ∙ sym c.place_in.ensures ∙ c.in_err-at.was) in
    rw c.from_residual.ensures (absent, refl)
