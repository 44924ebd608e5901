use Rattle.std.proofs.Common.{List, drop, length, map, sym, ap, ◌∙◌, w32, w64}
use Rattle.std.proofs.lemmas.Int.{to_z-of_z}
use Rattle.std.proofs.lemmas.List.{drop-map}
use Rattle.vault_model.specs.SeenNodes.{bare_version}
use Rattle.vault_model.specs.declared.nodes.Version.{Version}
use Rattle.tree_core.specs.Histories.{within_limits}
use Rattle.tree_edits.proofs.limits.limit_history.Goals as goal

pub cut_start-requires : goal.cut_start-requires
cut_start-requires c = rw (ap (λ (vs : List Version). length vs) c.as_slice.ensures) at c.excess-excess.ensures.within

pub returns : goal.returns
returns c =
    let items = to_z-of_z w32 c.args.items c.ranges.items in
    let size = to_z-of_z w64 c.args.size c.ranges.size in
    let all = c.args.history.now in
    ap (map bare_version) c.cut_start.ensures
    ∙ sym (drop-map bare_version c.excess-excess.result all)
    ∙ ap (λ (vs : List Version). drop c.excess-excess.result (map bare_version vs)) (sym c.as_slice.ensures)
    ∙ c.excess-excess.ensures.drops
    ∙ (λ i. within_limits (items i) (size i) (map bare_version (c.as_slice.ensures i)))
