-- A group that is passed over has no entry below it that is left.
use Rattle.std.proofs.Common.{◌≡◌, ◌+◌, List, None, drop, sym, ap, ◌∙◌}
use Rattle.std.specs.Prelude.{map, option_map}
use Rattle.vault_model.proofs.SeenGroups.{seen_group}
use Rattle.vault_model.specs.SeenNodes.{tree_seen}
use Rattle.vault_model.specs.Tree.{all_trees}
use Rattle.vault_model.specs.Walk.{name_of}
use Rattle.vault_model.specs.declared.nodes.Group.{Group}
use Rattle.tree_core.specs.Finding.{or_else}
use Rattle.tree_core.specs.Path as spec
use Rattle.tree_core.proofs.Steps.{drop_next}
use Rattle.tree_core.proofs.finding.+entry_in.Goals as goal

pub loop-child-preserved : goal.loop-child-preserved
loop-child-preserved t c =
    let items = c.as_slice-child-items.result.now in
    let i = c.loop-child.child-index in
    let x = c.child-item.result in
    let seen = tree_seen x in
    let rest = option_map (λ r. r.now) c.args.rest in
    let other = option_map (λ r. r.now) c.args.other in
    let all = λ (gs : List Group). spec.entry_in_all rest other (all_trees (map tree_seen gs)) in
    let name : c.as_bytes-name.result.now ≡ name_of seen = c.as_bytes-name.ensures.value ∙ c.as_str.ensures ∙ sym (ap name_of (seen_group x)) in
    let absent : spec.entry_in (spec.strip_component (name_of seen) rest) (spec.strip_component (name_of seen) other) seen ≡ None =
    (λ k. spec.entry_in ((ap (λ n. spec.strip_component n rest) (sym name) ∙ sym c.strip_component.ensures) k)
    ((ap (λ n. spec.strip_component n other) (sym name) ∙ sym c.strip_component-in-loop-child.ensures) k) seen)
    ∙ sym c.entry_in.ensures ∙ c.in_default-entry_in.is
    in
    sym (ap all (drop_next items i x c.loop-child-test.true c.child-item.is)
    ∙ ap (λ o. or_else o (all (drop (i + 1) items))) absent)
    ∙ c.loop-child.invariant
