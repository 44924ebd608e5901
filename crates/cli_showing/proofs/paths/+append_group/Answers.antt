use Rattle.std.proofs.Common.{◌≡◌, ◌+◌, ◌-◌, ◌++◌, ◌∷◌, List, ℕ, length, drop, append_assoc, ap, sym, ◌∙◌, arith, take_all}
use Rattle.std.proofs.lemmas.List.{drop_more}
use Rattle.std.specs.BTreeSet.{contains}
use Rattle.std.specs.Prelude.{map, slice_range}
use Rattle.vault_model.specs.Db.{id_cmp}
use Rattle.vault_model.specs.SeenNodes.{tree_seen}
use Rattle.vault_model.specs.Tree.{all_trees}
use Rattle.vault_model.specs.Walk.{name_of}
use Rattle.vault_model.specs.declared.nodes.Group.{Group}
use Rattle.vault_model.proofs.SeenGroups.{seen_group}
use Rattle.cli_showing.specs.inside.Walking.{front_below, tree_lines, trees_lines}
use Rattle.cli_showing.proofs.paths.+append_group.Goals as goal

pub loop-child-preserved : goal.loop-child-preserved
loop-child-preserved n c =
    let is_found = contains id_cmp c.args.ids.now in
    let front = c.args.front.now in
    let groups = c.as_slice-child-items.result.now in
    let at = c.loop-child.child-index in
    let child = c.child-item.result in
    let bytes = c.in_ok-below.below.bytes in
    let so_far = c.loop-child.text.bytes in
    let later = trees_lines is_found front (all_trees (map tree_seen (drop (at + 1) groups))) in
    let opened : drop at groups ≡ child ∷ drop (at + 1) groups =
    drop_more groups at child c.loop-child-test.true ∙ ap (λ (g : Group). g ∷ drop (at + 1) groups) (sym c.child-item.is) in
    let name : c.as_bytes-name.result.now ≡ name_of (tree_seen child) =
    c.as_bytes-name.ensures.value ∙ c.as_str.ensures ∙ sym (ap name_of (seen_group child)) in
    let lent : c.lend.result.now ≡ bytes = c.lend.ensures ∙ ap (slice_range bytes 0) c.len.ensures ∙ take_all (length bytes - 0) bytes (omega arith) in
    let below : c.lend.result.now ≡ front_below front (name_of (tree_seen child)) = lent ∙ c.in_ok-below.ensures ∙ ap (front_below front) name in
    ap (λ (bs : List ℕ). bs ++ later) (c.in_ok-appended.ensures ∙ ap (λ (f : List ℕ). so_far ++ tree_lines is_found f (tree_seen child)) below)
    ∙ append_assoc so_far (tree_lines is_found (front_below front (name_of (tree_seen child))) (tree_seen child)) later
    ∙ ap (λ (gs : List Group). so_far ++ trees_lines is_found front (all_trees (map tree_seen gs))) (sym opened)
    ∙ c.loop-child.invariant
