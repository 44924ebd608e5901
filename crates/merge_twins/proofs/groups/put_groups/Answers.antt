use Rattle.std.proofs.Common.{◌≡◌, ◌++◌, ◌∷◌, [], ℕ, ap, ◌∙◌, arith, map, subst}
use Rattle.vault_model.proofs.Tests.{map_append}
use Rattle.vault_model.specs.SeenNodes.{tree_seen}
use Rattle.merge_twins.specs.Rules.{rules_of}
use Rattle.merge_twins.specs.Twins.{group_tree, numbers}
use Rattle.merge_twins.proofs.Growing.{grown, groups_more}
use Rattle.merge_twins.proofs.groups.put_groups.Goals as goal

pub loop-number-preserved : goal.loop-number-preserved
loop-number-preserved c =
    grown _ _ _ _ _ _
    (ap (map tree_seen) c.in_ok-put_last.ensures ∙ map_append tree_seen c.loop-number.groups (c.in_ok-made.made ∷ [])
    ∙ ap (λ t. map tree_seen c.loop-number.groups ++ t ∷ []) c.in_ok-made.ensures)
    c.loop-number.invariant (groups_more (rules_of c.args.which) c.args.count c.loop-number.number)

pub returns : goal.returns
returns c =
    let all : c.loop-number.number ≡ 16 = omega arith in
    subst (λ (n : ℕ). map tree_seen c.loop-number.groups ≡ map tree_seen c.args.groups.now ++ map (group_tree (rules_of c.args.which) c.args.count) (numbers n)) all
    c.loop-number.invariant
