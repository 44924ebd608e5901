use Rattle.std.proofs.Common.{◌∙◌, sym, ap, refl, subst, inl, IfSome, Option, Result}
use Rattle.vault_model.proofs.DocumentLaws.{is_doc}
use Rattle.vault_model.proofs.Ids.{is_same_id}
use Rattle.vault_model.proofs.Tests.{apart}
use Rattle.vault_model.specs.Join.{is_id}
use Rattle.vault_model.specs.SeenDoc.{doc_seen}
use Rattle.vault_model.specs.Tree.{BareDoc, Tree}
use Rattle.tree_core.proofs.Around.{found_group}
use Rattle.tree_core.proofs.Named.{named_group}
use Rattle.tree_core.specs.After.{Changes, group_moved_to, is_parent}
use Rattle.tree_core.specs.declared.fails.TreeFail.{TreeFail}
use Rattle.tree_moves.proofs.AfterGroupMove.{already, fixed, moves_on}
use Rattle.tree_moves.proofs.GroupParents.{no_parent_fixed, parent_moves}
use Rattle.tree_moves.proofs.moving_groups.move_group.Goals as goal

pub returns-in_default-parent_of : goal.returns-in_default-parent_of
returns-in_default-parent_of c =
    let d = doc_seen c.args.doc.now in
    let found = sym c.find_group.ensures ∙ c.in-Some.is in
    let goal = sym c.find_group-2.ensures ∙ c.in-Some-find_group.is in
    let g = found_group c.in-Some.id d.tree (named_group d c.args.path.now c.in-Some.id found) in
    let off = sym c.parent_of.ensures ∙ c.in_default-parent_of.is in (
      refl,
      inl (fixed c.args.path.now c.args.group.now c.args.now d c.in-Some.id g.0 found g.1 c.in-Some-find_group.to goal (ap (is_parent c.in-Some-find_group.to) off)
          (no_parent_fixed d (is_doc c.args.doc.now) c.in-Some.id g.0 off g.1)),
    )

pub returns-then-is_same : goal.returns-then-is_same
returns-then-is_same c =
    let d = doc_seen c.args.doc.now in
    let found = sym c.find_group.ensures ∙ c.in-Some.is in
    let goal = sym c.find_group-2.ensures ∙ c.in-Some-find_group.is in
    let g = found_group c.in-Some.id d.tree (named_group d c.args.path.now c.in-Some.id found) in
    let has = sym c.parent_of.ensures ∙ c.in-Some-parent_of.is in (
      refl,
      inl (already c.args.path.now c.args.group.now c.args.now d c.in-Some.id g.0 found g.1 c.in-Some-find_group.to goal
          (ap (is_parent c.in-Some-find_group.to) has ∙ sym c.is_same.ensures ∙ c.if-is_same.true)),
    )

pub move_found-requires-clause-other : goal.move_found-requires-clause-other
move_found-requires-clause-other c =
    λ same. apart (is_id c.in-Some-parent_of.from c.in-Some-find_group.to) (is_same_id c.in-Some-parent_of.from c.in-Some-find_group.to same) (sym c.is_same.ensures ∙ c.if-is_same.false)

pub move_found-requires-clause-goal : goal.move_found-requires-clause-goal
move_found-requires-clause-goal c =
    named_group (doc_seen c.args.doc.now) c.args.group.now c.in-Some-find_group.to (sym c.find_group-2.ensures ∙ c.in-Some-find_group.is)

pub returns : goal.returns
returns c =
    let d = doc_seen c.args.doc.now in
    let found = sym c.find_group.ensures ∙ c.in-Some.is in
    let goal = sym c.find_group-2.ensures ∙ c.in-Some-find_group.is in
    let g = found_group c.in-Some.id d.tree (named_group d c.args.path.now c.in-Some.id found) in
    let has = sym c.parent_of.ensures ∙ c.in-Some-parent_of.is in
    let done = moves_on c.args.path.now c.args.group.now c.args.now d c.in-Some.id g.0 found g.1 c.in-Some-find_group.to goal
    (ap (is_parent c.in-Some-find_group.to) has ∙ sym c.is_same.ensures ∙ c.if-is_same.false) (parent_moves d (is_doc c.args.doc.now) c.in-Some.id c.in-Some-parent_of.from has) in
    subst (λ (a : Result BareDoc TreeFail). Changes a c.move_found.result d (doc_seen c.move_found.new.doc)) (sym done)
    (subst (λ (o : Option Tree). IfSome o (λ x. Changes (group_moved_to c.in-Some-find_group.to x c.args.now d) c.move_found.result d (doc_seen c.move_found.new.doc))) g.1 c.move_found.ensures)
