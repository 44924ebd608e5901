use Rattle.std.proofs.Common.{◌∙◌, IfSome, None, Ok, Option, Result, Some, ap, inl, is_some, refl, subst, sym}
use Rattle.vault_model.proofs.DocumentLaws.{is_doc}
use Rattle.vault_model.specs.SeenDoc.{doc_seen}
use Rattle.vault_model.specs.Tree.{Tree}
use Rattle.tree_core.specs.declared.fails.TreeFail.{TreeFail}
use Rattle.tree_core.proofs.Around.{found_group}
use Rattle.tree_core.proofs.Named.{named_group}
use Rattle.tree_core.specs.After.{AfterRemoval, group_deleted, group_recycled}
use Rattle.tree_moves.proofs.GroupParents.{no_parent_fixed, parent_moves}
use Rattle.tree_removals.specs.Removes.{Removes}
use Rattle.tree_removals.proofs.GroupsRecycled.{fixed, goes_into_bin, is_deleted, not_bin}
use Rattle.tree_removals.proofs.removing_groups.remove_group.Goals as goal

pub returns-in_default-parent_of : goal.returns-in_default-parent_of
returns-in_default-parent_of c =
    let d = doc_seen c.args.doc.now in
    let found = sym c.find_group.ensures ∙ c.in-Some.is in
    let g = found_group c.in-Some.id d.tree (named_group d c.args.path.now c.in-Some.id found) in
    let off = sym c.parent_of.ensures ∙ c.in_default-parent_of.is in
    (refl, inl (fixed c.args.path.now c.args.bin c.args.now d c.in-Some.id g.0 found g.1 (no_parent_fixed d (is_doc c.args.doc.now) c.in-Some.id g.0 off g.1)))

pub delete_group-requires-clause-there : goal.delete_group-requires-clause-there
delete_group-requires-clause-there c =
    let d = doc_seen c.args.doc.now in
    ap is_some (found_group c.in-Some.id d.tree (named_group d c.args.path.now c.in-Some.id (sym c.find_group.ensures ∙ c.in-Some.is))).1

pub returns-then-not-is_recycled : goal.returns-then-not-is_recycled
returns-then-not-is_recycled c =
    let d = doc_seen c.args.doc.now in
    let found = sym c.find_group.ensures ∙ c.in-Some.is in
    let g = found_group c.in-Some.id d.tree (named_group d c.args.path.now c.in-Some.id found) in
    let has = sym c.parent_of.ensures ∙ c.in-Some-parent_of.is in
    let done = is_deleted c.args.path.now c.args.bin c.args.now d c.in-Some.id g.0 found g.1 (parent_moves d (is_doc c.args.doc.now) c.in-Some.id c.in-Some-parent_of.from has)
    (sym c.is_recycled.ensures ∙ c.if-not-is_recycled.true) in
    subst (λ (a : Result AfterRemoval TreeFail). Removes a c.delete_group.result d (doc_seen c.delete_group.new.doc)) (sym done)
    (subst (λ (o : Option Tree). IfSome o (λ x. Removes (Ok (group_deleted x c.args.now d)) c.delete_group.result d (doc_seen c.delete_group.new.doc))) g.1 c.delete_group.ensures)

pub recycle_group-requires-clause-other : goal.recycle_group-requires-clause-other
recycle_group-requires-clause-other c =
    let d = doc_seen c.args.doc.now in
    let found = sym c.find_group.ensures ∙ c.in-Some.is in
    let g = found_group c.in-Some.id d.tree (named_group d c.args.path.now c.in-Some.id found) in
    not_bin d (is_doc c.args.doc.now) c.in-Some-parent_of.from c.in-Some.id g.0 (sym c.parent_of.ensures ∙ c.in-Some-parent_of.is) g.1 (sym c.is_recycled.ensures ∙ c.if-not-is_recycled.false)

pub returns-in-Some-bin : goal.returns-in-Some-bin
returns-in-Some-bin c =
    let d = doc_seen c.args.doc.now in
    let found = sym c.find_group.ensures ∙ c.in-Some.is in
    let g = found_group c.in-Some.id d.tree (named_group d c.args.path.now c.in-Some.id found) in
    let has = sym c.parent_of.ensures ∙ c.in-Some-parent_of.is in
    let done = goes_into_bin c.args.path.now c.args.bin c.args.now d c.in-Some.id g.0 found g.1 (parent_moves d (is_doc c.args.doc.now) c.in-Some.id c.in-Some-parent_of.from has)
    (sym c.is_recycled.ensures ∙ c.if-not-is_recycled.false) ∙ ap (λ b. group_recycled b g.0 c.args.now d) c.in-Some-bin.is in
    subst (λ (a : Result AfterRemoval TreeFail). Removes a c.recycle_with_new_bin.result d (doc_seen c.recycle_with_new_bin.new.doc)) (sym done)
    (subst (λ (o : Option Tree). IfSome o (λ x. Removes (group_recycled (Some c.in-Some-bin.bin) x c.args.now d) c.recycle_with_new_bin.result d (doc_seen c.recycle_with_new_bin.new.doc))) g.1
    c.recycle_with_new_bin.ensures)

pub returns-in-None : goal.returns-in-None
returns-in-None c =
    let d = doc_seen c.args.doc.now in
    let found = sym c.find_group.ensures ∙ c.in-Some.is in
    let g = found_group c.in-Some.id d.tree (named_group d c.args.path.now c.in-Some.id found) in
    let has = sym c.parent_of.ensures ∙ c.in-Some-parent_of.is in
    let done = goes_into_bin c.args.path.now c.args.bin c.args.now d c.in-Some.id g.0 found g.1 (parent_moves d (is_doc c.args.doc.now) c.in-Some.id c.in-Some-parent_of.from has)
    (sym c.is_recycled.ensures ∙ c.if-not-is_recycled.false) ∙ ap (λ b. group_recycled b g.0 c.args.now d) c.in-None.is in
    subst (λ (a : Result AfterRemoval TreeFail). Removes a c.recycle_group.result d (doc_seen c.recycle_group.new.doc)) (sym done)
    (subst (λ (o : Option Tree). IfSome o (λ x. Removes (group_recycled None x c.args.now d) c.recycle_group.result d (doc_seen c.recycle_group.new.doc))) g.1 c.recycle_group.ensures)
