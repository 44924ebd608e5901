-- A group that is deleted.
use Rattle.std.proofs.Common.{◌≡◌, ℕ, List, MatchOption, MatchResult, Option, Result, None, Some, Ok, Err, IfSome, IsSome, true, subst, sym, ap, ◌∙◌}
use Rattle.std.specs.Option.{unwrap_or}
use Rattle.vault_model.specs.declared.nodes.Group.{Group}
use Rattle.vault_model.specs.declared.nodes.Tombstone.{Tombstone}
use Rattle.vault_model.specs.Db.{NodeId}
use Rattle.vault_model.specs.SeenNodes.{tree_seen}
use Rattle.vault_model.specs.Tree.{BareDoc, IsDoc, Tree, id_of}
use Rattle.vault_model.proofs.Tests.{some_of}
use Rattle.tree_core.specs.declared.fails.Removed.{Removed}
use Rattle.tree_core.specs.declared.fails.Removed.TheVariants.{Deleted}
use Rattle.tree_core.specs.declared.fails.TreeFail.{TreeFail}
use Rattle.tree_core.specs.After.{AfterRemoval, group_deleted}
use Rattle.tree_core.specs.Changes.{changed_at, group_with, parent_of, tree_buried, without_group}
use Rattle.tree_core.proofs.Around.{found_id}
use Rattle.tree_core.proofs.Options.{never}
use Rattle.tree_moves.proofs.GroupParents.{parent_child}
use Rattle.tree_moves.specs.GroupPlaces.{group_at}
use Rattle.tree_removals.specs.Removes.{Removes}
use Rattle.tree_removals.specs.Tombs.{ids_rise}
use Rattle.tree_removals.proofs.ManyTombs.{deleted_is_doc}

-- a group that is taken out, and its tombstones
abbrev Buried : NodeId → NodeId → ℕ → Tree → List Tombstone → Tree → List Tombstone → Type 0
Buried p u now t tombs new later = IfSome (group_with u t) (λ g. (new ≡ changed_at p (without_group (id_of g)) t) × (later ≡ tree_buried now g tombs))

pub bury_done : (p u : NodeId) (now : ℕ) (t new g : Tree) (tombs later : List Tombstone) (o : Option Group) → group_with u t ≡ Some g → IfSome (group_with u t) (λ x. group_at p u t ≡ Some x)
    → later ≡ tree_buried now g tombs
    → MatchOption o ((group_at p u t ≡ None) × (new ≡ t)) (λ x. (group_at p u t ≡ Some (tree_seen x)) × (new ≡ changed_at p (without_group u) t))
    → Buried p u now t tombs new later
bury_done p u now t new g tombs later None there held put h = never g (sym h.0 ∙ subst (λ (o : Option Tree). IfSome o (λ x. group_at p u t ≡ Some x)) there held)
bury_done p u now t new g tombs later (Some x) there held put h =
    subst (λ (o : Option Tree). IfSome o (λ y. (new ≡ changed_at p (without_group (id_of y)) t) × (later ≡ tree_buried now y tombs))) (sym there)
    (h.1 ∙ ap (λ v. changed_at p (without_group v) t) (sym (found_id u t g there)), put)

pub bury_is_doc : {E : Type 0} (d : BareDoc) → IsDoc d → (p u : NodeId) (now : ℕ) (g new : Tree) (later : List Tombstone) (result : Result (Unit {0}) E) → group_with u d.tree ≡ Some g
    → group_at p u d.tree ≡ Some g → MatchResult result (λ _. Buried p u now d.tree d.tombs new later) (λ _. (new ≡ d.tree) × (later ≡ d.tombs)) → IsDoc (record d { tree = new; tombs = later })
bury_is_doc d is p u now g new later (Err e) there at h =
    subst (λ (t : Tree). IsDoc (record d { tree = t; tombs = later })) (sym h.0) (subst (λ (xs : List Tombstone). IsDoc (record d { tombs = xs })) (sym h.1) is)
bury_is_doc d is p u now g new later (Ok x) there at h =
    let parts = subst (λ (o : Option Tree). IfSome o (λ y. (new ≡ changed_at p (without_group (id_of y)) d.tree) × (later ≡ tree_buried now y d.tombs))) there h in
    subst (λ (t : Tree). IsDoc (record d { tree = t; tombs = later })) (sym (parts.0 ∙ ap (λ v. changed_at p (without_group v) d.tree) (found_id u d.tree g there)))
    (subst (λ (xs : List Tombstone). IsDoc (record d { tree = changed_at p (without_group u) d.tree; tombs = xs })) (sym parts.1) (deleted_is_doc d is p u now g at))

abbrev after : Removed → BareDoc → Result AfterRemoval TreeFail
after removed d = Ok (record { removed = removed; doc = d })

pub delete_done : (d : BareDoc) (p u : NodeId) (now : ℕ) (new : Tree) (later : List Tombstone) → IsSome (group_with u d.tree) → parent_of u d.tree ≡ Some p → Buried p u now d.tree d.tombs new later
    → IfSome (group_with u d.tree) (λ g. Removes (Ok (group_deleted g now d)) (Ok Deleted) d (record d { tree = new; tombs = later }))
delete_done d p u now new later some parent h =
    let g = some_of (group_with u d.tree) some in
    let parts = subst (λ (o : Option Tree). IfSome o (λ y. (new ≡ changed_at p (without_group (id_of y)) d.tree) × (later ≡ tree_buried now y d.tombs))) g.1 h in
    subst (λ (o : Option Tree). IfSome o (λ y. Removes (Ok (group_deleted y now d)) (Ok Deleted) d (record d { tree = new; tombs = later }))) (sym g.1)
    (ap (λ o. after Deleted (record d { tree = changed_at (unwrap_or o (id_of d.tree)) (without_group (id_of g.0)) d.tree; tombs = tree_buried now g.0 d.tombs }))
    (ap (λ v. parent_of v d.tree) (found_id u d.tree g.0 g.1) ∙ parent)
    ∙ (λ i. after Deleted (record d { tree = sym parts.0 i; tombs = sym parts.1 i })))

-- the group of a document that has a parent is in it
pub held_group : (d : BareDoc) → IsDoc d → (p u : NodeId) → IsSome (group_with u d.tree) → parent_of u d.tree ≡ Some p → IfSome (group_with u d.tree) (λ g. group_at p u d.tree ≡ Some g)
held_group d is p u some parent =
    let g = some_of (group_with u d.tree) some in
    subst (λ (o : Option Tree). IfSome o (λ x. group_at p u d.tree ≡ Some x)) (sym g.1) (parent_child d is u p g.0 parent g.1)

-- and the tombstones that its deletion leaves rise
pub rising_group : (d : BareDoc) → IsDoc d → (p u : NodeId) (now : ℕ) → IsSome (group_with u d.tree) → parent_of u d.tree ≡ Some p
    → IfSome (group_with u d.tree) (λ g. ids_rise (tree_buried now g d.tombs) ≡ true)
rising_group d is p u now some parent =
    let g = some_of (group_with u d.tree) some in
    subst (λ (o : Option Tree). IfSome o (λ x. ids_rise (tree_buried now x d.tombs) ≡ true)) (sym g.1) (deleted_is_doc d is p u now g.0 (parent_child d is u p g.0 parent g.1)).tombs_rise
