-- An entry that is deleted, and one that is not in the bin.
use Rattle.std.proofs.Common.{◌≡◌, ◌≢◌, ℕ, true, false, not, List, [], ◌∷◌, Option, Result, None, Some, Ok, Err, IsSome, IfSome, MatchOption, MatchResult, subst, refl, sym, ap, ◌∙◌}
use Rattle.std.specs.Prelude.{is_some, option_map}
use Rattle.vault_model.specs.declared.nodes.Entry.{Entry}
use Rattle.vault_model.specs.declared.nodes.Tombstone.{Tombstone}
use Rattle.vault_model.specs.Db.{NodeId}
use Rattle.vault_model.specs.SeenNodes.{entry_row, entry_time}
use Rattle.vault_model.specs.Shape.{EntryRecord}
use Rattle.vault_model.specs.Tree.{BareDoc, IsDoc, Tree}
use Rattle.vault_model.proofs.Tests.{and_true, apart, not_true, some_of}
use Rattle.tree_core.proofs.Around.{found_group, found_id}
use Rattle.tree_core.proofs.EntriesRemoved.{deleted_is_doc, found_at, own_id}
use Rattle.tree_core.proofs.Options.{never}
use Rattle.tree_core.specs.After.{has_group_in, is_in_bin, is_recycled}
use Rattle.tree_core.specs.Changes.{changed_at, entries_buried, entry_at, group_with, tomb_at, with_tomb, without_entry}
use Rattle.tree_removals.proofs.LastGroups.{has_root, holds_there}

abbrev Buried : NodeId → NodeId → ℕ → Tree → List Tombstone → Tree → List Tombstone → Type 0
Buried g u now t tombs new later = IfSome (entry_at g u t) (λ x. (new ≡ changed_at g (without_entry x.0) t) × (later ≡ entries_buried now (x ∷ []) tombs))

pub bury_done : (g u : NodeId) (now : ℕ) (t new : Tree) (tombs later : List Tombstone) (e : NodeId × EntryRecord) (o : Option Entry) → entry_at g u t ≡ Some e
    → later ≡ with_tomb (tomb_at now e.0 (entry_time e.1)) tombs
    → MatchOption o ((entry_at g u t ≡ None) × (new ≡ t)) (λ x. (entry_at g u t ≡ Some (entry_row x)) × (new ≡ changed_at g (without_entry u) t))
    → Buried g u now t tombs new later
bury_done g u now t new tombs later e None there put h = never e (sym h.0 ∙ there)
bury_done g u now t new tombs later e (Some x) there put h =
    let f = found_at g u t e there in
    subst (λ (o : Option (NodeId × EntryRecord)). IfSome o (λ y. (new ≡ changed_at g (without_entry y.0) t) × (later ≡ entries_buried now (y ∷ []) tombs))) (sym there)
    (h.1 ∙ ap (λ v. changed_at g (without_entry v) t) (sym (own_id u f.0 e f.1.1)), put)

pub bury_is_doc : {E : Type 0} (d : BareDoc) → IsDoc d → (g u : NodeId) (now : ℕ) (new : Tree) (later : List Tombstone) (result : Result (Unit {0}) E) → IsSome (entry_at g u d.tree)
    → MatchResult result (λ _. Buried g u now d.tree d.tombs new later) (λ _. (new ≡ d.tree) × (later ≡ d.tombs)) → IsDoc (record d { tree = new; tombs = later })
bury_is_doc d is g u now new later (Err e) some h =
    subst (λ (t : Tree). IsDoc (record d { tree = t; tombs = later })) (sym h.0) (subst (λ (xs : List Tombstone). IsDoc (record d { tombs = xs })) (sym h.1) is)
bury_is_doc d is g u now new later (Ok x) some h =
    let e = some_of (entry_at g u d.tree) some in
    let parts = subst (λ (o : Option (NodeId × EntryRecord)). IfSome o (λ y. (new ≡ changed_at g (without_entry y.0) d.tree) × (later ≡ entries_buried now (y ∷ []) d.tombs))) e.1 h in
    subst (λ (t : Tree). IsDoc (record d { tree = t; tombs = later })) (sym parts.0)
    (subst (λ (xs : List Tombstone). IsDoc (record d { tree = changed_at g (without_entry e.0.0) d.tree; tombs = xs })) (sym parts.1) (deleted_is_doc d is g u now e.0 e.1))

-- what goes into the bin is not in the bin itself
pub not_bin : (d : BareDoc) (from u : NodeId) → IsSome (entry_at from u d.tree) → is_recycled from d ≡ true → from ≢ d.meta.bin.value.id
not_bin d from u some goes = λ same.
    let f = found_group from d.tree (holds_there from u d.tree some) in
    let both = and_true d.meta.bin.value.enabled (not (is_in_bin from d)) goes in
    let in_it = ap (λ v. has_group_in from (group_with v d.tree)) (sym same) ∙ ap (has_group_in from) f.1 ∙ has_root from f.0 (found_id from d.tree f.0 f.1) in
    apart (is_in_bin from d) in_it (not_true (is_in_bin from d) both.1)

-- something that is seen is there
pub some_seen : {A B : Type 0} (f : A → B) (o : Option A) (p : Option B) → is_some o ≡ true → option_map f o ≡ p → IsSome p
some_seen f None p h e = apart false h refl
some_seen f (Some x) p h e = ap is_some (sym e)
