-- A new bin, and an entry that is moved into it.
use Rattle.std.proofs.Common.{◌≡◌, ◌≢◌, ◌&&◌, ◌||◌, ℕ, true, false, cond, not, suc, Option, IsSome, IfSome, subst, refl, sym, ap, ◌∙◌, arith}
use Rattle.std.specs.List.{list_all}
use Rattle.std.specs.Prelude.{codes}
use Rattle.std.specs.Str.{chars, is_utf8}
use Rattle.vault_model.specs.declared.nodes.Group.{Group, out-Group}
use Rattle.vault_model.specs.declared.nodes.Tombstone.{Tombstone}
use Rattle.vault_model.specs.Db.{NodeId, nil_id}
use Rattle.vault_model.specs.Empty.{new_group}
use Rattle.vault_model.specs.Join.{is_id}
use Rattle.vault_model.specs.Proper.{is_proper_group_content}
use Rattle.vault_model.specs.SeenNodes.{tree_seen}
use Rattle.vault_model.specs.Shape.{EntryRecord}
use Rattle.vault_model.specs.Tree.{BareDoc, IsDoc, Tree, id_of, is_elsewhere, node}
use Rattle.vault_model.proofs.Ids.{same_id}
use Rattle.vault_model.proofs.SeenGroups.{seen_group}
use Rattle.vault_model.proofs.Tests.{and_true, apart, is_false, some_of}
use Rattle.tree_core.proofs.EntriesMoved.{moved_is_doc}
use Rattle.tree_core.specs.Changes.{changed_at, entry_at, entry_moved, has_group, is_free, level_among, level_of, with_entry, with_group}
use Rattle.tree_core.specs.NewNodes.{as_bin, empty_bin}
use Rattle.tree_moves.proofs.TreeGroups.MadeDoc.{leaf_is_doc}
use Rattle.tree_moves.proofs.Placed.{moved_in_place, still_there}
use Rattle.tree_moves.specs.Places.{entry_placed}
use Rattle.tree_removals.specs.Removes.{with_bin_in}
use Rattle.tree_removals.proofs.LastGroups.{at_root, elsewhere_absent, entry_with_last, has_root, holds_there, last_there, put_in_last}
use Rattle.vault_model.proofs.Ids.{is_same_id}

-- a bin with a place for an entry, put in
pub bin_put : (g : Group) (bin : NodeId) (now : ℕ) (w x new : Tree) (hole : NodeId × EntryRecord) → w ≡ empty_bin bin now → x ≡ changed_at bin (with_entry hole) w
    → new ≡ changed_at (out-Group g).id (with_group x) (tree_seen g) → hole.0 ≡ nil_id → has_group bin (tree_seen g) ≡ false
    → (h : NodeId × EntryRecord) × (h.0 ≡ nil_id) × (new ≡ changed_at bin (with_entry h) (with_bin_in bin now (tree_seen g)))
bin_put g bin now w x new hole p q r nil absent = (
  hole,
  nil,
  r
      ∙ ap (λ v. changed_at v (with_group x) (tree_seen g)) (sym (ap id_of (seen_group g)))
      ∙ ap (λ y. changed_at (id_of (tree_seen g)) (with_group y) (tree_seen g)) (q ∙ ap (changed_at bin (with_entry hole)) p ∙ at_root bin (with_entry hole) (empty_bin bin now) refl)
      ∙ sym (put_in_last bin (with_entry hole) (empty_bin bin now) (tree_seen g) refl absent),
)

module _ (from u bin : NodeId) (now : ℕ) (old : Tree) (there : IsSome (entry_at from u old)) (absent : has_group bin old ≡ false) where
  abbrev mid : Tree
  mid = with_bin_in bin now old

  pub other : from ≢ bin
  other = λ same. apart (has_group bin old) (subst (λ (v : NodeId). has_group v old ≡ true) same (holds_there from u old there)) absent

  off_bin : has_group from (empty_bin bin now) ≡ false
  off_bin = ap (λ b. b || false) (is_false (is_id bin from) (λ p. other (sym (same_id bin from p))))

  found : entry_at from u mid ≡ entry_at from u old
  found = entry_with_last from u (empty_bin bin now) old off_bin

  pub there_too : IsSome (entry_at from u mid)
  there_too = subst (λ (o : Option (NodeId × EntryRecord)). IsSome o) (sym found) there

  module _ (one : Tree) (place : (h : NodeId × EntryRecord) × (h.0 ≡ nil_id) × (one ≡ changed_at bin (with_entry h) mid)) where
    pub there_still : IsSome (entry_at from u one)
    there_still = still_there from bin u mid one place.0 other place.2 there_too

    pub moved_into : (time : ℕ) (new : Tree) → is_elsewhere mid nil_id ≡ true → IfSome (entry_at from u one) (λ x. new ≡ entry_placed from bin time x one)
        → IfSome (entry_at from u old) (λ e. new ≡ entry_moved from bin time e mid)
    moved_into time new off h =
        subst (λ (o : Option (NodeId × EntryRecord)). IfSome o (λ e. new ≡ entry_moved from bin time e mid)) found
        (moved_in_place from bin u time mid one new place.0 other (last_there bin (empty_bin bin now) old refl) place.1 off place.2 there_still h)

bin_proper : (now : ℕ) → is_proper_group_content (as_bin (new_group (codes "Recycle Bin") now)).state.content ≡ true
unfolding is_proper_group_content is_utf8 chars lib.Utf8.encode
bin_proper now = refl

root_level : (t : Tree) → level_of (id_of t) t ≡ 1
root_level (node v r es ts) = ap (λ c. cond c 1 (suc (level_among v ts))) (is_same_id v v refl)

pub free_absent : (u : NodeId) (d : BareDoc) → is_free u d ≡ true → has_group u d.tree ≡ false
free_absent u d free = elsewhere_absent u d.tree
    (and_true (not (is_id nil_id u)) (is_elsewhere d.tree u) (and_true (not (is_id nil_id u) && is_elsewhere d.tree u) (list_all (λ (t : Tombstone). not (is_id t.id u)) d.tombs) free).0).1

-- a document with a new bin
pub bin_is_doc : (d : BareDoc) → IsDoc d → (bin : NodeId) (now : ℕ) → is_free bin d ≡ true → IsDoc (record d { tree = with_bin_in bin now d.tree })
bin_is_doc d is bin now free =
    let level = root_level d.tree in
    leaf_is_doc d is (id_of d.tree) bin (as_bin (new_group (codes "Recycle Bin") now)) (has_root (id_of d.tree) d.tree refl) (omega (arith, level)) free (bin_proper now)

-- and with an entry in it
pub into_bin_is_doc : (d : BareDoc) → IsDoc d → (from u bin : NodeId) (now time : ℕ) (new : Tree) → is_free bin d ≡ true → IsSome (entry_at from u d.tree)
    → IfSome (entry_at from u d.tree) (λ e. new ≡ entry_moved from bin time e (with_bin_in bin now d.tree)) → IsDoc (record d { tree = new })
into_bin_is_doc d is from u bin now time new free there h =
    let absent = free_absent bin d free in
    let e = some_of (entry_at from u d.tree) there in
    let at = entry_with_last from u (empty_bin bin now) d.tree (off_bin from u bin now d.tree there absent) ∙ e.1 in
    subst (λ (t : Tree). IsDoc (record d { tree = t })) (sym (subst (λ (o : Option (NodeId × EntryRecord)). IfSome o (λ y. new ≡ entry_moved from bin time y (with_bin_in bin now d.tree))) e.1 h))
    (moved_is_doc (record d { tree = with_bin_in bin now d.tree }) (bin_is_doc d is bin now free) from bin u time e.0 (last_there bin (empty_bin bin now) d.tree refl) at)
