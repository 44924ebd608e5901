-- A document with a new group in which there is nothing is a document.
use Rattle.std.proofs.Common.{◌≡◌, ◌≢◌, ◌<◌, ◌≤◌, ◌+◌, ◌&&◌, ◌||◌, ℕ, Bool, true, false, not, inl, inr, List, [], MatchOption, MatchResult, Option, Result, None, Some, Ok, Err, subst, refl, sym, ap, ◌∙◌, arith}
use Rattle.std.specs.List.{list_all}
use Rattle.std.specs.Option.{unwrap_or}
use Rattle.std.specs.Str.{chars, is_utf8}
use Rattle.vault_model.specs.declared.nodes.Tombstone.{Tombstone}
use Rattle.vault_model.specs.Db.{NodeId, nil_id}
use Rattle.vault_model.specs.Empty.{new_group}
use Rattle.vault_model.specs.Join.{is_id}
use Rattle.vault_model.specs.Proper.{is_proper_group_content, is_text_item}
use Rattle.vault_model.specs.Shape.{GroupRecord}
use Rattle.vault_model.specs.Tree.{BareDoc, IsDoc, LEVELS, Tree, is_elsewhere, node, node_ids, none}
use Rattle.vault_model.proofs.Ids.{same_id}
use Rattle.vault_model.proofs.Tests.{and_both, and_true, decide}
use Rattle.tree_core.proofs.Around.{found_group}
use Rattle.tree_core.proofs.Counted.{all_both, elsewhere_occurs, occurs, once, one_if}
use Rattle.tree_core.proofs.GroupDocs.{put_is_doc}
use Rattle.tree_core.specs.Changes.{changed_at, has_group, is_free, level_of, with_group}
use Rattle.tree_core.specs.NewNodes.{empty_group}

-- ---- what a new group says

empty_text : is_utf8 [] ≡ true
unfolding is_utf8 chars lib.Utf8.encode
empty_text = refl

new_proper : (name : List ℕ) (now : ℕ) → is_utf8 name ≡ true → is_proper_group_content (new_group name now).state.content ≡ true
unfolding is_proper_group_content
new_proper name now text =
    ap (λ b. b && is_utf8 [] && is_utf8 [] && is_utf8 [] && list_all is_text_item []) text
    ∙ ap (λ b. b && b && b && true) empty_text

-- ---- the document

alone : (b : Bool) → not b ≡ true → not (b || false) ≡ true
alone true e = e
alone false e = e

pub leaf_is_doc : (d : BareDoc) → IsDoc d → (g id : NodeId) (r : GroupRecord) → has_group g d.tree ≡ true → level_of g d.tree + 1 ≤ LEVELS → is_free id d ≡ true
    → is_proper_group_content r.state.content ≡ true → IsDoc (record d { tree = changed_at g (with_group (node id r [] none)) d.tree })
leaf_is_doc d is g id r has fits free proper =
    let f = found_group g d.tree has in
    let parts = and_true (not (is_id nil_id id) && is_elsewhere d.tree id) (list_all (λ (t : Tombstone). not (is_id t.id id)) d.tombs) free in
    let two = and_true (not (is_id nil_id id)) (is_elsewhere d.tree id) parts.0 in
    put_is_doc d is g (node id r [] none) f.0 f.1
    (λ x. elim (decide (is_id x id)) [
      | inl p ↦
          let here = ap one_if p in
          let same = ap (λ v. occurs v (node_ids d.tree)) (same_id x id p) in
          let zero = elsewhere_occurs d.tree id two.1 in
          omega (arith, here, same, zero)
      | inr p ↦
          let here = ap one_if p in
          let most = once (node_ids d.tree) is.distinct x in
          omega (arith, here, most)
    ])
    (alone (is_id nil_id id) two.0)
    (all_both (λ (t : Tombstone). not (is_id t.id id)) (λ (t : Tombstone). not (is_id t.id id)) (λ (t : Tombstone). is_elsewhere (node id r [] none) t.id) d.tombs
    (λ t off more. alone (is_id t.id id) off) parts.1 parts.1)
    refl (and_both (is_proper_group_content r.state.content) true proper refl) fits

-- a new group put in, whatever was answered
pub make_is_doc : {E : Type 0} (d : BareDoc) → IsDoc d → (g id : NodeId) (name : List ℕ) (now : ℕ) (w : Tree) → w ≡ empty_group id name now
    → has_group g d.tree ≡ true → level_of g d.tree + 1 ≤ LEVELS → is_free id d ≡ true → is_utf8 name ≡ true
    → (new : Tree) (o : Option (Result (Unit {0}) E))
    → MatchOption o ((has_group g d.tree ≡ false) × (new ≡ d.tree)) (λ out. MatchResult out (λ _. new ≡ changed_at g (with_group w) d.tree) (λ _. new ≡ d.tree))
    → IsDoc (record d { tree = new })
make_is_doc d is g id name now w same has fits free text new None h = subst (λ (t : Tree). IsDoc (record d { tree = t })) (sym h.1) is
make_is_doc d is g id name now w same has fits free text new (Some (Ok x)) h =
    subst (λ (t : Tree). IsDoc (record d { tree = t })) (sym (h ∙ ap (λ v. changed_at g (with_group v) d.tree) same))
    (leaf_is_doc d is g id (new_group name now) has fits free (new_proper name now text))
make_is_doc d is g id name now w same has fits free text new (Some (Err x)) h = subst (λ (t : Tree). IsDoc (record d { tree = t })) (sym h) is

-- a level below that of a group
pub level_left : (o : Option ℕ) (level : ℕ) → unwrap_or o 0 ≢ 0 → MatchOption o (128 < level) (λ b. b + level ≡ 128) → level + 1 ≤ LEVELS
level_left None level some h = absurd (some refl)
level_left (Some b) level some h = omega (arith, some, h)
