-- What is resolved is a document: its parts are in order.
use Rattle.std.proofs.Common.{◌≡◌, ◌&&◌, true, List, Option, Some, None, Ok, option_map, refl, subst}
use Rattle.vault_model.specs.Db.{NodeId}
use Rattle.vault_model.specs.Proper.{is_text_meta}
use Rattle.vault_model.specs.SeenNodes.{are_tombs_apart, icons_rise, items_rise, tombs_rise}
use Rattle.vault_model.specs.Tree.{Tree, IsDoc, node_ids}
use Rattle.vault_model.specs.declared.metas.Meta.{Meta}
use Rattle.vault_model.specs.declared.nodes.Tombstone.{Tombstone}
use Rattle.vault_model.proofs.Tests.{and_true}
use Rattle.doc_forms.specs.Attachments.{resolved_tree}
use Rattle.doc_forms.specs.Ids.{least_duplicate, refuse_duplicate, tombs_of}
use Rattle.doc_forms.specs.Groups.{ReadTree}
use Rattle.doc_forms.specs.KeptParts.{is_kept_half, is_kept_meta, is_kept_root, is_kept_tree}
use Rattle.doc_forms.specs.Metas.{ReadBinary}
use Rattle.doc_forms.specs.SeenDrafts.{draft_seen, root_parts}
use Rattle.doc_forms.specs.declared.drafts.GroupDraft.{GroupDraft}
use Rattle.doc_forms.specs.declared.drafts.RootBuilder.{RootBuilder}
use Rattle.doc_resolving.proofs.ResolvedTrees.{KeptTree, distinct_ids, resolved_keeps}
use Rattle.doc_resolving.proofs.RisingTombs.{apart_tombs, rising_tombs}

-- ---- what is kept of the parts of a document

-- the root group
pub tree_is_kept : (root : RootBuilder) (draft : GroupDraft)
    → is_kept_half (Some (root_parts root)) ≡ true → root.tree ≡ Some draft
    → is_kept_tree 127 (draft_seen draft) ≡ true
tree_is_kept root draft kept is = subst (λ (o : Option GroupDraft). is_kept_root (option_map draft_seen o) ≡ true) is kept

-- ---- the document

-- no id was refused
pub no_duplicate : (o : Option NodeId) (u : Unit {0}) → refuse_duplicate o ≡ Ok u → o ≡ None
no_duplicate None u e = refl
no_duplicate (Some v) u e = cc e

pub resolved_doc : (pool : List ReadBinary) (draft : ReadTree) (tree : Tree) (tombs buried : List Tombstone) (meta : Meta)
    → is_kept_meta meta ≡ true
    → is_kept_tree 127 draft ≡ true
    → resolved_tree pool draft ≡ tree
    → least_duplicate (node_ids tree) ≡ None
    → tombs_of tree tombs ≡ buried
    → IsDoc (record { tree = tree; tombs = buried; meta = meta })
resolved_doc pool draft tree tombs buried meta kept_meta kept is_tree none are_tombs =
    let a = and_true (icons_rise meta.icons && items_rise meta.items) (is_text_meta meta) kept_meta in
    let b = and_true (icons_rise meta.icons) (items_rise meta.items) a.0 in
    let keeps = subst KeptTree is_tree (resolved_keeps pool draft kept) in
    record {
      distinct = distinct_ids (node_ids tree) none;
      no_nil = keeps.no_nil;
      levels = keeps.levels;
      tombs_rise = subst (λ (ts : List Tombstone). tombs_rise ts ≡ true) are_tombs (rising_tombs tree tombs);
      tombs_apart = subst (λ (ts : List Tombstone). are_tombs_apart tree ts ≡ true) are_tombs (apart_tombs tree tombs);
      entries_proper = keeps.entries;
      groups_proper = keeps.groups;
      icons_rise = b.0;
      items_rise = b.1;
      meta_texts = a.1;
    }
