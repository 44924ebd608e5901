-- Groups with the bytes of attachments below them.
use Rattle.std.proofs.Common.{◌≡◌, Option, List, [], ◌∷◌, ◌++◌, map, refl, sym, ap, ◌∙◌}
use Rattle.std.specs.List.{flat_map}
use Rattle.vault_model.specs.SeenNodes.{entry_row, tree_seen, tree_step}
use Rattle.vault_model.specs.Tree as vault
use Rattle.vault_model.specs.Tree.{Tree, all_trees}
use Rattle.vault_model.specs.declared.nodes.Group.{Group}
use Rattle.vault_model.specs.declared.nodes.Group.TheFolds.{fold-roll-Group}
use Rattle.vault_model.specs.declared.nodes.Group.TheOpen.{Group-F}
use Rattle.vault_model.specs.declared.nodes.Group.TheViews.{roll-Group}
use Rattle.doc_forms.specs.declared.drafts.GroupDraft.{GroupDraft}
use Rattle.doc_forms.specs.declared.drafts.GroupDraft.TheFolds.{fold_out-GroupDraft}
use Rattle.doc_forms.specs.declared.drafts.GroupDraft.TheViews.{out-GroupDraft}
use Rattle.doc_forms.specs.Attachments.{Missing, first_missing, missing_all, missing_entry, missing_in, resolved_entry, resolved_tree, resolved_trees}
use Rattle.doc_forms.specs.Attachments.{first_missing_of}
use Rattle.doc_forms.specs.Groups.{ReadTree}
use Rattle.doc_forms.specs.Metas.{ReadBinary}
use Rattle.doc_forms.specs.SeenDrafts.{draft_seen, draft_step, entry_seen, side_by_side}
use Rattle.doc_attachments.proofs.FirstMissing.{first_append}

module _ (pool : List ReadBinary) where
  resolved_beside : (ts : List ReadTree) → resolved_trees pool (side_by_side ts) ≡ all_trees (map (resolved_tree pool) ts)
  resolved_beside [] = refl
  resolved_beside (t ∷ ts) = ap (λ us. vault.beside (resolved_tree pool t) us) (resolved_beside ts)

  missing_beside : (ts : List ReadTree) → missing_all pool (side_by_side ts) ≡ flat_map (missing_in pool) ts
  missing_beside [] = refl
  missing_beside (t ∷ ts) = ap (λ ms. missing_in pool t ++ ms) (missing_beside ts)

  -- a group that is made of what its draft is resolved to
  pub tree_made : (draft : GroupDraft) (g : Group-F Group)
      → g.id ≡ (out-GroupDraft draft).id → g.placed ≡ (out-GroupDraft draft).placed → g.previous ≡ (out-GroupDraft draft).previous → g.state ≡ (out-GroupDraft draft).state → g.view ≡ (out-GroupDraft draft).view
      → map entry_row g.entries ≡ map (resolved_entry pool) (map entry_seen (out-GroupDraft draft).entries.items)
      → map tree_seen g.groups ≡ map (resolved_tree pool) (map draft_seen (out-GroupDraft draft).groups.items)
      → tree_seen (roll-Group g) ≡ resolved_tree pool (draft_seen draft)
  tree_made draft g id placed previous state view entries groups =
      fold-roll-Group Tree tree_step g
      ∙ ((λ i. vault.node (id i) (record { placed = placed i; previous = previous i; state = state i; view = view i }) (entries i) (all_trees (groups i)))
      ∙ (ap (λ us. vault.node (out-GroupDraft draft).id (record { placed = (out-GroupDraft draft).placed; previous = (out-GroupDraft draft).previous; state = (out-GroupDraft draft).state; view = (out-GroupDraft draft).view }) (map (resolved_entry pool) (map entry_seen (out-GroupDraft draft).entries.items)) us)
      (sym (resolved_beside (map draft_seen (out-GroupDraft draft).groups.items)))
      ∙ ap (resolved_tree pool) (sym (fold_out-GroupDraft ReadTree draft_step draft))))

  -- what is missing in a group is missing in its entries or in its groups
  pub tree_missing : (draft : GroupDraft) (first whole : Option Missing)
      → first ≡ first_missing (flat_map (missing_entry pool) (map entry_seen (out-GroupDraft draft).entries.items))
      → whole ≡ first_missing_of first (first_missing (flat_map (missing_in pool) (map draft_seen (out-GroupDraft draft).groups.items)))
      → whole ≡ first_missing (missing_in pool (draft_seen draft))
  tree_missing draft first whole in_entries in_groups =
      in_groups
      ∙ (ap (λ o. first_missing_of o (first_missing (flat_map (missing_in pool) (map draft_seen (out-GroupDraft draft).groups.items)))) in_entries
      ∙ (sym (first_append (flat_map (missing_entry pool) (map entry_seen (out-GroupDraft draft).entries.items)) (flat_map (missing_in pool) (map draft_seen (out-GroupDraft draft).groups.items)))
      ∙ (ap (λ ms. first_missing (flat_map (missing_entry pool) (map entry_seen (out-GroupDraft draft).entries.items) ++ ms)) (sym (missing_beside (map draft_seen (out-GroupDraft draft).groups.items)))
      ∙ ap (λ t. first_missing (missing_in pool t)) (sym (fold_out-GroupDraft ReadTree draft_step draft)))))
