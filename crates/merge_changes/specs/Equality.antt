-- Tests that two documents are equal.
use Rattle.std.specs.Prelude.{ℕ, Bool, true, false, ◌&&◌, List, [], ◌∷◌, map}
use Rattle.std.specs.Cmp.Lexicographic.{slice_cmp}
use Rattle.std.specs.Ordering.{bool_cmp, eq_by_cmp, nat_cmp}
use Rattle.vault_model.specs.declared.contents.Stats.{Stats}
use Rattle.vault_model.specs.declared.metas.Meta.{Meta}
use Rattle.vault_model.specs.declared.metas.MetaView.{MetaView}
use Rattle.vault_model.specs.declared.nodes.Group.{Group, out-Group}
use Rattle.vault_model.specs.declared.nodes.GroupState.{GroupState}
use Rattle.vault_model.specs.declared.nodes.GroupView.{GroupView}
use Rattle.vault_model.specs.declared.nodes.Tombstone.{Tombstone}
use Rattle.vault_model.specs.Db.{NodeId, Mark}
use Rattle.vault_model.specs.Join.{is_id, timed_cmp}
use Rattle.vault_model.specs.Orders.{bin_cmp, bytes_cmp, content_cmp, group_content_cmp, icon_cmp, item_cmp, settings_cmp}
use Rattle.vault_model.specs.SeenNodes.{entry_row}
use Rattle.vault_model.specs.Shape.{BareVersion, EntryRecord, GroupRecord}
use Rattle.vault_model.specs.Tree.{BareDoc, Tree, Trees, node, none, beside}

-- two numbers are equal
abbrev pub same_nat : ℕ → ℕ → Bool
same_nat = eq_by_cmp nat_cmp

-- two lists of one length, the same at each place
abbrev pub same_all : {A : Type 0} → (A → A → Bool) → List A → List A → Bool
same_all same [] [] = true
same_all same [] (y ∷ ys) = false
same_all same (x ∷ xs) [] = false
same_all same (x ∷ xs) (y ∷ ys) = same x y && same_all same xs ys

-- how versions and groups were used
abbrev pub same_stats : Stats → Stats → Bool
same_stats s t = same_nat s.accessed t.accessed && same_nat s.usage t.usage

-- two marks are equal
abbrev pub same_mark : Mark → Mark → Bool
same_mark a b = same_nat a.modified b.modified && eq_by_cmp content_cmp a.content b.content

-- two versions are equal, in their use too
abbrev pub same_version : BareVersion → BareVersion → Bool
same_version v w = same_mark v.mark w.mark && same_stats v.stats w.stats

-- entries with their ids
abbrev pub same_entry : NodeId × EntryRecord → NodeId × EntryRecord → Bool
same_entry e f =
    is_id e.0 f.0
    && (same_nat e.1.placed f.1.placed
    && (is_id e.1.previous f.1.previous
    && (same_version e.1.current f.1.current
    && same_all same_version e.1.history f.1.history)))

-- two groups' states are equal
abbrev pub same_state : GroupState → GroupState → Bool
same_state s t =
    same_nat s.modified t.modified
    && (eq_by_cmp group_content_cmp s.content t.content && same_stats s.stats t.stats)

-- how groups were looked at
abbrev pub same_view : GroupView → GroupView → Bool
same_view v w = eq_by_cmp bool_cmp v.expanded w.expanded && is_id v.top_entry w.top_entry

-- groups without their children
abbrev pub same_group : GroupRecord → GroupRecord → Bool
same_group g h =
    same_nat g.placed h.placed
    && (is_id g.previous h.previous
    && (same_state g.state h.state && same_view g.view h.view))

-- two groups in memory but for the groups in them
abbrev pub same_parts : Group → Group → Bool
same_parts g h =
    (is_id (out-Group g).id (out-Group h).id
    && (same_nat (out-Group g).placed (out-Group h).placed
    && (is_id (out-Group g).previous (out-Group h).previous
    && (same_state (out-Group g).state (out-Group h).state
    && same_view (out-Group g).view (out-Group h).view))))
    && same_all same_entry (map entry_row (out-Group g).entries)
    (map entry_row (out-Group h).entries)

-- groups with all below them
abbrev mutual
  pub same_tree : Tree → Tree → Bool
  same_tree (node u g es ts) (node v h fs us) =
      ((is_id u v && same_group g h) && same_all same_entry es fs) && same_trees ts us

  -- the same of groups side by side
  pub same_trees : Trees → Trees → Bool
  same_trees none none = true
  same_trees none (beside u us) = false
  same_trees (beside t ts) none = false
  same_trees (beside t ts) (beside u us) = same_tree t u && same_trees ts us

-- tombstones
abbrev pub same_tomb : Tombstone → Tombstone → Bool
same_tomb s t = is_id s.id t.id && same_nat s.deleted t.deleted

-- how a document was looked at
abbrev pub same_meta_view : MetaView → MetaView → Bool
same_meta_view v w =
    same_nat v.key_changed w.key_changed
    && (is_id v.last_group w.last_group && is_id v.last_top w.last_top)

-- the texts that a document says of itself
abbrev pub same_texts : Meta → Meta → Bool
same_texts m n =
    eq_by_cmp (timed_cmp bytes_cmp) m.name n.name
    && (eq_by_cmp (timed_cmp bytes_cmp) m.description n.description
    && eq_by_cmp (timed_cmp bytes_cmp) m.user n.user)

-- its settings
abbrev pub same_choices : Meta → Meta → Bool
same_choices m n =
    eq_by_cmp (timed_cmp bin_cmp) m.bin n.bin
    && (eq_by_cmp (timed_cmp bytes_cmp) m.templates n.templates
    && eq_by_cmp (timed_cmp settings_cmp) m.settings n.settings)

-- all that a document says of itself
abbrev pub same_meta : Meta → Meta → Bool
same_meta m n =
    same_texts m n
    && (same_choices m n
    && (same_all (eq_by_cmp icon_cmp) m.icons n.icons
    && (eq_by_cmp (slice_cmp item_cmp) m.items n.items && same_meta_view m.view n.view)))

-- two documents are equal
abbrev pub same_doc : BareDoc → BareDoc → Bool
same_doc d e =
    same_tree d.tree e.tree
    && (same_all same_tomb d.tombs e.tombs && same_meta d.meta e.meta)
