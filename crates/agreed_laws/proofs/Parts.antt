-- Documents whose databases are agreed: their members are these databases, and of the refusals of a
-- merge only too many levels can come.
use Rattle.std.proofs.Common.{◌≡◌, not, inl, inr, ◌&&◌, ◌++◌, List, ◌∷◌, None, map, length, refl, sym, ap, subst, ◌∙◌, arith}
use Rattle.std.specs.FinMap.{contains_key}
use Rattle.std.specs.List.{list_any, flat_map}
use Rattle.vault_model.specs.Db.{NodeId, Db, Sound}
use Rattle.vault_model.specs.Join.{is_id, root_of, ids, own, path, IsIn, Allowed, Agreed}
use Rattle.vault_model.specs.Tree.{Tree, node, BareDoc, IsDoc, db_in, id_of, node_ids, node_ids_all, rooted}
use Rattle.vault_model.proofs.Ids.{same_id}
use Rattle.vault_model.proofs.Tests.{and_true, not_true, any_found, apart, from_flat, in_map, is_false, map_same}
use Rattle.merge_core.specs.NodesBelow.{below_ids}
use Rattle.merge_core.proofs.Allowed.{own_arrives}
use Rattle.merge_core.proofs.SoundDoc.{AreDistinct, db_root, distinct_from, distinct_head, entry_ids}
use Rattle.merge_core.specs.Marking.{is_stray, strays}
use Rattle.merge_core.specs.Refusals.{is_entry, is_group, kind_clashes, least, members, root_clashes}
use Rattle.merge_core.proofs.Rooted.{rooted_at_home}
use Rattle.merge_core.proofs.Regroup.{part_allowed}
use Rattle.agreed_laws.proofs.Shallow.{none_pass, on_trail}

-- the root is none of the nodes below it
pub root_apart : (t : Tree) → AreDistinct (node_ids t) → IsIn (id_of t) (below_ids t) → ⊥
root_apart (node v r es ts) d h = distinct_head v (entry_ids es ++ node_ids_all ts) d h

-- what can be joined has no clash of kinds and no strays
module _ (S : List Db) (al : Allowed S) (sound : (m : Db) → IsIn m S → Sound m) where
  pub no_kind_clash : least (kind_clashes S) ≡ None
  no_kind_clash =
      ap least (none_pass (λ u. is_entry S u && is_group S u) (ids S) (λ u h. is_false (is_entry S u && is_group S u) (λ e.
      let parts = and_true (is_entry S u) (is_group S u) e in
      let m = any_found (λ (n : Db). contains_key n.entries u) S parts.0 in
      let n = any_found (λ (n : Db). contains_key n.groups u) S parts.1 in
      apart (contains_key n.0.groups u) n.1.1 (al.kinds m.0 n.0 u m.1.0 n.1.0 m.1.1))))

  pub no_stray : least (strays S) ≡ None
  no_stray =
      ap least (none_pass (is_stray S) (ids S) (λ u h. is_false (is_stray S u) (λ e.
      let parts = and_true (own S u) (not (list_any (is_id (root_of S)) (path S u))) e in
      let n = length (ids S) in
      apart (list_any (is_id (root_of S)) (path S u))
      (ap (λ (v : NodeId). list_any (is_id v) (path S u)) (sym (own_arrives S al sound u parts.0)) ∙ on_trail S n n u (omega arith))
      (not_true (list_any (is_id (root_of S)) (path S u)) parts.1))))

module _ (t : BareDoc) (ss : List BareDoc) (all : (d : BareDoc) → IsIn d (t ∷ ss) → IsDoc d) (agreed : Agreed (map db_in (t ∷ ss))) where
  abbrev docs : List BareDoc
  docs = t ∷ ss

  abbrev dbs : List Db
  dbs = map db_in docs

  one_root : (d : BareDoc) → IsIn d docs → id_of d.tree ≡ id_of t.tree
  one_root d h =
      sym (db_root d (all d h)) ∙ agreed.compatible.root (db_in d) (in_map db_in docs d h) ∙ db_root t (all t (inl refl))

  pub members_are : members t ss ≡ dbs
  members_are =
      ap (λ rest. db_in t ∷ rest) (map_same (λ s. db_in (rooted s (id_of t.tree))) db_in ss (λ s h.
      ap db_in (ap (rooted s) (sym (one_root s (inr h))) ∙ rooted_at_home s (all s (inr h)))))

  pub no_root_clash : least (root_clashes docs) ≡ None
  no_root_clash =
      ap least (none_pass (λ u. list_any (λ (d : BareDoc). is_id u (id_of d.tree)) docs) (flat_map (λ (d : BareDoc). below_ids d.tree) docs) (λ u h.
      is_false (list_any (λ (d : BareDoc). is_id u (id_of d.tree)) docs) (λ e.
      let below = from_flat (λ (d : BareDoc). below_ids d.tree) docs u h in
      let root = any_found (λ (d : BareDoc). is_id u (id_of d.tree)) docs e in
      let same : u ≡ id_of below.0.tree = same_id u (id_of root.0.tree) root.1.1 ∙ one_root root.0 root.1.0 ∙ sym (one_root below.0 below.1.0) in
      root_apart below.0.tree (distinct_from (node_ids below.0.tree) (all below.0 below.1.0).distinct)
      (subst (λ (v : NodeId). IsIn v (below_ids below.0.tree)) same below.1.1))))

  pub dbs_allowed : Allowed dbs
  dbs_allowed = part_allowed dbs dbs agreed (tt, λ m h. h)

  pub dbs_sound : (m : Db) → IsIn m dbs → Sound m
  dbs_sound m h = agreed.compatible.sound m h
