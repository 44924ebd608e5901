-- Copies are merged.
use Rattle.std.proofs.Common.{◌≡◌, ◌<◌, inl, inr, List, ◌∷◌, None, Ok, refl, sym, ap, subst, ◌∙◌, arith}
use Rattle.std.specs.List.{flat_map, list_any}
use Rattle.vault_model.specs.Db.{Db, NodeId, Sound}
use Rattle.vault_model.specs.Join.{Allowed, HaveOneRoot, IsIn, is_id, join}
use Rattle.vault_model.specs.Tree.{BareDoc, IsDoc, LEVELS, Tree, db_in, id_of, lay_doc, node, rooted, with_id, with_previous}
use Rattle.vault_model.proofs.Ids.{same_id}
use Rattle.vault_model.proofs.Tests.{any_found, from_flat, from_map, is_false}
use Rattle.merge_core.specs.NodesBelow.{below_ids}
use Rattle.merge_core.specs.Refusals.{least, members, root_clashes}
use Rattle.merge_core.proofs.Refused as refused
use Rattle.merge_core.proofs.SoundDoc.{db_root}
use Rattle.merge_examples.specs.MergeChecks.Cycles.{cycle_above}
use Rattle.merge_examples.specs.DocumentMerge.declared.merging.MergeFail.TheVariants.{KindClash, MoveCycle, RootClash, TooDeep}
use Rattle.merge_examples.specs.DocumentMerge.Merging.{kind_stage, level_stage, merge_result, path_stage, unless_found}
use Rattle.merge_examples.specs.AgreedLaws.Merges.{AreDocs}
use Rattle.merge_examples.proofs.AgreedLaws.Parts.{no_kind_clash, no_stray}
use Rattle.merge_examples.proofs.AgreedLaws.Shallow.{none_pass, shallow}
use Rattle.content_condition_laws.specs.Conditions.{CanBeMerged, MergeSucceeds}

module _ (t : BareDoc) (ss : List BareDoc) (all : AreDocs (t ∷ ss)) (can : CanBeMerged t ss) where
  abbrev docs : List BareDoc
  docs = t ∷ ss

  abbrev root : NodeId
  root = id_of t.tree

  no_root_clash : least (root_clashes docs) ≡ None
  no_root_clash =
      ap least (none_pass (λ u. list_any (λ (d : BareDoc). is_id u (id_of d.tree)) docs) (flat_map (λ (d : BareDoc). below_ids d.tree) docs) (λ u h.
      is_false (list_any (λ (d : BareDoc). is_id u (id_of d.tree)) docs) (λ e.
      let below = from_flat (λ (d : BareDoc). below_ids d.tree) docs u h in
      let top = any_found (λ (d : BareDoc). is_id u (id_of d.tree)) docs e in
      can.roots below.0 top.0 below.1.0 top.1.0 (subst (λ (v : NodeId). IsIn v (below_ids below.0.tree)) (same_id u (id_of top.0.tree) top.1.1) below.1.1))))

  is_doc : IsDoc t
  is_doc = all t (inl refl)

  are_docs : (s : BareDoc) → IsIn s ss → IsDoc s
  are_docs s h = all s (inr h)

  rooted_root : (d : BareDoc) (r : NodeId) → id_of (rooted d r).tree ≡ r
  rooted_root d r = at d.tree
    where
      at : (u : Tree) → id_of (with_id r (with_previous (id_of d.tree) r u)) ≡ r
      at (node u g es ts) = refl

  one_root : HaveOneRoot (members t ss)
  one_root m (inl p) = ap (λ (x : Db). x.root) (sym p)
  one_root m (inr h) =
      let f = from_map (λ (s : BareDoc). db_in (rooted s root)) ss m h in
      ap (λ (x : Db). x.root) (sym f.1.1) ∙ db_root (rooted f.0 root) (refused.source_is t ss is_doc are_docs no_root_clash f.0 f.1.0) ∙ rooted_root f.0 root ∙ sym (db_root t is_doc)

  allowed : Allowed (members t ss)
  allowed = record { some = tt; root = one_root; kinds = can.kinds; acyclic = can.moves }

  sound : (m : Db) → IsIn m (members t ss) → Sound m
  sound = refused.sound t ss is_doc are_docs no_root_clash

  some_level : 0 < LEVELS
  some_level = omega arith

  merged : merge_result t ss ≡ Ok (lay_doc LEVELS (join (members t ss)) t)
  merged =
      ap (λ o. unless_found o RootClash (kind_stage t ss)) no_root_clash
      ∙ ap (λ o. unless_found o KindClash (path_stage t ss)) (no_kind_clash (members t ss) allowed sound)
      ∙ ap (λ o. unless_found o (λ u. MoveCycle (cycle_above (members t ss) u)) (level_stage t ss)) (no_stray (members t ss) allowed sound)
      ∙ ap (λ o. unless_found o TooDeep (Ok (lay_doc LEVELS (join (members t ss)) t))) (shallow (members t ss) allowed sound LEVELS some_level can.levels)

pub merge_succeeds : MergeSucceeds
merge_succeeds t ss all can = (lay_doc LEVELS (join (members t ss)) t, merged t ss all can)
