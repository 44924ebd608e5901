-- Documents that are alike but for what their nodes say agree.
use Rattle.std.proofs.Common.{◌≡◌, true, false, inl, inr, List, [], ◌∷◌, map, Some, None, refl, sym, ap, subst, ◌∙◌}
use Rattle.std.specs.FinMap.{contains_key, find, get}
use Rattle.history_laws.proofs.OrderlyLaws.{unmoved_agree}
use Rattle.merge_core.proofs.SoundDoc.{db_root, db_tomb, document_sound, distinct, entry_at, group_at, kinds_apart, one_parent, place_kid}
use Rattle.vault_model.specs.Db.{Db, NodeId, Place, Sound, id_cmp}
use Rattle.vault_model.specs.Join.{Agreed, IsIn}
use Rattle.vault_model.specs.Shape.{Children}
use Rattle.vault_model.specs.Tree.{BareDoc, IsDoc, child_rows, db_in, entry_rows, id_of}
use Rattle.vault_model.specs.declared.nodes.Tombstone.{Tombstone}
use Rattle.vault_model.proofs.Tests.{from_map, in_map, is_false, some_of}
use Rattle.import_laws.proofs.Bare.{entry_id}

-- Two trees have the same nodes in the same groups.
pub record IsAlike (d e : BareDoc) : Type 0 where
  pub root : id_of d.tree ≡ id_of e.tree
  pub children : child_rows d.tree ≡ child_rows e.tree
  pub entries : map entry_id (entry_rows d.tree) ≡ map entry_id (entry_rows e.tree)
  pub no_tombs : (d.tombs ≡ []) × (e.tombs ≡ [])

pub turned : (d e : BareDoc) → IsAlike d e → IsAlike e d
turned d e a = record { root = sym a.root; children = sym a.children; entries = sym a.entries; no_tombs = (a.no_tombs.1, a.no_tombs.0) }

pub itself : (d e : BareDoc) → IsAlike d e → IsAlike d d
itself d e a = record { root = refl; children = refl; entries = refl; no_tombs = (a.no_tombs.0, a.no_tombs.0) }

module _ (d e : BareDoc) (is : IsDoc d) (too : IsDoc e) (a : IsAlike d e) where
  roots : (db_in d).root ≡ (db_in e).root
  roots = db_root d is ∙ a.root ∙ sym (db_root e too)

  kinds : (u : NodeId) → contains_key (db_in d).entries u ≡ true → contains_key (db_in e).groups u ≡ false
  kinds u here = is_false (contains_key (db_in e).groups u) (λ there.
      let v = some_of (get (db_in d).entries u) here in
      let x = entry_at d is u v.0 v.1 in
      let r = some_of (get (db_in e).groups u) there in
      let y = group_at e too u r.0 r.1 in
      let moved = subst (λ (us : List NodeId). IsIn u us) a.entries (in_map entry_id (entry_rows d.tree) (u, x.0) x.1.0) in
      let found = from_map entry_id (entry_rows e.tree) u moved in
      kinds_apart e.tree u found.0.1 y.0 (distinct e too) (subst (λ (k : NodeId). IsIn (k, found.0.1) (entry_rows e.tree)) found.1.1 found.1.0) y.1.0)

  unmoved : (u : NodeId) (p q : Place) → get (db_in d).places u ≡ Some p → get (db_in e).places u ≡ Some q → p.parent ≡ q.parent
  unmoved u p q here there =
      let k = place_kid d is u p here in
      let l = place_kid e too u q there in
      one_parent e.tree p.parent q.parent u (distinct e too)
      (k.0, (subst (λ (rows : List (NodeId × Children)). IsIn (p.parent, k.0) rows) a.children k.1.0, k.1.1)) l

  no_loss : (u : NodeId) → get (db_in e).tombs u ≡ None
  no_loss u = db_tomb e too u ∙ ap (λ (tombs : List Tombstone). find id_cmp u (map (λ (t : Tombstone). (t.id, t.deleted)) tombs)) a.no_tombs.1

-- what holds of any two of two things
pairs : (P : Db → Db → Type 0) (x y : Db) → P x x → P x y → P y x → P y y → (m n : Db) → IsIn m (x ∷ y ∷ []) → IsIn n (x ∷ y ∷ []) → P m n
pairs P x y xx xy yx yy m n (inl i) (inl j) = subst (λ a. P a n) i (subst (λ b. P x b) j xx)
pairs P x y xx xy yx yy m n (inl i) (inr (inl j)) = subst (λ a. P a n) i (subst (λ b. P x b) j xy)
pairs P x y xx xy yx yy m n (inl i) (inr (inr j)) = absurd j
pairs P x y xx xy yx yy m n (inr (inl i)) (inl j) = subst (λ a. P a n) i (subst (λ b. P y b) j yx)
pairs P x y xx xy yx yy m n (inr (inl i)) (inr (inl j)) = subst (λ a. P a n) i (subst (λ b. P y b) j yy)
pairs P x y xx xy yx yy m n (inr (inl i)) (inr (inr j)) = absurd j
pairs P x y xx xy yx yy m n (inr (inr i)) j = absurd i

pub each : (P : Db → Type 0) (x y : Db) → P x → P y → (m : Db) → IsIn m (x ∷ y ∷ []) → P m
each P x y px py m (inl i) = subst P i px
each P x y px py m (inr (inl i)) = subst P i py
each P x y px py m (inr (inr i)) = absurd i

pub alike_agree : (d e : BareDoc) (is : IsDoc d) (too : IsDoc e) → IsAlike d e → Agreed (db_in d ∷ db_in e ∷ [])
alike_agree d e is too a =
    let x = db_in d in
    let y = db_in e in
    let b = turned d e a in
    let ad = itself d e a in
    let be = itself e d b in
    unmoved_agree (x ∷ y ∷ [])
    (record {
      sound = each Sound x y (document_sound d is) (document_sound e too);
      root = each (λ m. m.root ≡ x.root) x y refl (sym (roots d e is too a));
      kinds = λ m n u i j. pairs (λ m n. contains_key m.entries u ≡ true → contains_key n.groups u ≡ false) x y
          (kinds d d is is ad u) (kinds d e is too a u) (kinds e d too is b u) (kinds e e too too be u) m n i j;
    })
    (λ m n u i j held. pairs (λ m n. get n.tombs u ≡ None) x y (no_loss d d is is ad u) (no_loss d e is too a u) (no_loss e d too is b u) (no_loss e e too too be u) m n i j)
    (λ m n g p q i j held here there. pairs (λ m n. get m.places g ≡ Some p → get n.places g ≡ Some q → p.parent ≡ q.parent) x y
    (unmoved d d is is ad g p q) (unmoved d e is too a g p q) (unmoved e d too is b g p q) (unmoved e e too too be g p q) m n i j here there)
