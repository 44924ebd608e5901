-- After each step of a command all stays that a document had.
use Rattle.std.proofs.Common.{◌≡◌, ◌≢◌, ◌<◌, ◌==◌, ℕ, false, cond, find, inl, inr, List, [], ◌∷◌, Some, refl, sym, ap, subst, ◌∙◌, arith}
use Rattle.std.proofs.lemmas.Bool.{lt-ltb}
use Rattle.std.proofs.lemmas.Option.{same_Some}
use Rattle.std.specs.Ordering.{ordering_then}
use Rattle.std.specs.declared.cmp.Ordering.TheVariants.{Less, Equal, Greater}
use Rattle.vault_model.specs.declared.nodes.Tombstone.{Tombstone}
use Rattle.vault_model.specs.Db.{NodeId, Place, id_cmp, place_cmp}
use Rattle.vault_model.specs.Join.{IsIn, is_id, meta_join}
use Rattle.vault_model.specs.SeenNodes.{entry_time}
use Rattle.vault_model.specs.Shape.{EntryRecord, GroupRecord, place_at, shared_of, stay_of, versions_of}
use Rattle.vault_model.specs.Tree.{BareDoc, IsDoc, Tree, child_rows, entry_rows, group_rows, id_of, node, shape_of}
use Rattle.vault_model.specs.Unite.{by_order, greater}
use Rattle.vault_model.proofs.Ids.{is_same_id, same_id}
use Rattle.vault_model.proofs.Tests.{apart, decide, in_front}
use Rattle.merge_core.proofs.Joins.{meta_joins, places_joins, state_joins, versions_joins}
use Rattle.merge_core.proofs.SoundDoc.{IsKid, below_node, is_node, kid_below}
use Rattle.tree_core.specs.Changes.{changed_at, changed_entry, entry_moved, group_with, moved_entry, own_entry, with_entry, with_group, without_entry, without_group}
use Rattle.tree_core.proofs.Around.{found_id, same_root}
use Rattle.tree_core.proofs.Changed.{changed_by}
use Rattle.tree_core.proofs.Options.{never}
use Rattle.growth_laws.proofs.Carries.{Carries, Entry, Group, carries_at, entry_in, kid_in, put_entry_carries, put_entry_kid, put_entry_row, put_group_carries, take_entry_carries, was_entry_in}
use Rattle.growth_laws.proofs.Stays.{Buried, EntryAfter, GroupAfter, KidAfter, Stays, entry_stay, group_stay, places_stay}

-- ---- what is as it was

pub entry_same : (u : NodeId) (x : EntryRecord) (e : BareDoc) → IsIn (u, x) (entry_rows e.tree) → EntryAfter u x e
entry_same u x e i = record { after = x; row = i; more = versions_joins.idem (versions_of x); time = omega arith }

pub group_same : (u : NodeId) (r : GroupRecord) (e : BareDoc) → IsIn (u, r) (group_rows e.tree) → GroupAfter u r e
group_same u r e i = record { after = r; row = i; more = state_joins.idem r.state; time = omega arith }

pub tomb_same : (e : BareDoc) (t : Tombstone) → IsIn t e.tombs → Buried t.id t.deleted e
tomb_same e t i = record { tomb = t; is = i; id = refl; late = omega arith }

module _ (d e : BareDoc) (isd : IsDoc d) (ise : IsDoc e) where
  pub kid_stay : (g u : NodeId) → stay_of (shape_of d) u ≡ stay_of (shape_of e) u → IsKid (child_rows e.tree) g u → KidAfter g u (stay_of (shape_of d) u) e
  kid_stay g u same now = record {
    parent = g;
    kid = now;
    later = ap (λ s. greater place_cmp (place_at s g) (place_at (stay_of (shape_of e) u) g)) same ∙ places_joins.idem (place_at (stay_of (shape_of e) u) g);
  }

  pub kid_same : (g u : NodeId) → ((x : EntryRecord) → IsIn (u, x) (entry_rows d.tree) → IsIn (u, x) (entry_rows e.tree)) → ((r : GroupRecord) → IsIn (u, r) (group_rows d.tree) → IsIn (u, r) (group_rows e.tree))
      → IsKid (child_rows d.tree) g u → IsKid (child_rows e.tree) g u → KidAfter g u (stay_of (shape_of d) u) e
  kid_same g u es gs was now = kid_stay g u (elim (is_node d.tree u (below_node d.tree u (kid_below d.tree g u was))) [
    | inl x ↦ entry_stay d isd u x.0 x.1 ∙ sym (entry_stay e ise u x.0 (es x.0 x.1))
    | inr r ↦ group_stay d isd u r.0 r.1 ∙ sym (group_stay e ise u r.0 (gs r.0 r.1))
  ]) now

-- the later place is the greater
later_place : (p q : Place) → p.placed < q.placed → greater place_cmp p q ≡ q
unfolding place_cmp
later_place p q less =
    ap (λ b. by_order (ordering_then (cond b Less (cond (p.placed == q.placed) Equal Greater)) (ordering_then (id_cmp p.parent q.parent) (id_cmp p.previous q.previous))) q p p) (lt-ltb p.placed q.placed less)

pub kid_later : (d e : BareDoc) (g h u : NodeId) → IsKid (child_rows e.tree) h u → (stay_of (shape_of d) u).placed < (stay_of (shape_of e) u).placed → KidAfter g u (stay_of (shape_of d) u) e
kid_later d e g h u now less = record { parent = h; kid = now; later = later_place (place_at (stay_of (shape_of d) u) g) (place_at (stay_of (shape_of e) u) h) less }

pub carries_then : {P : Entry → Type 0} {Q : Group → Type 0} {R : NodeId → NodeId → Type 0} (a b c : Tree) → Carries a b P Q R → Carries b c (λ r. ⊥) (λ r. ⊥) (λ g u. ⊥) → Carries a c P Q R
carries_then a b c one two = record {
  entries = λ r i. elim (one.entries r i) [ inl y ↦ elim (two.entries r y) [ inl z ↦ inl z | inr z ↦ absurd z ] | inr l ↦ inr l ];
  groups = λ r i. elim (one.groups r i) [ inl y ↦ elim (two.groups r y) [ inl z ↦ inl z | inr z ↦ absurd z ] | inr l ↦ inr l ];
  kids = λ g u k. elim (one.kids g u k) [ inl y ↦ elim (two.kids g u y) [ inl z ↦ inl z | inr z ↦ absurd z ] | inr l ↦ inr l ];
}

pub root_same : (g : NodeId) (f : Tree → Tree) (t b : Tree) → group_with g t ≡ Some b → id_of (f b) ≡ id_of b → id_of t ≡ id_of (changed_at g f t)
root_same g f t b there keeps = sym (ap id_of (sym (changed_by g f t b there)) ∙ same_root g t (f b) (keeps ∙ found_id g t b there))

-- ---- something is put in

pub put_stays : (d e : BareDoc) → IsDoc d → IsDoc e → Carries d.tree e.tree (λ r. ⊥) (λ r. ⊥) (λ g u. ⊥) → d.tombs ≡ e.tombs → id_of d.tree ≡ id_of e.tree
    → meta_join (shared_of d.meta) (shared_of e.meta) ≡ shared_of e.meta → Stays d e
put_stays d e isd ise c tombs root meta =
    let es : (u : NodeId) (x : EntryRecord) → IsIn (u, x) (entry_rows d.tree) → IsIn (u, x) (entry_rows e.tree) = λ u x i. elim (c.entries (u, x) i) [ inl y ↦ y | inr l ↦ absurd l ] in
    let gs : (u : NodeId) (r : GroupRecord) → IsIn (u, r) (group_rows d.tree) → IsIn (u, r) (group_rows e.tree) = λ u r i. elim (c.groups (u, r) i) [ inl y ↦ y | inr l ↦ absurd l ] in
    record {
      entries = λ u x i. inl (entry_same u x e (es u x i));
      groups = λ u r i. inl (group_same u r e (gs u r i));
      places = places_stay d e isd ise (λ g u k. elim (c.kids g u k) [
        | inl y ↦ inl (kid_same d e isd ise g u (es u) (gs u) k y)
        | inr l ↦ absurd l
      ]);
      tombs = λ t i. tomb_same e t (subst (λ (ts : List Tombstone). IsIn t ts) tombs i);
      root = root;
      meta = meta;
    }

put_root : (e : Entry) (b : Tree) → id_of (with_entry e b) ≡ id_of b
put_root e (node v r es ts) = refl

pub put_group_keeps : (w b : Tree) → id_of (with_group w b) ≡ id_of b
put_group_keeps w (node v r es ts) = refl

pub take_root : (u : NodeId) (b : Tree) → id_of (without_entry u b) ≡ id_of b
take_root u (node v r es ts) = refl

pub take_group_root : (u : NodeId) (b : Tree) → id_of (without_group u b) ≡ id_of b
take_group_root u (node v r es ts) = refl

pub change_root : (u : NodeId) (f : EntryRecord → EntryRecord) (b : Tree) → id_of (changed_entry u f b) ≡ id_of b
change_root u f (node v r es ts) = refl

pub put_entry_stays : (d e : BareDoc) → IsDoc d → IsDoc e → (g : NodeId) (b : Tree) (x : Entry) → group_with g d.tree ≡ Some b → e ≡ record d { tree = changed_at g (with_entry x) d.tree } → Stays d e
put_entry_stays d e isd ise g b x there is =
    put_stays d e isd ise
    (subst (λ (w : BareDoc). Carries d.tree w.tree (λ r. ⊥) (λ r. ⊥) (λ g u. ⊥)) (sym is) (carries_at g (with_entry x) d.tree b there (put_root x b) (put_entry_carries x b)))
    (sym (ap (λ (w : BareDoc). w.tombs) is))
    (root_same g (with_entry x) d.tree b there (put_root x b) ∙ sym (ap (λ (w : BareDoc). id_of w.tree) is))
    (ap (λ (w : BareDoc). meta_join (shared_of d.meta) (shared_of w.meta)) is ∙ meta_joins.idem (shared_of d.meta) ∙ sym (ap (λ (w : BareDoc). shared_of w.meta) is))

pub put_group_stays : (d e : BareDoc) → IsDoc d → IsDoc e → (g : NodeId) (b w : Tree) → group_with g d.tree ≡ Some b → e.tree ≡ changed_at g (with_group w) d.tree → d.tombs ≡ e.tombs
    → meta_join (shared_of d.meta) (shared_of e.meta) ≡ shared_of e.meta → Stays d e
put_group_stays d e isd ise g b w there is tombs meta =
    put_stays d e isd ise
    (subst (λ (t : Tree). Carries d.tree t (λ r. ⊥) (λ r. ⊥) (λ g u. ⊥)) (sym is) (carries_at g (with_group w) d.tree b there (put_group_keeps w b) (put_group_carries w b)))
    tombs (root_same g (with_group w) d.tree b there (put_group_keeps w b) ∙ sym (ap id_of is)) meta

-- ---- an entry is moved

pub own_row : (u : NodeId) (x : Entry) (b : Tree) → own_entry u b ≡ Some x → IsIn x (entry_rows b)
own_row u x (node v r es ts) own = in_front es _ x (own_in es own)
  where
    own_in : (es : List Entry) → find (λ (e : Entry). is_id e.0 u) es ≡ Some x → IsIn x es
    own_in [] h = never x h
    own_in (e ∷ es) h =
        elim (decide (is_id e.0 u)) [
          | inl p ↦ inl (same_Some e x (ap (λ b. cond b (Some e) (find (λ (y : Entry). is_id y.0 u) es)) (sym p) ∙ h))
          | inr p ↦ inr (own_in es (ap (λ b. cond b (Some e) (find (λ (y : Entry). is_id y.0 u) es)) (sym p) ∙ h))
        ]

pub other : (q u : NodeId) → is_id q u ≡ false → u ≢ q
other q u off p = apart (is_id q u) (is_same_id q u (sym p)) off

module _ (d : BareDoc) (from to : NodeId) (time : ℕ) (x : Entry) (b goal : Tree) where
  abbrev y : Entry
  y = (x.0, moved_entry from time x.1)

  abbrev mid : Tree
  mid = changed_at from (without_entry x.0) d.tree

  abbrev moved : BareDoc
  moved = record d { tree = entry_moved from to time x d.tree }

  pub move_entry_stays : IsDoc d → IsDoc moved → group_with from d.tree ≡ Some b → own_entry x.0 b ≡ Some x → group_with to mid ≡ Some goal → x.1.placed < time → Stays d moved
  move_entry_stays isd ise there own at less =
      let c : Carries d.tree moved.tree (λ r. x ≡ r) (λ r. ⊥) (λ g q. x.0 ≡ q) = carries_then d.tree mid moved.tree
      (carries_at from (without_entry x.0) d.tree b there (take_root x.0 b) (take_entry_carries x.0 x b own))
      (carries_at to (with_entry y) mid goal at (put_root y goal) (put_entry_carries y goal)) in
      let row : IsIn y (entry_rows moved.tree) = entry_in to (with_entry y) mid goal at (put_root y goal) y (put_entry_row y goal) in
      let kid : IsKid (child_rows moved.tree) (id_of goal) x.0 = kid_in to (with_entry y) mid goal at (put_root y goal) (id_of goal) x.0 (put_entry_kid y goal) in
      let was : IsIn x (entry_rows d.tree) = was_entry_in from d.tree b there x (own_row x.0 x b own) in
      let since = ap (λ s. s.placed) (entry_stay d isd x.0 x.1 was) in
      let now = ap (λ s. s.placed) (entry_stay moved ise x.0 y.1 row) in
      record {
        entries = λ u r i. elim (c.entries (u, r) i) [
          | inl k ↦ inl (entry_same u r moved k)
          | inr p ↦ inl (subst (λ (z : Entry). EntryAfter z.0 z.1 moved) p (record {
            after = y.1;
            row = row;
            more = versions_joins.idem (versions_of x.1);
            time = (let same : entry_time y.1 ≡ entry_time x.1 = refl in omega (arith, same));
          }))
        ];
        groups = λ u r i. elim (c.groups (u, r) i) [ inl k ↦ inl (group_same u r moved k) | inr l ↦ absurd l ];
        places = places_stay d moved isd ise (λ g q k. elim (decide (is_id q x.0)) [
          | inl p ↦ inl (subst (λ (v : NodeId). KidAfter g v (stay_of (shape_of d) v) moved) (sym (same_id q x.0 p)) (kid_later d moved g (id_of goal) x.0 kid (omega (arith, since, now, less))))
          | inr p ↦ elim (c.kids g q k) [
            | inl z ↦ inl (kid_same d moved isd ise g q
                (λ r i. elim (c.entries (q, r) i) [ inl j ↦ j | inr s ↦ absurd (other q x.0 p (ap (λ (w : Entry). w.0) s)) ])
                (λ r i. elim (c.groups (q, r) i) [ inl j ↦ j | inr l ↦ absurd l ]) k z)
            | inr s ↦ absurd (other q x.0 p s)
          ]
        ]);
        tombs = λ t i. tomb_same moved t i;
        root = root_same from (without_entry x.0) d.tree b there (take_root x.0 b) ∙ root_same to (with_entry y) mid goal at (put_root y goal);
        meta = meta_joins.idem (shared_of d.meta);
      }
