-- What a document has after one of its groups was changed: all that it had, and what is new.
use Rattle.std.proofs.Common.{◌≡◌, ◌⊎◌, Bool, true, false, cond, inl, inr, List, [], ◌∷◌, ◌++◌, Option, Some, None, map, sym, ap, subst, ◌∙◌}
use Rattle.std.proofs.lemmas.Option.{same_Some}
use Rattle.std.specs.FinMap.{contains_key, from_entries, get}
use Rattle.vault_model.specs.declared.nodes.Tombstone.{Tombstone}
use Rattle.vault_model.specs.Db.{NodeId, Place, holds}
use Rattle.vault_model.specs.Join.{IsIn, is_id}
use Rattle.vault_model.specs.Shape.{EntryRecord, GroupRecord, db_of}
use Rattle.vault_model.specs.Tree.{BareDoc, IsDoc, Tree, Trees, beside, db_in, entry_rows, group_rows, id_of, node, node_ids, node_ids_all, none, shape_of}
use Rattle.vault_model.proofs.Tests.{apart, decide, in_back, in_either, in_front, map_append, or_right, some_of}
use Rattle.merge_core.proofs.SoundDoc.{db_root, document_sound, entry_at, entry_there, group_at, group_there, holds_node, kid_place, node_holds, place_kid}
use Rattle.tree_core.specs.Changes.{changed_at, group_with, changed_entry, with_changed, with_entry, with_group, with_last, without, without_entry}
use Rattle.tree_core.proofs.Around.{ids_rows, rows_change}
use Rattle.growth_laws.proofs.Carries.{Carries, Entry, Group}
use Rattle.history_laws.specs.FreeHistories.{OnlyAdds}
use Rattle.command_laws.specs.Adding.{AddsOnly}

-- ---- rows that stay

module _ (d e : BareDoc) (isd : IsDoc d) (ise : IsDoc e) where
  same_tombs : d.tombs ≡ e.tombs → (db_in d).tombs ≡ (db_in e).tombs
  unfolding db_of shape_of
  same_tombs is = ap (λ (ts : List Tombstone). from_entries (map (λ (t : Tombstone). (t.id, t.deleted)) ts)) is

  pub rows_add : {P : Entry → Type 0} {Q : Group → Type 0} {R : NodeId → NodeId → Type 0} → Carries d.tree e.tree P Q R
      → ((u : NodeId) (x : EntryRecord) → P (u, x) → (y : EntryRecord) × IsIn (u, y) (entry_rows e.tree))
      → ((r : Group) → Q r → ⊥)
      → ((g u : NodeId) (r : GroupRecord) → R g u → IsIn (u, r) (group_rows d.tree) → ⊥)
      → d.tombs ≡ e.tombs → id_of d.tree ≡ id_of e.tree → OnlyAdds (db_in d) (db_in e)
  rows_add c es gs ks tombs root = record {
    root = db_root d isd ∙ root ∙ sym (db_root e ise);
    entries = λ u h.
        let v = some_of (get (db_in d).entries u) h in
        let x = entry_at d isd u v.0 v.1 in
        elim (c.entries (u, x.0) x.1.0) [
          | inl i ↦ entry_there e ise u x.0 i
          | inr l ↦ let y = es u x.0 l in entry_there e ise u y.0 y.1
        ];
    groups = λ u h.
        let v = some_of (get (db_in d).groups u) h in
        let r = group_at d isd u v.0 v.1 in
        elim (c.groups (u, r.0) r.1.0) [
          | inl i ↦ group_there e ise u r.0 i
          | inr l ↦ absurd (gs (u, r.0) l)
        ];
    tombs = same_tombs tombs;
    parents = λ g p q h a b.
        let v = some_of (get (db_in d).groups g) h in
        let r = group_at d isd g v.0 v.1 in
        elim (c.kids p.parent g (place_kid d isd g p a)) [
          | inl z ↦
              let t = kid_place e ise p.parent g z in
              sym t.1.1 ∙ ap (λ (s : Place). s.parent) (same_Some t.0 q (sym t.1.0 ∙ b))
          | inr l ↦ absurd (ks p.parent g r.0 l r.1.0)
        ];
  }

  -- nodes that are new
  pub nodes_new : (id : Option NodeId) → ((u : NodeId) → IsIn u (node_ids e.tree) → IsIn u (node_ids d.tree) ⊎ (id ≡ Some u)) → (u : NodeId) → holds (db_in e) u ≡ true → holds (db_in d) u ≡ false → id ≡ Some u
  nodes_new id from u h off = elim (from u (holds_node e ise u h)) [
    | inl i ↦ apart (holds (db_in d) u) (node_holds d isd u i) off
    | inr i ↦ i
  ]

-- where nothing is new in a group that is changed, nothing is in the tree, but for the id
pub tree_new : (id : Option NodeId) (g : NodeId) (f : Tree → Tree) (t b : Tree) → group_with g t ≡ Some b → id_of (f b) ≡ g
    → ((u : NodeId) → IsIn u (node_ids (f b)) → IsIn u (node_ids b) ⊎ (id ≡ Some u)) → (u : NodeId) → IsIn u (node_ids (changed_at g f t)) → IsIn u (node_ids t) ⊎ (id ≡ Some u)
tree_new id g f t b there same from u i =
    let c = rows_change node_ids node_ids_all ids_rows g f t b there same in
    elim (in_either c.front (node_ids (f b) ++ c.back) u (subst (λ (us : List NodeId). IsIn u us) c.now i)) [
      | inl k ↦ inl (subst (λ (us : List NodeId). IsIn u us) (sym c.was) (in_front c.front (node_ids b ++ c.back) u k))
      | inr k ↦ elim (in_either (node_ids (f b)) c.back u k) [
        | inl j ↦ elim (from u j) [
          | inl m ↦ inl (subst (λ (us : List NodeId). IsIn u us) (sym c.was) (in_back c.front (node_ids b ++ c.back) u (in_front (node_ids b) c.back u m)))
          | inr m ↦ inr m
        ]
        | inr j ↦ inl (subst (λ (us : List NodeId). IsIn u us) (sym c.was) (in_back c.front (node_ids b ++ c.back) u (in_back (node_ids b) c.back u j)))
      ]
    ]

-- ---- one group that is changed

abbrev ids : List Entry → List NodeId
ids es = map (λ (e : Entry). e.0) es

-- other entries of a group, whose ids it had, or one new one
entries_new : (id : Option NodeId) (v : NodeId) (r : GroupRecord) (es fs : List Entry) (ts : Trees) → ((u : NodeId) → IsIn u (ids fs) → IsIn u (ids es) ⊎ (id ≡ Some u))
    → (u : NodeId) → IsIn u (node_ids (node v r fs ts)) → IsIn u (node_ids (node v r es ts)) ⊎ (id ≡ Some u)
entries_new id v r es fs ts from u (inl p) = inl (inl p)
entries_new id v r es fs ts from u (inr i) = elim (in_either (ids fs) (node_ids_all ts) u i) [
  | inl k ↦ elim (from u k) [ inl m ↦ inl (inr (in_front (ids es) (node_ids_all ts) u m)) | inr m ↦ inr m ]
  | inr k ↦ inl (inr (in_back (ids es) (node_ids_all ts) u k))
]

pub put_new : (x : Entry) (b : Tree) (u : NodeId) → IsIn u (node_ids (with_entry x b)) → IsIn u (node_ids b) ⊎ (Some x.0 ≡ Some u)
put_new x (node v r es ts) = entries_new (Some x.0) v r es (es ++ x ∷ []) ts (λ u i.
    elim (in_either (ids es) (x.0 ∷ []) u (subst (λ (us : List NodeId). IsIn u us) (map_append (λ (e : Entry). e.0) es (x ∷ [])) i)) [
      | inl k ↦ inl k
      | inr k ↦ elim k [ inl p ↦ inr (ap Some p) | inr z ↦ absurd z ]
    ])

without_in : (q : NodeId) (es : List Entry) (u : NodeId) → IsIn u (ids (without q es)) → IsIn u (ids es)
without_in q [] u i = i
without_in q (e ∷ es) u i = pick (without_in q es u) (is_id e.0 q) i
  where
    pick : (IsIn u (ids (without q es)) → IsIn u (ids es)) → (b : Bool) → IsIn u (ids (cond b es (e ∷ without q es))) → IsIn u (ids (e ∷ es))
    pick rest true k = inr k
    pick rest false (inl p) = inl p
    pick rest false (inr k) = inr (rest k)

pub take_new : (q : NodeId) (b : Tree) (u : NodeId) → IsIn u (node_ids (without_entry q b)) → IsIn u (node_ids b) ⊎ (None ≡ Some u)
take_new q (node v r es ts) = entries_new None v r es (without q es) ts (λ u i. inl (without_in q es u i))

changed_in_ids : (q : NodeId) (f : EntryRecord → EntryRecord) (es : List Entry) (u : NodeId) → IsIn u (ids (with_changed q f es)) → IsIn u (ids es)
changed_in_ids q f [] u i = i
changed_in_ids q f (e ∷ es) u i = pick (changed_in_ids q f es u) (is_id e.0 q) i
  where
    pick : (IsIn u (ids (with_changed q f es)) → IsIn u (ids es)) → (b : Bool) → IsIn u (ids (cond b ((e.0, f e.1) ∷ es) (e ∷ with_changed q f es))) → IsIn u (ids (e ∷ es))
    pick rest true (inl p) = inl p
    pick rest true (inr k) = inr k
    pick rest false (inl p) = inl p
    pick rest false (inr k) = inr (rest k)

pub change_new : (q : NodeId) (f : EntryRecord → EntryRecord) (b : Tree) (u : NodeId) → IsIn u (node_ids (changed_entry q f b)) → IsIn u (node_ids b) ⊎ (None ≡ Some u)
change_new q f (node v r es ts) = entries_new None v r es (with_changed q f es) ts (λ u i. inl (changed_in_ids q f es u i))

last_in : (w : Tree) (ts : Trees) (u : NodeId) → IsIn u (node_ids_all (with_last w ts)) → IsIn u (node_ids_all ts) ⊎ IsIn u (node_ids w)
last_in w none u i = elim (in_either (node_ids w) [] u i) [ inl k ↦ inr k | inr k ↦ absurd k ]
last_in w (beside t ts) u i = elim (in_either (node_ids t) (node_ids_all (with_last w ts)) u i) [
  | inl k ↦ inl (in_front (node_ids t) (node_ids_all ts) u k)
  | inr k ↦ elim (last_in w ts u k) [ inl m ↦ inl (in_back (node_ids t) (node_ids_all ts) u m) | inr m ↦ inr m ]
]

-- an empty group that is put last
pub group_new : (id : NodeId) (s : GroupRecord) (b : Tree) (u : NodeId) → IsIn u (node_ids (with_group (node id s [] none) b)) → IsIn u (node_ids b) ⊎ (Some id ≡ Some u)
group_new id s (node v r es ts) u (inl p) = inl (inl p)
group_new id s (node v r es ts) u (inr i) = elim (in_either (ids es) (node_ids_all (with_last (node id s [] none) ts)) u i) [
  | inl k ↦ inl (inr (in_front (ids es) (node_ids_all ts) u k))
  | inr k ↦ elim (last_in (node id s [] none) ts u k) [
    | inl m ↦ inl (inr (in_back (ids es) (node_ids_all ts) u m))
    | inr m ↦ elim m [ inl p ↦ inr (ap Some p) | inr z ↦ absurd z ]
  ]
]

-- ---- one after another

pub adds_then : (id : Option NodeId) (d e g : BareDoc) → IsDoc d → IsDoc e → AddsOnly id d e → AddsOnly None e g → AddsOnly id d g
adds_then id d e g isd ise one two = record {
  adds = record {
    root = one.adds.root ∙ two.adds.root;
    entries = λ u h. two.adds.entries u (one.adds.entries u h);
    groups = λ u h. two.adds.groups u (one.adds.groups u h);
    tombs = one.adds.tombs ∙ two.adds.tombs;
    parents = λ x p q h a b.
        let s = document_sound d isd in
        let t = document_sound e ise in
        let here : contains_key (db_in e).groups x ≡ true = one.adds.groups x h in
        let apart_root : x ≡ (db_in e).root → ⊥ = λ r. let no : None ≡ Some p → ⊥ = λ z. cc z in no (sym (ap (get (db_in d).places) (r ∙ sym one.adds.root) ∙ s.top) ∙ a) in
        let m = some_of (get (db_in e).places x) (t.placed x apart_root ∙ or_right (contains_key (db_in e).entries x) (contains_key (db_in e).groups x) here) in
        one.adds.parents x p m.0 h a m.1 ∙ two.adds.parents x m.0 q here m.1 b;
  };
  new = λ u h off. elim (decide (holds (db_in e) u)) [
    | inl t ↦ one.new u t off
    | inr t ↦ let no : None ≡ Some u → ⊥ = λ z. cc z in absurd (no (two.new u h t))
  ];
}
