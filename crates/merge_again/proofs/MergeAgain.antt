-- Merges of documents that were merged before.
use Rattle.std.proofs.Common.{◌≡◌, ◌<◌, ◌⊎◌, true, inl, inr, List, [], ◌∷◌, ◌++◌, Option, Some, None, Ok, map, refl, sym, ap, subst, ◌∙◌, arith}
use Rattle.std.specs.List.{list_any, flat_map}
use Rattle.vault_model.specs.Db.{NodeId, Db, Sound, holds}
use Rattle.vault_model.specs.Join.{is_id, join, IsIn, IsPart, IsWithin, Agreed, Allowed}
use Rattle.vault_model.specs.Shape.{EntryRecord}
use Rattle.vault_model.specs.Tree.{Tree, node, Trees, none, beside, BareDoc, LEVELS, FitsLevels, IsDoc, IsSettled, db_in, lay_doc, id_of, node_ids, node_ids_all, rooted, with_id, with_previous, with_previous_all, with_entry_previous}
use Rattle.vault_model.specs.Unite.{gather, join_options}
use Rattle.vault_model.proofs.Ids.{same_id, is_same_id}
use Rattle.vault_model.proofs.Tests.{any_true, any_found, in_map, from_map, in_flat, from_flat, in_filter, is_false}
use Rattle.merge_core.specs.JoinLaws.{AreParts}
use Rattle.merge_core.specs.NodesBelow.{below_ids}
use Rattle.merge_core.specs.Refusals.{CanMerge, least, lesser, members, root_clashes}
use Rattle.merge_core.proofs.Allowed.{kept_held}
use Rattle.merge_core.proofs.Facts.{join_root}
use Rattle.merge_core.proofs.LaidDocs.{laid_is_doc}
use Rattle.merge_core.proofs.Refused.{source_is}
use Rattle.merge_core.proofs.Regroup.{joins_agreed}
use Rattle.merge_core.proofs.Rooted.{rooted_at_home}
use Rattle.merge_core.proofs.SoundDoc.{AreDistinct, below_node, db_root, distinct_from, distinct_head, entry_ids, holds_node, node_holds}
use Rattle.merge_core.proofs.SoundJoin.{join_holds}
use Rattle.merge_core.proofs.TreeShape.{laid_document}
use Rattle.merge_core.proofs.Versions.{never}
use Rattle.agreed_laws.specs.MergeChecks.Cycles.{cycle_above}
use Rattle.agreed_laws.specs.DocumentMerge.declared.merging.MergeFail.{MergeFail}
use Rattle.agreed_laws.specs.DocumentMerge.declared.merging.MergeFail.TheVariants.{RootClash, KindClash, MoveCycle, TooDeep}
use Rattle.agreed_laws.specs.DocumentMerge.Merging.{MergeResult, kind_stage, level_stage, merge_result, path_stage, unless_found}
use Rattle.agreed_laws.specs.Merges.{AreDocs, IsSettledAs}
use Rattle.agreed_laws.proofs.Again.{first, parts_through, within_join}
use Rattle.agreed_laws.proofs.Merged.{IsMerged, merged_so, passed, settled_as}
use Rattle.agreed_laws.proofs.Parts.{members_are, no_kind_clash, no_stray, root_apart}
use Rattle.agreed_laws.proofs.Shallow.{no_least, none_pass, shallow}
use Rattle.merge_again.specs.JoinedAgain.{AreSound}
use Rattle.merge_again.specs.MergedAgain.{CopiesMeet, EitherWay, IsOfMerge, MergedAnyWay, MergedIsJoined, PartsAreJoined, ResultAgain, SettledAgain, UnchangedMeans}
use Rattle.merge_again.proofs.JoinAgain.{joins_alike}

some_level : 0 < LEVELS
some_level = omega arith

-- ---- refusals

-- no node below a root has a root's id
no_clash : (ds : List BareDoc) → least (root_clashes ds) ≡ None → (d e : BareDoc) (u : NodeId) → IsIn d ds → IsIn e ds → IsIn u (below_ids d.tree) → u ≡ id_of e.tree → ⊥
no_clash ds clear d e u h k below is =
    no_least (root_clashes ds) clear u (in_filter (λ v. list_any (λ (x : BareDoc). is_id v (id_of x.tree)) ds) (flat_map (λ (x : BareDoc). below_ids x.tree) ds) u
    (in_flat (λ (x : BareDoc). below_ids x.tree) ds d u h below)
    (any_true (λ (x : BareDoc). is_id u (id_of x.tree)) ds e k (is_same_id u (id_of e.tree) is)))

no_clashes : (ds : List BareDoc) → ((d e : BareDoc) (u : NodeId) → IsIn d ds → IsIn e ds → IsIn u (below_ids d.tree) → u ≡ id_of e.tree → ⊥) → least (root_clashes ds) ≡ None
no_clashes ds off =
    ap least (none_pass (λ u. list_any (λ (d : BareDoc). is_id u (id_of d.tree)) ds) (flat_map (λ (d : BareDoc). below_ids d.tree) ds) (λ u h.
    is_false (list_any (λ (d : BareDoc). is_id u (id_of d.tree)) ds) (λ e.
    let below = from_flat (λ (d : BareDoc). below_ids d.tree) ds u h in
    let root = any_found (λ (d : BareDoc). is_id u (id_of d.tree)) ds e in
    off below.0 root.0 u below.1.0 root.1.0 below.1.1 (same_id u (id_of root.0.tree) root.1.1))))

-- where there is nothing to refuse the join is laid over the target
passes : (e : BareDoc) (rs : List BareDoc) → least (root_clashes (e ∷ rs)) ≡ None → (al : Allowed (members e rs)) (sound : AreSound (members e rs))
    → FitsLevels LEVELS (join (members e rs)) → merge_result e rs ≡ Ok (lay_doc LEVELS (join (members e rs)) e)
passes e rs clear al sound fit =
    ap (λ o. unless_found o RootClash (kind_stage e rs)) clear
    ∙ ap (λ o. unless_found o KindClash (path_stage e rs)) (no_kind_clash (members e rs) al sound)
    ∙ ap (λ o. unless_found o (λ u. MoveCycle (cycle_above (members e rs) u)) (level_stage e rs)) (no_stray (members e rs) al sound)
    ∙ ap (λ o. unless_found o TooDeep (Ok (lay_doc LEVELS (join (members e rs)) e))) (shallow (members e rs) al sound LEVELS some_level fit)

-- ---- nodes below a root

node_below : (t : Tree) (u : NodeId) → IsIn u (node_ids t) → (id_of t ≡ u) ⊎ IsIn u (below_ids t)
node_below (node v r es ts) u (inl p) = inl p
node_below (node v r es ts) u (inr h) = inr h

module _ (old r : NodeId) where
  entries_same : (es : List (NodeId × EntryRecord)) → map (λ (e : NodeId × EntryRecord). e.0) (map (with_entry_previous old r) es) ≡ map (λ (e : NodeId × EntryRecord). e.0) es
  entries_same [] = refl
  entries_same (e ∷ es) = λ i. e.0 ∷ entries_same es i

  mutual
    nodes_same : (t : Tree) → node_ids (with_previous old r t) ≡ node_ids t
    nodes_same (node u g es ts) = λ i. u ∷ (entries_same es i ++ all_nodes_same ts i)

    all_nodes_same : (ts : Trees) → node_ids_all (with_previous_all old r ts) ≡ node_ids_all ts
    all_nodes_same none = refl
    all_nodes_same (beside t ts) = λ i. nodes_same t i ++ all_nodes_same ts i

  rooted_below : (t : Tree) → below_ids (with_id r (with_previous old r t)) ≡ below_ids t
  rooted_below (node u g es ts) = λ i. entries_same es i ++ all_nodes_same ts i

  rooted_id : (t : Tree) → id_of (with_id r (with_previous old r t)) ≡ r
  rooted_id (node u g es ts) = refl

-- ---- merges of the same documents again

module _ (t : BareDoc) (ss : List BareDoc) (all : AreDocs (t ∷ ss)) (clear : least (root_clashes (t ∷ ss)) ≡ None) (can : CanMerge t ss)
    (fit : FitsLevels LEVELS (join (members t ss))) where
  abbrev S : List Db
  S = members t ss

  abbrev root : NodeId
  root = id_of t.tree

  -- a document of the join
  abbrev IsResult : BareDoc → Type 0
  IsResult x = IsDoc x × (db_in x ≡ join S)

  -- a document's database with its root under the id of the target's root
  abbrev seen : BareDoc → Db
  seen d = db_in (rooted d root)

  pub root_same : (x : BareDoc) → IsResult x → id_of x.tree ≡ root
  root_same x r = sym (db_root x r.0) ∙ ap (λ (m : Db). m.root) r.1 ∙ join_root S ∙ db_root t (all t (inl refl))

  seen_result : (x : BareDoc) → IsResult x → seen x ≡ join S
  seen_result x r = ap db_in (ap (rooted x) (sym (root_same x r)) ∙ rooted_at_home x r.0) ∙ r.1

  members_seen : S ≡ map seen (t ∷ ss)
  members_seen = ap (λ (m : Db). m ∷ map seen ss) (sym (ap db_in (rooted_at_home t (all t (inl refl)))))

  -- what is below a result's root is below a document's
  below_result : (x : BareDoc) → IsResult x → (u : NodeId) → IsIn u (below_ids x.tree) → (d : BareDoc) × (IsIn d (t ∷ ss) × IsIn u (below_ids d.tree))
  below_result x r u h =
      let held : holds (join S) u ≡ true = ap (λ (m : Db). holds m u) (sym r.1) ∙ node_holds x r.0 u (below_node x.tree u h) in
      let k = sym (join_holds S can.allowed can.sound u) ∙ held in
      let m = any_found (λ (n : Db). holds n u) S (kept_held S can.allowed can.sound u k) in
      elim m.1.0 [
        | inl p ↦ (
          t,
          (
            inl refl,
            off_root t.tree refl
                (holds_node t (all t (inl refl)) u (ap (λ (n : Db). holds n u) p ∙ m.1.1)),
          ),
        )
        | inr i ↦
            let f = from_map seen ss m.0 i in
            let there = holds_node (rooted f.0 root) (source_is t ss (all t (inl refl)) (λ s q. all s (inr q)) clear f.0 f.1.0) u (ap (λ (n : Db). holds n u) f.1.1 ∙ m.1.1) in (
              f.0,
              (
                inr f.1.0,
                subst (λ (us : List NodeId). IsIn u us) (rooted_below (id_of f.0.tree) root f.0.tree)
                    (off_root (rooted f.0 root).tree (rooted_id (id_of f.0.tree) root f.0.tree) there),
              ),
            )
      ]
    where
      off_root : (tree : Tree) → id_of tree ≡ root → IsIn u (node_ids tree) → IsIn u (below_ids tree)
      off_root tree is there =
          elim (node_below tree u there) [
            | inl p ↦ absurd (root_apart x.tree (distinct_from (node_ids x.tree) r.0.distinct)
                (subst (λ (w : NodeId). IsIn w (below_ids x.tree)) (sym p ∙ is ∙ sym (root_same x r)) h))
            | inr q ↦ q
          ]

  module _ (e : BareDoc) (rs : List BareDoc) (at_root : id_of e.tree ≡ root) (within : (d : BareDoc) → IsIn d (e ∷ rs) → IsIn d (t ∷ ss) ⊎ IsResult d)
      (covers : ((x : BareDoc) × (IsIn x (e ∷ rs) × IsResult x)) ⊎ IsWithin (t ∷ ss) (e ∷ rs)) where
    docs : AreDocs (e ∷ rs)
    docs d h = elim (within d h) [ inl i ↦ all d i | inr r ↦ r.0 ]

    members_again : members e rs ≡ map seen (e ∷ rs)
    members_again =
        (λ i. db_in e ∷ map (λ (s : BareDoc). db_in (rooted s (at_root i))) rs)
        ∙ ap (λ (m : Db). m ∷ map seen rs) (sym (ap db_in (ap (rooted e) (sym at_root) ∙ rooted_at_home e (docs e (inl refl)))))

    seen_within : IsWithin (map seen (e ∷ rs)) (join S ∷ S)
    seen_within m h =
        let f = from_map seen (e ∷ rs) m h in
        elim (within f.0 f.1.0) [
          | inl i ↦ inr (subst (λ (L : List Db). IsIn m L) (sym members_seen) (subst (λ (n : Db). IsIn n (map seen (t ∷ ss))) f.1.1 (in_map seen (t ∷ ss) f.0 i)))
          | inr r ↦ inl (sym (seen_result f.0 r) ∙ f.1.1)
        ]

    seen_covers : IsIn (join S) (map seen (e ∷ rs)) ⊎ IsWithin S (map seen (e ∷ rs))
    seen_covers =
        elim covers [
          | inl x ↦ inl (subst (λ (n : Db). IsIn n (map seen (e ∷ rs))) (seen_result x.0 x.1.1) (in_map seen (e ∷ rs) x.0 x.1.0))
          | inr g ↦ inr (λ m h.
              let f = from_map seen (t ∷ ss) m (subst (λ (L : List Db). IsIn m L) members_seen h) in
              subst (λ (n : Db). IsIn n (map seen (e ∷ rs))) f.1.1 (in_map seen (e ∷ rs) f.0 (g f.0 f.1.0)))
        ]

    pub again : Allowed (members e rs) × (join (members e rs) ≡ join S)
    again =
        let a = joins_alike S (map seen (e ∷ rs)) can.allowed can.sound seen_within seen_covers in
        (subst Allowed (sym members_again) a.0, ap join members_again ∙ a.1)

    sound_again : AreSound (members e rs)
    sound_again m h =
        elim (seen_within m (subst (λ (L : List Db). IsIn m L) members_again h)) [
          | inl p ↦ subst Sound p can.joined
          | inr i ↦ can.sound m i
        ]

    root_from : (d : BareDoc) → IsIn d (e ∷ rs) → (c : BareDoc) × (IsIn c (t ∷ ss) × (id_of d.tree ≡ id_of c.tree))
    root_from d h =
        elim (within d h) [
          | inl i ↦ (d, (i, refl))
          | inr r ↦ (t, (inl refl, root_same d r))
        ]

    below_from : (d : BareDoc) (u : NodeId) → IsIn d (e ∷ rs) → IsIn u (below_ids d.tree) → (c : BareDoc) × (IsIn c (t ∷ ss) × IsIn u (below_ids c.tree))
    below_from d u h below =
        elim (within d h) [
          | inl i ↦ (d, (i, below))
          | inr r ↦ below_result d r u below
        ]

    clear_again : least (root_clashes (e ∷ rs)) ≡ None
    clear_again =
        no_clashes (e ∷ rs) (λ d c u h k below is.
        let b = below_from d u h below in
        let r = root_from c k in
        no_clash (t ∷ ss) clear b.0 r.0 u b.1.0 r.1.0 b.1.1 (is ∙ r.1.1))

    pub laid_again : merge_result e rs ≡ Ok (lay_doc LEVELS (join S) e)
    laid_again =
        passes e rs clear_again again.0 sound_again (subst (FitsLevels LEVELS) (sym again.1) fit)
        ∙ ap (λ (m : Db). Ok (lay_doc LEVELS m e)) again.1

    pub settles_again : IsSettledAs (join S) (lay_doc LEVELS (join S) e)
    settles_again =
        let both = laid_document LEVELS (join S) e can.joined fit in
        record {
          is_doc = laid_is_doc (join S) e can.joined fit (docs e (inl refl));
          database = both.0;
          settled = both.1;
        }

clear_of : (t : BareDoc) (ss : List BareDoc) (doc : BareDoc) → merge_result t ss ≡ Ok doc → least (root_clashes (t ∷ ss)) ≡ None
clear_of t ss doc h = (passed (least (root_clashes (t ∷ ss))) RootClash (kind_stage t ss) doc h).0

-- what has the result's database has the join
result_of : (m : Db) (doc d : BareDoc) → db_in doc ≡ m → IsDoc d × (db_in d ≡ db_in doc) → IsDoc d × (db_in d ≡ m)
result_of m doc d is r = (r.0, r.1 ∙ is)

pub merged_any_way : MergedAnyWay
merged_any_way t ss doc e rs all h at_root within covers =
    let m = merged_so t ss all doc h in
    let is = settled_as t ss all doc m in
    let clear = clear_of t ss doc h in
    let inside : (d : BareDoc) → IsIn d (e ∷ rs) → IsIn d (t ∷ ss) ⊎ (IsDoc d × (db_in d ≡ join (members t ss))) =
    λ d k. elim (within d k) [ inl i ↦ inl i | inr r ↦ inr (result_of (join (members t ss)) doc d is.database r) ] in
    let over : ((x : BareDoc) × (IsIn x (e ∷ rs) × (IsDoc x × (db_in x ≡ join (members t ss))))) ⊎ IsWithin (t ∷ ss) (e ∷ rs) =
    elim covers [ inl x ↦ inl (x.0, (x.1.0, result_of (join (members t ss)) doc x.0 is.database x.1.1)) | inr g ↦ inr g ] in (
      lay_doc LEVELS (join (members t ss)) e,
      (
        laid_again t ss all clear m.can m.fits e rs at_root inside over,
        subst (λ (n : Db). IsSettledAs n (lay_doc LEVELS (join (members t ss)) e)) (sym is.database)
            (settles_again t ss all clear m.can m.fits e rs at_root inside over),
      ),
    )

-- sources of a merge, into a document of its result's database
module _ (t : BareDoc) (ss : List BareDoc) (doc e : BareDoc) (rs : List BareDoc) (all : AreDocs (t ∷ ss)) (h : merge_result t ss ≡ Ok doc) (is_e : IsDoc e)
    (same : db_in e ≡ db_in doc) (within : (d : BareDoc) → IsIn d rs → IsOfMerge t ss doc d) where
  abbrev m : IsMerged t ss doc
  m = merged_so t ss all doc h

  is_join : db_in doc ≡ join (members t ss)
  is_join = (settled_as t ss all doc m).database

  e_result : IsDoc e × (db_in e ≡ join (members t ss))
  e_result = (is_e, same ∙ is_join)

  inside : (d : BareDoc) → IsIn d (e ∷ rs) → IsIn d (t ∷ ss) ⊎ (IsDoc d × (db_in d ≡ join (members t ss)))
  inside d k = elim k [
    | inl p ↦ inr (subst (λ (x : BareDoc). IsDoc x × (db_in x ≡ join (members t ss))) p e_result)
    | inr i ↦ elim (within d i) [ inl j ↦ inl j | inr q ↦ inr (result_of (join (members t ss)) doc d is_join q) ]
  ]

  e_root : id_of e.tree ≡ id_of t.tree
  e_root = root_same t ss all (clear_of t ss doc h) m.can m.fits e e_result

  pub joined_e : join (members e rs) ≡ db_in e
  joined_e = (again t ss all (clear_of t ss doc h) m.can m.fits e rs e_root inside (inl (e, (inl refl, e_result)))).1 ∙ sym e_result.1

  pub laid_e : merge_result e rs ≡ Ok (lay_doc LEVELS (db_in e) e)
  laid_e =
      laid_again t ss all (clear_of t ss doc h) m.can m.fits e rs e_root inside (inl (e, (inl refl, e_result)))
      ∙ ap (λ (n : Db). Ok (lay_doc LEVELS n e)) (sym e_result.1)

pub settled_again : SettledAgain
settled_again t ss doc e rs all h s within = laid_e t ss doc e rs all h s.is_doc s.database within ∙ ap Ok s.settled

pub merged_is_joined : MergedIsJoined
merged_is_joined t ss doc e rs all h is_e same within = joined_e t ss doc e rs all h is_e same within

pub parts_are_joined : PartsAreJoined
parts_are_joined t ss S R Rs all a part parts joins =
    let agreed : Agreed (map db_in (t ∷ ss)) = subst Agreed (sym joins) (joins_agreed S (R ∷ Rs) a (part, parts_through S R Rs part parts)) in
    ap join (members_are t ss all agreed) ∙ ap join joins ∙ within_join S R Rs a part parts ∙ sym (ap (first (db_in t)) joins)

pub result_again : ResultAgain
result_again t ss doc rs all h within =
    let is = settled_as t ss all doc (merged_so t ss all doc h) in
    settled_again t ss doc doc rs all h (record { is_doc = is.is_doc; database = refl; settled = is.settled }) (λ d i.
    elim (within d i) [ inl p ↦ inr (subst IsDoc p is.is_doc, ap db_in (sym p)) | inr j ↦ inl j ])

pub unchanged_means : UnchangedMeans
unchanged_means t ss doc all h =
    let m = merged_so t ss all doc h in
    let is = settled_as t ss all doc m in (
      λ e. (subst (IsSettled LEVELS) e is.settled, sym is.database ∙ ap db_in e),
      λ f. sym m.laid ∙ ap (λ (n : Db). lay_doc LEVELS n t) f.1 ∙ f.0,
    )

-- ---- two documents of one root

both_docs : (d e : BareDoc) → IsDoc d → IsDoc e → AreDocs (d ∷ e ∷ [])
both_docs d e is_d is_e x i = elim i [
  | inl p ↦ subst IsDoc p is_d
  | inr j ↦ elim j [ inl p ↦ subst IsDoc p is_e | inr z ↦ absurd z ]
]

turned : (d e x : BareDoc) → IsIn x (d ∷ e ∷ []) → IsIn x (e ∷ d ∷ [])
turned d e x i = elim i [ inl p ↦ inr (inl p) | inr j ↦ elim j [ inl p ↦ inl p | inr z ↦ absurd z ] ]

pub either_way : EitherWay
either_way d e g is_d is_e same h =
    let r = merged_any_way d (e ∷ []) g e (d ∷ []) (both_docs d e is_d is_e) h (sym same) (λ x i. inl (turned e d x i)) (inr (turned d e)) in
    (r.0, (r.1.0, r.1.1.database))

pub copies_meet : CopiesMeet
copies_meet d e g is_d is_e same h =
    let all = both_docs d e is_d is_e in
    let is = settled_as d (e ∷ []) all g (merged_so d (e ∷ []) all g h) in
    let at : IsDoc g × (db_in g ≡ db_in g) = (is.is_doc, refl) in
    let r = merged_any_way d (e ∷ []) g e (g ∷ []) all h (sym same)
    (λ x i. elim i [
      | inl p ↦ inl (inr (inl p))
      | inr j ↦ elim j [ inl p ↦ inr (subst (λ (y : BareDoc). IsDoc y × (db_in y ≡ db_in g)) p at) | inr z ↦ absurd z ]
    ])
    (inl (g, (inr (inl refl), at))) in
    let one : IsSettledAs (db_in g) g = record { is_doc = is.is_doc; database = refl; settled = is.settled } in
    let two = r.1.1 in
    let here : (a b : BareDoc) → IsSettledAs (db_in g) a → IsSettledAs (db_in g) b → merge_result a (b ∷ []) ≡ Ok a =
    λ a b x y. settled_again d (e ∷ []) g a (b ∷ []) all h x (λ z i.
    elim i [ inl p ↦ inr (subst (λ (w : BareDoc). IsDoc w × (db_in w ≡ db_in g)) p (y.is_doc, y.database)) | inr q ↦ absurd q ]) in
    (r.0, (r.1.0, (two.database, (here g r.0 one two, here r.0 g two one))))
