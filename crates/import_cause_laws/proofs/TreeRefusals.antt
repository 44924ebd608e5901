-- Trees of imported entries that are refused have two nodes of one id, or a group that is too deep.
use Rattle.std.proofs.Common.{◌≡◌, ◌⊎◌, ℕ, Bool, true, false, inl, inr, cond, List, [], ◌∷◌, ◌++◌, Option, None, Some, Result, Ok, Err, bytes_eq, refl, sym, ap, subst}
use Rattle.std.specs.List.{list_any}
use Rattle.std.specs.Ordering.{is_lt}
use Rattle.std.proofs.lemmas.Slice.Eq.{bytes_eq-Decides}
use Rattle.outside_core.specs.Results.{◌>>=◌}
use Rattle.doc_forms.specs.Ids.{least_duplicate, lesser_id}
use Rattle.vault_model.specs.Db.{NodeId}
use Rattle.vault_model.specs.Join.{IsIn}
use Rattle.vault_model.specs.Orders.{bytes_cmp}
use Rattle.vault_model.specs.Tree.{BareDoc, LEVELS, Tree, node_ids}
use Rattle.vault_model.proofs.Tests.{any_found}
use Rattle.import_tree.specs.Entries.{ImportedEntry}
use Rattle.import_tree.specs.Outcome.{groups_below, imported_document, least_id, refuse_depth, refuse_duplicate, sound_document, sound_tree}
use Rattle.import_tree.specs.Trees.{document_of}
use Rattle.import_tree.specs.declared.fails.TreeFail.{TreeFail}
use Rattle.import_tree.specs.declared.fails.TreeFail.TheVariants as tree
use Rattle.import_cause_laws.specs.Trees.{HasTooDeep, HasTwo, IsTwice}

abbrev fail_in : {A E : Type 0} → E → Result A E → E
fail_in e (Ok x) = e
fail_in e (Err f) = f

-- A refusal of two steps is one of the first, or one of the second after the first.
pub refused_at : {A B E : Type 0} (part : Result A E) (next : A → Result B E) (fail : E) → (part >>= next) ≡ Err fail → (part ≡ Err fail) ⊎ ((x : A) × ((part ≡ Ok x) × (next x ≡ Err fail)))
refused_at (Ok x) next fail h = inr (x, (refl, h))
refused_at (Err e) next fail h = inl (ap Err (ap (fail_in e) h))

pub same_fail : {A E : Type 0} (e fail : E) → ◌≡◌ {A = Result A E} (Err e) (Err fail) → e ≡ fail
same_fail e fail h = ap (fail_in e) h

-- ---- two nodes of one id

abbrev some_in : {A : Type 0} → A → Option A → A
some_in x None = x
some_in x (Some y) = y

-- an id of a list is between what is before it and what is after it
split : (id : NodeId) (ids : List NodeId) → IsIn id ids → (before : List NodeId) × (after : List NodeId) × (ids ≡ before ++ id ∷ after)
split id [] there = absurd there
split id (u ∷ us) (inl same) = ([], us, ap (λ v. v ∷ us) same)
split id (u ∷ us) (inr there) = let s = split id us there in (u ∷ s.0, s.1, ap (λ vs. u ∷ vs) s.2)

more : (u id : NodeId) (us : List NodeId) → IsTwice id us → IsTwice id (u ∷ us)
more u id us t = (u ∷ t.0, t.1, t.2, ap (λ vs. u ∷ vs) t.3)

-- of an id and another the lesser is one of both
lesser : {P : NodeId → Type 0} (u : NodeId) (o : Option NodeId) → P u → ((v : NodeId) → o ≡ Some v → P v) → P (lesser_id u o)
lesser u None here there = here
lesser {P} u (Some v) here there = by (is_lt (bytes_cmp u v))
  where
    by : (b : Bool) → P (cond b u v)
    by true = here
    by false = there v refl

twice : (ids : List NodeId) (id : NodeId) → least_duplicate ids ≡ Some id → IsTwice id ids
twice [] id h = cc h
twice (u ∷ us) id h = by (twice us) (list_any (bytes_eq u) us) refl h
  where
    by : ((v : NodeId) → least_duplicate us ≡ Some v → IsTwice v us) → (b : Bool) → list_any (bytes_eq u) us ≡ b → cond b (Some (lesser_id u (least_duplicate us))) (least_duplicate us) ≡ Some id → IsTwice id (u ∷ us)
    by later true e k =
        let f = any_found (bytes_eq u) us e in
        let s = split u us (subst (λ v. IsIn v us) (sym ((bytes_eq-Decides u f.0).0 f.1.1)) f.1.0) in
        subst (λ v. IsTwice v (u ∷ us)) (ap (some_in u) k)
        (lesser {P = λ v. IsTwice v (u ∷ us)} u (least_duplicate us) ([], s.0, s.1, ap (λ vs. u ∷ vs) s.2) (λ v is. more u v us (later v is)))
    by later false e k = more u id us (later id k)

-- ---- groups that are too deep

least_in : (ids : List NodeId) (id : NodeId) → least_id ids ≡ Some id → IsIn id ids
least_in [] id h = cc h
least_in (u ∷ us) id h =
    subst (λ v. IsIn v (u ∷ us)) (ap (some_in u) h)
    (lesser {P = λ v. IsIn v (u ∷ us)} u (least_id us) (inl refl) (λ v is. inr (least_in us v is)))

-- ---- trees

-- What is so of a tree that is refused.
abbrev pub TreeCause : TreeFail → Tree → Type 0
TreeCause (tree.DuplicateId id) t = HasTwo id t
TreeCause (tree.TooDeep id) t = HasTooDeep id t
TreeCause tree.NoMemory t = ⊥

module _ (t : Tree) (fail : TreeFail) where
  in_ids : (o : Option NodeId) → least_duplicate (node_ids t) ≡ o → refuse_duplicate o ≡ Err fail → TreeCause fail t
  in_ids None is h = cc h
  in_ids (Some id) is h = subst (λ (f : TreeFail). TreeCause f t) (same_fail (tree.DuplicateId id) fail h) (twice (node_ids t) id is)

  in_levels : (o : Option NodeId) → least_id (groups_below LEVELS t) ≡ o → refuse_depth o ≡ Err fail → TreeCause fail t
  in_levels None is h = cc h
  in_levels (Some id) is h = subst (λ (f : TreeFail). TreeCause f t) (same_fail (tree.TooDeep id) fail h) (least_in (groups_below LEVELS t) id is)

  in_tree : sound_tree t ≡ Err fail → TreeCause fail t
  in_tree h = elim (refused_at (refuse_duplicate (least_duplicate (node_ids t))) _ fail h) [
    | inl a ↦ in_ids (least_duplicate (node_ids t)) refl a
    | inr a ↦ in_levels (least_id (groups_below LEVELS t)) refl a.1.1
  ]

pub sound_refusals : (doc : BareDoc) (fail : TreeFail) → sound_document doc ≡ Err fail → TreeCause fail doc.tree
sound_refusals doc fail h = elim (refused_at (sound_tree doc.tree) _ fail h) [
  | inl a ↦ in_tree doc.tree fail a
  | inr a ↦ cc a.1.1
]

pub tree_refusals : (now : ℕ) (entries : List ImportedEntry) (fail : TreeFail) → imported_document now entries ≡ Err fail → TreeCause fail (document_of now entries).tree
unfolding imported_document
tree_refusals now entries fail h = sound_refusals (document_of now entries) fail h
