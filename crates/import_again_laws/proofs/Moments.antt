-- Places of imported trees at a moment and at a later one.
use Rattle.std.proofs.Common.{◌≡◌, ◌<◌, ◌≤◌, ℕ, inl, inr, List, [], ◌∷◌, ◌++◌, Result, Ok, refl, ap, subst, ◌∙◌, arith}
use Rattle.std.specs.Prelude.{codes}
use Rattle.history_laws.proofs.Newest.{Lt}
use Rattle.import_again_laws.proofs.Later.{LaterGroup, LaterPlace, LaterTree, OneByOne, later_places, later_same}
use Rattle.import_again_laws.proofs.Newer.{earlier_or_same, newer_entry, newer_group, newer_mark}
use Rattle.import_ids.specs.Ids.{id_after}
use Rattle.import_ids.specs.Names.{EntryTexts}
use Rattle.import_laws.proofs.Sources.{same_ok}
use Rattle.import_laws.specs.Agreement.{untimed}
use Rattle.import_tree.specs.Entries.{ImportedEntry, entry_at, texts_of}
use Rattle.import_tree.specs.Trees.{Placed, import_root, placed_after, placed_at, placed_document}
use Rattle.vault_model.specs.Db.{NodeId}
use Rattle.vault_model.specs.Empty.{new_group}
use Rattle.vault_model.specs.Join.{IsIn}
use Rattle.vault_model.specs.Shape.{BareVersion}
use Rattle.vault_model.specs.Tree.{BareDoc}
use Rattle.vault_model.specs.declared.nodes.GroupState.{GroupState}

-- A document as it was at an earlier moment, and as it is.
pub record IsLater (d e : BareDoc) : Type 0 where
  pub tree : LaterTree d.tree e.tree
  pub first : d.tombs ≡ []
  pub second : e.tombs ≡ []
  pub metas : d.meta ≡ e.meta

-- an entry that was imported at a moment and at a later one
pub record LaterImported (x y : ImportedEntry) : Type 0 where
  pub same : untimed x ≡ untimed y
  pub created : x.created ≤ y.created
  pub modified : x.modified ≤ y.modified

module _ (now later : ℕ) (less : now < later) where
  pub group_later : (id : NodeId) (name : List ℕ) → LaterGroup (id, new_group name now) (id, new_group name later)
  group_later id name = record { id = refl; name = refl; stay = inl less; state = newer_group (new_group name now).state (new_group name later).state (omega (arith, less)) less }

  root_later : LaterTree (import_root now) (import_root later)
  root_later =
      let old : ℕ → GroupState = λ moment. record (new_group (codes "Root") moment).state { modified = 0 } in
      let none : 0 ≤ 0 = omega arith in
      (record { id = refl; name = refl; stay = inl less; state = newer_group (old now) (old later) none less }, (tt, tt))

  pub document_later : (ps qs : List Placed) → OneByOne (LaterPlace now later) ps qs → (d e : BareDoc) → placed_document now ps ≡ d → placed_document later qs ≡ e → IsLater d e
  document_later ps qs places d e one other =
      subst (λ (x : BareDoc). IsLater x e) one
      (subst (λ (x : BareDoc). IsLater (placed_document now ps) x) other
      (record { tree = later_places now later group_later ps qs places (import_root now) (import_root later) root_later; first = refl; second = refl; metas = refl }))

  -- ---- imported entries

  entry_versions : (x y : ImportedEntry) → LaterImported x y → (v : BareVersion) → IsIn v ((entry_at now x).current ∷ []) → Lt v.mark (entry_at later y).current.mark
  entry_versions x y l v (inl p) =
      subst (λ (w : BareVersion). Lt w.mark (entry_at later y).current.mark) p
      (newer_mark (entry_at now x).current.mark (entry_at later y).current.mark l.modified l.created less)
  entry_versions x y l v (inr none) = absurd none

  entry_place : (before : List EntryTexts) (x y : ImportedEntry) → LaterImported x y → LaterPlace now later (placed_at now before x) (placed_at later before y)
  entry_place before x y l = record {
    moment = refl;
    after = refl;
    names = ap (λ (e : ImportedEntry). e.groups) l.same;
    rows = (
      record {
        id = ap (λ (e : ImportedEntry). id_after before e.id (texts_of e)) l.same;
        stay = inl less;
        versions = newer_entry (entry_at now x) (entry_at later y) (entry_versions x y l);
      },
      tt,
    );
  }

  pub entry_places : (before : List EntryTexts) (xs ys : List ImportedEntry) → OneByOne LaterImported xs ys
      → OneByOne (LaterPlace now later) (placed_after now before xs) (placed_after later before ys)
  entry_places before [] [] h = tt
  entry_places before [] (y ∷ ys) h = absurd h
  entry_places before (x ∷ xs) [] h = absurd h
  entry_places before (x ∷ xs) (y ∷ ys) h = (
    entry_place before x y h.0,
    subst (λ (texts : EntryTexts). OneByOne (LaterPlace now later) (placed_after now (before ++ texts_of x ∷ []) xs) (placed_after later (before ++ texts ∷ []) ys))
        (ap texts_of h.0.same) (entry_places (before ++ texts_of x ∷ []) xs ys h.1),
  )

-- ---- two imports of one source

module _ {F : Type 0} (import : ℕ → Result BareDoc F) (none : (now : ℕ) (d : BareDoc) → import now ≡ Ok d → d.tombs ≡ [])
    (later_than : (now later : ℕ) → now < later → (d e : BareDoc) → import now ≡ Ok d → import later ≡ Ok e → IsLater d e) where
  itself : (now : ℕ) (d e : BareDoc) → import now ≡ Ok d → import now ≡ Ok e → IsLater d e
  itself now d e one other =
      subst (λ (x : BareDoc). IsLater d x) (same_ok (import now) d e one other)
      (record { tree = later_same d.tree; first = none now d one; second = none now d one; metas = refl })

  pub not_earlier : (now later : ℕ) → now ≤ later → (d e : BareDoc) → import now ≡ Ok d → import later ≡ Ok e → IsLater d e
  not_earlier now later le d e one other = elim (earlier_or_same now later le) [
    | inl less ↦ later_than now later less d e one other
    | inr same ↦ itself now d e one (ap import same ∙ other)
  ]
