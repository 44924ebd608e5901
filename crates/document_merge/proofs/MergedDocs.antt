-- Documents in memory keep what every document keeps, and what is merged of them can be laid.
use Rattle.std.proofs.Common.{◌≡◌, ◌<◌, true, List, [], ◌∷◌, Option, Some, None, Err, length, arith, map, get_or, is_some, refl, sym, ap, subst, ◌∙◌}
use Rattle.std.specs.FinMap.{contains_key, get}
use Rattle.std.specs.Option.{option_map}
use Rattle.vault_model.specs.declared.documents.Doc.{Doc}
use Rattle.vault_model.specs.Db.{NodeId, Db, Sound}
use Rattle.vault_model.specs.Join.{Allowed, HaveOneRoot, IsIn, IsNotEmpty}
use Rattle.vault_model.specs.SeenDoc.{doc_seen}
use Rattle.vault_model.specs.Shape.{Shape, lay, laid_group}
use Rattle.vault_model.specs.Tree.{BareDoc, IsDoc, LEVELS}
use Rattle.merge_core.proofs.Laid.{lay_groups, lay_root}
use Rattle.vault_model.proofs.Tests.{from_map}
use Rattle.merge_core.specs.Marking.{strays}
use Rattle.merge_core.specs.Refusals.{CanMerge, kind_clashes, least, members, root_clashes, too_deep}
use Rattle.merge_core.proofs.Refused.{acyclic, merged_is, one_kind, one_root, sound}
use Rattle.merge_checks.specs.MergeJoin.declared.marking.JoinRefusal.{JoinRefusal}
use Rattle.merge_checks.specs.MergeJoin.declared.marking.JoinRefusal.TheVariants.{Stray}
use Rattle.merge_checks.specs.MergeJoin.declared.marking.JoinRefusal.TheVariants as refusal
use Rattle.merge_checks.specs.MergeJoin.Marks.{IsKeptResult}
use Rattle.merge_checks.specs.Cycles.{cycle_above}
use Rattle.merge_checks.proofs.OwnDocs.{is_doc}
use Rattle.document_merge.specs.declared.merging.MergeFail.{MergeFail}
use Rattle.document_merge.specs.declared.merging.MergeFail.TheVariants.{RootClash, KindClash, MoveCycle, TooDeep, NoMemory}
use Rattle.document_merge.specs.Merging.{IsFailOf, IsMergeResult, level_stage, path_stage, unless_found}
use Rattle.merge_tables.specs.declared.databases.Database.{Database}
use Rattle.merge_tables.specs.Databases.{database}

pub are_docs : (ds : List Doc) (s : BareDoc) → IsIn s (map doc_seen ds) → IsDoc s
are_docs ds s h = let f = from_map doc_seen ds s h in subst IsDoc f.1.1 (is_doc f.0)

module _ (t : Doc) (ds : List Doc) (S : List Db) (are : S ≡ members (doc_seen t) (map doc_seen ds)) (clear : least (root_clashes (doc_seen t ∷ map doc_seen ds)) ≡ None) where
  pub all_sound : (m : Db) → IsIn m S → Sound m
  all_sound = subst (λ (R : List Db). (m : Db) → IsIn m R → Sound m) (sym are) (sound (doc_seen t) (map doc_seen ds) (is_doc t) (are_docs ds) clear)

  pub all_rooted : HaveOneRoot S
  all_rooted = subst HaveOneRoot (sym are) (one_root (doc_seen t) (map doc_seen ds) (is_doc t) (are_docs ds) clear)

  pub all_merge : least (kind_clashes S) ≡ None → least (strays S) ≡ None → least (too_deep LEVELS S) ≡ None → CanMerge (doc_seen t) (map doc_seen ds)
  all_merge kinds ways levels =
      merged_is (doc_seen t) (map doc_seen ds) (is_doc t) (are_docs ds) clear
      (ap (λ (R : List Db). least (kind_clashes R)) (sym are) ∙ kinds)
      (ap (λ (R : List Db). least (strays R)) (sym are) ∙ ways)
      (ap (λ (R : List Db). least (too_deep LEVELS R)) (sym are) ∙ levels)

  pub all_allowed : least (kind_clashes S) ≡ None → least (strays S) ≡ None → Allowed S
  all_allowed kinds ways = record {
    some = subst IsNotEmpty (sym are) tt;
    root = all_rooted;
    kinds = one_kind S kinds;
    acyclic = acyclic S (subst IsNotEmpty (sym are) tt) all_rooted all_sound ways;
  }

-- some members are at least one
pub some_members : (xs : List Database) (m : Db) (ms : List Db) → map database xs ≡ m ∷ ms → 0 < length xs
some_members [] m ms e = cc e
some_members (x ∷ xs) m ms e = omega arith

-- a refusal to join is one to merge
pub path_refused : (t : BareDoc) (ss : List BareDoc) (S : List Db) → S ≡ members t ss → (r : JoinRefusal) (f : MergeFail) → IsKeptResult S (Err r) → IsFailOf S r f
    → IsMergeResult (path_stage t ss) t ss (Err f)
path_refused t ss S are refusal.NoMemory NoMemory k h = tt
path_refused t ss S are refusal.NoMemory (RootClash v) k h = absurd h
path_refused t ss S are refusal.NoMemory (KindClash v) k h = absurd h
path_refused t ss S are refusal.NoMemory (MoveCycle us) k h = absurd h
path_refused t ss S are refusal.NoMemory (TooDeep v) k h = absurd h
path_refused t ss S are (Stray u) NoMemory k h = tt
path_refused t ss S are (Stray u) (RootClash v) k h = absurd h
path_refused t ss S are (Stray u) (KindClash v) k h = absurd h
path_refused t ss S are (Stray u) (TooDeep v) k h = absurd h
path_refused t ss S are (Stray u) (MoveCycle us) k h =
    ap (λ o. unless_found o (λ v. MoveCycle (cycle_above (members t ss) v)) (level_stage t ss)) (ap (λ (R : List Db). least (strays R)) (sym are) ∙ k)
    ∙ ap (λ (vs : List NodeId). Err (MoveCycle vs)) (ap (λ (R : List Db). cycle_above R u) (sym are) ∙ sym h)

-- the first of some members is the target's database
pub first_of : (xs : List Database) (x : Database) (m : Db) (ms : List Db) → x ≡ get_or xs 0 x → map database xs ≡ m ∷ ms → database x ≡ m
first_of [] x m ms is e = cc e
first_of (y ∷ ys) x m ms is e = ap database is ∙ ap first e
  where
    first : List Db → Db
    first [] = m
    first (n ∷ ns) = n

mapped : {A B : Type 0} (f : A → B) (o : Option A) → is_some (option_map f o) ≡ is_some o
mapped f None = refl
mapped f (Some x) = refl

-- the root of what is laid is one of its groups
pub laid_root : (m : Db) (t : Shape) → Sound m → contains_key (lay m t).groups (lay m t).root ≡ true
laid_root m t good =
    ap (λ u. contains_key (lay m t).groups u) (lay_root m t) ∙ ap is_some (lay_groups m t m.root) ∙ mapped (laid_group m t m.root) (get m.groups m.root) ∙ good.root
