-- What a merge that is not refused results in, and that parts of an agreed set are merged.
use Rattle.std.proofs.Common.{◌≡◌, ◌<◌, true, inl, inr, List, [], ◌∷◌, Option, Some, None, Ok, Err, map, refl, sym, ap, subst, ◌∙◌, arith}
use Rattle.std.specs.FinMap.{get}
use Rattle.vault_model.specs.declared.contents.Stats.{Stats}
use Rattle.vault_model.specs.Db.{NodeId, Mark, Versions, Db}
use Rattle.vault_model.specs.Join.{kept, join, IsIn, IsNotEmpty, IsPart, Agreed}
use Rattle.vault_model.specs.Tree.{BareDoc, LEVELS, FitsLevels, IsDoc, IsSettled, db_in, lay_doc}
use Rattle.merge_core.proofs.Facts.{part_roots}
use Rattle.merge_core.proofs.TreeShape.{laid_document}
use Rattle.merge_core.proofs.Versions.{never}
use Rattle.merge_core.specs.JoinLaws.{AreParts, IsThere, end_to_end}
use Rattle.merge_core.proofs.MoreLaws.{kept_version, version_there}
use Rattle.merge_core.proofs.Regroup.{end_part, join_of_joins, joins_agreed}
use Rattle.merge_core.specs.Marking.{strays}
use Rattle.merge_core.specs.Refusals.{CanMerge, kind_clashes, least, members, root_clashes, too_deep}
use Rattle.merge_core.proofs.Refused.{merged_is}
use Rattle.document_merge.specs.MergeChecks.Cycles.{cycle_above}
use Rattle.document_merge.specs.declared.merging.MergeFail.{MergeFail}
use Rattle.document_merge.specs.declared.merging.MergeFail.TheVariants.{RootClash, KindClash, MoveCycle, TooDeep}
use Rattle.document_merge.specs.Merging.{MergeResult, kind_stage, level_stage, merge_result, path_stage, unless_found}
use Rattle.agreed_laws.specs.Merges.{AreDocs, IsSettledAs, MergesInto}
use Rattle.agreed_laws.proofs.Parts.{dbs_allowed, dbs_sound, members_are, no_kind_clash, no_root_clash, no_stray}
use Rattle.agreed_laws.proofs.Shallow.{fits, shallow}

some_level : 0 < LEVELS
some_level = omega arith

-- ---- a merge that is not refused

abbrev value : BareDoc → MergeResult → BareDoc
value t (Ok doc) = doc
value t (Err fail) = t

pub passed : (o : Option NodeId) (why : NodeId → MergeFail) (next : MergeResult) (doc : BareDoc) → unless_found o why next ≡ Ok doc → (o ≡ None) × (next ≡ Ok doc)
passed None why next doc e = (refl, e)
passed (Some u) why next doc e = cc e

-- Nothing is refused, and the document is the target with the join laid over it.
pub record IsMerged (t : BareDoc) (ss : List BareDoc) (doc : BareDoc) : Type 0 where
  pub can : CanMerge t ss
  pub fits : FitsLevels LEVELS (join (members t ss))
  pub laid : lay_doc LEVELS (join (members t ss)) t ≡ doc

module _ (t : BareDoc) (ss : List BareDoc) (all : AreDocs (t ∷ ss)) where
  -- where nothing is refused documents can be merged
  can_merge : least (root_clashes (t ∷ ss)) ≡ None → least (kind_clashes (members t ss)) ≡ None → least (strays (members t ss)) ≡ None
      → least (too_deep LEVELS (members t ss)) ≡ None → CanMerge t ss
  can_merge clear kinds ways levels = merged_is t ss (all t (inl refl)) (λ s h. all s (inr h)) clear kinds ways levels

  pub merged_so : (doc : BareDoc) → merge_result t ss ≡ Ok doc → IsMerged t ss doc
  merged_so doc e =
      let clear = passed (least (root_clashes (t ∷ ss))) RootClash (kind_stage t ss) doc e in
      let kinds = passed (least (kind_clashes (members t ss))) KindClash (path_stage t ss) doc clear.1 in
      let ways = passed (least (strays (members t ss))) (λ u. MoveCycle (cycle_above (members t ss) u)) (level_stage t ss) doc kinds.1 in
      let levels = passed (least (too_deep LEVELS (members t ss))) TooDeep (Ok (lay_doc LEVELS (join (members t ss)) t)) doc ways.1 in
      let can = can_merge clear.0 kinds.0 ways.0 levels.0 in
      record {
        can = can;
        fits = fits (members t ss) can.allowed can.sound LEVELS some_level levels.0;
        laid = ap (value t) levels.1;
      }

  pub settled_as : (doc : BareDoc) → IsMerged t ss doc → IsSettledAs (join (members t ss)) doc
  settled_as doc m =
      let both = laid_document LEVELS (join (members t ss)) t m.can.joined m.fits in
      record {
        is_doc = subst IsDoc m.laid m.can.laid;
        database = ap db_in (sym m.laid) ∙ both.0;
        settled = subst (IsSettled LEVELS) m.laid both.1;
      }

  pub version_in : (doc : BareDoc) → merge_result t ss ≡ Ok doc → (m : Db) (u : NodeId) (v : Versions) (k : Mark) (s : Stats) → IsIn m (members t ss)
      → kept (members t ss) u ≡ true → get m.entries u ≡ Some v → get v k ≡ Some s → IsThere (db_in doc) u k s
  version_in doc e m u v k s h is here version =
      subst (λ (x : Db). IsThere x u k s) (sym (settled_as doc (merged_so doc e)).database) (kept_version (members t ss) m u v k s h is here version)

  -- ---- documents whose databases are agreed

  module _ (agreed : Agreed (map db_in (t ∷ ss))) where
    abbrev dbs : List Db
    dbs = map db_in (t ∷ ss)

    are : members t ss ≡ dbs
    are = members_are t ss all agreed

    kinds_none : least (kind_clashes (members t ss)) ≡ None
    kinds_none = ap (λ (S : List Db). least (kind_clashes S)) are ∙ no_kind_clash dbs (dbs_allowed t ss all agreed) (dbs_sound t ss all agreed)

    ways_none : least (strays (members t ss)) ≡ None
    ways_none = ap (λ (S : List Db). least (strays S)) are ∙ no_stray dbs (dbs_allowed t ss all agreed) (dbs_sound t ss all agreed)

    -- of the refusals only that of the levels can come
    pub levels_left : merge_result t ss ≡ level_stage t ss
    levels_left =
        ap (λ o. unless_found o RootClash (kind_stage t ss)) (no_root_clash t ss all agreed)
        ∙ ap (λ o. unless_found o KindClash (path_stage t ss)) kinds_none
        ∙ ap (λ o. unless_found o (λ u. MoveCycle (cycle_above (members t ss) u)) (level_stage t ss)) ways_none

    -- and it does not come where the join fits the levels
    pub levels_fit : FitsLevels LEVELS (join dbs) → least (too_deep LEVELS (members t ss)) ≡ None
    levels_fit fit =
        ap (λ (S : List Db). least (too_deep LEVELS S)) are
        ∙ shallow dbs (dbs_allowed t ss all agreed) (dbs_sound t ss all agreed) LEVELS some_level fit

    merges_at : (o : Option NodeId) → least (too_deep LEVELS (members t ss)) ≡ o → MergesInto (join dbs) (unless_found o TooDeep (Ok (lay_doc LEVELS (join (members t ss)) t)))
    merges_at (Some u) e = λ fit. never u (sym (levels_fit fit) ∙ e)
    merges_at None e =
        let can = can_merge (no_root_clash t ss all agreed) kinds_none ways_none e in
        subst (λ (m : Db). IsSettledAs m (lay_doc LEVELS (join (members t ss)) t)) (ap join are)
        (settled_as (lay_doc LEVELS (join (members t ss)) t) (record {
          can = can;
          fits = fits (members t ss) can.allowed can.sound LEVELS some_level e;
          laid = refl;
        }))

    pub merges_into : MergesInto (join dbs) (merge_result t ss)
    merges_into = subst (MergesInto (join dbs)) (sym levels_left) (merges_at (least (too_deep LEVELS (members t ss))) refl)

-- ---- parts of an agreed set

pub parts_some : (t : BareDoc) (ss : List BareDoc) (Rs : List (List Db)) → map db_in (t ∷ ss) ≡ map join Rs → IsNotEmpty Rs
parts_some t ss [] e = cc e
parts_some t ss (R ∷ Rs) e = tt

pub parts_merged : (t : BareDoc) (ss : List BareDoc) (S : List Db) (Rs : List (List Db)) → AreDocs (t ∷ ss) → Agreed S → AreParts Rs S → map db_in (t ∷ ss) ≡ map join Rs
    → MergesInto (join (end_to_end Rs)) (merge_result t ss)
parts_merged t ss S Rs all a parts joins =
    let agreed : Agreed (map db_in (t ∷ ss)) = subst Agreed (sym joins) (joins_agreed S Rs a parts) in
    subst (λ (m : Db). MergesInto m (merge_result t ss)) (ap join joins ∙ join_of_joins S a Rs (parts_some t ss Rs joins) parts) (merges_into t ss all agreed)

-- a part of an agreed set is agreed
pub part_agreed : (S R : List Db) → Agreed S → IsPart R S → Agreed R
part_agreed S R a part = record {
  compatible = record {
    sound = λ m h. a.compatible.sound m (part.1 m h);
    root = part_roots a.compatible R part;
    kinds = λ m n u h k. a.compatible.kinds m n u (part.1 m h) (part.1 n k);
    tombs = λ m n u d h k. a.compatible.tombs m n u d (part.1 m h) (part.1 n k);
  };
  filled = λ P p. a.filled P (p.0, λ m h. part.1 m (p.1 m h));
  acyclic = λ P p. a.acyclic P (p.0, λ m h. part.1 m (p.1 m h));
}

pub parts_keep : (t : BareDoc) (ss : List BareDoc) (S : List Db) (Rs : List (List Db)) (doc : BareDoc) → AreDocs (t ∷ ss) → Agreed S → AreParts Rs S → map db_in (t ∷ ss) ≡ map join Rs
    → merge_result t ss ≡ Ok doc → (m : Db) (u : NodeId) (v : Versions) (k : Mark) (s : Stats) → IsIn m (end_to_end Rs) → get m.entries u ≡ Some v → get v k ≡ Some s
    → ((n : Db) → IsIn n (end_to_end Rs) → get n.tombs u ≡ None) → IsThere (db_in doc) u k s
parts_keep t ss S Rs doc all a parts joins merged m u v k s h e g none =
    let whole = end_to_end Rs in
    let into : IsSettledAs (join whole) doc = subst (MergesInto (join whole)) merged (parts_merged t ss S Rs all a parts joins) in
    let agreed = part_agreed S whole a (end_part S Rs (parts_some t ss Rs joins) parts) in
    subst (λ (x : Db). IsThere x u k s) (sym into.database) (version_there whole m u v k s agreed h e g none)
