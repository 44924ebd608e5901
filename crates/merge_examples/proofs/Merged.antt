-- The copies of the worked example are merged, and a run of them is one of the kind that the laws speak of.
use Rattle.std.proofs.Common.{◌≡◌, ◌≤◌, ◌<◌, ℕ, zero, suc, Bool, true, false, cond, inl, inr, [], ◌∷◌, ◌++◌, Some, None, Ok, Err, nat_lt, refl, sym, ap, subst, ◌∙◌, arith}
use Rattle.std.proofs.lemmas.Bool.{ltb-true}
use Rattle.std.specs.FinMap.{get}
use Rattle.std.specs.List.{list_all, list_any}
use Rattle.std.specs.Str.{chars, is_utf8}
use Rattle.vault_model.specs.Db.{Db, NodeId, Place}
use Rattle.vault_model.specs.Join.{is_id, IsIn, join, kept, latest}
use Rattle.vault_model.specs.Proper.{is_proper_content, is_proper_group_content}
use Rattle.vault_model.specs.Shape.{Children}
use Rattle.vault_model.specs.Tree.{BareDoc, FitsLevels, IsDeep, IsDoc, LEVELS, child_rows, db_in}
use Rattle.merge_core.specs.Example.{as_it_was, bank, copies, edited, mail, moved, root}
use Rattle.merge_core.proofs.ExampleAgrees.{example_agreed}
use Rattle.merge_core.proofs.Facts.{join_places, latest_found}
use Rattle.merge_core.proofs.SoundDoc.{all_in, place_kid}
use Rattle.run_laws.specs.DocumentMerge.Merging.{MergeResult, merge_result}
use Rattle.run_laws.specs.DocumentMerge.declared.merging.MergeFail.TheVariants.{RootClash, KindClash, MoveCycle, TooDeep, NoMemory}
use Rattle.run_laws.specs.AgreedLaws.Merges.{AreDocs, MergesInto}
use Rattle.run_laws.proofs.AgreedLaws.Merged.{merges_into}
use Rattle.merge_examples.specs.Cases.{ExampleIsMerged, ExampleRuns, example_docs}

pub doc_first : IsDoc as_it_was
unfolding is_proper_content is_proper_group_content is_utf8 chars lib.Utf8.encode
doc_first = record {
  distinct = refl;
  no_nil = refl;
  levels = omega arith;
  tombs_rise = refl;
  tombs_apart = refl;
  entries_proper = refl;
  groups_proper = refl;
  icons_rise = refl;
  items_rise = refl;
  meta_texts = refl;
}

pub doc_second : IsDoc edited
unfolding is_proper_content is_proper_group_content is_utf8 chars lib.Utf8.encode
doc_second = record {
  distinct = refl;
  no_nil = refl;
  levels = omega arith;
  tombs_rise = refl;
  tombs_apart = refl;
  entries_proper = refl;
  groups_proper = refl;
  icons_rise = refl;
  items_rise = refl;
  meta_texts = refl;
}

pub doc_third : IsDoc moved
unfolding is_proper_content is_proper_group_content is_utf8 chars lib.Utf8.encode
doc_third = record {
  distinct = refl;
  no_nil = refl;
  levels = omega arith;
  tombs_rise = refl;
  tombs_apart = refl;
  entries_proper = refl;
  groups_proper = refl;
  icons_rise = refl;
  items_rise = refl;
  meta_texts = refl;
}

are_docs : AreDocs (as_it_was ∷ edited ∷ moved ∷ [])
are_docs d (inl p) = subst IsDoc p doc_first
are_docs d (inr (inl p)) = subst IsDoc p doc_second
are_docs d (inr (inr (inl p))) = subst IsDoc p doc_third
are_docs d (inr (inr (inr none))) = absurd none

-- ---- levels

-- entries stand below the groups of the root, and those below the root
abbrev rank : NodeId → ℕ
rank u = cond (is_id u root) 0 (cond (list_any (is_id u) (bank ∷ mail ∷ [])) 2 1)

rank_low : (u : NodeId) → rank u ≤ 2
rank_low u = by (is_id u root) (list_any (is_id u) (bank ∷ mail ∷ []))
  where
    by : (b c : Bool) → cond b 0 (cond c 2 1) ≤ 2
    by true c = omega arith
    by false true = omega arith
    by false false = omega arith

abbrev ranked : BareDoc → Bool
ranked d = list_all (λ (r : NodeId × Children). list_all (λ u. nat_lt (rank r.0) (rank u)) (r.1.entries ++ r.1.groups)) (child_rows d.tree)

falls : (d : BareDoc) → IsDoc d → ranked d ≡ true → (u : NodeId) (p : Place) → get (db_in d).places u ≡ Some p → rank p.parent < rank u
falls d isd r u p e =
    let k = place_kid d isd u p e in
    let row = all_in (λ (r : NodeId × Children). list_all (λ v. nat_lt (rank r.0) (rank v)) (r.1.entries ++ r.1.groups)) (child_rows d.tree) (p.parent, k.0) r k.1.0 in
    ltb-true (rank p.parent) (rank u) (all_in (λ v. nat_lt (rank p.parent) (rank v)) (k.0.entries ++ k.0.groups) u row k.1.1)

member_falls : (m : Db) → IsIn m copies → (u : NodeId) (p : Place) → get m.places u ≡ Some p → rank p.parent < rank u
member_falls m (inl i) u p e = falls as_it_was doc_first refl u p (ap (λ (x : Db). get x.places u) i ∙ e)
member_falls m (inr (inl i)) u p e = falls edited doc_second refl u p (ap (λ (x : Db). get x.places u) i ∙ e)
member_falls m (inr (inr (inl i))) u p e = falls moved doc_third refl u p (ap (λ (x : Db). get x.places u) i ∙ e)
member_falls m (inr (inr (inr none))) u p e = absurd none

joined_falls : (u : NodeId) (p : Place) → get (join copies).places u ≡ Some p → rank p.parent < rank u
joined_falls u p e = by (kept copies u) (sym (join_places copies u) ∙ e)
  where
    by : (b : Bool) → cond b (latest copies u) None ≡ Some p → rank p.parent < rank u
    by true h = let f = latest_found copies u p h in member_falls f.0 f.1.0 u p f.1.1
    by false h = cc h

deep : (d : ℕ) (u : NodeId) → IsDeep (join copies) d u → d ≤ rank u
deep zero u h = omega arith
deep (suc d) u h =
    let less = joined_falls u h.0 h.1 in
    let more = deep d h.0.parent h.2 in
    omega (arith, less, more)

fits : FitsLevels LEVELS (join copies)
fits d u g h = let low = deep d u h in let top = rank_low u in omega (arith, low, top)

-- ---- the merge

not_refused : (m : Db) (r : MergeResult) → FitsLevels LEVELS m → MergesInto m r → (doc : BareDoc) × (r ≡ Ok doc)
not_refused m (Ok doc) f h = (doc, refl)
not_refused m (Err (TooDeep u)) f h = absurd (h f)
not_refused m (Err (RootClash u)) f h = absurd h
not_refused m (Err (KindClash u)) f h = absurd h
not_refused m (Err (MoveCycle us)) f h = absurd h
not_refused m (Err NoMemory) f h = absurd h

pub example_is_merged : ExampleIsMerged
example_is_merged =
    let m = not_refused (join copies) (merge_result as_it_was (edited ∷ moved ∷ [])) fits (merges_into as_it_was (edited ∷ moved ∷ []) are_docs example_agreed) in
    (m.0, record { docs = are_docs; merged = m.1 })

-- ---- the run

pub all_docs : (i : ℕ) → IsDoc (example_docs i)
all_docs zero = doc_first
all_docs (suc zero) = doc_second
all_docs (suc (suc k)) = doc_third

pub example_runs : ExampleRuns
example_runs =
    let m = example_is_merged in (
      m.0,
      record {
        agreed = example_agreed;
        run = record { are_docs = all_docs; are_doc_events = (m.1.merged, (tt, tt)) };
        whole = record { are_docs = all_docs; are_doc_events = (m.1.merged, (tt, tt)) };
        first = λ x h. h;
        second = λ x h. h;
      },
    )
