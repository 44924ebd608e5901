-- The conflicts among the entries of a result, of which the last is looked at first.
use Rattle.std.proofs.Common.{◌≡◌, ℕ, Bool, true, false, List, [], ◌∷◌, ◌++◌, Option, Some, None, map, refl, sym, ap, ◌∙◌}
use Rattle.std.specs.Prelude.{cond, if◌then◌else◌}
use Rattle.std.specs.FinMap.{FinMap, empty, from_entries, insert}
use Rattle.std.specs.List.{filter}
use Rattle.vault_model.specs.Db.{NodeId}
use Rattle.vault_model.specs.Shape.{EntryRecord}
use Rattle.merge_details.specs.Conflicts.{Holding, conflict_row, conflicts_among, is_conflict, key_cmp, with_conflict}
use Rattle.merge_details.specs.declared.conflict_tables.ConflictTimes.{ConflictTimes}

module _ (path : NodeId → List ℕ) (target : Holding) (sources : List Holding) where
  -- conflicts with those of these entries
  abbrev pub with_conflicts : List (NodeId × EntryRecord) → FinMap key_cmp ConflictTimes → FinMap key_cmp ConflictTimes
  with_conflicts [] found = found
  with_conflicts (e ∷ es) found = with_conflict path target sources e (with_conflicts es found)

  pub with_both : (es fs : List (NodeId × EntryRecord)) (found : FinMap key_cmp ConflictTimes) → with_conflicts (es ++ fs) found ≡ with_conflicts es (with_conflicts fs found)
  with_both [] fs found = refl
  with_both (e ∷ es) fs found = ap (λ (m : FinMap key_cmp ConflictTimes). with_conflict path target sources e m) (with_both es fs found)

  put_if : (b : Bool) (e : NodeId × EntryRecord) (es : List (NodeId × EntryRecord))
      → (if b then insert (from_entries {R = key_cmp} (map (conflict_row path target) es)) (conflict_row path target e).0 (conflict_row path target e).1
      else from_entries (map (conflict_row path target) es))
      ≡ from_entries (map (conflict_row path target) (cond b (e ∷ es) es))
  put_if true e es = refl
  put_if false e es = refl

  -- put one after another they are all
  pub with_all : (es : List (NodeId × EntryRecord)) → with_conflicts es empty ≡ conflicts_among path target sources es
  with_all [] = refl
  with_all (e ∷ es) =
      ap (λ (m : FinMap key_cmp ConflictTimes). with_conflict path target sources e m) (with_all es)
      ∙ put_if (is_conflict target sources e) e (filter (is_conflict target sources) es)

  -- the last entry
  pub with_last : (es fs : List (NodeId × EntryRecord)) (id : NodeId) (e e' : EntryRecord) (found new : FinMap key_cmp ConflictTimes)
      → es ≡ fs ++ (id, e) ∷ [] → e' ≡ e → new ≡ with_conflict path target sources (id, e') found → with_conflicts es found ≡ with_conflicts fs new
  with_last es fs id e e' found new is same put =
      ap (λ (xs : List (NodeId × EntryRecord)). with_conflicts xs found) is ∙ with_both fs ((id, e) ∷ []) found
      ∙ ap (with_conflicts fs) (sym (put ∙ ap (λ (r : EntryRecord). with_conflict path target sources (id, r) found) same))
