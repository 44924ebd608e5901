-- What a merge makes of its target, from what is merged and what is refused.
use Rattle.std.proofs.Common.{◌≡◌, ℕ, Bool, true, false, not, List, Ok, Err, sym, ap, refl, ◌∙◌, true≢false}
use Rattle.outside_core.specs.Results.{◌>>=◌}
use Rattle.vault_model.specs.SeenDoc.{doc_seen}
use Rattle.vault_model.specs.Tree.{BareDoc}
use Rattle.merge_changes.specs.Equality.{same_doc}
use Rattle.merge_changes.proofs.SameValues.{doc_decides}
use Rattle.document_merge.specs.Merging.{IsMergeResult, MergeResult, merge_result}
use Rattle.document_merge.specs.declared.merging.MergeFail.{MergeFail}
use Rattle.document_merge.specs.declared.merging.MergeFail.TheVariants as fail
use Rattle.document_merge.specs.declared.merging.Merged.{Merged}
use Rattle.cli_messages.specs.Messages.{Refuses, refusal_of}
use Rattle.cli_messages.specs.Phases.{Stops}
use Rattle.cli_messages.specs.declared.answers.Refusal.{Refusal}
use Rattle.cli_messages.specs.declared.answers.Stop.{Stop}
use Rattle.cli_messages.specs.declared.answers.Stop.TheVariants.{Refused, FileFault, InputFault, NoMemory}
use Rattle.cli_merging.specs.Merging.{AfterMerge, IsUnmerged, after_merge, after_merged, changes_between, merge_answer, merged_or_refusal}

-- A document is changed exactly where the test of equality fails.
changed_is : (changed same : Bool) (t new : BareDoc) → (changed ≡ false → new ≡ t) → (new ≡ t → changed ≡ false)
    → same_doc t new ≡ same → changed ≡ not same
changed_is changed true t new kept back e = back (sym (doc_decides.says t new e))
changed_is true false t new kept back e = refl
changed_is false false t new kept back e =
    absurd (true≢false (sym (doc_decides.holds t) ∙ ap (same_doc t) (sym (kept refl)) ∙ e))

module _ (file : List ℕ) (quiet dry details : Bool) (names : List (List ℕ)) (t : BareDoc) (ss : List BareDoc) where
  after_is : (result : MergeResult) → merge_result t ss ≡ result
      → after_merge file quiet dry details names t ss
      ≡ (merged_or_refusal file result >>= (λ new. Ok (after_merged file quiet dry details names t ss (not (same_doc t new)) new (changes_between t ss new))))
  unfolding after_merge
  after_is result e =
      ap (λ (r : MergeResult). merged_or_refusal file r >>= (λ new. Ok (after_merged file quiet dry details names t ss (not (same_doc t new)) new (changes_between t ss new)))) e

  -- what is made of a merged document
  pub merged_told : (m : Merged) (seen : AfterMerge) → IsMergeResult (merge_result t ss) t ss (Ok m)
      → seen ≡ after_merged file quiet dry details names t ss m.changed (doc_seen m.doc) m.changes
      → after_merge file quiet dry details names t ss ≡ Ok seen
  merged_told m seen merged is =
      let changed = changed_is m.changed (same_doc t (doc_seen m.doc)) t (doc_seen m.doc) merged.1.kept merged.1.same refl in
      after_is (Ok (doc_seen m.doc)) merged.0
      ∙ (λ i. Ok (after_merged file quiet dry details names t ss (sym changed i) (doc_seen m.doc) (sym merged.1.changes i)))
      ∙ ap (λ (a : AfterMerge). Ok a) (sym is)

  refused_told : (why : MergeFail) (stop : Stop) → merge_result t ss ≡ Err why → Refuses stop (refusal_of (merge_answer why) file)
      → Stops stop (after_merge file quiet dry details names t ss)
  refused_told why (Refused refusal) e h = after_is (Err why) e ∙ ap (λ (r : Refusal). Err r) (sym h)
  refused_told why (FileFault name) e h = tt
  refused_told why InputFault e h = tt
  refused_told why NoMemory e h = tt

  -- a refusal to merge
  pub unmerged_told : (why : MergeFail) (stop : Stop) → IsMergeResult (merge_result t ss) t ss (Err why) → IsUnmerged why file stop
      → Stops stop (after_merge file quiet dry details names t ss)
  unmerged_told (fail.RootClash id) stop e h = refused_told (fail.RootClash id) stop e h
  unmerged_told (fail.KindClash id) stop e h = refused_told (fail.KindClash id) stop e h
  unmerged_told (fail.MoveCycle ids) stop e h = refused_told (fail.MoveCycle ids) stop e h
  unmerged_told (fail.TooDeep id) stop e h = refused_told (fail.TooDeep id) stop e h
  unmerged_told fail.NoMemory (Refused refusal) e h = absurd h
  unmerged_told fail.NoMemory (FileFault name) e h = absurd h
  unmerged_told fail.NoMemory InputFault e h = absurd h
  unmerged_told fail.NoMemory NoMemory e h = tt
