-- A dry run of a merge makes no document.
use Rattle.std.proofs.Common.{◌≡◌, ℕ, List, refl, Bool, true, false, Some, None, Ok, Err}
use Rattle.std.specs.Prelude.{IfOk, ◌&&◌, if◌then◌else◌, not}
use Rattle.outside_core.specs.Results.{◌>>=◌}
use Rattle.vault_model.specs.Tree.{BareDoc}
use Rattle.merge_changes.specs.Equality.{same_doc}
use Rattle.document_merge.specs.Merging.{MergeResult, merge_result}
use Rattle.cli_merging.specs.Merging.{after_merge, after_merged, changes_between, merged_or_refusal}

none_if : (changed : Bool) (new : BareDoc) → (if changed && not true then Some new else None) ≡ None
none_if true new = refl
none_if false new = refl

dry_by : (file : List ℕ) (quiet details : Bool) (names : List (List ℕ)) (t : BareDoc) (ss : List BareDoc) (r : MergeResult)
    → IfOk (merged_or_refusal file r >>= λ new. Ok (after_merged file quiet true details names t ss (not (same_doc t new)) new (changes_between t ss new))) (λ after. after.doc ≡ None)
dry_by file quiet details names t ss (Ok new) = none_if (not (same_doc t new)) new
dry_by file quiet details names t ss (Err why) = tt

pub dry_none : (file : List ℕ) (quiet details : Bool) (names : List (List ℕ)) (t : BareDoc) (ss : List BareDoc)
    → IfOk (after_merge file quiet true details names t ss) (λ after. after.doc ≡ None)
unfolding after_merge
dry_none file quiet details names t ss = dry_by file quiet details names t ss (merge_result t ss)
