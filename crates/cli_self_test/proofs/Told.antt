-- What is printed, from what each part of the test gives.
use Rattle.std.proofs.Common.{◌≡◌, ◌≤◌, ℕ, Bool, false, List, [], ◌∷◌, Result, Ok, refl, sym, ap, subst, ◌∙◌}
use Rattle.std.specs.Prelude.{IsOk}
use Rattle.outside_core.specs.Results.{◌>>=◌, Fails, Meaning, exact, free, never}
use Rattle.vault_model.specs.Tree.{BareDoc, db_in}
use Rattle.merge_again.specs.DocumentMerge.Merging.{merge_result}
use Rattle.cli_messages.specs.Phases.{Stops, meaning_of}
use Rattle.cli_messages.specs.declared.answers.Refusal.{Refusal}
use Rattle.cli_messages.specs.declared.answers.Stop.{Stop}
use Rattle.cli_self_test.specs.declared.counting.Counts.{Counts}
use Rattle.cli_self_test.specs.SelfTest.{change_text, counts_of, first_merged, hash_of, joined_twins, report, second_merged, self_test}
use Rattle.cli_self_test.proofs.Merges.{first_joined}

-- a merge of documents is that of the defined ones
pub same_merge : (t s t' s' d : BareDoc) → t ≡ t' → s ≡ s' → merge_result t' (s' ∷ []) ≡ Ok d → merge_result t (s ∷ []) ≡ Ok d
same_merge t s t' s' d p q e = (λ i. merge_result (p i) (q i ∷ [])) ∙ e

-- and results in the same
pub merged_to : (t s t' s' d m : BareDoc) → t ≡ t' → s ≡ s' → merge_result t' (s' ∷ []) ≡ Ok d → merge_result t (s ∷ []) ≡ Ok m → m ≡ d
merged_to t s t' s' d m p q e h = let same : Ok m ≡ Ok d = sym h ∙ same_merge t s t' s' d p q e in cc

pub is_merged : (t s d : BareDoc) → merge_result t (s ∷ []) ≡ Ok d → IsOk (merge_result t (s ∷ []))
is_merged t s d e = subst IsOk (sym e) refl

-- what fails first fails the whole
fails_then : {A B : Type 0} (m : Meaning Refusal) (r : Result A Refusal) (next : A → Result B Refusal) → Fails m r → Fails m (r >>= next)
fails_then (exact error) r next e = ap (λ x. x >>= next) e
fails_then free r next e = tt
fails_then never r next e = e

module _ (count : ℕ) (d e : BareDoc) (first : d ≡ first_merged count) (second : e ≡ second_merged count) where
  -- what is printed once both hashes are known
  abbrev told : List ℕ → List ℕ → Result (List ℕ) Refusal
  told one other = Ok (report (counts_of (joined_twins count)) one other (change_text false))

  by_first : (one : List ℕ) → hash_of d ≡ Ok one → self_test count ≡ (hash_of (second_merged count) >>= told one)
  by_first one h = ap (λ r. r >>= (λ x. hash_of (second_merged count) >>= told x)) (sym (ap hash_of first) ∙ h)

  pub first_fails : (stop : Stop) → Stops stop (hash_of d) → Stops stop (self_test count)
  first_fails stop h =
      fails_then (meaning_of stop) (hash_of (first_merged count)) (λ x. hash_of (second_merged count) >>= told x)
      (subst (λ (x : BareDoc). Stops stop (hash_of x)) first h)

  pub second_fails : (stop : Stop) (one : List ℕ) → hash_of d ≡ Ok one → Stops stop (hash_of e) → Stops stop (self_test count)
  second_fails stop one h k =
      subst (Stops stop) (sym (by_first one h))
      (fails_then (meaning_of stop) (hash_of (second_merged count)) (told one) (subst (λ (x : BareDoc). Stops stop (hash_of x)) second k))

  -- what is printed where both hashes are known
  pub told_is : (few : count ≤ 50000) (one other : List ℕ) (counts : Counts) (changed : Bool) → hash_of d ≡ Ok one → hash_of e ≡ Ok other
      → counts ≡ counts_of (db_in d) → changed ≡ false → self_test count ≡ Ok (report counts one other (change_text changed))
  told_is few one other counts changed h k held same =
      let amount : counts ≡ counts_of (joined_twins count) = held ∙ ap counts_of (ap db_in first ∙ first_joined count few) in
      by_first one h
      ∙ ap (λ r. r >>= told one) (sym (ap hash_of second) ∙ k)
      ∙ sym (λ i. Ok (report (amount i) one other (change_text (same i))))
