-- The merges of the two copies: neither is refused, and once more nothing changes.
use Rattle.std.proofs.Common.{◌≡◌, ◌≤◌, inl, inr, ℕ, List, [], ◌∷◌, Ok, map, refl, sym, ap, subst, ◌∙◌}
use Rattle.vault_model.specs.Db.{Db}
use Rattle.vault_model.specs.Join.{join, Agreed}
use Rattle.vault_model.specs.Tree.{BareDoc, LEVELS, IsDoc, db_in, lay_doc}
use Rattle.merge_core.specs.Refusals.{members}
use Rattle.merge_again.specs.DocumentMerge.declared.merging.MergeFail.TheVariants.{TooDeep}
use Rattle.merge_again.specs.DocumentMerge.Merging.{merge_result, unless_found}
use Rattle.merge_again.specs.AgreedLaws.Merges.{AreDocs, IsSettledAs}
use Rattle.merge_again.proofs.AgreedLaws.Merged.{levels_fit, levels_left, merged_so, settled_as}
use Rattle.merge_again.proofs.AgreedLaws.Parts.{members_are}
use Rattle.merge_again.proofs.MergeAgain.{either_way, settled_again}
use Rattle.merge_twins.specs.Twins.{first_twin, second_twin}
use Rattle.merge_twins.proofs.Agreement.{twins_agree, twins_fit}
use Rattle.merge_twins.proofs.Documents.{first_document, second_document}
use Rattle.cli_self_test.specs.SelfTest.{first_merged, joined_twins, second_merged}

both : (d e : BareDoc) → IsDoc d → IsDoc e → AreDocs (d ∷ e ∷ [])
both d e is_d is_e x (inl p) = subst IsDoc p is_d
both d e is_d is_e x (inr (inl p)) = subst IsDoc p is_e
both d e is_d is_e x (inr (inr h)) = absurd h

module _ (count : ℕ) (few : count ≤ 50000) where
  abbrev a : BareDoc
  a = first_twin count

  abbrev b : BareDoc
  b = second_twin count

  forth : AreDocs (a ∷ b ∷ [])
  forth = both a b (first_document count few) (second_document count few)

  back : AreDocs (b ∷ a ∷ [])
  back = both b a (second_document count few) (first_document count few)

  agreed : Agreed (map db_in (a ∷ b ∷ []))
  agreed = twins_agree count few

  pub first_is : merge_result a (b ∷ []) ≡ Ok (first_merged count)
  unfolding joined_twins
  first_is =
      levels_left a (b ∷ []) forth agreed
      ∙ ap (λ o. unless_found o TooDeep (Ok (lay_doc LEVELS (join (members a (b ∷ []))) a))) (levels_fit a (b ∷ []) forth agreed (twins_fit count few))
      ∙ ap (λ (S : List Db). Ok (lay_doc LEVELS (join S) a)) (members_are a (b ∷ []) forth agreed)

  first_settled : IsSettledAs (join (members a (b ∷ []))) (first_merged count)
  first_settled = settled_as a (b ∷ []) forth (first_merged count) (merged_so a (b ∷ []) forth (first_merged count) first_is)

  pub first_joined : db_in (first_merged count) ≡ joined_twins count
  unfolding joined_twins
  first_joined = first_settled.database ∙ ap join (members_are a (b ∷ []) forth agreed)

  pub second_is : merge_result b (a ∷ []) ≡ Ok (second_merged count)
  second_is =
      let r = either_way a b (first_merged count) (first_document count few) (second_document count few) refl first_is in
      let m = merged_so b (a ∷ []) back r.0 r.1.0 in
      let s = settled_as b (a ∷ []) back r.0 m in
      r.1.0 ∙ ap Ok (sym m.laid) ∙ ap (λ (x : Db). Ok (lay_doc LEVELS x b)) (sym s.database ∙ r.1.1 ∙ first_joined)

  second_settled : IsSettledAs (join (members b (a ∷ []))) (second_merged count)
  second_settled = settled_as b (a ∷ []) back (second_merged count) (merged_so b (a ∷ []) back (second_merged count) second_is)

  second_joined : db_in (second_merged count) ≡ db_in (first_merged count)
  second_joined =
      let r = either_way a b (first_merged count) (first_document count few) (second_document count few) refl first_is in
      let s = settled_as b (a ∷ []) back r.0 (merged_so b (a ∷ []) back r.0 r.1.0) in
      second_settled.database ∙ sym s.database ∙ r.1.1

  -- merged once more the first result is as it was
  pub again_is : merge_result (first_merged count) (second_merged count ∷ []) ≡ Ok (first_merged count)
  again_is =
      let held : IsDoc (second_merged count) × (db_in (second_merged count) ≡ db_in (first_merged count)) = (second_settled.is_doc, second_joined) in
      settled_again a (b ∷ []) (first_merged count) (first_merged count) (second_merged count ∷ []) forth first_is
      (record { is_doc = first_settled.is_doc; database = refl; settled = first_settled.settled })
      (λ d i.
      elim i [
        | inl p ↦ inr (subst (λ (x : BareDoc). IsDoc x × (db_in x ≡ db_in (first_merged count))) p held)
        | inr z ↦ absurd z
      ])
