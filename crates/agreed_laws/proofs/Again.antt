-- What is within a settled target already leaves it as it is.
use Rattle.std.proofs.Common.{◌≡◌, inl, inr, List, [], ◌∷◌, ◌++◌, Ok, map, refl, sym, ap, subst, ◌∙◌}
use Rattle.vault_model.specs.Db.{Db}
use Rattle.vault_model.specs.Join.{join, IsPart, IsWithin, Agreed}
use Rattle.vault_model.specs.Tree.{BareDoc, LEVELS, FitsLevels, IsSettled, db_in, lay_doc}
use Rattle.vault_model.proofs.Tests.{in_either, in_front}
use Rattle.merge_core.specs.JoinLaws.{AreParts, end_to_end}
use Rattle.merge_core.proofs.PlanLaws.{alike_join}
use Rattle.merge_core.proofs.Regroup.{end_part, join_of_joins, joins_agreed}
use Rattle.merge_core.specs.Refusals.{members}
use Rattle.document_merge.specs.declared.merging.MergeFail.TheVariants.{TooDeep}
use Rattle.document_merge.specs.Merging.{merge_result, unless_found}
use Rattle.agreed_laws.specs.Merges.{AreDocs}
use Rattle.agreed_laws.proofs.Heights.{document_fits}
use Rattle.agreed_laws.proofs.Merged.{levels_fit, levels_left}
use Rattle.agreed_laws.proofs.Parts.{members_are}

parts_within : (R : List Db) (Rs : List (List Db)) → AreParts Rs R → IsWithin (end_to_end Rs) R
parts_within R [] f m h = absurd h
parts_within R (Q ∷ Qs) f m h = elim (in_either Q (end_to_end Qs) m h) [ inl x ↦ f.0.1 m x | inr x ↦ parts_within R Qs f.1 m x ]

pub parts_through : (S R : List Db) (Rs : List (List Db)) → IsPart R S → AreParts Rs R → AreParts Rs S
parts_through S R [] part f = tt
parts_through S R (Q ∷ Qs) part f = ((f.0.0, λ m h. part.1 m (f.0.1 m h)), parts_through S R Qs part f.1)

-- the join of a part and of parts within it is the join of the part
pub within_join : (S R : List Db) (Rs : List (List Db)) → Agreed S → IsPart R S → AreParts Rs R → join (map join (R ∷ Rs)) ≡ join R
within_join S R Rs a part parts =
    let all : AreParts (R ∷ Rs) S = (part, parts_through S R Rs part parts) in
    join_of_joins S a (R ∷ Rs) tt all
    ∙ alike_join S a (R ++ end_to_end Rs) R (end_part S (R ∷ Rs) tt all) part
    (λ m h. elim (in_either R (end_to_end Rs) m h) [ inl x ↦ x | inr x ↦ parts_within R Rs parts m x ]) (λ m h. in_front R (end_to_end Rs) m h)

abbrev pub first : Db → List Db → Db
first m [] = m
first m (n ∷ ns) = n

pub again : (t : BareDoc) (ss : List BareDoc) (S R : List Db) (Rs : List (List Db)) → AreDocs (t ∷ ss) → Agreed S → IsPart R S → AreParts Rs R
    → map db_in (t ∷ ss) ≡ map join (R ∷ Rs) → IsSettled LEVELS t → merge_result t ss ≡ Ok t
again t ss S R Rs all a part parts joins settled =
    let agreed : Agreed (map db_in (t ∷ ss)) = subst Agreed (sym joins) (joins_agreed S (R ∷ Rs) a (part, parts_through S R Rs part parts)) in
    let same : join (map db_in (t ∷ ss)) ≡ db_in t = ap join joins ∙ within_join S R Rs a part parts ∙ sym (ap (first (db_in t)) joins) in
    let fit : FitsLevels LEVELS (join (map db_in (t ∷ ss))) = subst (FitsLevels LEVELS) (sym same) (document_fits t (all t (inl refl))) in
    levels_left t ss all agreed
    ∙ ap (λ o. unless_found o TooDeep (Ok (lay_doc LEVELS (join (members t ss)) t))) (levels_fit t ss all agreed fit)
    ∙ ap (λ (m : Db). Ok (lay_doc LEVELS m t)) (ap join (members_are t ss all agreed) ∙ same)
    ∙ ap Ok settled
