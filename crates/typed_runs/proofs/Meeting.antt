-- Two copies of a document in which one entry was edited meet in one.
use Rattle.std.proofs.Common.{◌≡◌, inl, inr, List, [], ◌∷◌, Some, None, Ok, refl, sym, ap, subst, ◌∙◌}
use Rattle.vault_model.specs.Db.{Db, Mark}
use Rattle.vault_model.specs.Join.{Agreed, join}
use Rattle.vault_model.specs.Plans.{Replica}
use Rattle.vault_model.specs.Tree.{BareDoc, IsDoc, db_in}
use Rattle.merge_core.proofs.PlanLaws.{join_one}
use Rattle.merge_core.proofs.SoundDoc.{document_sound}
use Rattle.document_merge.specs.Merging.{merge_result}
use Rattle.agreed_laws.specs.Merges.{AreDocs}
use Rattle.agreed_laws.proofs.Merged.{merged_so, merges_into, part_agreed, settled_as}
use Rattle.agreed_laws.proofs.Parts.{members_are}
use Rattle.history_laws.specs.Current.{current_view}
use Rattle.history_laws.specs.FreeHistories.{IsFresh}
use Rattle.history_laws.specs.TwoEdits.{HasBoth}
use Rattle.history_laws.proofs.FreeLaws.{IsCalm, calm_agreed, calm_begin, more_calm}
use Rattle.history_laws.proofs.HistoryLaws.{IsTrimmed}
use Rattle.history_laws.proofs.TwoEdits.{both_are_kept, either_way}
use Rattle.command_laws.specs.Growing.{edited_mark}
use Rattle.command_laws.proofs.Edits.{edit_is_now}
use Rattle.command_laws.specs.Adding.{AddsOnly}
use Rattle.command_laws.proofs.Commands.{edit_adds}
use Rattle.typed_runs.specs.Meeting.{TwoEditsMeet}

module _ (d : BareDoc) (isd : IsDoc d) where
  abbrev first : List Db
  first = db_in d ∷ []

  abbrev copy : Replica
  copy = record { doc = d; learned = first }

  calm_first : IsCalm first
  calm_first = calm_begin (db_in d) (document_sound d isd)

  copy_good : IsTrimmed copy
  copy_good = record {
    some = tt;
    sound = document_sound d isd;
    same = ap current_view (sym (join_one first (calm_agreed first calm_first) (db_in d) (inl refl)));
  }

  nothing_new : (known : List Db) (e : BareDoc) → AddsOnly None d e → IsFresh known (db_in d) (db_in e)
  nothing_new known e adds x u h now off = absurd (let no : None ≡ Some u → ⊥ = λ z. cc z in no (adds.new u now off))

  module _ (e f : BareDoc) (ise : IsDoc e) (isf : IsDoc f) (one : AddsOnly None d e) (two : AddsOnly None d f) where
    calm_second : IsCalm (db_in e ∷ first)
    calm_second = more_calm first calm_first copy copy_good (λ m h. h) (db_in e) (document_sound e ise) one.adds (nothing_new first e one)

    calm_third : IsCalm (db_in f ∷ db_in e ∷ first)
    calm_third = more_calm (db_in e ∷ first) calm_second copy copy_good (λ m h. inr h) (db_in f) (document_sound f isf) two.adds (nothing_new (db_in e ∷ first) f two)

    -- two copies to which nothing was added agree
    pub copies_agree : Agreed (db_in e ∷ db_in f ∷ [])
    copies_agree = part_agreed (db_in f ∷ db_in e ∷ first) (db_in e ∷ db_in f ∷ []) (calm_agreed (db_in f ∷ db_in e ∷ first) calm_third) (
      tt,
      λ m h. elim h [
        | inl p ↦ inr (inl p)
        | inr i ↦ elim i [ inl p ↦ inl p | inr z ↦ absurd z ]
      ],
    )

merged_db : (e f g : BareDoc) → IsDoc e → IsDoc f → Agreed (db_in e ∷ db_in f ∷ []) → merge_result e (f ∷ []) ≡ Ok g → db_in g ≡ join (db_in e ∷ db_in f ∷ [])
merged_db e f g ise isf a h =
    let all : AreDocs (e ∷ f ∷ []) = λ x i. elim i [
      | inl p ↦ subst IsDoc p ise
      | inr j ↦ elim j [ inl p ↦ subst IsDoc p isf | inr z ↦ absurd z ]
    ] in
    (settled_as e (f ∷ []) all g (merged_so e (f ∷ []) all g h)).database ∙ ap join (members_are e (f ∷ []) all a)

pub two_edits_meet : TwoEditsMeet
two_edits_meet d e f path other values others further more now later one two held isd ise isf named also timed timed_too h i =
    let adds_e = edit_adds path values further now d e isd ise h in
    let adds_f = edit_adds other others more later d f isd isf i in
    let a = copies_agree d isd e f ise isf adds_e adds_f in
    let b = copies_agree d isd f e isf ise adds_f adds_e in
    let x = edit_is_now path values further now one held d e isd ise named timed h in
    let y = edit_is_now other others more later two held d f isd isf also timed_too i in
    let all : AreDocs (e ∷ f ∷ []) = λ z j. elim j [
      | inl p ↦ subst IsDoc p ise
      | inr k ↦ elim k [ inl p ↦ subst IsDoc p isf | inr w ↦ absurd w ]
    ] in
    let k : Mark = edited_mark d values further one held.entry.1 in
    let l : Mark = edited_mark d others more two held.entry.1 in
    record {
      result = merges_into e (f ∷ []) all a;
      both = λ g m. subst (λ (z : Db). HasBoth z held.entry.0 k l) (sym (merged_db e f g ise isf a m)) (both_are_kept (db_in e) (db_in f) held.entry.0 k l a x y);
      either = λ g j m n. merged_db e f g ise isf a m ∙ either_way (db_in e) (db_in f) a ∙ sym (merged_db f e j isf ise b n);
    }
