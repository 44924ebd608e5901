-- A copy that learns nothing breaks the law: in the example the second copy has a group that the first has not.
use Rattle.std.proofs.Common.{◌≡◌, ◌≤◌, ℕ, zero, suc, true, false, inl, inr, [], ◌∷◌, refl, sym, ap, subst, ◌∙◌, arith}
use Rattle.std.specs.List.{list_any}
use Rattle.std.specs.Str.{chars, is_utf8}
use Rattle.vault_model.specs.Db.{Db, holds}
use Rattle.vault_model.specs.Join.{is_id, join, IsIn, IsWithin}
use Rattle.vault_model.specs.Plans.{begin}
use Rattle.vault_model.specs.Proper.{is_proper_content, is_proper_group_content}
use Rattle.vault_model.specs.Tree.{BareDoc, IsDoc, db_in, node_ids}
use Rattle.vault_model.proofs.Ids.{id_itself}
use Rattle.vault_model.proofs.Tests.{any_true, apart}
use Rattle.merge_core.specs.Example.{as_it_was, copies, edited, home}
use Rattle.merge_core.proofs.ExampleAgrees.{example_agreed}
use Rattle.merge_core.proofs.PlanLaws.{join_one}
use Rattle.merge_core.proofs.SoundDoc.{holds_node, node_holds}
use Rattle.history_laws.specs.Mistakes.{ForgetfulCopiesAgree}

doc_before : IsDoc as_it_was
unfolding is_proper_content is_proper_group_content is_utf8 chars lib.Utf8.encode
doc_before = record {
  distinct = refl;
  no_nil = refl;
  levels = omega arith;
  tombs_rise = refl;
  tombs_apart = refl;
  entries_proper = refl;
  groups_proper = refl;
  icons_rise = refl;
  items_rise = refl;
  meta_texts = refl;
}

doc_edited : IsDoc edited
unfolding is_proper_content is_proper_group_content is_utf8 chars lib.Utf8.encode
doc_edited = record {
  distinct = refl;
  no_nil = refl;
  levels = omega arith;
  tombs_rise = refl;
  tombs_apart = refl;
  entries_proper = refl;
  groups_proper = refl;
  icons_rise = refl;
  items_rise = refl;
  meta_texts = refl;
}

-- the first replica has the first copy, all others the second
abbrev docs : ℕ → BareDoc
docs zero = as_it_was
docs (suc k) = edited

member : (k : ℕ) → IsIn (db_in (docs k)) copies
member zero = inl refl
member (suc k) = inr (inl refl)

within : (k : ℕ) → IsWithin (begin docs k).learned copies
within k x (inl is) = subst (λ (y : Db). IsIn y copies) is (member k)
within k x (inr none) = absurd none

joined : (k : ℕ) → db_in (begin docs k).doc ≡ join (begin docs k).learned
joined k = sym (join_one copies example_agreed (db_in (docs k)) (member k))

home_there : holds (db_in edited) home ≡ true
home_there = node_holds edited doc_edited home (inr (inr (inr (inr (inl refl)))))

home_not_there : holds (db_in as_it_was) home ≡ true → ⊥
home_not_there h = apart (list_any (is_id home) (node_ids as_it_was.tree)) (any_true (is_id home) (node_ids as_it_was.tree) home (holds_node as_it_was doc_before home h) (id_itself home)) refl

pub forgetful_copies_fail : ¬ ForgetfulCopiesAgree
forgetful_copies_fail law =
    let wrong : db_in edited ≡ join (db_in as_it_was ∷ []) = law copies (begin docs) 0 1 example_agreed within joined in
    let same : db_in edited ≡ db_in as_it_was = wrong ∙ join_one copies example_agreed (db_in as_it_was) (inl refl) in
    home_not_there (ap (λ (m : Db). holds m home) (sym same) ∙ home_there)
