-- What a new entry says is in order, and what an entry says that is changed.
use Rattle.std.proofs.Common.{◌≡◌, ◌&&◌, ℕ, zero, suc, ℤ, length, reverse, Bool, true, false, cond, List, [], ◌∷◌, Option, None, Some, inl, inr, refl, sym, ap, ◌∙◌}
use Rattle.std.specs.Prelude.{codes, slice_get}
use mathlib.Core.List.{reverse_aux}
use Rattle.std.proofs.lemmas.Option.{none-some, same_Some}
use Rattle.std.specs.FinMap.{entries}
use Rattle.std.specs.List.{list_all}
use Rattle.std.specs.Option.{unwrap_or}
use Rattle.std.specs.Str.{chars, is_utf8}
use Rattle.vault_model.specs.declared.metas.Meta.{Meta}
use Rattle.vault_model.specs.declared.metas.Protection.{Protection}
use Rattle.vault_model.specs.Bare.{BareContent, BareField}
use Rattle.vault_model.specs.Db.{Mark}
use Rattle.vault_model.specs.Join.{IsIn}
use Rattle.vault_model.specs.Proper.{is_proper_content, is_text_content, is_text_field, rises}
use Rattle.vault_model.specs.Shape.{BareVersion, EntryRecord, version_of, versions_of}
use Rattle.vault_model.specs.Tree.{is_proper_entry}
use Rattle.vault_model.proofs.Orders.{mark_order}
use Rattle.vault_model.proofs.Tests.{and_both, and_true, from_map}
use Rattle.merge_core.proofs.SoundDoc.{all_in, version_marks}
use Rattle.merge_core.proofs.Tables.{entry_get}
use Rattle.tree_core.specs.After.{changed_content}
use Rattle.tree_core.specs.Histories.{is_within, numbered_versions, rising_versions, version_numbered, versions_size, within_limits}
use Rattle.tree_core.specs.NewNodes.{GivenValues, field, new_content, new_entry, new_fields}
use Rattle.tree_contents.specs.Texts.{AreTexts, is_text_value}
use Rattle.tree_contents.proofs.ProperContents.{notes_key, password_key, text_field, title_key, url_key, user_key}

-- ---- a new entry

empty_text : is_utf8 [] ≡ true
unfolding is_utf8 chars lib.Utf8.encode
empty_text = refl

-- or it is empty
text_or_empty : (o : Option (List ℕ)) → is_text_value o ≡ true → is_utf8 (unwrap_or o []) ≡ true
text_or_empty None h = empty_text
text_or_empty (Some text) h = h

abbrev are_text_fields : List BareField → Bool
are_text_fields = list_all is_text_field

fields_text : (p : Protection) (title : List ℕ) (v : GivenValues) → is_utf8 title ≡ true → AreTexts v → are_text_fields (new_fields p title v) ≡ true
fields_text p title v named t =
    let fs4 = field (codes "UserName") (unwrap_or v.user []) p.user ∷ [] in
    let fs3 = field (codes "URL") (unwrap_or v.url []) p.url ∷ fs4 in
    let fs2 = field (codes "Title") title p.title ∷ fs3 in
    let fs1 = field (codes "Password") (unwrap_or v.password []) p.password ∷ fs2 in
    all (field (codes "Notes") (unwrap_or v.notes []) p.notes) fs1 (text_field (codes "Notes") (unwrap_or v.notes []) p.notes notes_key (text_or_empty v.notes t.notes))
    (all (field (codes "Password") (unwrap_or v.password []) p.password) fs2 (text_field (codes "Password") (unwrap_or v.password []) p.password password_key (text_or_empty v.password t.password))
    (all (field (codes "Title") title p.title) fs3 (text_field (codes "Title") title p.title title_key named)
    (all (field (codes "URL") (unwrap_or v.url []) p.url) fs4 (text_field (codes "URL") (unwrap_or v.url []) p.url url_key (text_or_empty v.url t.url))
    (all (field (codes "UserName") (unwrap_or v.user []) p.user) [] (text_field (codes "UserName") (unwrap_or v.user []) p.user user_key (text_or_empty v.user t.user)) refl))))
  where
    all : (f : BareField) (fs : List BareField) → is_text_field f ≡ true → are_text_fields fs ≡ true → are_text_fields (f ∷ fs) ≡ true
    all f fs here rest = and_both (is_text_field f) (are_text_fields fs) here rest

content_proper : (fields : List BareField) (now : ℕ) → rises (λ (f : BareField). f.key) fields ≡ true → are_text_fields fields ≡ true → is_proper_content (new_content fields now) ≡ true
unfolding is_proper_content is_utf8 chars lib.Utf8.encode
content_proper fields now rise text =
    ap (λ b. b && true && true && is_text_content (new_content fields now)) rise
    ∙ ap (λ b. b && true && true && true && true && true && true && true) text

pub new_entry_proper : (p : Protection) (title : List ℕ) (v : GivenValues) (now : ℕ) → is_utf8 title ≡ true → AreTexts v → is_proper_entry (new_entry (new_fields p title v) now) ≡ true
new_entry_proper p title v now named t =
    and_both (is_proper_content (new_content (new_fields p title v) now)) true (content_proper (new_fields p title v) now refl (fields_text p title v named t)) refl

-- ---- the history

module _ {A : Type 0} where
  all_of : (test : A → Bool) (xs : List A) → ((x : A) → IsIn x xs → test x ≡ true) → list_all test xs ≡ true
  all_of test [] f = refl
  all_of test (x ∷ xs) f = and_both (test x) (list_all test xs) (f x (inl refl)) (all_of test xs (λ y i. f y (inr i)))

abbrev proper : BareVersion → Bool
proper v = is_proper_content v.mark.content

rising_proper : (e : EntryRecord) → is_proper_entry e ≡ true → list_all proper (rising_versions e) ≡ true
rising_proper e h =
    all_of proper (rising_versions e) (λ v i.
    let row = from_map version_of (entries (versions_of e)) v i in
    let found = version_marks e row.0.0 row.0.1 (entry_get mark_order.total mark_order.same (versions_of e) row.0 row.1.0) in
    ap (λ (w : BareVersion). proper w) (sym row.1.1)
    ∙ ap (λ (k : Mark). is_proper_content k.content) found.1.1
    ∙ all_in proper (e.current ∷ e.history) found.0 h found.1.0)

suffix_proper : (items size : ℤ) (vs : List BareVersion) → list_all proper vs ≡ true → list_all proper (within_limits items size vs) ≡ true
suffix_proper items size [] h = refl
suffix_proper items size (v ∷ vs) h =
    let both = and_true (proper v) (list_all proper vs) h in
    let rest = suffix_proper items size vs both.1 in
    elim (is_within (length (v ∷ vs)) items && is_within (versions_size (v ∷ vs)) size) as (λ b. list_all proper (cond b (v ∷ vs) (within_limits items size vs)) ≡ true) [
      | true ↦ h
      | false ↦ rest
    ]

-- an entry that says something else
pub changed_content_proper : (meta : Meta) (says : BareContent → BareContent) (time : ℕ) (e : EntryRecord)
    → is_proper_content (says e.current.mark.content) ≡ true → is_proper_entry e ≡ true → is_proper_entry (changed_content meta says time e) ≡ true
changed_content_proper meta says time e good h =
    let s = meta.settings.value in
    and_both (is_proper_content (says e.current.mark.content)) (list_all proper (within_limits s.history_items s.history_size (rising_versions e)))
    good (suffix_proper s.history_items s.history_size (rising_versions e) (rising_proper e h))

-- a version of a number
reversed : (vs ws : List BareVersion) → list_all proper vs ≡ true → list_all proper ws ≡ true → list_all proper (reverse_aux vs ws) ≡ true
reversed [] ws h k = k
reversed (v ∷ vs) ws h k =
    let both = and_true (proper v) (list_all proper vs) h in
    reversed vs (v ∷ ws) both.1 (and_both (proper v) (list_all proper ws) both.0 k)

got : (vs : List BareVersion) (n : ℕ) (v : BareVersion) → list_all proper vs ≡ true → slice_get vs n ≡ Some v → proper v ≡ true
got [] n v h there = absurd (none-some v there)
got (w ∷ vs) zero v h there = ap proper (sym (same_Some w v there)) ∙ (and_true (proper w) (list_all proper vs) h).0
got (w ∷ vs) (suc n) v h there = got vs n v (and_true (proper w) (list_all proper vs) h).1 there

pub numbered_good : (number : ℕ) (e : EntryRecord) (v : BareVersion) → version_numbered number e ≡ Some v → is_proper_entry e ≡ true → is_proper_content v.mark.content ≡ true
numbered_good number e v there h =
    let both = and_true (proper e.current) (list_all proper e.history) h in
    got (numbered_versions e) number v (and_both (proper e.current) (list_all proper (reverse e.history)) both.0 (reversed e.history [] both.1 refl)) there
