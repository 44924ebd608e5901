-- Names are counted one after another.
use Rattle.std.proofs.Common.{◌≡◌, ◌<◌, ◌≤◌, ◌+◌, ◌-◌, ◌^◌, ℕ, suc, Bool, true, false, cond, min, Option, Some, List, [], ◌∷◌, ◌++◌, length, refl, sym, ap, ◌∙◌, arith}
use Rattle.std.proofs.lemmas.Bool.Decides.{same_from_decides}
use Rattle.std.proofs.lemmas.List.{length-append}
use Rattle.std.proofs.lemmas.List.Elements.{filter-append}
use Rattle.std.proofs.lemmas.Slice.Eq.{bytes_eq-Decides}
use Rattle.std.specs.Bool.{Decides}
use Rattle.std.specs.BTreeMap.{get}
use Rattle.std.specs.Fmt.{decimal}
use Rattle.std.specs.List.{filter}
use Rattle.std.specs.Option.{unwrap_or}
use Rattle.std.specs.Ordering.{is_eq}
use Rattle.std.specs.Str.{bytes_eq}
use Rattle.vault_model.proofs.Ids.{is_same_id, same_id}
use Rattle.vault_model.specs.Db.{NodeId}
use Rattle.vault_model.specs.Orders.{bytes_cmp}
use Rattle.import_ids.specs.Counts.{GivesId, HasCounted, count_named, counted_in}
use Rattle.import_ids.specs.Ids.{entry_space, id_after, named_id}
use Rattle.import_ids.specs.Names.{EntryTexts, count_of, texts_name}
use Rattle.import_ids.specs.SeenNames.{name_bytes, name_cmp}
use Rattle.import_ids.specs.declared.counts.NameCounts.{NameCounts}
use Rattle.import_ids.specs.declared.names.EntryName.{EntryName}

flipped : {A : Type 0} (b : Bool) (x y : A) → Decides b (x ≡ y) → Decides b (y ≡ x)
flipped b x y d = (λ e. sym (d.0 e), λ e. d.1 (sym e))

same_test : (xs ys : List ℕ) → is_eq (bytes_cmp xs ys) ≡ bytes_eq ys xs
same_test xs ys = same_from_decides _ _ (λ e. same_id xs ys e, λ e. is_same_id xs ys e) (flipped _ ys xs (bytes_eq-Decides ys xs))

one_more : {A : Type 0} (b : Bool) (x : A) → length (cond b (x ∷ []) []) ≡ cond b 1 0
one_more true x = refl
one_more false x = refl

count_more : (name : List ℕ) (before : List EntryTexts) (texts : EntryTexts)
    → count_named name (before ++ texts ∷ []) ≡ count_named name before + cond (bytes_eq name (texts_name texts)) 1 0
count_more name before texts =
    let test : EntryTexts → Bool = λ other. bytes_eq name (texts_name other) in
    ap length (filter-append test before (texts ∷ []))
    ∙ length-append (filter test before) (filter test (texts ∷ []))
    ∙ ap (λ n. count_named name before + n) (one_more (test texts) texts)

kept_or_not : {A : Type 0} (b : Bool) (x : A) (xs : List A) (n : ℕ) → length xs ≤ n → length (cond b (x ∷ xs) xs) ≤ suc n
kept_or_not true x xs n few = omega (arith, few)
kept_or_not false x xs n few = omega (arith, few)

fewer : {A : Type 0} (test : A → Bool) (xs : List A) → length (filter test xs) ≤ length xs
fewer test [] = omega arith
fewer test (x ∷ xs) = kept_or_not (test x) x (filter test xs) (length xs) (fewer test xs)

module _ (before : List EntryTexts) (texts : EntryTexts) (name : EntryName) (old new : NameCounts) (number : ℕ)
    (named : name_bytes name ≡ texts_name texts)
    (was : HasCounted old before)
    (few : length before < 2 ^ 64 - 1)
    (more : number ≡ min (counted_in old.counts name + 1) (2 ^ 64 - 1))
    (put : (q : EntryName) → get name_cmp new.counts q ≡ cond (is_eq (name_cmp name q)) (Some number) (get name_cmp old.counts q)) where

  number_is : number ≡ count_of texts before + 1
  unfolding HasCounted
  number_is =
      let counted : counted_in old.counts name ≡ count_of texts before = was name ∙ ap (λ n. count_named n before) named in
      let bound = fewer (λ (other : EntryTexts). bytes_eq (texts_name texts) (texts_name other)) before in
      omega (arith, more, counted, bound, few)

  counted_more : (q : EntryName) → counted_in new.counts q ≡ count_named (name_bytes q) (before ++ texts ∷ [])
  unfolding HasCounted
  counted_more q = by_test (bytes_eq (name_bytes q) (texts_name texts)) refl
    where
      test_is : is_eq (name_cmp name q) ≡ bytes_eq (name_bytes q) (texts_name texts)
      test_is = same_test (name_bytes name) (name_bytes q) ∙ ap (bytes_eq (name_bytes q)) named
      by_test : (b : Bool) → bytes_eq (name_bytes q) (texts_name texts) ≡ b → counted_in new.counts q ≡ count_named (name_bytes q) (before ++ texts ∷ [])
      by_test true e =
          let same = (bytes_eq-Decides (name_bytes q) (texts_name texts)).0 e in
          ap (λ o. unwrap_or o 0) (put q ∙ ap (λ b. cond b (Some number) (get name_cmp old.counts q)) (test_is ∙ e))
          ∙ number_is
          ∙ ap (λ n. count_named n before + 1) (sym same)
          ∙ ap (λ b. count_named (name_bytes q) before + cond b 1 0) (sym e)
          ∙ sym (count_more (name_bytes q) before texts)
      by_test false e =
          ap (λ o. unwrap_or o 0) (put q ∙ ap (λ b. cond b (Some number) (get name_cmp old.counts q)) (test_is ∙ e))
          ∙ was q
          ∙ (omega arith)
          ∙ ap (λ b. count_named (name_bytes q) before + cond b 1 0) (sym e)
          ∙ sym (count_more (name_bytes q) before texts)

  pub gives : (own : Option NodeId) (made : NodeId) → made ≡ unwrap_or own (named_id entry_space (name_bytes name ++ decimal number)) → GivesId before own texts made new
  unfolding HasCounted id_after
  gives own made is = record {
    id = is ∙ ap (λ n. unwrap_or own (named_id entry_space (n ++ decimal number))) named
        ∙ ap (λ n. unwrap_or own (named_id entry_space (texts_name texts ++ decimal n))) number_is;
    counted = counted_more;
  }
