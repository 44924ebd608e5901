-- The item at the first index that passes a test taken out is the first that passes taken away.
use Rattle.std.proofs.Common.{◌≡◌, ◌<◌, ◌≤◌, ◌+◌, ◌-◌, ℕ, suc, arith, Bool, true, false, cond, List, [], ◌∷◌, None, Some, length, map, refl, sym, ap, ◌∙◌}
use Rattle.std.proofs.lemmas.Option.{same_Some}
use Rattle.std.specs.List.{position_from, remove}
use Rattle.std.specs.Str.{bytes_eq}
use Rattle.vault_model.specs.declared.contents.Attachment.{Attachment}
use Rattle.vault_model.specs.declared.contents.Field.{Field}
use Rattle.tree_core.proofs.Options.{never}

-- the field of a key
abbrev pub has_key : List ℕ → Field → Bool
has_key key f = bytes_eq key f.key

-- the attachment of a name
abbrev pub has_name : List ℕ → Attachment → Bool
has_name name a = bytes_eq name a.name

module _ {A B : Type 0} (see : A → B) (test : A → Bool) (without : List B → List B) (nothing : without [] ≡ [])
    (one : (x : A) (ys : List B) → without (see x ∷ ys) ≡ cond (test x) ys (see x ∷ without ys)) where
  abbrev seen : List A → List B
  seen xs = map see xs

  -- What is known of the index of the first that passes, counted from a start.
  record IsIndex (start found : ℕ) (xs : List A) : Type 0 where
    low : start ≤ found
    high : found < start + length xs
    takes : seen (remove xs (found - start)) ≡ without (seen xs)

  is_index : (start : ℕ) (xs : List A) (found : ℕ) → position_from test start xs ≡ Some found → IsIndex start found xs
  is_index start [] found e = never found e
  is_index start (x ∷ xs) found e = of (is_index (start + 1) xs found) (test x) refl
    where
      of : (position_from test (start + 1) xs ≡ Some found → IsIndex (start + 1) found xs) → (b : Bool) → test x ≡ b → IsIndex start found (x ∷ xs)
      of rest true p =
          let same : start ≡ found = same_Some start found (sym (ap (λ b. cond b (Some start) (position_from test (start + 1) xs)) p) ∙ e) in
          let none : found - start ≡ 0 = omega (arith, same) in
          record {
            low = omega (arith, same);
            high = omega (arith, same);
            takes = ap (λ n. seen (remove (x ∷ xs) n)) none ∙ sym (one x (seen xs) ∙ ap (λ b. cond b (seen xs) (see x ∷ without (seen xs))) p);
          }
      of rest false p =
          let r = rest (sym (ap (λ b. cond b (Some start) (position_from test (start + 1) xs)) p) ∙ e) in
          let low = r.low in
          let high = r.high in
          let next : found - start ≡ suc (found - (start + 1)) = omega (arith, low) in
          record {
            low = omega (arith, low);
            high = omega (arith, high);
            takes =
                ap (λ n. seen (remove (x ∷ xs) n)) next ∙ ap (λ (ys : List B). see x ∷ ys) r.takes
                ∙ sym (one x (seen xs) ∙ ap (λ b. cond b (seen xs) (see x ∷ without (seen xs))) p);
          }

  pub index_within : (xs : List A) (found : ℕ) → position_from test 0 xs ≡ Some found → found < length xs
  index_within xs found e = let high = (is_index 0 xs found e).high in omega (arith, high)

  pub removed_at : (xs ys : List A) (found : ℕ) → position_from test 0 xs ≡ Some found → ys ≡ remove xs found → seen ys ≡ without (seen xs)
  removed_at xs ys found e is =
      let all : found ≡ found - 0 = omega arith in
      ap seen is ∙ ap (λ n. seen (remove xs n)) all ∙ (is_index 0 xs found e).takes

  -- where none passes, nothing is taken away
  stays : (start : ℕ) (xs : List A) → position_from test start xs ≡ None → seen xs ≡ without (seen xs)
  stays start [] e = sym nothing
  stays start (x ∷ xs) e = of (stays (start + 1) xs) (test x) refl
    where
      of : (position_from test (start + 1) xs ≡ None → seen xs ≡ without (seen xs)) → (b : Bool) → test x ≡ b → seen (x ∷ xs) ≡ without (seen (x ∷ xs))
      of rest true p = never start (sym e ∙ ap (λ b. cond b (Some start) (position_from test (start + 1) xs)) p)
      of rest false p =
          ap (λ (ys : List B). see x ∷ ys) (rest (sym (ap (λ b. cond b (Some start) (position_from test (start + 1) xs)) p) ∙ e))
          ∙ sym (one x (seen xs) ∙ ap (λ b. cond b (seen xs) (see x ∷ without (seen xs))) p)

  pub not_there : (xs : List A) → position_from test 0 xs ≡ None → seen xs ≡ without (seen xs)
  not_there xs e = stays 0 xs e
