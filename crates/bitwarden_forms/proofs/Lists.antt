-- Lists of values in memory, seen as data.
use Rattle.std.proofs.Common.{◌≡◌, ℕ, Bool, true, false, List, [], ◌∷◌, ◌+◌, ◌<◌, IfSome, Option, None, Some, Ok, Err, map, not, cond, suc, length, nat_lt, inl, inr, IsUtf8, refl, ap, sym, ◌∙◌}
use Rattle.std.proofs.lemmas.Bool.Decides.{Decides-ltb}
use Rattle.std.proofs.lemmas.List.Folds.{list_all-map}
use Rattle.std.specs.List.{list_all, list_any, position, prefix_len}
use Rattle.std.specs.Option.{ok_or, option_and_then, option_map, unwrap_or}
use Rattle.std.specs.Str.{is_utf8}
use Rattle.std.proofs.lemmas.Str.{IsUtf8-from_is_utf8, is_utf8-from_IsUtf8}
use Rattle.serde_json.specs.Read.{read}
use Rattle.serde_json.specs.Data.{Data}
use Rattle.serde_json.specs.Find.{as_array, as_str}
use Rattle.serde_json.specs.View.{items_view, view}
use Rattle.serde_json.specs.declared.value.Value.{Value}
use Rattle.uuid.specs.Text.{parsed}
use Rattle.vault_model.proofs.Tests.{any_map, decide}
use Rattle.bitwarden_forms.specs.Exports.{first_other, json_of}
use Rattle.bitwarden_forms.specs.Json.{elements, list_of}
use Rattle.bitwarden_forms.specs.Kinds.{has_id, holds, id_in, is_folder_id, is_list_of}
use Rattle.bitwarden_forms.specs.declared.fails.BitwardenFail.TheVariants as fail

pub listed : (xs : List Value) → list_of (items_view xs) ≡ map view xs
listed [] = refl
listed (x ∷ xs) = ap (λ ds. view x ∷ ds) (listed xs)

-- the values in a list
pub listed_elements : (d : Data) (xs : List Value) → Some (items_view xs) ≡ as_array d → map view xs ≡ elements d
listed_elements d xs e = sym (listed xs) ∙ ap (λ o. list_of (unwrap_or o (items_view []))) e

-- a list of values of one kind
pub list_is : (kind : Data → Bool) (d : Data) (xs : List Value) (b : Bool) → Some (items_view xs) ≡ as_array d → b ≡ list_all (λ v. kind (view v)) xs → b ≡ is_list_of kind d
list_is kind d xs b e is =
    is ∙ sym (list_all-map kind view xs) ∙ ap (list_all kind) (sym (listed xs)) ∙ ap (holds (λ items. list_all kind (list_of items))) e

-- the id of a folder
pub folder_is : (folders : List Value) (d : Data) (id : List ℕ) (b : Bool) → Some id ≡ as_str d → b ≡ list_any (λ v. has_id id (view v)) folders → b ≡ is_folder_id (map view folders) d
folder_is folders d id b e is = is ∙ sym (any_map view (has_id id) folders) ∙ ap (holds (λ text. list_any (has_id text) (map view folders))) e

-- a text that is no id
no_parse : (o : Option (List ℕ)) → (((u : List ℕ) × (o ≡ Some u)) → ⊥) → None ≡ o
no_parse None other = refl
no_parse (Some u) other = absurd (other (u, refl))

pub no_id : (d : Data) (text : List ℕ) → Some text ≡ as_str d → (((u : List ℕ) × (parsed text ≡ Some u)) → ⊥) → None ≡ id_in d
no_id d text e other = no_parse (parsed text) other ∙ ap (λ o. option_and_then parsed o) e

-- the place of the first value that passes a test
prefix_map : {A B : Type 0} (f : A → B) (test : B → Bool) (xs : List A) → prefix_len (λ x. test (f x)) xs ≡ prefix_len test (map f xs)
prefix_map f test [] = refl
prefix_map f test (x ∷ xs) = ap (λ n. cond (test (f x)) (1 + n) 0) (prefix_map f test xs)

length_map : {A B : Type 0} (f : A → B) (xs : List A) → length xs ≡ length (map f xs)
length_map f [] = refl
length_map f (x ∷ xs) = ap (λ n. suc n) (length_map f xs)

pub position_map : {A B : Type 0} (f : A → B) (test : B → Bool) (xs : List A) → position (λ x. test (f x)) xs ≡ position test (map f xs)
position_map f test xs =
    ap (λ n. cond (nat_lt n (length xs)) (Some n) None) (prefix_map f (λ y. not (test y)) xs)
    ∙ ap (λ n. cond (nat_lt (prefix_len (λ y. not (test y)) (map f xs)) n) (Some (prefix_len (λ y. not (test y)) (map f xs))) None) (length_map f xs)

-- bytes that are no JSON
pub bad_json : (bytes : List ℕ) → (IsUtf8 bytes → read bytes ≡ None) → json_of bytes ≡ Err fail.JsonForm
bad_json bytes none = elim (decide (is_utf8 bytes)) [
  | inl good ↦ ap (λ b. cond b (ok_or (read bytes) fail.JsonForm) (Err fail.JsonForm)) good ∙ ap (λ o. ok_or o fail.JsonForm) (none (IsUtf8-from_is_utf8 bytes good))
  | inr bad ↦ ap (λ b. cond b (ok_or (read bytes) fail.JsonForm) (Err fail.JsonForm)) bad
]

pub good_json : (bytes : List ℕ) (d : Data) → IsUtf8 bytes → read bytes ≡ Some d → json_of bytes ≡ Ok d
good_json bytes d utf8 is = ap (λ b. cond b (ok_or (read bytes) fail.JsonForm) (Err fail.JsonForm)) (is_utf8-from_IsUtf8 bytes utf8) ∙ ap (λ o. ok_or o fail.JsonForm) is

position_at : (b : Bool) (n m at : ℕ) → b ≡ nat_lt n m → cond b (Some n) None ≡ Some at → at < m
position_at true n m at is e = let same : n ≡ at = cc in rw (sym same) ((Decides-ltb n m).0 (sym is))
position_at false n m at is e = cc

pub position_within : {A : Type 0} (test : A → Bool) (xs : List A) (at : ℕ) → position test xs ≡ Some at → at < length xs
position_within test xs at e = position_at (nat_lt (prefix_len (λ x. not (test x)) xs) (length xs)) (prefix_len (λ x. not (test x)) xs) (length xs) at refl e

-- the number of the first of some values that is not of a kind
pub other_number : (kind : Data → Bool) (xs : List Value) (place number : Option ℕ)
    → place ≡ position (λ v. not (kind (view v))) xs → number ≡ option_map (λ at. at + 1) place → number ≡ first_other kind (map view xs)
other_number kind xs place number at is = is ∙ ap (option_map (λ n. n + 1)) (at ∙ position_map view (λ d. not (kind d)) xs)

-- a place in a list of so many
pub place_within : {A : Type 0} (test : A → Bool) (xs : List A) (place : Option ℕ) → place ≡ position test xs → IfSome place (λ at. at < length xs)
place_within test xs None e = tt
place_within test xs (Some at) e = position_within test xs at (sym e)
