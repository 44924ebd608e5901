-- By every profile that is asked for a password can be chosen.
use Rattle.std.proofs.Common.{◌≡◌, ◌≢◌, ⊎_elim, refl, sym, ap, ap₂, subst, ◌∙◌, arith, ℕ, suc, ◌+◌, ◌<◌, ◌≤◌, nat_le, nat_lt, Bool, true, false, not, ◌&&◌, ◌==◌, cond, List, [], ◌∷◌, ◌++◌, length, filter, drop, get_or, encode_utf8, append_assoc, Option, None, Some}
use Rattle.std.specs.Prelude.{All, IfSome}
use Rattle.std.specs.List.{AllByRecursion, AllPairs, IsDistinct, list_all}
use Rattle.std.specs.Option.{option_and_then, option_map}
use Rattle.std.proofs.lemmas.Bool.{cases_lt, leb-true, ltb-true}
use Rattle.std.proofs.lemmas.Bool.Decides.{Decides-eqb}
use Rattle.std.proofs.lemmas.List.Elements.{All-cons, All-filter}
use Rattle.std.proofs.lemmas.List.Kept.{AllPairs-filter}
use Rattle.std.proofs.lemmas.List.Sums.{count_by-le-length, length-filter}
use Rattle.std.proofs.lemmas.Map.Made.{AllPairs-from_IsDistinct}
use Rattle.std.proofs.lemmas.Str.{encode_ascii}
use Rattle.std.proofs.Math.Seq.{drop-cons}
use Rattle.gen_core.specs.Chosen.{IsAlphabet}
use Rattle.cli_options.specs.declared.forms.CommandOption.TheVariants as option
use Rattle.cli_options.specs.Numbers.{number_of}
use Rattle.cli_options.specs.Said.{Said, is_given, text_of}
use Rattle.cli_profiles.specs.Generating.{generated_in, has_profile_option, profile_alone}
use Rattle.cli_profiles.specs.Profiles.{IsProfile, alphabet_of, as_length, characters, is_wanted, length_asked, profile_in, profile_with}
use Rattle.cli_profiles.specs.declared.profiles.PasswordProfile.{PasswordProfile}

-- The two parts of a test that is met.
parts : (a b : Bool) → (a && b) ≡ true → (a ≡ true) × (b ≡ true)
parts true b h = (refl, h)
parts false b h = cc

unmet : (a : Bool) → not a ≡ true → a ≡ false
unmet true h = cc
unmet false h = refl

-- Tests of whole lists.
abbrev are_distinct : List ℕ → Bool
are_distinct [] = true
are_distinct (x ∷ xs) = list_all (λ y. not (x == y)) xs && are_distinct xs

apart : (x : ℕ) (xs : List ℕ) → list_all (λ y. not (x == y)) xs ≡ true → AllByRecursion (λ y. (x == y) ≡ false) xs
apart x [] h = tt
apart x (y ∷ ys) h = let both = parts _ _ h in (unmet _ both.0, apart x ys both.1)

distinct : (xs : List ℕ) → are_distinct xs ≡ true → IsDistinct ◌==◌ xs
unfolding IsDistinct
distinct [] h = tt
distinct (x ∷ xs) h = let both = parts _ _ h in (apart x xs both.0, distinct xs both.1)

-- The characters are distinct.
pub characters_differ : AllPairs (λ x y. x ≢ y) characters
characters_differ = AllPairs-from_IsDistinct Decides-eqb characters (distinct characters refl)

low : (xs : List ℕ) → list_all (λ x. nat_lt x 128) xs ≡ true → All (λ x. x < 128) xs
low [] h = λ k d within. absurd (omega arith)
low (x ∷ xs) h = let both = parts _ _ h in All-cons (λ x. x < 128) x xs (ltb-true _ _ both.0) (low xs both.1)

-- Each of them is one of ASCII.
pub characters_low : All (λ b. b < 128) characters
characters_low = low characters refl

-- One character more of those that are wanted.
pub one_kept : (wanted : ℕ → Bool) (items kept all pushed : List ℕ) (i : ℕ) → i < length items → get_or items i 0 < 128
    → wanted (get_or items i 0) ≡ true → pushed ≡ kept ++ encode_utf8 (get_or items i 0)
    → kept ++ filter wanted (drop i items) ≡ all → pushed ++ filter wanted (drop (i + 1) items) ≡ all
one_kept wanted items kept all pushed i inside ascii is_wanted is so_far =
    let e : i + 1 ≡ suc i = omega arith in
    ap₂ ◌++◌ (is ∙ ap (λ (bytes : List ℕ). kept ++ bytes) (encode_ascii (get_or items i 0) ascii)) (ap (λ (k : ℕ). filter wanted (drop k items)) e)
    ∙ append_assoc kept (get_or items i 0 ∷ []) (filter wanted (drop (suc i) items))
    ∙ sym (ap (λ (rest : List ℕ). kept ++ rest)
    (ap (filter wanted) (drop-cons items i 0 inside)
    ∙ ap (λ (b : Bool). cond b (get_or items i 0 ∷ filter wanted (drop (suc i) items)) (filter wanted (drop (suc i) items))) is_wanted))
    ∙ so_far

-- One that is not wanted.
pub none_kept : (wanted : ℕ → Bool) (items kept all : List ℕ) (i : ℕ) → i < length items → wanted (get_or items i 0) ≡ false
    → kept ++ filter wanted (drop i items) ≡ all → kept ++ filter wanted (drop (i + 1) items) ≡ all
none_kept wanted items kept all i inside not_wanted so_far =
    let e : i + 1 ≡ suc i = omega arith in
    ap (λ (k : ℕ). kept ++ filter wanted (drop k items)) e
    ∙ sym (ap (λ (rest : List ℕ). kept ++ rest)
    (ap (filter wanted) (drop-cons items i 0 inside)
    ∙ ap (λ (b : Bool). cond b (get_or items i 0 ∷ filter wanted (drop (suc i) items)) (filter wanted (drop (suc i) items))) not_wanted))
    ∙ so_far

-- The characters that are wanted are distinct.
kept_differ : (wanted : ℕ → Bool) (i j : ℕ) → i < length (filter wanted characters) → j < length (filter wanted characters)
    → get_or (filter wanted characters) i 0 ≡ get_or (filter wanted characters) j 0 → i ≡ j
kept_differ wanted i j inside within same =
    ⊎_elim (λ less. absurd (differ i j 0 less within same))
    (λ more. ⊎_elim (λ less. absurd (differ j i 0 less inside (sym same))) (λ equal. omega arith) (cases_lt j i))
    (cases_lt i j)
  where
    differ : AllPairs (λ x y. x ≢ y) (filter wanted characters)
    differ = AllPairs-filter (λ x y. x ≢ y) wanted characters characters_differ

few_kept : (wanted : ℕ → Bool) → length (filter wanted characters) ≤ 94
few_kept wanted = subst (λ n. n ≤ 94) (sym (length-filter wanted characters)) (count_by-le-length wanted characters)

-- A length that is asked for is one.
abbrev IsLength : Option ℕ → Type 0
IsLength length = IfSome length (λ n. (0 < n) × (n ≤ 4096))

checked : (n : ℕ) → IsLength (as_length n)
checked n = by (nat_le 1 n) refl (nat_le n 4096) refl
  where
    by : (a : Bool) → nat_le 1 n ≡ a → (b : Bool) → nat_le n 4096 ≡ b → IsLength (cond (a && b) (Some n) None)
    by true some true few = (leb-true 1 n some, leb-true n 4096 few)
    by true some false few = tt
    by false some b few = tt

checked_length : (text : Option (List ℕ)) → IsLength (length_asked text)
checked_length None = (omega arith, omega arith)
checked_length (Some text) = by (number_of 4 text)
  where
    by : (number : Option ℕ) → IsLength (option_and_then as_length number)
    by None = tt
    by (Some n) = checked n

-- A profile that is asked for is one.
abbrev IfProfile : Option PasswordProfile → Type 0
IfProfile profile = IfSome profile IsProfile

profile_of : (length : Option ℕ) (alphabet : List ℕ) (wanted : ℕ → Bool) → IsLength length → filter wanted characters ≡ alphabet
    → IfProfile (profile_with length alphabet)
profile_of None alphabet wanted l e = tt
profile_of (Some n) [] wanted l e = tt
profile_of (Some n) (c ∷ cs) wanted l e = record {
  alphabet = subst IsAlphabet e record {
    some = subst (λ (text : List ℕ). 0 < length text) (sym e) (omega arith);
    few = few_kept wanted;
    distinct = kept_differ wanted;
  };
  ascii = subst (All (λ b. b < 128)) e (All-filter wanted (λ b. b < 128) characters characters_low);
  some = l.0;
  few = l.1;
}

pub asked_profile : (said : Said) → IfProfile (profile_in said)
asked_profile said = profile_of _ (alphabet_of said) (is_wanted said) (checked_length (text_of option.Length said)) refl

pub is_profile : (said : Said) (profile : PasswordProfile) → profile_in said ≡ Some profile → IsProfile profile
is_profile said profile e = subst IfProfile e (asked_profile said)

-- The same where the password of an entry is generated.
abbrev IfEither : Option (Option PasswordProfile) → Type 0
IfEither profile = IfSome profile IfProfile

alone : (said : Said) → IfEither (profile_alone said)
alone said = by (is_given option.EntryPassword said) (profile_in said) (asked_profile said)
  where
    by : (b : Bool) (profile : Option PasswordProfile) → IfProfile profile → IfEither (cond b None (option_map Some profile))
    by true profile h = tt
    by false None h = tt
    by false (Some profile) h = h

pub generated_profile : (said : Said) → IfEither (generated_in said)
generated_profile said = by (is_given option.Generate said) (has_profile_option said)
  where
    by : (a b : Bool) → IfEither (cond a (profile_alone said) (cond b None (Some None)))
    by true b = alone said
    by false true = tt
    by false false = tt

pub is_generated : (said : Said) (profile : PasswordProfile) → generated_in said ≡ Some (Some profile) → IsProfile profile
is_generated said profile e = subst IfEither e (generated_profile said)

-- A length and characters, of which there are some.
pub with_some : (n : ℕ) (alphabet : List ℕ) → length alphabet ≢ 0
    → profile_with (Some n) alphabet ≡ Some (record { length = n; alphabet = alphabet })
with_some n [] h = absurd (h refl)
with_some n (c ∷ cs) h = refl
