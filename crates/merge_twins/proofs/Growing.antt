-- What one more number adds to a copy.
use Rattle.std.proofs.Common.{append_assoc, ◌≡◌, ◌==◌, ◌+◌, ◌&&◌, ℕ, zero, suc, Bool, true, false, not, cond, List, [], ◌∷◌, ◌++◌, map, refl, sym, ap, ◌∙◌, arith}
use Rattle.std.proofs.lemmas.List.Elements.{filter-append}
use Rattle.std.specs.List.{filter, range_with_len}
use Rattle.vault_model.proofs.Tests.{map_append}
use Rattle.vault_model.specs.Db.{NodeId}
use Rattle.vault_model.specs.Shape.{EntryRecord}
use Rattle.merge_twins.specs.Rules.{row_if}
use Rattle.merge_twins.specs.Twins.{Rules, entries_in, group_tree, numbers, row_of, tomb_of, twin_tombs}

-- a list that grew by what the defined one grows by
pub grown : {A : Type 0} (new now old here before after : List A) → new ≡ now ++ here → now ≡ old ++ before → after ≡ before ++ here → new ≡ old ++ after
grown new now old here before after step so_far more =
    step ∙ ap (λ xs. xs ++ here) so_far ∙ append_assoc old before here ∙ ap (λ xs. old ++ xs) (sym more)

last_number : (a n j : ℕ) → a + n ≡ j → range_with_len a (suc n) ≡ range_with_len a n ++ j ∷ []
last_number a zero j e = let same : a ≡ j = omega arith in ap (λ x. x ∷ []) same
last_number a (suc n) j e = ap (λ xs. a ∷ xs) (last_number (a + 1) n j (omega arith))

numbers_more : (n : ℕ) → numbers (n + 1) ≡ numbers n ++ n ∷ []
numbers_more n =
    let on : n + 1 ≡ suc n = omega arith in
    ap (range_with_len 0) on ∙ last_number 0 n n (omega arith)

-- one number, filtered twice
twice : (p q : ℕ → Bool) (f : ℕ → NodeId × EntryRecord) (a b : Bool) (n : ℕ) → q n ≡ a → p n ≡ b
    → map f (filter p (filter q (n ∷ []))) ≡ cond (a && b) (f n ∷ []) []
twice p q f true true n e d = simp (e, d)
twice p q f true false n e d = simp (e, d)
twice p q f false b n e d = simp e

pub entries_more : (rules : Rules) (n g : ℕ) → entries_in rules (n + 1) g ≡ entries_in rules n g ++ row_if rules g n
entries_more rules n g =
    let in_group = λ (i : ℕ). rules.group i == g in
    let there = filter rules.is_there (numbers n) in
    let one = filter rules.is_there (n ∷ []) in
    ap (λ xs. map (row_of rules) (filter in_group (filter rules.is_there xs))) (numbers_more n)
    ∙ ap (λ xs. map (row_of rules) (filter in_group xs)) (filter-append rules.is_there (numbers n) (n ∷ []))
    ∙ ap (map (row_of rules)) (filter-append in_group there one)
    ∙ map_append (row_of rules) (filter in_group there) (filter in_group one)
    ∙ ap (λ xs. entries_in rules n g ++ xs) (twice in_group rules.is_there (row_of rules) (rules.is_there n) (in_group n) n refl refl)

once : (b : Bool) (n : ℕ) → map tomb_of (cond b (n ∷ []) []) ≡ cond b (tomb_of n ∷ []) []
once true n = refl
once false n = refl

pub tombs_more : (rules : Rules) (n : ℕ) → twin_tombs rules (n + 1) ≡ twin_tombs rules n ++ cond (not (rules.is_there n)) (tomb_of n ∷ []) []
tombs_more rules n =
    let gone = λ (i : ℕ). not (rules.is_there i) in
    ap (λ xs. map tomb_of (filter gone xs)) (numbers_more n)
    ∙ ap (map tomb_of) (filter-append gone (numbers n) (n ∷ []))
    ∙ map_append tomb_of (filter gone (numbers n)) (filter gone (n ∷ []))
    ∙ ap (λ xs. twin_tombs rules n ++ xs) (once (gone n) n)

pub groups_more : (rules : Rules) (count n : ℕ)
    → map (group_tree rules count) (numbers (n + 1)) ≡ map (group_tree rules count) (numbers n) ++ group_tree rules count n ∷ []
groups_more rules count n =
    ap (map (group_tree rules count)) (numbers_more n) ∙ map_append (group_tree rules count) (numbers n) (n ∷ [])
