-- Tags joined one by one.
use Rattle.std.proofs.Common.{◌≡◌, ◌<◌, ◌+◌, ℕ, true, false, not, cond, List, [], ◌∷◌, ◌++◌, drop, length, get_or, refl, sym, ap, ◌∙◌}
use Rattle.std.proofs.lemmas.List.{append_assoc}
use Rattle.tree_core.specs.Tags.{is_among, joined_tags, tags_after, without_tags}
use Rattle.tree_core.proofs.Steps.{drop_next}

abbrev Tags : Type 0
Tags = List (List ℕ)

-- the text that tags are after a mark before the first of them
abbrev pub joined_from : List ℕ → Tags → List ℕ
joined_from mark [] = []
joined_from mark (tag ∷ tags) = mark ++ (tag ++ tags_after tags)

pub from_nothing : (tags : Tags) → joined_from [] tags ≡ joined_tags tags
from_nothing [] = refl
from_nothing (tag ∷ tags) = refl

from_mark : (tags : Tags) → joined_from (59 ∷ []) tags ≡ tags_after tags
from_mark [] = refl
from_mark (tag ∷ tags) = refl

module _ (tags others : Tags) (at : ℕ) (tag : List ℕ) (less : at < length tags) (is : tag ≡ get_or tags at tag) (text mark all : List ℕ)
    (h : text ++ joined_from mark (without_tags others (drop at tags)) ≡ all) where
  abbrev rest : Tags
  rest = without_tags others (drop (at + 1) tags)

  next_joined : text ++ joined_from mark (cond (not (is_among tag others)) (tag ∷ rest) rest) ≡ all
  next_joined = sym (ap (λ more. text ++ joined_from mark (without_tags others more)) (drop_next tags at tag less is)) ∙ h

  pub left_out : is_among tag others ≡ true → text ++ joined_from mark rest ≡ all
  left_out there = sym (ap (λ b. text ++ joined_from mark (cond (not b) (tag ∷ rest) rest)) there) ∙ next_joined

  pub written : (new : List ℕ) → is_among tag others ≡ false → new ≡ text ++ mark ++ tag → new ++ joined_from (59 ∷ []) rest ≡ all
  written new there same =
      ap (λ front. front ++ joined_from (59 ∷ []) rest) same
      ∙ ap (λ back. (text ++ mark ++ tag) ++ back) (from_mark rest)
      ∙ append_assoc (text ++ mark) tag (tags_after rest)
      ∙ append_assoc text mark (tag ++ tags_after rest)
      ∙ sym (ap (λ b. text ++ joined_from mark (cond (not b) (tag ∷ rest) rest)) there)
      ∙ next_joined
