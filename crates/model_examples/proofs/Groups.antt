-- The order of what two groups say.
use Rattle.std.proofs.Common.{◌≡◌, ℕ, suc, ◌==◌, if◌then◌else◌, [], ◌∷◌, map, replicate, Ordering, Less, Equal, Greater, refl}
use Rattle.vault_model.specs.declared.contents.GroupContent.{GroupContent}
use Rattle.vault_model.specs.declared.contents.Tri.TheVariants.{Inherit, No, Yes}
use Rattle.vault_model.specs.Orders.{group_content_cmp, item_cmp}
use Rattle.model_examples.proofs.Parts.{icon_id, item, number, word}

-- what a group says, of which the part of that number, counted from 0, is greater than where no part is
abbrev content : ℕ → GroupContent
content greater = record {
  created = number (greater == 0);
  expiry = number (greater == 1);
  expires = greater == 2;
  name = word (greater == 3);
  notes = word (greater == 4);
  icon = number (greater == 5);
  custom_icon = icon_id (greater == 6);
  sequence = word (greater == 7);
  auto_type = if greater == 8 then Yes else No;
  searching = if greater == 9 then No else Inherit;
  items = item (greater == 10) ∷ [];
  tags = word (greater == 11);
}

-- the order of two such contents
abbrev order : ℕ → ℕ → Ordering
order one other = group_content_cmp (content one) (content other)

-- Of two contents the one whose greater part is listed first is the greater, and the last is without such a part.
parts_in_their_order : map (λ part. order part (suc part)) (0 ∷ 1 ∷ 2 ∷ 3 ∷ 4 ∷ 5 ∷ 6 ∷ 7 ∷ 8 ∷ 9 ∷ 10 ∷ 11 ∷ [])
    ≡ replicate 12 Greater
unfolding group_content_cmp item_cmp
parts_in_their_order = refl

same_contents : order 12 12 ≡ Equal
unfolding group_content_cmp item_cmp
same_contents = refl

least_and_greatest : order 12 0 ≡ Less
unfolding group_content_cmp item_cmp
least_and_greatest = refl
