-- An item put into its place in a list that is in some order.
use Rattle.std.specs.Prelude.{List, [], ◌∷◌}
use Rattle.std.specs.declared.cmp.Ordering.{Ordering}
use Rattle.vault_model.specs.Unite.{by_order}

-- A list with a new item before the first that the new one is below; one that is like the new item
-- is made one with it.
abbrev pub put_in_order : {A : Type 0} → (A → Ordering) → A → (A → A) → List A → List A
put_in_order order new joined [] = new ∷ []
put_in_order order new joined (x ∷ xs) =
    by_order (order x) (new ∷ x ∷ xs) (joined x ∷ xs) (x ∷ put_in_order order new joined xs)
