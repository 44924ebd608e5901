-- The passwords that an item had are all among the rising ones.
use Rattle.std.proofs.Common.{◌≡◌, ◌⊎◌, inl, inr, ℕ, List, [], ◌∷◌, map, refl, sym, ap, subst, ◌∙◌}
use Rattle.std.specs.declared.cmp.Ordering.{Ordering}
use Rattle.std.specs.declared.cmp.Ordering.TheVariants.{Equal, Greater, Less}
use Rattle.bitwarden_items.specs.Passwords.{EarlierPassword, earlier_cmp, put_beside, put_password, put_passwords}
use Rattle.vault_model.proofs.Orders.{bytes_order, nat_order, pairs_order}
use Rattle.vault_model.specs.Join.{IsIn}

one_password : (p q : EarlierPassword) → earlier_cmp p q ≡ Equal → q ≡ p
one_password p q e =
    ap (λ (x : ℕ × List ℕ). let made : EarlierPassword = record { date = x.0; password = x.1 } in made)
    (sym ((pairs_order nat_order bytes_order).same (p.date, p.password) (q.date, q.password) e))

new_beside : (o : Ordering) (p q : EarlierPassword) (qs after : List EarlierPassword) → earlier_cmp p q ≡ o → IsIn p after → IsIn p (put_beside o p q qs after)
new_beside Less p q qs after e is = inl refl
new_beside Equal p q qs after e is = inl (one_password p q e)
new_beside Greater p q qs after e is = inr is

put_has : (p : EarlierPassword) (qs : List EarlierPassword) → IsIn p (put_password p qs)
put_has p [] = inl refl
put_has p (q ∷ qs) = new_beside (earlier_cmp p q) p q qs (put_password p qs) refl (put_has p qs)

old_beside : (o : Ordering) (x p q : EarlierPassword) (qs after : List EarlierPassword) → IsIn x (q ∷ qs) → (IsIn x qs → IsIn x after) → IsIn x (put_beside o p q qs after)
old_beside Less x p q qs after is later = inr is
old_beside Equal x p q qs after is later = is
old_beside Greater x p q qs after (inl is) later = inl is
old_beside Greater x p q qs after (inr is) later = inr (later is)

put_keeps : (x p : EarlierPassword) (qs : List EarlierPassword) → IsIn x qs → IsIn x (put_password p qs)
put_keeps x p [] is = absurd is
put_keeps x p (q ∷ qs) is = old_beside (earlier_cmp p q) x p q qs (put_password p qs) is (put_keeps x p qs)

all_keep : (x : EarlierPassword) (ps qs : List EarlierPassword) → IsIn x qs → IsIn x (put_passwords ps qs)
all_keep x [] qs is = is
all_keep x (p ∷ ps) qs is = all_keep x ps (put_password p qs) (put_keeps x p qs is)

pub all_have : (x : EarlierPassword) (ps qs : List EarlierPassword) → IsIn x ps → IsIn x (put_passwords ps qs)
all_have x [] qs is = absurd is
all_have x (p ∷ ps) qs (inl is) = all_keep x ps (put_password p qs) (subst (λ (y : EarlierPassword). IsIn y (put_password p qs)) is (put_has p qs))
all_have x (p ∷ ps) qs (inr is) = all_have x ps (put_password p qs) is

-- what is in a list is in its map
pub in_map : {A B : Type 0} (f : A → B) (x : A) (xs : List A) → IsIn x xs → IsIn (f x) (map f xs)
in_map f x [] is = absurd is
in_map f x (y ∷ ys) (inl is) = inl (ap f is)
in_map f x (y ∷ ys) (inr is) = inr (in_map f x ys is)

-- what is in a map is of something in the list
pub from_map : {A B : Type 0} (f : A → B) (z : B) (xs : List A) → IsIn z (map f xs) → (x : A) × IsIn x xs × (f x ≡ z)
from_map f z [] is = absurd is
from_map f z (y ∷ ys) (inl is) = (y, inl refl, is)
from_map f z (y ∷ ys) (inr is) = let found = from_map f z ys is in (found.0, inr found.1, found.2)
