-- Names that are put after a text one by one.
use Rattle.std.proofs.Common.{◌≡◌, ◌⊎◌, inl, inr, ℕ, Bool, true, false, List, [], ◌∷◌, ◌++◌, codes, flat_map, map, refl, sym, ap, ◌∙◌, append_assoc, append-nil}
use Rattle.std.specs.Ordering.{is_ne}
use Rattle.std.specs.declared.cmp.Ordering.TheVariants.{Less, Equal, Greater}
use Rattle.vault_model.specs.Bare.{BareField}
use Rattle.vault_model.specs.Orders.{bytes_cmp, field_cmp}
use Rattle.cli_showing.specs.History.{comma_joined, name_if, names_changed}
use Rattle.cli_showing.specs.inside.Names.{first_changed, put_name, put_names}

pub put_more : (a b : List (List ℕ)) (s : List ℕ × Bool) → put_names (a ++ b) s ≡ put_names b (put_names a s)
put_more [] b s = refl
put_more (n ∷ ns) b s = put_more ns b (put_name s n)

-- Names after one that is there.
after_one : (names : List (List ℕ)) (t : List ℕ) → (put_names names (t, true)).0 ≡ t ++ flat_map (λ n. codes ", " ++ n) names
after_one [] t = sym (append-nil t)
after_one (n ∷ ns) t =
    let rest = flat_map (λ m. codes ", " ++ m) ns in
    after_one ns ((t ++ codes ", ") ++ n)
    ∙ append_assoc (t ++ codes ", ") n rest
    ∙ append_assoc t (codes ", ") (n ++ rest)
    ∙ ap (λ l. t ++ l) (sym (append_assoc (codes ", ") n rest))

-- All names, after a text at whose end there is none.
pub all_joined : (names : List (List ℕ)) (t : List ℕ) → (put_names names (t, false)).0 ≡ t ++ comma_joined names
all_joined [] t = sym (append-nil t)
all_joined (n ∷ ns) t =
    let rest = flat_map (λ m. codes ", " ++ m) ns in
    after_one ns ((t ++ []) ++ n)
    ∙ ap (λ l. (l ++ n) ++ rest) (append-nil t)
    ∙ append_assoc t n rest

-- ---- the first fields of two lists

pub passed_newer : (f g : BareField) (fs gs : List BareField) (s : List ℕ × Bool) → bytes_cmp f.key g.key ≡ Less
    → put_names (names_changed fs (g ∷ gs)) (put_names (first_changed f g) s) ≡ put_names (names_changed (f ∷ fs) (g ∷ gs)) s
passed_newer f g fs gs s e = rw e refl

pub passed_both : (f g : BareField) (fs gs : List BareField) (s : List ℕ × Bool) → bytes_cmp f.key g.key ≡ Equal
    → put_names (names_changed fs gs) (put_names (first_changed f g) s) ≡ put_names (names_changed (f ∷ fs) (g ∷ gs)) s
passed_both f g fs gs s e = rw e (sym (put_more (name_if (is_ne (field_cmp f g)) f.key) (names_changed fs gs) s))

pub passed_older : (f g : BareField) (fs gs : List BareField) (s : List ℕ × Bool) → bytes_cmp f.key g.key ≡ Greater
    → put_names (names_changed (f ∷ fs) gs) (put_names (first_changed f g) s) ≡ put_names (names_changed (f ∷ fs) (g ∷ gs)) s
passed_older f g fs gs s e = rw e refl

-- ---- one list at its end

only_newer : (newer : List BareField) → names_changed newer [] ≡ map (λ (f : BareField). f.key) newer
only_newer [] = refl
only_newer (f ∷ fs) = ap (λ (l : List (List ℕ)). f.key ∷ l) (only_newer fs)

pub one_left : (a b : List BareField) (s : List ℕ × Bool) → (a ≡ []) ⊎ (b ≡ [])
    → put_names (map (λ (f : BareField). f.key) b) (put_names (map (λ (f : BareField). f.key) a) s) ≡ put_names (names_changed a b) s
one_left a b s (inl e) = rw e refl
one_left a b s (inr e) = rw e (ap (λ (l : List (List ℕ)). put_names l s) (sym (only_newer a)))
