-- What is left of a text behind a front part, and the paths that are left behind the names of groups.
use Rattle.std.proofs.Common.{Bor, ◌≡◌, ◌≢◌, ◌==◌, ◌&&◌, ℕ, Bool, true, false, cond, List, [], ◌∷◌, ◌++◌, Option, Some, None, refl, sym, ap, ◌∙◌, append_assoc, append-nil}
use Rattle.std.specs.Prelude.{codes, bytes_eq, MatchOption}
use Rattle.std.specs.Option.{option_and_then, option_map}
use Rattle.std.proofs.lemmas.Bool.Decides.{Decides-eqb}
use Rattle.vault_model.specs.Walk.{slash_joined, slashed}
use Rattle.tree_core.specs.Path.{strip_prefix, strip_component, is_exactly}

-- ---- a text behind a front part

pub behind_both : (p q text : List ℕ) → strip_prefix (p ++ q) text ≡ option_and_then (strip_prefix q) (strip_prefix p text)
behind_both [] q text = refl
behind_both (b ∷ p) q [] = refl
behind_both (b ∷ p) q (c ∷ text) =
    elim (c == b) as (λ (same : Bool). cond same (strip_prefix (p ++ q) text) None ≡ option_and_then (strip_prefix q) (cond same (strip_prefix p text) None)) [
      | true ↦ behind_both p q text
      | false ↦ refl
    ]

-- behind two front parts at once, or behind one after the other
pub in_turn : (p q : List ℕ) (rest : Option (List ℕ)) → option_and_then (strip_prefix (p ++ q)) rest ≡ option_and_then (strip_prefix q) (option_and_then (strip_prefix p) rest)
in_turn p q None = refl
in_turn p q (Some text) = behind_both p q text

-- a text is a front part and a name where the name is left behind the front part
pub name_left : (p name text : List ℕ) → bytes_eq text (p ++ name) ≡ is_exactly name (strip_prefix p text)
name_left [] name text = refl
name_left (b ∷ p) name [] = refl
name_left (b ∷ p) name (c ∷ text) =
    elim (c == b) as (λ (same : Bool). (same && bytes_eq text (p ++ name)) ≡ is_exactly name (cond same (strip_prefix p text) None)) [
      | true ↦ name_left p name text
      | false ↦ refl
    ]

pub left_over : (p rest : List ℕ) → strip_prefix p (p ++ rest) ≡ Some rest
left_over [] rest = refl
left_over (b ∷ p) rest = ap (λ (same : Bool). cond same (strip_prefix p (p ++ rest)) None) ((Decides-eqb b b).1 refl) ∙ left_over p rest

-- what is left where a text does not begin so
unless : {A : Type 0} (same : Bool) (x : Option A) → (same ≡ true → x ≡ None) → cond same x None ≡ None
unless true x h = h refl
unless false x h = refl

pub nothing_left : (p text : List ℕ) → ((rest : List ℕ) → text ≢ p ++ rest) → strip_prefix p text ≡ None
nothing_left [] text h = absurd (h text refl)
nothing_left (b ∷ p) [] h = refl
nothing_left (b ∷ p) (c ∷ text) h =
    unless (c == b) (strip_prefix p text) (λ same. nothing_left p text (λ rest is. let e : c ≡ b = (Decides-eqb c b).0 same in h rest (cc (e, is))))

-- ---- the names of groups that lead to a node, each with a slash behind it

abbrev pub leading : List (List ℕ) → List ℕ
leading [] = []
leading (n ∷ ns) = (n ++ codes "/") ++ leading ns

slashed_last : (ns : List (List ℕ)) (x : List ℕ) → slashed (ns ++ x ∷ []) ≡ codes "/" ++ (leading ns ++ x)
slashed_last [] x = append-nil (codes "/" ++ x)
slashed_last (n ∷ ns) x = ap (λ ys. (codes "/" ++ n) ++ ys) (slashed_last ns x) ∙ simp append_assoc

-- a path is the names that lead to its node, and then the node's own
pub joined_last : (ns : List (List ℕ)) (x : List ℕ) → slash_joined (ns ++ x ∷ []) ≡ leading ns ++ x
joined_last [] x = append-nil x
joined_last (n ∷ ns) x = ap (λ ys. n ++ ys) (slashed_last ns x) ∙ simp append_assoc

leading_last : (ns : List (List ℕ)) (n : List ℕ) → leading (ns ++ n ∷ []) ≡ leading ns ++ (n ++ codes "/")
leading_last [] n = append-nil (n ++ codes "/")
leading_last (m ∷ ns) n = ap (λ ys. (m ++ codes "/") ++ ys) (leading_last ns n) ∙ simp append_assoc

-- what is left behind one name more
pub one_below : (front : List ℕ) (ns : List (List ℕ)) (n text : List ℕ)
    → strip_prefix (front ++ leading (ns ++ n ∷ [])) text ≡ strip_component n (strip_prefix (front ++ leading ns) text)
one_below front ns n text =
    ap (λ ys. strip_prefix (front ++ ys) text) (leading_last ns n)
    ∙ ap (λ ys. strip_prefix ys text) (sym (append_assoc front (leading ns) (n ++ codes "/")))
    ∙ behind_both (front ++ leading ns) (n ++ codes "/") text
    ∙ in_turn n (codes "/") (strip_prefix (front ++ leading ns) text)

-- a text is a path, perhaps behind a front part, where the node's name is left
pub path_left : (front : List ℕ) (ns : List (List ℕ)) (name text : List ℕ)
    → bytes_eq text (front ++ slash_joined (ns ++ name ∷ [])) ≡ is_exactly name (strip_prefix (front ++ leading ns) text)
path_left front ns name text =
    ap (λ ys. bytes_eq text (front ++ ys)) (joined_last ns name)
    ∙ ap (bytes_eq text) (sym (append_assoc front (leading ns) name))
    ∙ name_left (front ++ leading ns) name text

-- what a call on slices says
pub stripped : (front text : List ℕ) (rest : Option (Bor (List ℕ)))
    → MatchOption rest ((x : List ℕ) → text ≢ front ++ x) (λ x. text ≡ front ++ x.now)
    → option_map (λ x. x.now) rest ≡ strip_prefix front text
stripped front text None h = sym (nothing_left front text h)
stripped front text (Some rest) h = sym (left_over front rest.now) ∙ ap (strip_prefix front) (sym h)
