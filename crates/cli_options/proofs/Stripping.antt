-- What follows a prefix, as a call on texts says it.
use Rattle.std.proofs.Common.{Bor, ◌≡◌, ◌≢◌, ◌==◌, ℕ, Bool, true, false, cond, List, [], ◌∷◌, ◌++◌, Option, Some, None, refl, sym, ap, ◌∙◌}
use Rattle.std.specs.Prelude.{MatchOption}
use Rattle.std.specs.Option.{option_map}
use Rattle.std.proofs.lemmas.Bool.Decides.{Decides-eqb}
use Rattle.cli_options.specs.Prefixes.{strip_prefix}

-- A prefix that is there is stripped.
prefix_stripped : (p rest : List ℕ) → strip_prefix p (p ++ rest) ≡ Some rest
prefix_stripped [] rest = refl
prefix_stripped (b ∷ p) rest =
    ap (λ (same : Bool). cond same (strip_prefix p (p ++ rest)) None) ((Decides-eqb b b).1 refl) ∙ prefix_stripped p rest

-- Nothing follows where a text does not begin so.
unless : {A : Type 0} (same : Bool) (x : Option A) → (same ≡ true → x ≡ None) → cond same x None ≡ None
unless true x h = h refl
unless false x h = refl

not_stripped : (p text : List ℕ) → ((rest : List ℕ) → text ≢ p ++ rest) → strip_prefix p text ≡ None
not_stripped [] text h = absurd (h text refl)
not_stripped (b ∷ p) [] h = refl
not_stripped (b ∷ p) (c ∷ text) h =
    unless (c == b) (strip_prefix p text)
    (λ same. not_stripped p text (λ rest is. let e : c ≡ b = (Decides-eqb c b).0 same in h rest (cc (e, is))))

-- What a call answers that reports where a text begins so.
pub stripped : (prefix text : List ℕ) (rest : Option (Bor (List ℕ)))
    → MatchOption rest ((x : List ℕ) → text ≢ prefix ++ x) (λ x. text ≡ prefix ++ x.now)
    → option_map (λ x. x.now) rest ≡ strip_prefix prefix text
stripped prefix text None h = sym (not_stripped prefix text h)
stripped prefix text (Some rest) h = sym (prefix_stripped prefix rest.now) ∙ ap (strip_prefix prefix) (sym h)
