-- An element that was read and is kept in its place.
use Rattle.std.specs.Prelude.{is_some, not, option_map}
use Rattle.std.proofs.Common.{◌≡◌, Bool, true, false, Option, None, Some, List, [], ◌∷◌, ◌++◌, map, refl, ap, subst, Result, Ok, Err}
use Rattle.outside_core.specs.Results.{◌>>=◌}
use Rattle.doc_forms.specs.declared.fails.DocFail.{DocFail}
use Rattle.doc_forms.specs.Refusals.{Returns}
use Rattle.doc_entries.proofs.DocWalk.Pieces.{carried}
use Rattle.doc_entries.specs.DocWalk.Steps.{Course, Rest, Steps, map_rest}

-- as it is kept
pub set_in : {X Y P Z : Type 0} {view : X → Y} {old new : Course} {rest : Rest Y} {x : X} {z : Z} (keep : Y → P)
    → Steps view old new (Ok x) rest → Steps (λ _. keep (view x)) old new (Ok z) (map_rest keep rest)
set_in keep steps = record {
  gives = ap (λ d. d >>= λ y. Ok (keep y.0, y.1)) steps.gives;
  left = steps.left;
  shorter = steps.shorter;
  setting = steps.setting;
}

-- what was put among others, as a part of what is known
pub put_among : {Z A P : Type 0} (keep : A → P) (v w : A) (r : Result Z DocFail) → Returns (λ _. v) r (Ok w) → Returns (λ _. keep v) r (Ok (keep w))
put_among keep v w (Ok z) puts = ap (λ d. d >>= λ y. Ok (keep y)) puts
put_among keep v w (Err e) puts = carried e (Ok w) _ (λ (never : Ok w ≡ Err e). cc) puts

-- the same, where the part is seen in another way
pub put_last : {Z X Y P : Type 0} (seen : List X → Y) (keep : Y → P) (xs ys : List X) (y : Y) (r : Result Z DocFail)
    → seen xs ≡ y → Returns (λ _. ys) r (Ok xs) → Returns (λ _. keep (seen ys)) r (Ok (keep y))
put_last {Y = Y} seen keep xs ys y r same puts = subst (λ (d : Y). Returns (λ _. keep (seen ys)) r (Ok (keep d))) same (put_among (λ zs. keep (seen zs)) ys xs r puts)

-- as many are seen where one more is put among them
pub one_more_seen : {X Y : Type 0} (seen : X → Y) (xs : List X) (x : X) → map seen (xs ++ x ∷ []) ≡ map seen xs ++ seen x ∷ []
one_more_seen seen [] x = refl
one_more_seen seen (z ∷ xs) x = ap (λ more. seen z ∷ more) (one_more_seen seen xs x)

-- there is one where one is seen
pub none_seen : {A B : Type 0} (f : A → B) (o : Option A) (b : Bool) → is_some o ≡ not b → b ≡ not (is_some (option_map f o))
none_seen f None true e = refl
none_seen f None false e = cc
none_seen f (Some x) true e = cc
none_seen f (Some x) false e = refl

-- a step where the same is said of whether there is one
pub same_fit : {X P : Type 0} {view : X → P} {old new : Course} {r : Result X DocFail} (rest : Bool → Rest P) {a b : Bool} → a ≡ b → Steps view old new r (rest a) → Steps view old new r (rest b)
same_fit {view = view} {old = old} {new = new} {r = r} rest e steps = subst (λ x. Steps view old new r (rest x)) e steps
