-- Tests of what there is of several causes.
use Rattle.std.proofs.Common.{◌≡◌, Bool, true, false, Option, Some, None, refl}
use Rattle.std.specs.Prelude.{not, ◌||◌, if◌then◌else◌, is_some}
use Rattle.std.specs.Option.{option_map, option_or}

pub some_or : {A : Type 0} (a b : Option A) → is_some (option_or a b) ≡ (is_some a || is_some b)
some_or None b = refl
some_or (Some x) b = refl

pub some_if : {A : Type 0} (met : Bool) (x : A) → is_some (if met then Some x else None) ≡ met
some_if true x = refl
some_if false x = refl

pub none_if : {A B : Type 0} (met : Bool) (x : A) (y : B) → is_some (if met then None else Some x) ≡ not (is_some (if met then Some y else None))
none_if true x y = refl
none_if false x y = refl

pub some_mapped : {A B : Type 0} (f : A → B) (o : Option A) → is_some (option_map f o) ≡ is_some o
some_mapped f None = refl
some_mapped f (Some x) = refl

pub or_false : (b : Bool) → (b || false) ≡ b
or_false true = refl
or_false false = refl

pub or_true : (b : Bool) → (b || true) ≡ true
or_true true = refl
or_true false = refl
