-- An element that was read and is kept in its place, or refused where there is one already.
use Rattle.std.specs.Prelude.{is_some, if◌then◌else◌, option_map}
use Rattle.std.specs.Result.{result_map_both}
use Rattle.std.proofs.Common.{◌≡◌, ℕ, Bool, true, false, Option, None, Some, refl, ap, ◌∙◌, Result, Ok, Err}
use Rattle.outside_core.specs.Results.{◌>>=◌}
use Rattle.markup_grammar.specs.Elements.{innermost, open_contents}
use Rattle.doc_forms.specs.declared.cursor.Cursor.{Cursor}
use Rattle.doc_forms.specs.declared.fails.DocFail.{DocFail}
use Rattle.doc_forms.specs.declared.fails.DocFail.TheVariants.{BadValue}
use Rattle.doc_forms.specs.Refusals.{Returns}
use Rattle.doc_groups.proofs.DocWalk.Pieces.{carried}
use Rattle.doc_groups.specs.DocWalk.Steps.{Course, Rest, Steps}

-- kept where there was none before
abbrev pub once : {P Q : Type 0} → Bool → ℕ → (Q → P) → Q × Cursor → Result (P × Cursor) DocFail
once known offset keep x = if known then Err (BadValue offset) else Ok (keep x.0, x.1)

abbrev pub once_rest : {P Q : Type 0} → Bool → ℕ → (Q → P) → Rest Q → Rest P
once_rest known offset keep rest s content cursor = rest s content cursor >>= once known offset keep

-- the first
pub first_one : {X Z P Q : Type 0} {view : X → Q} {old new : Course} {rest : Rest Q} {x : X} {z : Z} (known : Bool) (offset : ℕ) (keep : Q → P)
    → known ≡ false → Steps view old new (Ok x) rest → Steps (λ _. keep (view x)) old new (Ok z) (once_rest known offset keep rest)
first_one {view = view} {new = new} {x = x} known offset keep none steps = record {
  gives = ap (λ d. d >>= once known offset keep) steps.gives ∙ ap (λ b. once b offset keep (view x, new.cursor)) none;
  left = steps.left;
  shorter = steps.shorter;
  setting = steps.setting;
}

-- a second one
pub second_one : {X Z P Q : Type 0} {view : X → Q} {any : Z → P} {old new : Course} {rest : Rest Q} {x : X} (known : Bool) (offset : ℕ) (keep : Q → P)
    → known ≡ true → Steps view old new (Ok x) rest → Steps any old new (Err (BadValue offset)) (once_rest known offset keep rest)
second_one {view = view} {new = new} {x = x} known offset keep there steps = record {
  gives = ap (λ d. d >>= once known offset keep) steps.gives ∙ ap (λ b. once b offset keep (view x, new.cursor)) there;
  left = tt;
  shorter = tt;
  setting = steps.setting;
}

-- one that is refused itself
pub refused_one : {X Z P Q : Type 0} {view : X → Q} {any : Z → P} {old new : Course} {rest : Rest Q} {e : DocFail} (known : Bool) (offset : ℕ) (keep : Q → P)
    → Steps view old new (Err e) rest → Steps any old new (Err e) (once_rest known offset keep rest)
refused_one {old = old} {rest = rest} {e = e} known offset keep steps = record {
  gives = carried e (rest old.setting (innermost (open_contents old.answers)) old.cursor) _ (λ same. ap (λ d. d >>= once known offset keep) same) steps.gives;
  left = tt;
  shorter = tt;
  setting = steps.setting;
}

-- there is one where one is seen
pub same_some : {A B : Type 0} (f : A → B) (o : Option A) → is_some (option_map f o) ≡ is_some o
same_some f None = refl
same_some f (Some x) = refl

-- what is returned after a step of reading
pub read_after : {X Y : Type 0} (view : X → Y) (x : X) (read : Result (Unit {0}) DocFail) (result : Result X DocFail) (defined : Result Y DocFail)
    → result ≡ result_map_both (λ _. x) (λ e. e) read → Returns (λ _. view x) read defined → Returns view result defined
read_after view x (Ok z) result defined is gives = rw is gives
read_after view x (Err e) result defined is gives = rw is gives
