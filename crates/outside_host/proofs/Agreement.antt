-- Which answers agree, part by part.
use Rattle.std.proofs.Common.{◌≡◌, Bool, true, false, ◌&&◌, ◌||◌, ◌==◌, not, List, [], ◌∷◌, ℕ, ◌<◌, ◌++◌, length, take, drop, Option, None, Some, is_none, option_map, Decides, refl, ap, ◌∙◌, arith}
use Rattle.std.specs.Str.{bytes_eq}
use Rattle.std.specs.FinMap.{get}
use Rattle.std.specs.Cmp.{unsigned_Decides}
use Rattle.std.proofs.lemmas.List.{take_at, length-take-le}
use Rattle.std.proofs.lemmas.Slice.Eq.{bytes_eq-Decides}
use Rattle.outside_core.specs.Files.{window_of}
use Rattle.outside_host.specs.Answers.{has, begins_with}
use Rattle.outside_host.specs.Agreement.{FillAgrees, LengthAgrees, MissingAgrees, ReadAgrees, WindowAgrees}
use Rattle.outside_host.proofs.Answers.{begins}

missing : (o : Option (List ℕ)) → Decides (is_none o) (o ≡ None)
missing None = (λ e. refl, λ e. refl)
missing (Some bytes) = (λ e. cc, λ e. cc)

pub missing_agrees : MissingAgrees
missing_agrees name files = missing (get files name)

long : (o : Option (List ℕ)) (len : ℕ) → Decides (has (λ bytes. length bytes == len) o) (option_map length o ≡ Some len)
long None len = (λ e. cc, λ e. cc)
long (Some bytes) len =
    (λ e. ap Some ((unsigned_Decides (length bytes) len).0 e), λ e. (unsigned_Decides (length bytes) len).1 (let same : length bytes ≡ len = cc in same))

pub length_agrees : LengthAgrees
length_agrees name len files = long (get files name) len

is_it : (o : Option (List ℕ)) (it : List ℕ) → Decides (has (λ bytes. bytes_eq bytes it) o) (o ≡ Some it)
is_it None it = (λ e. cc, λ e. cc)
is_it (Some bytes) it =
    (λ e. ap Some ((bytes_eq-Decides bytes it).0 e), λ e. (bytes_eq-Decides bytes it).1 (let same : bytes ≡ it = cc in same))

pub window_agrees : WindowAgrees
window_agrees name from out read files = is_it (window_of files name from (length out)) (take read out)

front : (bytes left : List ℕ) (n : ℕ) → length bytes ≡ n → Decides (begins_with bytes left) (left ≡ bytes ++ drop n left)
front bytes left n is = (
  λ e. begins bytes left n is e,
  λ e. (bytes_eq-Decides (take (length bytes) left) bytes).1 (ap (take (length bytes)) e ∙ take_at bytes (drop n left) (length bytes) refl),
)

pub fill_agrees : FillAgrees
fill_agrees out left = front out left (length out) refl

empty : (left : List ℕ) → Decides (length left == 0) (left ≡ [])
empty left = (λ e. none left ((unsigned_Decides (length left) 0).0 e), λ e. (unsigned_Decides (length left) 0).1 (ap length e)) where
  none : (left : List ℕ) → length left ≡ 0 → left ≡ []
  none [] e = refl
  none (b ∷ rest) e = absurd (let e : length (b ∷ rest) ≡ 0 = e in omega (arith, e))

either : (a b c : Bool) (A B C : Type 0) → Decides a A → Decides b B → Decides c C → Decides (not a || b || c) (A → (B → ⊥) → C)
either false b c A B C is_a is_b is_c = (λ e it no. let e : false ≡ true = is_a.1 it in cc, λ h. refl)
either true true c A B C is_a is_b is_c = (λ e it no. absurd (no (is_b.0 refl)), λ h. refl)
either true false c A B C is_a is_b is_c = (λ e it no. is_c.0 e, λ h. is_c.1 (h (is_a.0 refl) (λ it. let e : false ≡ true = is_b.1 it in cc)))

both : (a b : Bool) (A B : Type 0) → Decides a A → Decides b B → Decides (a && b) (A × B)
both true b A B is_a is_b = (λ e. (is_a.0 refl, is_b.0 e), λ h. is_b.1 h.1)
both false b A B is_a is_b = (λ e. cc, λ h. is_a.1 h.0)

ends : (read room : ℕ) (left : List ℕ) → Decides (not (read == 0) || room == 0 || length left == 0) (read ≡ 0 → 0 < room → left ≡ [])
ends read room left =
    let is = either (read == 0) (room == 0) (length left == 0) (read ≡ 0) (room ≡ 0) (left ≡ []) (unsigned_Decides read 0) (unsigned_Decides room 0) (empty left) in
    (λ e none more. is.0 e none (λ e. omega (arith, e, more)), λ h. is.1 (λ none some. h none (omega (arith, positive room some)))) where
      positive : (room : ℕ) → (room ≡ 0 → ⊥) → 0 < room
      positive room some = omega (arith, some)

pub read_agrees : ReadAgrees
read_agrees out read left fits =
    both (begins_with (take read out) left) (not (read == 0) || length out == 0 || length left == 0) (left ≡ take read out ++ drop read left) (read ≡ 0 → 0 < length out → left ≡ [])
    (front (take read out) left read (length-take-le read out fits)) (ends read (length out) left)
