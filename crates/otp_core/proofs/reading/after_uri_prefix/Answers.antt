use Rattle.std.proofs.Common.{◌≡◌, ◌<◌, ℕ, List, length, take, ap, arith, Bool, true, false, refl, sym, bytes_eq}
use Rattle.std.specs.Cmp.Lexicographic.{same_text}
use Rattle.std.proofs.lemmas.List.{length-take}
use Rattle.otp_core.specs.Reading.{uri_prefix}
use Rattle.otp_core.proofs.reading.after_uri_prefix.Goals as goal

short : (text : List ℕ) (is : Bool) → length text < 15 → bytes_eq (take 15 text) uri_prefix ≡ is → is ≡ false
short text false below same = refl
short text true below same =
    let e : take 15 text ≡ uri_prefix = same_text (take 15 text) uri_prefix (sym same) in
    absurd (omega (arith, ap length e, length-take 15 text, below))

pub returns-then-text-lt15 : goal.returns-then-text-lt15
returns-then-text-lt15 c = short c.args.text.now _ c.if-text-lt15.true refl
