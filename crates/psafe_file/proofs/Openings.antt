-- What a password opens, as a function and as a relation.
use Rattle.std.proofs.Common.{◌≡◌, ℕ, ◌≤◌, List, Bool, true, false, cond, Result, Ok, Err, refl, ap, bytes_eq, nat_lt}
use Rattle.std.proofs.lemmas.Bool.{le-ltb, ltb-false}
use Rattle.std.proofs.lemmas.Slice.Eq.{bytes_eq-Decides}
use Rattle.sha2.specs.Sha256.{sha256}
use Rattle.psafe_file.specs.Keys.{max_iterations, stretched_key}
use Rattle.psafe_file.specs.Opened.{SafeContent, content_of, iterations_check, opened_with, password_check, safe_outcome}
use Rattle.psafe_file.specs.SafeForms.{IsOpened}
use Rattle.psafe_file.specs.declared.fails.PsafeFail.{PsafeFail}
use Rattle.psafe_file.specs.declared.fails.PsafeFail.TheVariants as fail
use Rattle.psafe_file.proofs.SafeForms.{divided, read}
use Rattle.psafe_file.proofs.Steps.{both, each}

-- a number of iterations that is allowed
within : (count : ℕ) (u : Unit {0}) → iterations_check count ≡ Ok u → count ≤ max_iterations
within count u h = by (nat_lt max_iterations count) refl h
  where
    by : (b : Bool) → nat_lt max_iterations count ≡ b → ◌≡◌ {A = Result (Unit {0}) PsafeFail} (cond b (Err (fail.IterLimit count)) (Ok tt)) (Ok u)
        → count ≤ max_iterations
    by true e g = cc
    by false e g = ltb-false max_iterations count e

-- a hash that is the one that was found
right : (kept found : List ℕ) (u : Unit {0}) → password_check kept found ≡ Ok u → kept ≡ found
right kept found u h = by (bytes_eq kept found) refl h
  where
    by : (b : Bool) → bytes_eq kept found ≡ b → ◌≡◌ {A = Result (Unit {0}) PsafeFail} (cond b (Ok tt) (Err (fail.WrongPassword kept found))) (Ok u)
        → kept ≡ found
    by true e g = (bytes_eq-Decides kept found).0 e
    by false e g = cc

-- What is opened is as the relation says.
pub opened : (bytes password : List ℕ) (content : SafeContent) → safe_outcome bytes password ≡ Ok content → IsOpened bytes password content
unfolding safe_outcome opened_with
opened bytes password content h =
    let a = both _ _ content h in
    let b = both _ _ content a.1.1 in
    let c = both _ _ content b.1.1 in
    let file = a.0 in
    let content_is : content_of (stretched_key password file.preamble) file ≡ content = cc in
    record {
      file = file;
      is_file = divided bytes file a.1.0;
      limit = within file.preamble.iterations b.0 b.1.0;
      right = right file.preamble.check (sha256 (stretched_key password file.preamble)) c.0 c.1.0;
      content_is = content_is;
    }

-- What is as the relation says is opened.
pub given : (bytes password : List ℕ) (content : SafeContent) → IsOpened bytes password content → safe_outcome bytes password ≡ Ok content
unfolding safe_outcome opened_with
given bytes password content s =
    let file = s.file in
    let kept = file.preamble.check in
    let found = sha256 (stretched_key password file.preamble) in
    each _ _ file content (read bytes file s.is_file)
    (each _ _ tt content (ap (λ b. cond b (Err (fail.IterLimit file.preamble.iterations)) (Ok tt)) (le-ltb max_iterations file.preamble.iterations s.limit))
    (each _ _ tt content (ap (λ b. cond b (Ok tt) (Err (fail.WrongPassword kept found))) ((bytes_eq-Decides kept found).1 s.right)) (ap Ok s.content_is)))
