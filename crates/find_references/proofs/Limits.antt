-- Steps within their limits.
use Rattle.std.proofs.Common.{◌≡◌, ◌≤◌, ◌<◌, ℕ, ◌+◌, Bool, true, false, true≢false, cond, List, [], ◌∷◌, ◌++◌, length, Result, Ok, Err, IsOk, IfOk, is_ok, refl, sym, ap, ap₂, ◌∙◌, arith, subst, append_assoc, append-nil, length-append}
use Rattle.std.specs.Prelude.{nat_le, nat_lt}
use Rattle.std.proofs.lemmas.Bool.Decides.{nat_tests}
use Rattle.outside_core.specs.Results.{◌>>=◌}
use Rattle.find_references.specs.declared.fail.FindFail.{FindFail}
use Rattle.find_references.specs.declared.fail.FindFail.TheVariants.{TooMuch}
use Rattle.find_references.specs.Laws.{IsWithinLimits, copied_in, sought_in, steps_over}
use Rattle.find_references.specs.Resolved.{MOST_BYTES, MOST_REFERENCES, Made, Step, after_steps, copied, resolved, sought}
use Rattle.vault_model.specs.Tree.{BareDoc}

-- what is made is within the limits
pub record Fits (made : Made) : Type 0 where
  pub references : made.references ≤ MOST_REFERENCES
  pub bytes : length made.text ≤ MOST_BYTES

-- what is made after some steps, were there no limits
abbrev pub unlimited : Made → List Step → Made
unlimited made ss = record { references = made.references + sought_in ss; text = made.text ++ copied_in ss }

-- a result is this one where it is within the limits, and only there is there one
abbrev pub IsExact : Made → Result Made FindFail → Type 0
IsExact target result = (Fits target → result ≡ Ok target) × (IsOk result → Fits target)

le_from : (m n : ℕ) → nat_le m n ≡ true → m ≤ n
le_from m n h = grind (arith, nat_tests)

above_from : (m n : ℕ) → nat_le m n ≡ false → n < m
above_from m n h = grind (arith, nat_tests)

lt_from : (m n : ℕ) → nat_lt m n ≡ true → m < n
lt_from m n h = grind (arith, nat_tests)

not_below_from : (m n : ℕ) → nat_lt m n ≡ false → n ≤ m
not_below_from m n h = grind (arith, nat_tests)

too_many : (a b c most : ℕ) → most < a + b → a + (b + c) ≤ most → ⊥
too_many a b c most h i = omega arith

-- a step that is taken where a test says so
taken : (b : Bool) (now target : Made) (fail : FindFail) (ss : List Step) → unlimited now ss ≡ target
    → (b ≡ true → IsExact (unlimited now ss) (after_steps ss now)) → (b ≡ false → Fits target → ⊥)
    → IsExact target ((cond b (Ok now) (Err fail)) >>= after_steps ss)
taken true now target fail ss same deep none = subst (λ t. IsExact t (after_steps ss now)) same (deep refl)
taken false now target fail ss same deep none = (λ fits. absurd (none refl fits), λ ok. absurd (true≢false (sym ok)))

pub exact_steps : (ss : List Step) (made : Made) → Fits made → IsExact (unlimited made ss) (after_steps ss made)
exact_steps [] made fits =
    let n : made.references + 0 ≡ made.references = omega arith in
    let same : unlimited made [] ≡ made = ap₂ (λ (k : ℕ) (t : List ℕ). record { references = k; text = t }) n (append-nil made.text) in
    (λ h. ap (λ (m : Made). Ok m) (sym same), λ ok. subst Fits (sym same) fits)
exact_steps (copied bytes ∷ ss) made fits =
    let n = length made.text + length bytes in
    let now : Made = record { references = made.references; text = made.text ++ bytes } in
    taken (nat_le n MOST_BYTES) now (unlimited made (copied bytes ∷ ss)) (TooMuch (MOST_BYTES + 1)) ss
    (ap (λ (t : List ℕ). record { references = made.references + sought_in ss; text = t }) (append_assoc made.text bytes (copied_in ss)))
    (λ yes. exact_steps ss now (record {
      references = fits.references;
      bytes = subst (λ k. k ≤ MOST_BYTES) (sym (length-append made.text bytes)) (le_from n MOST_BYTES yes);
    }))
    (λ no more. too_many (length made.text) (length bytes) (length (copied_in ss)) MOST_BYTES (above_from n MOST_BYTES no)
    (subst (λ k. k ≤ MOST_BYTES) (length-append made.text (bytes ++ copied_in ss) ∙ ap (λ k. length made.text + k) (length-append bytes (copied_in ss))) more.bytes))
exact_steps (sought ∷ ss) made fits =
    let now : Made = record { references = made.references + 1; text = made.text } in
    let n : made.references + 1 + sought_in ss ≡ made.references + (1 + sought_in ss) = omega arith in
    taken (nat_lt made.references MOST_REFERENCES) now (unlimited made (sought ∷ ss)) (TooMuch (MOST_REFERENCES + 1)) ss
    (ap (λ (k : ℕ). record { references = k; text = made.text ++ copied_in ss }) n)
    (λ yes. exact_steps ss now (record {
      references = let h = lt_from made.references MOST_REFERENCES yes in one_more made.references MOST_REFERENCES h;
      bytes = fits.bytes;
    }))
    (λ no more. too_many made.references 1 (sought_in ss) MOST_REFERENCES
    (no_more made.references MOST_REFERENCES (not_below_from made.references MOST_REFERENCES no)) more.references)
  where
    one_more : (m n : ℕ) → m < n → m + 1 ≤ n
    one_more m n h = omega arith

    no_more : (m n : ℕ) → n ≤ m → n < m + 1
    no_more m n h = omega arith

ok_first : (x : Result Made FindFail) → IsOk (x >>= λ m. Ok m.text) → IsOk x
ok_first (Ok m) ok = refl
ok_first (Err fail) ok = ok

value_first : (x : Result Made FindFail) (target : Made) → (IsOk x → x ≡ Ok target)
    → IfOk (x >>= λ m. Ok m.text) (λ bytes. bytes ≡ target.text)
value_first (Ok m) target h =
    let is = h refl in
    let same : m ≡ target = cc in
    ap (λ (x : Made). x.text) same
value_first (Err fail) target h = tt

pub within_limits : (doc : BareDoc) (text : List ℕ) → IsWithinLimits doc text
unfolding resolved
within_limits doc text =
    let ss = steps_over doc text in
    let start : Made = record { references = 0; text = [] } in
    let made = after_steps ss start in
    let exact = exact_steps ss start (record { references = omega arith; bytes = omega arith }) in
    let zero : 0 + sought_in ss ≡ sought_in ss = omega arith in record {
      is_ok = (
        λ ok. let fits = exact.1 (ok_first made ok) in (subst (λ k. k ≤ MOST_REFERENCES) zero fits.references, fits.bytes),
        λ limits. ap (λ (x : Result Made FindFail). is_ok (x >>= λ m. Ok m.text))
            (exact.0 (record { references = subst (λ k. k ≤ MOST_REFERENCES) (sym zero) limits.0; bytes = limits.1 })),
      );
      value = value_first made (unlimited start ss) (λ ok. exact.0 (exact.1 ok));
    }
