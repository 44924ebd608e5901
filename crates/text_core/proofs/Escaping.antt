-- How a text is written, run by run.
use Rattle.std.proofs.Common.{◌≡◌, ℕ, ◌+◌, Bool, true, false, cond, List, [], ◌∷◌, ◌++◌, length, take, drop, refl, ap, sym, ◌∙◌, one-add, append-nil, append_assoc, length-append, arith}
use Rattle.std.proofs.lemmas.Bool.Decides.{nat_tests}
use Rattle.std.proofs.lemmas.List.{nil_from_length}
use Rattle.std.specs.List.{prefix_len}
use Rattle.markup_grammar.specs.Escapes.{escaped, escaped_byte}
use Rattle.text_core.specs.Parts.{is_verbatim}

as_it_is : (b : ℕ) → is_verbatim b ≡ true → escaped_byte b ≡ b ∷ []
unfolding is_verbatim escaped_byte
as_it_is b e = grind (arith, nat_tests)

verbatim_step : (b : ℕ) (bs : List ℕ) (k : ℕ) (t : Bool) → is_verbatim b ≡ t → escaped bs ≡ take k bs ++ escaped (drop k bs)
    → escaped (b ∷ bs) ≡ take (cond t (1 + k) 0) (b ∷ bs) ++ escaped (drop (cond t (1 + k) 0) (b ∷ bs))
verbatim_step b bs k true e rest = rw (one-add, as_it_is b e) (ap (λ r. b ∷ r) rest)
verbatim_step b bs k false e rest = refl

-- the bytes at its front that are written as they are
pub verbatim_run : (text : List ℕ) → escaped text ≡ take (prefix_len is_verbatim text) text ++ escaped (drop (prefix_len is_verbatim text) text)
verbatim_run [] = refl
verbatim_run (b ∷ bs) = verbatim_step b bs (prefix_len is_verbatim bs) (is_verbatim b) refl (verbatim_run bs)

-- a text split behind them
module _ (text front back : List ℕ) (n : ℕ) (run : n ≡ prefix_len is_verbatim text) (front_is : front ≡ take n text) (back_is : back ≡ drop n text) where
  pub split_written : escaped text ≡ front ++ escaped back
  split_written = verbatim_run text ∙ rw (← run, ← front_is, ← back_is) refl

  pub split_len : length front + length (escaped back) ≡ length (escaped text)
  split_len = sym (ap length split_written ∙ length-append front (escaped back))

  -- nothing is behind them
  pub whole_written : length back ≡ 0 → escaped text ≡ front
  whole_written end = split_written ∙ ap (λ r. front ++ escaped r) (nil_from_length back end) ∙ append-nil front

  -- a byte that is written otherwise is
  pub then_written : (b : ℕ) (after : List ℕ) → back ≡ b ∷ after → escaped text ≡ front ++ (escaped_byte b ++ escaped after)
  then_written b after is = split_written ∙ ap (λ r. front ++ escaped r) is

  pub then_len : (b : ℕ) (after : List ℕ) → back ≡ b ∷ after → length front + (length (escaped_byte b) + length (escaped after)) ≡ length (escaped text)
  then_len b after is = ap (λ k. length front + k) (sym (ap (λ r. length (escaped r)) is ∙ length-append (escaped_byte b) (escaped after))) ∙ split_len

-- what was put is followed by what is left
pub put_in_turn : (out front one more text : List ℕ) → text ≡ front ++ (one ++ more) → ((out ++ front) ++ one) ++ more ≡ out ++ text
put_in_turn out front one more text is =
    append_assoc (out ++ front) one more ∙ append_assoc out front (one ++ more) ∙ ap (λ r. out ++ r) (sym is)
