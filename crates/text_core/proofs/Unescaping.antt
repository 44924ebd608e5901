-- What raw markup stands for, part by part.
use Rattle.std.proofs.Common.{◌≡◌, ℕ, suc, ◌+◌, ◌<◌, ◌≤◌, Bool, true, false, cond, not, ◌&&◌, eqb, List, [], ◌∷◌, ◌++◌, length, take, drop, refl, ap, sym, ◌∙◌, append_assoc, one-add, add-one, append-nil, length-drop, true≢false, arith}
use Rattle.std.proofs.lemmas.List.{drop_all, drop-drop}
use Rattle.std.proofs.lemmas.Bool.{ne_eqb, eqb-true}
use Rattle.std.specs.List.{prefix_len}
use lib.Utf8.{encode}
use Rattle.markup_grammar.specs.Escapes.{returned, reference, unescaped, unescaped_from, character_of_reference, bytes_of}
use Rattle.text_core.specs.Fronts.{DiffersFirst}
use Rattle.text_core.specs.Parts.{is_plain, is_inside_reference}

nothing : unescaped [] ≡ []
unfolding unescaped_from
nothing = refl

-- nothing is left of raw markup
pub none_left : (rest : List ℕ) → eqb (length rest) 0 ≡ true → unescaped rest ≡ []
none_left [] e = nothing
none_left (b ∷ rest) e = absurd (omega (arith, eqb-true (length (b ∷ rest)) 0 e))

-- a `&` begins a reference
pub amp : (rest : List ℕ) → unescaped (38 ∷ rest) ≡ unescaped_from (reference []) rest
unfolding unescaped_from
amp rest = refl

-- the line feed behind a carriage return
pub with_feed : (bytes rest : List ℕ) → bytes ≡ 10 ∷ rest → unescaped_from returned bytes ≡ unescaped (drop 1 bytes)
unfolding unescaped_from
with_feed bytes rest e = rw e refl

-- a carriage return with none behind it
pub without_feed : (bytes : List ℕ) → DiffersFirst 10 bytes → unescaped_from returned bytes ≡ unescaped bytes
unfolding unescaped_from
without_feed [] other = refl
without_feed (b ∷ bytes) other = rw (ne_eqb b 10 other) refl

-- a line end
pub line_end : (raw rest : List ℕ) (n : ℕ) → raw ≡ 13 ∷ rest → unescaped_from returned rest ≡ unescaped (drop n rest) → unescaped raw ≡ encode 10 ++ unescaped (drop (n + 1) raw)
unfolding unescaped_from encode
line_end raw rest n e behind = rw (e, add-one) (ap (λ r. 10 ∷ r) behind)

not_either : (p q : Bool) → (not p && not q) ≡ true → (p ≡ false) × (q ≡ false)
not_either true q e = absurd (true≢false (sym e))
not_either false true e = absurd (true≢false (sym e))
not_either false false e = (refl, refl)

not_false : (p : Bool) → not p ≡ true → p ≡ false
not_false true e = absurd (true≢false (sym e))
not_false false e = refl

not_true : (p : Bool) → not p ≡ false → p ≡ true
not_true true e = refl
not_true false e = absurd (true≢false e)

plain_step : (b : ℕ) (bs : List ℕ) (k : ℕ) (t : Bool) → is_plain b ≡ t
    → unescaped bs ≡ take k bs ++ unescaped (drop k bs)
    → unescaped (b ∷ bs) ≡ take (cond t (1 + k) 0) (b ∷ bs) ++ unescaped (drop (cond t (1 + k) 0) (b ∷ bs))
unfolding unescaped_from is_plain
plain_step b bs k true e rest = let tests = not_either (eqb b 38) (eqb b 13) e in let amp_is : eqb b 38 ≡ false = tests.0 in let cr : eqb b 13 ≡ false = tests.1 in rw (one-add, amp_is, cr) (ap (λ r. b ∷ r) rest)
plain_step b bs k false e rest = refl

-- bytes that stand for themselves
pub plain_run : (bytes : List ℕ) → unescaped bytes ≡ take (prefix_len is_plain bytes) bytes ++ unescaped (drop (prefix_len is_plain bytes) bytes)
plain_run [] = refl
plain_run (b ∷ bs) = plain_step b bs (prefix_len is_plain bs) (is_plain b) refl (plain_run bs)

-- there is one, where neither a reference nor a line end begins
pub plain_some : (bytes : List ℕ) → DiffersFirst 38 bytes → DiffersFirst 13 bytes → 0 < length bytes → 0 < prefix_len is_plain bytes
unfolding is_plain
plain_some [] no_amp no_return some = absurd (omega arith)
plain_some (b ∷ bs) no_amp no_return some = rw (ne_eqb b 38 no_amp, ne_eqb b 13 no_return) (omega arith)

-- what is behind the bytes of a reference
abbrev closed : List ℕ → List ℕ → List ℕ
closed name [] = []
closed name (b ∷ rest) = bytes_of (character_of_reference name) ++ unescaped rest

inside_step : (acc : List ℕ) (b : ℕ) (bs : List ℕ) (k : ℕ) (t : Bool) → is_inside_reference b ≡ t
    → unescaped_from (reference (acc ++ b ∷ [])) bs ≡ closed ((acc ++ b ∷ []) ++ take k bs) (drop k bs)
    → unescaped_from (reference acc) (b ∷ bs) ≡ closed (acc ++ take (cond t (1 + k) 0) (b ∷ bs)) (drop (cond t (1 + k) 0) (b ∷ bs))
unfolding unescaped_from is_inside_reference
inside_step acc b bs k true e rest = let test : eqb b 59 ≡ false = not_false (eqb b 59) e in rw (one-add, test) (rest ∙ ap (λ n. closed n (drop k bs)) (append_assoc acc (b ∷ []) (take k bs)))
inside_step acc b bs k false e rest = let test : eqb b 59 ≡ true = not_true (eqb b 59) e in rw (test, append-nil) refl

reference_run : (acc bytes : List ℕ) → unescaped_from (reference acc) bytes ≡ closed (acc ++ take (prefix_len is_inside_reference bytes) bytes) (drop (prefix_len is_inside_reference bytes) bytes)
unfolding unescaped_from
reference_run acc [] = refl
reference_run acc (b ∷ bs) =
    inside_step acc b bs (prefix_len is_inside_reference bs) (is_inside_reference b) refl (reference_run (acc ++ b ∷ []) bs)

-- a reference that does not end
pub unended : (bytes : List ℕ) (n : ℕ) → n ≡ prefix_len is_inside_reference bytes → n ≡ length bytes → unescaped_from (reference []) bytes ≡ unescaped (drop (n + 1) (38 ∷ bytes))
unended bytes n e whole =
    let none : drop n bytes ≡ [] = drop_all n bytes (omega arith) in
    reference_run [] bytes ∙ (rw (← e, add-one, none) (sym nothing))

ended_at : (name rest : List ℕ) → 0 < length rest → closed name rest ≡ bytes_of (character_of_reference name) ++ unescaped (drop 1 rest)
ended_at name [] some = absurd (omega arith)
ended_at name (b ∷ rest) some = refl

-- a reference that ends
pub ended : (bytes : List ℕ) (n : ℕ) → n ≡ prefix_len is_inside_reference bytes → (n ≡ length bytes → ⊥) → n ≤ length bytes
    → unescaped_from (reference []) bytes ≡ bytes_of (character_of_reference (take n bytes)) ++ unescaped (drop (n + 2) (38 ∷ bytes))
ended bytes n e more within =
    reference_run [] bytes ∙ (rw (← e) (ended_at (take n bytes) (drop n bytes) (simp length-drop (omega arith)) ∙ ap (λ r. bytes_of (character_of_reference (take n bytes)) ++ unescaped r) (shifted bytes n)))
  where
    shifted : (bytes : List ℕ) (n : ℕ) → drop 1 (drop n bytes) ≡ drop (n + 2) (38 ∷ bytes)
    shifted bytes n = let e : n + 2 ≡ suc (n + 1) = omega arith in rw e (drop-drop 1 n bytes ∙ ap (λ k. drop k bytes) (omega arith))
