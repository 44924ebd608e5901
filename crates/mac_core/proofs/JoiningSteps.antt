-- How blocks are read one after another: what each answer of one reading says of the whole.
use Rattle.std.proofs.Common.{◌≡◌, ℕ, zero, suc, ◌+◌, ◌<◌, ◌≤◌, List, [], ◌∷◌, ◌++◌, length, refl, sym, ◌∙◌, ap, arith, All, Bool, true, false, cond, Result, Ok, Err}
use Rattle.std.proofs.lemmas.Bool.{eq-eqb, eqb-true}
use Rattle.std.proofs.lemmas.List.{append-nil, append_assoc}
use Rattle.std.proofs.lemmas.List.Elements.{All-head, All-tail}
use Rattle.mac_core.specs.Blocks.{IsContent, concat_contents}
use Rattle.mac_core.specs.Joining.{BlockRead, contents_from, written_blocks}
use Rattle.outside_core.specs.Results.{◌>>=◌}
use Rattle.std.specs.Prelude.{◌==◌}

-- a test that is not true is false
pub is_false : (t : Bool) → (t ≡ true → ⊥) → t ≡ false
is_false true h = absurd (h refl)
is_false false h = refl

module _ {E : Type 0} (read : ℕ → List ℕ → Result BlockRead E) (exhausted : E) where
  -- what is done with a block that was read, where n may follow
  abbrev next : ℕ → ℕ → List ℕ → BlockRead → Result (List ℕ) E
  next n i given b = cond (length b.content == 0) (Ok given) (contents_from read exhausted n (suc i) (given ++ b.content) b.rest)

  step : (n i : ℕ) (given bytes : List ℕ) (r : Result BlockRead E) → read i bytes ≡ r → contents_from read exhausted (suc n) i given bytes ≡ (r >>= next n i given)
  unfolding contents_from
  step n i given bytes r is = ap (λ (x : Result BlockRead E). x >>= next n i given) is

  -- a block that is refused
  pub refused : (n i : ℕ) (given bytes : List ℕ) (e : E) → read i bytes ≡ Err e → contents_from read exhausted (suc n) i given bytes ≡ Err e
  refused n i given bytes e is = step n i given bytes (Err e) is

  -- the end block
  pub ended : (n i : ℕ) (given bytes : List ℕ) (b : BlockRead) → read i bytes ≡ Ok b → length b.content ≡ 0 → contents_from read exhausted (suc n) i given bytes ≡ Ok given
  ended n i given bytes b is none =
      step n i given bytes (Ok b) is
      ∙ ap (λ (t : Bool). cond t (Ok given) (contents_from read exhausted n (suc i) (given ++ b.content) b.rest)) (eq-eqb (length b.content) 0 none)

  -- a block with a content
  pub goes_on : (n i : ℕ) (given bytes : List ℕ) (b : BlockRead) → read i bytes ≡ Ok b → 0 < length b.content
      → contents_from read exhausted (suc n) i given bytes ≡ contents_from read exhausted n (suc i) (given ++ b.content) b.rest
  goes_on n i given bytes b is some =
      let test : (length b.content == 0) ≡ false =
      is_false (length b.content == 0) (λ e. let none = eqb-true (length b.content) 0 e in absurd (omega (arith, none, some))) in
      step n i given bytes (Ok b) is
      ∙ ap (λ (t : Bool). cond t (Ok given) (contents_from read exhausted n (suc i) (given ++ b.content) b.rest)) test

  -- no block may be left
  pub runs_out : (i : ℕ) (given bytes : List ℕ) → contents_from read exhausted zero i given bytes ≡ Err exhausted
  unfolding contents_from
  runs_out i given bytes = refl

  -- Blocks as they are written are read as their contents, where each is.
  module _ (write : ℕ → List ℕ → List ℕ) (top : ℕ)
      (each : (i : ℕ) (content tail : List ℕ) → i < top → IsContent content → read i (write i content ++ tail) ≡ Ok (record { content = content; rest = tail })) where
    pub contents_from-written_blocks : (n i j k : ℕ) (given : List ℕ) (contents : List (List ℕ)) (rest : List ℕ) → All IsContent contents
        → n ≡ k + length contents → j ≡ i + length contents → j ≤ top
        → contents_from read exhausted n i given (written_blocks write i contents ++ rest) ≡ contents_from read exhausted k j (given ++ concat_contents contents) rest
    unfolding written_blocks
    contents_from-written_blocks n i j k given [] rest fine count due low =
        let same_n : n ≡ k = omega (arith, count) in
        let same_i : i ≡ j = omega (arith, due) in
        ap (λ (m : ℕ). contents_from read exhausted m i given rest) same_n
        ∙ ap (λ (m : ℕ). contents_from read exhausted k m given rest) same_i
        ∙ ap (λ (xs : List ℕ). contents_from read exhausted k j xs rest) (sym (append-nil given))
    contents_from-written_blocks zero i j k given (c ∷ cs) rest fine count due low = absurd (omega (arith, count))
    contents_from-written_blocks (suc n) i j k given (c ∷ cs) rest fine count due low =
        let is = All-head IsContent c cs fine in
        let some = is.0 in
        let b : BlockRead = record { content = c; rest = written_blocks write (suc i) cs ++ rest } in
        ap (λ (xs : List ℕ). contents_from read exhausted (suc n) i given xs) (append_assoc (write i c) (written_blocks write (suc i) cs) rest)
        ∙ goes_on n i given (write i c ++ (written_blocks write (suc i) cs ++ rest)) b (each i c (written_blocks write (suc i) cs ++ rest) (omega (arith, due, low)) is) some
        ∙ contents_from-written_blocks n (suc i) j k (given ++ c) cs rest (All-tail IsContent c cs fine) (omega (arith, count)) (omega (arith, due)) low
        ∙ ap (λ (xs : List ℕ). contents_from read exhausted k j xs rest) (append_assoc given c (concat_contents cs))
