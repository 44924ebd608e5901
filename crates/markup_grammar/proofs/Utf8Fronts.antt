-- The front that the machine of UTF-8 passes over.
use Rattle.std.proofs.Common.{◌≡◌, ℕ, suc, ◌+◌, ◌<◌, ◌≤◌, Option, Some, None, List, [], ◌∷◌, ◌++◌, length, take, IsUtf8, refl, sym, ap, ◌∙◌, subst, append-nil, add-one, arith}
use Rattle.markup_grammar.specs.Utf8.{Partial, none_left, one, two, two_low, two_high, three, three_low, three_high, utf8_step, utf8_run, utf8_front_from, utf8_front, BeginsUtf8, IsUtf8Front}
use Rattle.markup_grammar.proofs.Utf8Texts.{Ends, run_nil, run_on, run_off, run_ends, run-from_IsUtf8}
use Rattle.std.proofs.lemmas.Str.{IsUtf8-nil}

-- the least bytes that complete a character
abbrev pub completing : Partial → List ℕ
completing none_left = []
completing one = 0x80 ∷ []
completing two = 0x80 ∷ 0x80 ∷ []
completing two_low = 0x80 ∷ 0x80 ∷ []
completing two_high = 0xA0 ∷ 0x80 ∷ []
completing three = 0x80 ∷ 0x80 ∷ 0x80 ∷ []
completing three_low = 0x80 ∷ 0x80 ∷ 0x80 ∷ []
completing three_high = 0x90 ∷ 0x80 ∷ 0x80 ∷ []

completes : (state : Partial) (past : List ℕ) → Ends state past → IsUtf8 (past ++ completing state)
completes none_left past h = let P : List ℕ → Type 0 = λ xs. IsUtf8 xs in subst P (sym (append-nil past)) h
completes one past h = h 0x80 (omega arith, omega arith)
completes two past h = h 0x80 0x80 (omega arith, omega arith) (omega arith, omega arith)
completes two_low past h = h 0x80 0x80 (omega arith, omega arith) (omega arith, omega arith)
completes two_high past h = h 0xA0 0x80 (omega arith, omega arith) (omega arith, omega arith)
completes three past h = h 0x80 0x80 0x80 (omega arith, omega arith) (omega arith, omega arith) (omega arith, omega arith)
completes three_low past h = h 0x80 0x80 0x80 (omega arith, omega arith) (omega arith, omega arith) (omega arith, omega arith)
completes three_high past h = h 0x90 0x80 0x80 (omega arith, omega arith) (omega arith, omega arith) (omega arith, omega arith)

-- bytes that may stand there are completed to a text
pub run_completes : (bytes : List ℕ) (last : Partial) → utf8_run bytes none_left ≡ Some last → IsUtf8 (bytes ++ completing last)
run_completes bytes last h = completes last bytes (run_ends bytes none_left last [] IsUtf8-nil h)

-- one run behind another
pub run_append : (xs ys : List ℕ) (state last : Partial) → utf8_run xs state ≡ Some last → utf8_run (xs ++ ys) state ≡ utf8_run ys last
run_append [] ys state last h =
    let same : Some state ≡ Some last = sym (run_nil state) ∙ h in
    let is : state ≡ last = cc in ap (λ s. utf8_run ys s) is
run_append (x ∷ xs) ys state last h = by_turn (utf8_step state x) refl (λ after. run_append xs ys after last)
  where
    by_turn : (turn : Option Partial) → utf8_step state x ≡ turn → ((after : Partial) → utf8_run xs after ≡ Some last → utf8_run (xs ++ ys) after ≡ utf8_run ys last) → utf8_run (x ∷ (xs ++ ys)) state ≡ utf8_run ys last
    by_turn None is further = let none : None ≡ Some last = sym (run_off state x xs is) ∙ h in absurd (cc)
    by_turn (Some after) is further =
        run_on state x (xs ++ ys) after is ∙ further after (sym (run_on state x xs after is) ∙ h)

-- bytes that may not stand there, whatever follows
pub run_append_none : (xs ys : List ℕ) (state : Partial) → utf8_run xs state ≡ None → utf8_run (xs ++ ys) state ≡ None
run_append_none [] ys state h = let none : Some state ≡ None = sym (run_nil state) ∙ h in absurd (cc)
run_append_none (x ∷ xs) ys state h = by_turn (utf8_step state x) refl (λ after. run_append_none xs ys after)
  where
    by_turn : (turn : Option Partial) → utf8_step state x ≡ turn → ((after : Partial) → utf8_run xs after ≡ None → utf8_run (xs ++ ys) after ≡ None) → utf8_run (x ∷ (xs ++ ys)) state ≡ None
    by_turn None is further = run_off state x (xs ++ ys) is
    by_turn (Some after) is further =
        run_on state x (xs ++ ys) after is ∙ further after (sym (run_on state x xs after is) ∙ h)

-- bytes that begin a text may stand there
pub begins_utf8_runs : (bytes : List ℕ) → BeginsUtf8 bytes → utf8_run bytes none_left ≡ None → ⊥
begins_utf8_runs bytes (more, is) h =
    let none : Some none_left ≡ None = sym (run-from_IsUtf8 (bytes ++ more) is) ∙ run_append_none bytes more none_left h in cc

pub front_nil : (state : Partial) → utf8_front_from state [] ≡ 0
unfolding utf8_front_from
front_nil state = refl

pub front_on : (state : Partial) (b : ℕ) (rest : List ℕ) (after : Partial) → utf8_step state b ≡ Some after → utf8_front_from state (b ∷ rest) ≡ utf8_front_from after rest + 1
unfolding utf8_front_from
front_on state b rest after is = rw is refl

pub front_off : (state : Partial) (b : ℕ) (rest : List ℕ) → utf8_step state b ≡ None → utf8_front_from state (b ∷ rest) ≡ 0
unfolding utf8_front_from
front_off state b rest is = rw is refl

-- n bytes may stand there, and one more may not
pub record Stops (state : Partial) (text : List ℕ) (n : ℕ) : Type 0 where
  pub within : n ≤ length text
  pub last : Partial
  pub runs : utf8_run (take n text) state ≡ Some last
  pub stops : n < length text → utf8_run (take (n + 1) text) state ≡ None

pub front_stops : (state : Partial) (text : List ℕ) → Stops state text (utf8_front_from state text)
front_stops state [] =
    let P : ℕ → Type 0 = λ n. Stops state [] n in
    subst P (sym (front_nil state)) (record { within = omega arith; last = state; runs = run_nil state; stops = λ lt. absurd (omega arith) })
front_stops state (b ∷ text) = by_turn (utf8_step state b) refl (λ after. front_stops after text)
  where
    by_turn : (turn : Option Partial) → utf8_step state b ≡ turn → ((after : Partial) → Stops after text (utf8_front_from after text)) → Stops state (b ∷ text) (utf8_front_from state (b ∷ text))
    by_turn None is further =
        let P : ℕ → Type 0 = λ n. Stops state (b ∷ text) n in
        subst P (sym (front_off state b text is)) (record { within = omega arith; last = state; runs = run_nil state; stops = λ lt. run_off state b [] is })
    by_turn (Some after) is further =
        let h : Stops after text (utf8_front_from after text) = further after in
        let within : utf8_front_from after text ≤ length text = h.within in
        let seam : suc (utf8_front_from after text) + 1 ≡ suc (utf8_front_from after text + 1) = omega arith in
        let P : ℕ → Type 0 = λ n. Stops state (b ∷ text) n in
        let longer : suc (utf8_front_from after text) ≡ utf8_front_from state (b ∷ text) = sym (add-one _) ∙ sym (front_on state b text after is) in
        subst P longer
        (record {
          within = omega arith;
          last = h.last;
          runs = run_on state b (take (utf8_front_from after text) text) after is ∙ h.runs;
          stops = λ lt. ap (λ k. utf8_run (take k (b ∷ text)) state) seam ∙ run_on state b (take (utf8_front_from after text + 1) text) after is ∙ h.stops (omega arith);
        })

-- past bytes that may stand there, the front goes on
pub front_append : (xs ys : List ℕ) (state last : Partial) → utf8_run xs state ≡ Some last → utf8_front_from state (xs ++ ys) ≡ length xs + utf8_front_from last ys
front_append [] ys state last h =
    let same : Some state ≡ Some last = sym (run_nil state) ∙ h in
    let is : state ≡ last = cc in
    let e : utf8_front_from state ys ≡ utf8_front_from last ys = ap (λ s. utf8_front_from s ys) is in omega arith
front_append (x ∷ xs) ys state last h = by_turn (utf8_step state x) refl (λ after. front_append xs ys after last)
  where
    by_turn : (turn : Option Partial) → utf8_step state x ≡ turn → ((after : Partial) → utf8_run xs after ≡ Some last → utf8_front_from after (xs ++ ys) ≡ length xs + utf8_front_from last ys) → utf8_front_from state (x ∷ (xs ++ ys)) ≡ suc (length xs) + utf8_front_from last ys
    by_turn None is further = let none : None ≡ Some last = sym (run_off state x xs is) ∙ h in absurd (cc)
    by_turn (Some after) is further =
        let one_on : utf8_front_from state (x ∷ (xs ++ ys)) ≡ utf8_front_from after (xs ++ ys) + 1 = front_on state x (xs ++ ys) after is in
        let rest : utf8_front_from after (xs ++ ys) ≡ length xs + utf8_front_from last ys = further after (sym (run_on state x xs after is) ∙ h) in
        omega arith

-- the front is the longest that begins a text
pub utf8_fronts : (text : List ℕ) → IsUtf8Front text (utf8_front text)
utf8_fronts text =
    let h : Stops none_left text (utf8_front text) = front_stops none_left text in
    record {
      within = h.within;
      begins = (completing h.last, run_completes (take (utf8_front text) text) h.last h.runs);
      longest = λ lt begins. begins_utf8_runs _ begins (h.stops lt);
    }
