-- The front that begins UTF-8, told by the place and the length of std's fault.
use Rattle.std.proofs.Common.{◌≡◌, ℕ, ◌+◌, ◌<◌, ◌≤◌, Bool, true, false, cond, Option, Some, None, List, [], ◌∷◌, length, take, drop, slice_index, get_or-drop, ltb, IsUtf8, refl, sym, ap, ◌∙◌, subst, take-append-drop, append-nil, length-take-le, length-drop, arith, ne_eqb, take-add}
use Rattle.std.proofs.lemmas.Bool.{cond-true, cond-false, le-ltb, false_from_ne_true}
use Rattle.std.proofs.lemmas.Bool.Decides.{nat_tests}
use Rattle.std.proofs.lemmas.Str.{IsUtf8-append}
use Rattle.std.specs.Int.{is_in_range}
use Rattle.std.specs.Str.{IsValidUpTo}
use Rattle.std.specs.Str.Lossy.{second_byte_min, second_byte_max, error_len_of_some, error_len_after_one, error_len_after_two, utf8_error_len}
use Rattle.markup_grammar.specs.Utf8.{Partial, none_left, one, two, two_low, two_high, three, three_low, three_high, lies_in, utf8_step, utf8_front_from, utf8_front}
use Rattle.markup_grammar.proofs.Utf8Table.{Steps, step_tells, lies_test, lies_tells}
use Rattle.markup_grammar.proofs.Utf8Texts.{run_nil, run_on, run-from_IsUtf8, IsUtf8-from_run}
use Rattle.markup_grammar.proofs.Utf8Fronts.{front_nil, front_on, front_off, front_append}

-- where a character has begun: between which bytes the next one lies, and what is left behind it
abbrev least : Partial → ℕ
least two_high = 0xA0
least three_high = 0x90
least _ = 0x80

abbrev most : Partial → ℕ
most two_low = 0x9F
most three_low = 0x8F
most _ = 0xBF

abbrev left : Partial → Partial
left none_left = none_left
left one = none_left
left two = one
left two_low = one
left two_high = one
left three = two
left three_low = two
left three_high = two

abbrev HasBegun : Partial → Type 0
HasBegun none_left = ⊥
HasBegun _ = Unit {0}

step_by : (u : Partial) (b : ℕ) → HasBegun u → utf8_step u b ≡ cond (lies_in (least u) (most u) b) (Some (left u)) None
unfolding utf8_step
step_by none_left b begun = absurd begun
step_by one b begun = refl
step_by two b begun = refl
step_by two_low b begun = refl
step_by two_high b begun = refl
step_by three b begun = refl
step_by three_low b begun = refl
step_by three_high b begun = refl

step_in : (u : Partial) (b : ℕ) → HasBegun u → lies_in (least u) (most u) b ≡ true → utf8_step u b ≡ Some (left u)
step_in u b begun h = step_by u b begun ∙ cond-true _ _ _ h

step_out : (u : Partial) (b : ℕ) → HasBegun u → lies_in (least u) (most u) b ≡ false → utf8_step u b ≡ None
step_out u b begun h = step_by u b begun ∙ cond-false _ _ _ h

-- a first byte's facts, as std has them
leads : (b : ℕ) (u : Partial) → HasBegun u → Steps none_left b u → lies_in 0xC2 0xF4 b ≡ true
leads b none_left begun is = absurd begun
leads b one begun is = lies_test 0xC2 0xF4 b (omega arith, omega arith)
leads b two begun is = lies_test 0xC2 0xF4 b (omega arith, omega arith)
leads b two_low begun is = lies_test 0xC2 0xF4 b (omega arith, omega arith)
leads b two_high begun is = lies_test 0xC2 0xF4 b (omega arith, omega arith)
leads b three begun is = lies_test 0xC2 0xF4 b (omega arith, omega arith)
leads b three_low begun is = lies_test 0xC2 0xF4 b (omega arith, omega arith)
leads b three_high begun is = lies_test 0xC2 0xF4 b (omega arith, omega arith)

second_least : (b : ℕ) (u : Partial) → HasBegun u → Steps none_left b u → second_byte_min b ≡ least u
second_least b none_left begun is = absurd begun
second_least b one begun is = grind (arith, nat_tests)
second_least b two begun is = grind (arith, nat_tests)
second_least b two_low begun is = grind (arith, nat_tests)
second_least b two_high begun is = grind (arith, nat_tests)
second_least b three begun is = grind (arith, nat_tests)
second_least b three_low begun is = grind (arith, nat_tests)
second_least b three_high begun is = grind (arith, nat_tests)

second_most : (b : ℕ) (u : Partial) → HasBegun u → Steps none_left b u → second_byte_max b ≡ most u
second_most b none_left begun is = absurd begun
second_most b one begun is = grind (arith, nat_tests)
second_most b two begun is = let apart = is.1 in grind (arith, nat_tests)
second_most b two_low begun is = grind (arith, nat_tests)
second_most b two_high begun is = grind (arith, nat_tests)
second_most b three begun is = grind (arith, nat_tests)
second_most b three_low begun is = grind (arith, nat_tests)
second_most b three_high begun is = grind (arith, nat_tests)

second_range : (b x : ℕ) (u : Partial) (t : Bool) → HasBegun u → Steps none_left b u → lies_in (least u) (most u) x ≡ t → is_in_range (second_byte_min b) (second_byte_max b) x ≡ t
second_range b x u t begun is h =
    ap (λ n. is_in_range n (second_byte_max b) x) (second_least b u begun is) ∙ (ap (λ n. is_in_range (least u) n x) (second_most b u begun is) ∙ h)

-- a byte that begins nothing
none_begins : (b : ℕ) → 0xC2 ≤ b → b ≤ 0xF4 → utf8_step none_left b ≡ None → ⊥
unfolding utf8_step
none_begins b low high none = grind (arith, nat_tests)

stray : (b : ℕ) → utf8_step none_left b ≡ None → lies_in 0xC2 0xF4 b ≡ false
stray b none = false_from_ne_true _ (λ h. let lies = lies_tells 0xC2 0xF4 b h in none_begins b lies.0 lies.1 none)

-- there are so many bytes
enough : (n k : ℕ) (x y : Option ℕ) → k ≤ n → cond (ltb n k) x y ≡ y
enough n k x y h = cond-false _ _ _ (le-ltb n k h)

-- std's length of the fault, by how many bytes are there and which of them may stand there
error_some : (b : ℕ) (r : List ℕ) → utf8_error_len (b ∷ r) ≡ error_len_of_some (b ∷ r)
unfolding utf8_error_len
error_some b r = cond-false _ _ _ (ne_eqb (length (b ∷ r)) 0 (λ e. absurd (omega arith)))

error_stray : (b : ℕ) (r : List ℕ) → lies_in 0xC2 0xF4 b ≡ false → utf8_error_len (b ∷ r) ≡ Some 1
error_stray b r h = error_some b r ∙ cond-false _ _ _ h

error_lead : (b : ℕ) (r : List ℕ) → lies_in 0xC2 0xF4 b ≡ true → utf8_error_len (b ∷ r) ≡ error_len_after_one (b ∷ r)
error_lead b r h = error_some b r ∙ cond-true _ _ _ h

error_one : (b : ℕ) → lies_in 0xC2 0xF4 b ≡ true → utf8_error_len (b ∷ []) ≡ None
error_one b h = error_lead b [] h

error_second : (b x : ℕ) (r : List ℕ) → lies_in 0xC2 0xF4 b ≡ true → is_in_range (second_byte_min b) (second_byte_max b) x ≡ false → utf8_error_len (b ∷ x ∷ r) ≡ Some 1
error_second b x r h off = error_lead b (x ∷ r) h ∙ (enough (length (b ∷ x ∷ r)) 2 _ _ (omega arith) ∙ cond-false _ _ _ off)

error_two : (b x : ℕ) (r : List ℕ) → lies_in 0xC2 0xF4 b ≡ true → is_in_range (second_byte_min b) (second_byte_max b) x ≡ true → utf8_error_len (b ∷ x ∷ r) ≡ error_len_after_two (b ∷ x ∷ r)
error_two b x r h within = error_lead b (x ∷ r) h ∙ (enough (length (b ∷ x ∷ r)) 2 _ _ (omega arith) ∙ cond-true _ _ _ within)

after_two_off : (b x y : ℕ) (r : List ℕ) → lies_in 0x80 0xBF y ≡ false → error_len_after_two (b ∷ x ∷ y ∷ r) ≡ Some 2
after_two_off b x y r off = enough (length (b ∷ x ∷ y ∷ r)) 3 _ _ (omega arith) ∙ cond-false _ _ _ off

after_three : (b x y : ℕ) → lies_in 0x80 0xBF y ≡ true → error_len_after_two (b ∷ x ∷ y ∷ []) ≡ None
after_three b x y h = cond-true _ _ _ h

after_four : (b x y z : ℕ) (r : List ℕ) → lies_in 0x80 0xBF y ≡ true → error_len_after_two (b ∷ x ∷ y ∷ z ∷ r) ≡ Some 3
after_four b x y z r h = enough (length (b ∷ x ∷ y ∷ z ∷ r)) 3 _ _ (omega arith) ∙ (cond-true _ _ _ h ∙ enough (length (b ∷ x ∷ y ∷ z ∷ r)) 4 _ _ (omega arith))

-- what std's length of the fault says of the front
abbrev Says : Option ℕ → List ℕ → Type 0
Says None rest = utf8_front rest ≡ length rest
Says (Some k) rest = utf8_front rest ≡ cond (lies_in 0xC2 0xF4 (slice_index rest 0)) k 0

says_along : (rest : List ℕ) (x y : Option ℕ) → x ≡ y → Says y rest → Says x rest
says_along rest x y e h = let P : Option ℕ → Type 0 = λ o. Says o rest in subst P (sym e) h

-- no front of the bytes is a text
abbrev pub NoText : List ℕ → Type 0
NoText rest = (m : ℕ) → 0 < m → IsUtf8 (take m rest) → ⊥

front_step : (u v : Partial) (b : ℕ) (rest : List ℕ) (n : ℕ) → utf8_step u b ≡ Some v → utf8_front_from v rest ≡ n → utf8_front_from u (b ∷ rest) ≡ n + 1
front_step u v b rest n is h = front_on u b rest v is ∙ ap (λ k. k + 1) h

-- behind a first byte and a second, where a last one must come
says_last : (b x : ℕ) (r : List ℕ) (u : Partial) → utf8_step none_left b ≡ Some u → utf8_step u x ≡ Some one → lies_in 0xC2 0xF4 b ≡ true → NoText (b ∷ x ∷ r) → Says (error_len_after_two (b ∷ x ∷ r)) (b ∷ x ∷ r)
says_last b x [] u first second lead none =
    front_step none_left u b (x ∷ []) 1 first (front_step u one x [] 0 second (front_nil one))
says_last b x (y ∷ r) u first second lead none = by_third (lies_in 0x80 0xBF y) refl
  where
    by_third : (t : Bool) → lies_in 0x80 0xBF y ≡ t → Says (error_len_after_two (b ∷ x ∷ y ∷ r)) (b ∷ x ∷ y ∷ r)
    by_third true h =
        absurd (none 3 (omega arith) (IsUtf8-from_run (b ∷ x ∷ y ∷ [])
        (run_on none_left b (x ∷ y ∷ []) u first ∙ (run_on u x (y ∷ []) one second ∙ (run_on one y [] none_left (step_in one y tt h) ∙ run_nil none_left)))))
    by_third false h =
        says_along (b ∷ x ∷ y ∷ r) _ (Some 2) (after_two_off b x y r h)
        (front_step none_left u b (x ∷ y ∷ r) 1 first (front_step u one x (y ∷ r) 0 second (front_off one y r (step_out one y tt h))) ∙ sym (cond-true _ _ _ lead))

-- where two more must come
says_two : (b x : ℕ) (r : List ℕ) (u : Partial) → utf8_step none_left b ≡ Some u → utf8_step u x ≡ Some two → lies_in 0xC2 0xF4 b ≡ true → NoText (b ∷ x ∷ r) → Says (error_len_after_two (b ∷ x ∷ r)) (b ∷ x ∷ r)
says_two b x [] u first second lead none =
    front_step none_left u b (x ∷ []) 1 first (front_step u two x [] 0 second (front_nil two))
says_two b x (y ∷ r) u first second lead none = by_third (lies_in 0x80 0xBF y) refl
  where
    by_fourth : (r : List ℕ) → NoText (b ∷ x ∷ y ∷ r) → lies_in 0x80 0xBF y ≡ true → (t : Bool) → lies_in 0x80 0xBF (slice_index r 0) ≡ t → Says (error_len_after_two (b ∷ x ∷ y ∷ r)) (b ∷ x ∷ y ∷ r)
    by_fourth [] none h t g =
        says_along (b ∷ x ∷ y ∷ []) _ None (after_three b x y h)
        (front_step none_left u b (x ∷ y ∷ []) 2 first (front_step u two x (y ∷ []) 1 second (front_step two one y [] 0 (step_in two y tt h) (front_nil one))))
    by_fourth (z ∷ r) none h true g =
        absurd (none 4 (omega arith) (IsUtf8-from_run (b ∷ x ∷ y ∷ z ∷ [])
        (run_on none_left b (x ∷ y ∷ z ∷ []) u first ∙ (run_on u x (y ∷ z ∷ []) two second ∙ (run_on two y (z ∷ []) one (step_in two y tt h) ∙ (run_on one z [] none_left (step_in one z tt g) ∙ run_nil none_left))))))
    by_fourth (z ∷ r) none h false g =
        says_along (b ∷ x ∷ y ∷ z ∷ r) _ (Some 3) (after_four b x y z r h)
        (front_step none_left u b (x ∷ y ∷ z ∷ r) 2 first (front_step u two x (y ∷ z ∷ r) 1 second (front_step two one y (z ∷ r) 0 (step_in two y tt h) (front_off one z r (step_out one z tt g)))) ∙ sym (cond-true _ _ _ lead))

    by_third : (t : Bool) → lies_in 0x80 0xBF y ≡ t → Says (error_len_after_two (b ∷ x ∷ y ∷ r)) (b ∷ x ∷ y ∷ r)
    by_third true h = by_fourth r none h (lies_in 0x80 0xBF (slice_index r 0)) refl
    by_third false h =
        says_along (b ∷ x ∷ y ∷ r) _ (Some 2) (after_two_off b x y r h)
        (front_step none_left u b (x ∷ y ∷ r) 1 first (front_step u two x (y ∷ r) 0 second (front_off two y r (step_out two y tt h))) ∙ sym (cond-true _ _ _ lead))

-- behind a first byte and a second that may stand there
says_both : (b x : ℕ) (r : List ℕ) (u : Partial) → HasBegun u → utf8_step none_left b ≡ Some u → utf8_step u x ≡ Some (left u) → lies_in 0xC2 0xF4 b ≡ true → NoText (b ∷ x ∷ r) → Says (error_len_after_two (b ∷ x ∷ r)) (b ∷ x ∷ r)
says_both b x r none_left begun first second lead none = absurd begun
says_both b x r one begun first second lead none =
    absurd (none 2 (omega arith) (IsUtf8-from_run (b ∷ x ∷ []) (run_on none_left b (x ∷ []) one first ∙ (run_on one x [] none_left second ∙ run_nil none_left))))
says_both b x r two begun first second lead none = says_last b x r two first second lead none
says_both b x r two_low begun first second lead none = says_last b x r two_low first second lead none
says_both b x r two_high begun first second lead none = says_last b x r two_high first second lead none
says_both b x r three begun first second lead none = says_two b x r three first second lead none
says_both b x r three_low begun first second lead none = says_two b x r three_low first second lead none
says_both b x r three_high begun first second lead none = says_two b x r three_high first second lead none

-- behind a first byte
says_begun : (b : ℕ) (r : List ℕ) (u : Partial) → HasBegun u → utf8_step none_left b ≡ Some u → NoText (b ∷ r) → Says (utf8_error_len (b ∷ r)) (b ∷ r)
says_begun b r u begun first none = by_rest r none
  where
    is : Steps none_left b u
    is = step_tells none_left b u first

    lead : lies_in 0xC2 0xF4 b ≡ true
    lead = leads b u begun is

    by_second : (x : ℕ) (r : List ℕ) → NoText (b ∷ x ∷ r) → (t : Bool) → lies_in (least u) (most u) x ≡ t → Says (utf8_error_len (b ∷ x ∷ r)) (b ∷ x ∷ r)
    by_second x r none true h =
        says_along (b ∷ x ∷ r) _ _ (error_two b x r lead (second_range b x u true begun is h))
        (says_both b x r u begun first (step_in u x begun h) lead none)
    by_second x r none false h =
        says_along (b ∷ x ∷ r) _ (Some 1) (error_second b x r lead (second_range b x u false begun is h))
        (front_step none_left u b (x ∷ r) 0 first (front_off u x r (step_out u x begun h)) ∙ sym (cond-true _ _ _ lead))

    by_rest : (r : List ℕ) → NoText (b ∷ r) → Says (utf8_error_len (b ∷ r)) (b ∷ r)
    by_rest [] none = says_along (b ∷ []) _ None (error_one b lead) (front_step none_left u b [] 0 first (front_nil u))
    by_rest (x ∷ r) none = by_second x r none (lies_in (least u) (most u) x) refl

-- where no front of the bytes is a text
says : (rest : List ℕ) → 0 < length rest → NoText rest → Says (utf8_error_len rest) rest
says [] some none = absurd (omega arith)
says (b ∷ r) some none = by_first (utf8_step none_left b) refl
  where
    begun : (u : Partial) → utf8_step none_left b ≡ Some u → Says (utf8_error_len (b ∷ r)) (b ∷ r)
    begun none_left first = absurd (none 1 (omega arith) (IsUtf8-from_run (b ∷ []) (run_on none_left b [] none_left first ∙ run_nil none_left)))
    begun one first = says_begun b r one tt first none
    begun two first = says_begun b r two tt first none
    begun two_low first = says_begun b r two_low tt first none
    begun two_high first = says_begun b r two_high tt first none
    begun three first = says_begun b r three tt first none
    begun three_low first = says_begun b r three_low tt first none
    begun three_high first = says_begun b r three_high tt first none

    by_first : (turn : Option Partial) → utf8_step none_left b ≡ turn → Says (utf8_error_len (b ∷ r)) (b ∷ r)
    by_first None first =
        says_along (b ∷ r) _ (Some 1) (error_stray b r (stray b first)) (front_off none_left b r first ∙ sym (cond-false _ _ _ (stray b first)))
    by_first (Some u) first = begun u first

-- a whole text is its own front
pub front_whole : (text : List ℕ) → IsUtf8 text → utf8_front text ≡ length text
front_whole text is =
    ap utf8_front (sym (append-nil text)) ∙ (front_append text [] none_left none_left (run-from_IsUtf8 text is) ∙ (ap (λ n. length text + n) (front_nil none_left) ∙ omega arith))

-- where the bytes are a text up to n only
front_behind : (text : List ℕ) (n : ℕ) → IsValidUpTo text n → utf8_front text ≡ n + utf8_front (drop n text)
front_behind text n valid =
    let short : n < length text = valid.short in
    let size : length (take n text) ≡ n = length-take-le n text (omega arith) in
    ap utf8_front (sym (take-append-drop n text))
    ∙ (front_append (take n text) (drop n text) none_left none_left (run-from_IsUtf8 (take n text) valid.front)
    ∙ ap (λ k. k + utf8_front (drop n text)) size)

none_behind : (text : List ℕ) (n : ℕ) → IsValidUpTo text n → NoText (drop n text)
none_behind text n valid m some is =
    valid.longest (n + m) (omega arith)
    (let P : List ℕ → Type 0 = λ xs. IsUtf8 xs in subst P (sym (take-add n m text)) (IsUtf8-append (take n text) (take m (drop n text)) valid.front is))

first_behind : (text : List ℕ) (n : ℕ) → slice_index (drop n text) 0 ≡ slice_index text n
first_behind text n = get_or-drop n text 0 0 ∙ ap (λ k. slice_index text k) (omega arith)

says_behind : (text : List ℕ) (n : ℕ) → IsValidUpTo text n → Says (utf8_error_len (drop n text)) (drop n text)
says_behind text n valid =
    let short : n < length text = valid.short in
    says (drop n text) (omega (arith, length-drop n text)) (none_behind text n valid)

-- std says that the bytes end first
pub front_cut : (text : List ℕ) (n : ℕ) → IsValidUpTo text n → utf8_error_len (drop n text) ≡ None → utf8_front text ≡ length text
front_cut text n valid e =
    let short : n < length text = valid.short in
    let P : Option ℕ → Type 0 = λ o. Says o (drop n text) in
    let told : utf8_front (drop n text) ≡ length (drop n text) = subst P e (says_behind text n valid) in
    let whole : utf8_front text ≡ n + utf8_front (drop n text) = front_behind text n valid in
    omega (arith, length-drop n text)

-- or that so many of them begin no character
pub front_fault : (text : List ℕ) (n k : ℕ) → IsValidUpTo text n → utf8_error_len (drop n text) ≡ Some k → utf8_front text ≡ n + cond (lies_in 0xC2 0xF4 (slice_index text n)) k 0
front_fault text n k valid e =
    let P : Option ℕ → Type 0 = λ o. Says o (drop n text) in
    front_behind text n valid
    ∙ ap (λ m. n + m) (subst P e (says_behind text n valid) ∙ ap (λ b. cond (lies_in 0xC2 0xF4 b) k 0) (first_behind text n))

-- which some character may begin with
pub front_begun : (text : List ℕ) (n m k : ℕ) → m ≡ n → IsValidUpTo text n → utf8_error_len (drop n text) ≡ Some k → lies_in 0xC2 0xF4 (slice_index text m) ≡ true → m + k ≡ utf8_front text
front_begun text n m k same valid e lead =
    let here : lies_in 0xC2 0xF4 (slice_index text n) ≡ true = ap (λ j. lies_in 0xC2 0xF4 (slice_index text j)) (sym same) ∙ lead in
    let told : utf8_front text ≡ n + cond (lies_in 0xC2 0xF4 (slice_index text n)) k 0 = front_fault text n k valid e in
    let is : cond (lies_in 0xC2 0xF4 (slice_index text n)) k 0 ≡ k = cond-true _ _ _ here in
    omega arith

-- or none may
pub front_stray : (text : List ℕ) (n m k : ℕ) → m ≡ n → IsValidUpTo text n → utf8_error_len (drop n text) ≡ Some k → lies_in 0xC2 0xF4 (slice_index text m) ≡ false → m ≡ utf8_front text
front_stray text n m k same valid e stray =
    let here : lies_in 0xC2 0xF4 (slice_index text n) ≡ false = ap (λ j. lies_in 0xC2 0xF4 (slice_index text j)) (sym same) ∙ stray in
    let told : utf8_front text ≡ n + cond (lies_in 0xC2 0xF4 (slice_index text n)) k 0 = front_fault text n k valid e in
    let is : cond (lies_in 0xC2 0xF4 (slice_index text n)) k 0 ≡ 0 = cond-false _ _ _ here in
    omega arith
