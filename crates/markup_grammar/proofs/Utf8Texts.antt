-- The texts past which the table stands between two characters are those of std.
use Rattle.std.proofs.Common.{◌≡◌, ℕ, ◌+◌, ◌-◌, ◌*◌, ◌/◌, ◌<◌, ◌≤◌, true, Option, Some, None, List, [], ◌∷◌, ◌++◌, IsUtf8, refl, sym, ap, ◌∙◌, subst, inl, inr, ◌⊎◌, ⊎_elim, append_assoc, append-nil, arith}
use Rattle.std.proofs.lemmas.Bool.{cases_lt, cases_eq, and_parts, and_from, cond-true, cond-false, lt-ltb, le-ltb, le-leb}
use Rattle.std.proofs.lemmas.Str.{IsUtf8-append, IsUtf8-nil, IsUtf8-encode}
use lib.Utf8.{scalar, scalars, next as continuing, encode, encodes, low_scalar, scalar_cases}
use Rattle.markup_grammar.specs.Utf8.{Partial, none_left, one, two, two_low, two_high, three, three_low, three_high, utf8_step, utf8_run}
use Rattle.markup_grammar.proofs.Utf8Table.{Lies, Steps, step_tells, steps}

-- a byte that continues a character
abbrev pub Goes : ℕ → Type 0
Goes b = Lies 0x80 0xBF b

-- the bytes by which std spells a character
encode_1 : (c : ℕ) → c < 128 → encode c ≡ c ∷ []
unfolding encode
encode_1 c h = cond-true _ _ _ (lt-ltb c 128 h)

encode_2 : (c : ℕ) → 128 ≤ c → c < 2048 → encode c ≡ (192 + c / 64) ∷ continuing c ∷ []
unfolding encode
encode_2 c l h = cond-false _ _ _ (le-ltb c 128 l) ∙ cond-true _ _ _ (lt-ltb c 2048 h)

encode_3 : (c : ℕ) → 2048 ≤ c → c < 65536 → encode c ≡ (224 + c / 4096) ∷ continuing (c / 64) ∷ continuing c ∷ []
unfolding encode
encode_3 c l h = cond-false _ _ _ (le-ltb c 128 (omega arith)) ∙ (cond-false _ _ _ (le-ltb c 2048 l) ∙ cond-true _ _ _ (lt-ltb c 65536 h))

encode_4 : (c : ℕ) → 65536 ≤ c → encode c ≡ (240 + c / 262144) ∷ continuing (c / 4096) ∷ continuing (c / 64) ∷ continuing c ∷ []
unfolding encode
encode_4 c l =
    cond-false _ _ _ (le-ltb c 128 (omega arith)) ∙ (cond-false _ _ _ (le-ltb c 2048 (omega arith)) ∙ cond-false _ _ _ (le-ltb c 65536 l))

high_scalar : (c : ℕ) → 57344 ≤ c → c < 1114112 → scalar c ≡ true
high_scalar c l h = cond-false _ _ _ (le-ltb c 55296 (omega arith)) ∙ and_from _ _ (le-leb 57344 c l) (lt-ltb c 1114112 h)

-- the bytes of a character of one, two, three and four bytes
character_1 : (a : ℕ) → a < 0x80 → IsUtf8 (a ∷ [])
character_1 a h = subst IsUtf8 (encode_1 a h) (IsUtf8-encode a (low_scalar a (omega arith)))

character_2 : (a b : ℕ) → Lies 0xC2 0xDF a → Goes b → IsUtf8 (a ∷ b ∷ [])
character_2 a b first second =
    let c : ℕ = (a - 192) * 64 + (b - 128) in
    let p : 192 + c / 64 ≡ a = omega arith in
    let q : continuing c ≡ b = omega arith in
    subst IsUtf8 (encode_2 c (omega arith) (omega arith) ∙ (λ k. p k ∷ q k ∷ [])) (IsUtf8-encode c (low_scalar c (omega arith)))

character_3 : (a b d : ℕ) → Lies 0xE0 0xEF a → Goes b → Goes d → (a ≡ 0xE0 → 0xA0 ≤ b) → (a ≡ 0xED → b ≤ 0x9F) → IsUtf8 (a ∷ b ∷ d ∷ [])
character_3 a b d first second third low high =
    let c : ℕ = (a - 224) * 4096 + (b - 128) * 64 + (d - 128) in
    let p : 224 + c / 4096 ≡ a = omega arith in
    let q : continuing (c / 64) ≡ b = omega arith in
    let r : continuing c ≡ d = omega arith in
    let least : 2048 ≤ c = ⊎_elim (λ same. let narrow = low same in omega arith) (λ other. let above : 0xE1 ≤ a = omega arith in omega arith) (cases_eq a 0xE0) in
    let is : scalar c ≡ true =
    ⊎_elim (λ below. low_scalar c below)
    (λ above. let past : 57344 ≤ c =
    ⊎_elim (λ same. let narrow = high same in absurd (omega arith)) (λ other. let more : 0xEE ≤ a = omega arith in omega arith) (cases_eq a 0xED) in
    high_scalar c past (omega arith))
    (cases_lt c 55296) in
    subst IsUtf8 (encode_3 c least (omega arith) ∙ (λ k. p k ∷ q k ∷ r k ∷ [])) (IsUtf8-encode c is)

character_4 : (a b d e : ℕ) → Lies 0xF0 0xF4 a → Goes b → Goes d → Goes e → (a ≡ 0xF0 → 0x90 ≤ b) → (a ≡ 0xF4 → b ≤ 0x8F) → IsUtf8 (a ∷ b ∷ d ∷ e ∷ [])
character_4 a b d e first second third fourth low high =
    let c : ℕ = (a - 240) * 262144 + (b - 128) * 4096 + (d - 128) * 64 + (e - 128) in
    let p : 240 + c / 262144 ≡ a = omega arith in
    let q : continuing (c / 4096) ≡ b = omega arith in
    let s : c / 64 ≡ (a - 240) * 4096 + (b - 128) * 64 + (d - 128) = omega arith in
    let r : continuing (c / 64) ≡ d = subst (λ (m : ℕ). continuing m ≡ d) (sym s) (omega arith) in
    let t : continuing c ≡ e = omega arith in
    let least : 65536 ≤ c = ⊎_elim (λ same. let narrow = low same in omega arith) (λ other. let above : 0xF1 ≤ a = omega arith in omega arith) (cases_eq a 0xF0) in
    let most : c < 1114112 = ⊎_elim (λ same. let narrow = high same in omega arith) (λ other. let below : a ≤ 0xF3 = omega arith in omega arith) (cases_eq a 0xF4) in
    subst IsUtf8 (encode_4 c least ∙ (λ k. p k ∷ q k ∷ r k ∷ t k ∷ [])) (IsUtf8-encode c (high_scalar c (omega arith) most))

-- what completes the bytes in each state makes a text
abbrev pub Ends : Partial → List ℕ → Type 0
Ends none_left past = IsUtf8 past
Ends one past = (x : ℕ) → Goes x → IsUtf8 (past ++ x ∷ [])
Ends two past = (x y : ℕ) → Goes x → Goes y → IsUtf8 (past ++ x ∷ y ∷ [])
Ends two_low past = (x y : ℕ) → Lies 0x80 0x9F x → Goes y → IsUtf8 (past ++ x ∷ y ∷ [])
Ends two_high past = (x y : ℕ) → Lies 0xA0 0xBF x → Goes y → IsUtf8 (past ++ x ∷ y ∷ [])
Ends three past = (x y z : ℕ) → Goes x → Goes y → Goes z → IsUtf8 (past ++ x ∷ y ∷ z ∷ [])
Ends three_low past = (x y z : ℕ) → Lies 0x80 0x8F x → Goes y → Goes z → IsUtf8 (past ++ x ∷ y ∷ z ∷ [])
Ends three_high past = (x y z : ℕ) → Lies 0x90 0xBF x → Goes y → Goes z → IsUtf8 (past ++ x ∷ y ∷ z ∷ [])

-- one byte moved to what has been read
moved : (past rest : List ℕ) (b : ℕ) → IsUtf8 (past ++ b ∷ rest) → IsUtf8 ((past ++ b ∷ []) ++ rest)
moved past rest b h = subst IsUtf8 (sym (append_assoc past (b ∷ []) rest)) h

-- a character behind a text
behind : (past rest : List ℕ) (b : ℕ) → IsUtf8 past → IsUtf8 (b ∷ rest) → IsUtf8 ((past ++ b ∷ []) ++ rest)
behind past rest b h c = moved past rest b (IsUtf8-append past (b ∷ rest) h c)

ends_step : (state : Partial) (b : ℕ) (next : Partial) (past : List ℕ) → Steps state b next → Ends state past → Ends next (past ++ b ∷ [])
ends_step none_left b none_left past is h = IsUtf8-append past (b ∷ []) h (character_1 b is)
ends_step none_left b one past is h = λ x p. behind past (x ∷ []) b h (character_2 b x is p)
ends_step none_left b two past is h = λ x y p q. behind past (x ∷ y ∷ []) b h (character_3 b x y (omega arith, omega arith) p q (λ same. absurd (omega arith)) (λ same. absurd (is.1 same)))
ends_step none_left b two_low past is h = λ x y p q. behind past (x ∷ y ∷ []) b h (character_3 b x y (omega arith, omega arith) (omega arith, omega arith) q (λ same. absurd (omega arith)) (λ same. p.1))
ends_step none_left b two_high past is h = λ x y p q. behind past (x ∷ y ∷ []) b h (character_3 b x y (omega arith, omega arith) (omega arith, omega arith) q (λ same. p.0) (λ same. absurd (omega arith)))
ends_step none_left b three past is h = λ x y z p q r. behind past (x ∷ y ∷ z ∷ []) b h (character_4 b x y z (omega arith, omega arith) p q r (λ same. absurd (omega arith)) (λ same. absurd (omega arith)))
ends_step none_left b three_low past is h = λ x y z p q r. behind past (x ∷ y ∷ z ∷ []) b h (character_4 b x y z (omega arith, omega arith) (omega arith, omega arith) q r (λ same. absurd (omega arith)) (λ same. p.1))
ends_step none_left b three_high past is h = λ x y z p q r. behind past (x ∷ y ∷ z ∷ []) b h (character_4 b x y z (omega arith, omega arith) (omega arith, omega arith) q r (λ same. p.0) (λ same. absurd (omega arith)))
ends_step one b none_left past is h = h b is
ends_step two b one past is h = λ x p. moved past (x ∷ []) b (h b x is p)
ends_step two_low b one past is h = λ x p. moved past (x ∷ []) b (h b x is p)
ends_step two_high b one past is h = λ x p. moved past (x ∷ []) b (h b x is p)
ends_step three b two past is h = λ x y p q. moved past (x ∷ y ∷ []) b (h b x y is p q)
ends_step three_low b two past is h = λ x y p q. moved past (x ∷ y ∷ []) b (h b x y is p q)
ends_step three_high b two past is h = λ x y p q. moved past (x ∷ y ∷ []) b (h b x y is p q)
ends_step _ b _ past is h = absurd is

pub run_nil : (state : Partial) → utf8_run [] state ≡ Some state
unfolding utf8_run
run_nil state = refl

pub run_on : (state : Partial) (b : ℕ) (rest : List ℕ) (next : Partial) → utf8_step state b ≡ Some next → utf8_run (b ∷ rest) state ≡ utf8_run rest next
unfolding utf8_run
run_on state b rest next is = rw is refl

pub run_off : (state : Partial) (b : ℕ) (rest : List ℕ) → utf8_step state b ≡ None → utf8_run (b ∷ rest) state ≡ None
unfolding utf8_run
run_off state b rest is = rw is refl

-- past bytes that may stand there, what completes the last state makes a text
pub run_ends : (bytes : List ℕ) (state last : Partial) (past : List ℕ) → Ends state past → utf8_run bytes state ≡ Some last → Ends last (past ++ bytes)
run_ends [] state last past h e =
    let same : Some state ≡ Some last = sym (run_nil state) ∙ e in
    let is : state ≡ last = cc in
    let P : Partial → Type 0 = λ s. Ends s (past ++ []) in
    let Q : List ℕ → Type 0 = λ bs. Ends state bs in
    subst P is (subst Q (sym (append-nil past)) h)
run_ends (b ∷ bytes) state last past h e =
    by_turn (utf8_step state b) refl (λ after. run_ends bytes after last (past ++ b ∷ []))
  where
    by_turn : (turn : Option Partial) → utf8_step state b ≡ turn → ((after : Partial) → Ends after (past ++ b ∷ []) → utf8_run bytes after ≡ Some last → Ends last ((past ++ b ∷ []) ++ bytes)) → Ends last (past ++ b ∷ bytes)
    by_turn None is further = let none : None ≡ Some last = sym (run_off state b bytes is) ∙ e in absurd (cc)
    by_turn (Some after) is further =
        let P : List ℕ → Type 0 = λ bs. Ends last bs in
        subst P (append_assoc past (b ∷ []) bytes)
        (further after (ends_step state b after past (step_tells state b after is) h) (sym (run_on state b bytes after is) ∙ e))

-- what stands between two characters is a text
pub IsUtf8-from_run : (text : List ℕ) → utf8_run text none_left ≡ Some none_left → IsUtf8 text
IsUtf8-from_run text h = run_ends text none_left none_left [] IsUtf8-nil h

-- one step, told by where its byte lies
run_by : (state : Partial) (b : ℕ) (rest : List ℕ) (next : Partial) → Steps state b next → utf8_run (b ∷ rest) state ≡ utf8_run rest next
run_by state b rest next is = run_on state b rest next (steps state b next is)

goes_on : (c : ℕ) → Goes (continuing c)
goes_on c = (omega arith, omega arith)

run_2 : (a b : ℕ) (rest : List ℕ) → Lies 0xC2 0xDF a → Goes b → utf8_run (a ∷ b ∷ rest) none_left ≡ utf8_run rest none_left
run_2 a b rest first second = run_by none_left a (b ∷ rest) one first ∙ run_by one b rest none_left second

run_3 : (a b d : ℕ) (rest : List ℕ) (mid : Partial) → Steps none_left a mid → Steps mid b one → Goes d → utf8_run (a ∷ b ∷ d ∷ rest) none_left ≡ utf8_run rest none_left
run_3 a b d rest mid first second third = run_by none_left a (b ∷ d ∷ rest) mid first ∙ (run_by mid b (d ∷ rest) one second ∙ run_by one d rest none_left third)

run_4 : (a b d e : ℕ) (rest : List ℕ) (mid : Partial) → Steps none_left a mid → Steps mid b two → Goes d → Goes e → utf8_run (a ∷ b ∷ d ∷ e ∷ rest) none_left ≡ utf8_run rest none_left
run_4 a b d e rest mid first second third fourth =
    run_by none_left a (b ∷ d ∷ e ∷ rest) mid first
    ∙ (run_by mid b (d ∷ e ∷ rest) two second ∙ (run_by two d (e ∷ rest) one third ∙ run_by one e rest none_left fourth))

-- over the bytes of a character
run_character : (c : ℕ) (rest : List ℕ) → scalar c ≡ true → utf8_run (encode c ++ rest) none_left ≡ utf8_run rest none_left
run_character c rest is = by (cases_lt c 128) (cases_lt c 2048) (cases_lt c 65536)
  where
    at_bytes : (bytes : List ℕ) → encode c ≡ bytes → utf8_run (bytes ++ rest) none_left ≡ utf8_run rest none_left → utf8_run (encode c ++ rest) none_left ≡ utf8_run rest none_left
    at_bytes bytes e h = ap (λ xs. utf8_run (xs ++ rest) none_left) e ∙ h

    by_3 : 2048 ≤ c → c < 65536 → (c < 55296) ⊎ ((57344 ≤ c) × (c < 1114112)) → utf8_run ((224 + c / 4096) ∷ continuing (c / 64) ∷ continuing c ∷ rest) none_left ≡ utf8_run rest none_left
    by_3 l h s = ⊎_elim
        (λ same. run_3 (224 + c / 4096) (continuing (c / 64)) (continuing c) rest two_high (omega arith) (omega arith, omega arith) (goes_on c))
        (λ other. ⊎_elim
        (λ same. run_3 (224 + c / 4096) (continuing (c / 64)) (continuing c) rest two_low (omega arith) (let narrow : c < 55296 = elim s [ inl low ↦ low | inr high ↦ absurd (omega arith) ] in (omega arith, omega arith)) (goes_on c))
        (λ apart. run_3 (224 + c / 4096) (continuing (c / 64)) (continuing c) rest two ((omega arith, omega arith), λ same. apart same) (goes_on (c / 64)) (goes_on c))
        (cases_eq (224 + c / 4096) 0xED))
        (cases_eq (224 + c / 4096) 0xE0)

    by_4 : 65536 ≤ c → c < 1114112 → utf8_run ((240 + c / 262144) ∷ continuing (c / 4096) ∷ continuing (c / 64) ∷ continuing c ∷ rest) none_left ≡ utf8_run rest none_left
    by_4 l h = ⊎_elim
        (λ same. run_4 (240 + c / 262144) (continuing (c / 4096)) (continuing (c / 64)) (continuing c) rest three_high (omega arith) (omega arith, omega arith) (goes_on (c / 64)) (goes_on c))
        (λ other. ⊎_elim
        (λ same. run_4 (240 + c / 262144) (continuing (c / 4096)) (continuing (c / 64)) (continuing c) rest three_low (omega arith) (omega arith, omega arith) (goes_on (c / 64)) (goes_on c))
        (λ apart. run_4 (240 + c / 262144) (continuing (c / 4096)) (continuing (c / 64)) (continuing c) rest three (omega arith, omega arith) (goes_on (c / 4096)) (goes_on (c / 64)) (goes_on c))
        (cases_eq (240 + c / 262144) 0xF4))
        (cases_eq (240 + c / 262144) 0xF0)

    most : (c < 55296) ⊎ ((57344 ≤ c) × (c < 1114112)) → c < 1114112
    most (inl low) = omega arith
    most (inr high) = high.1

    by : (c < 128) ⊎ (128 ≤ c) → (c < 2048) ⊎ (2048 ≤ c) → (c < 65536) ⊎ (65536 ≤ c) → utf8_run (encode c ++ rest) none_left ≡ utf8_run rest none_left
    by (inl h) _ _ = at_bytes (c ∷ []) (encode_1 c h) (run_by none_left c rest none_left h)
    by (inr l) (inl h) _ = at_bytes _ (encode_2 c l h) (run_2 (192 + c / 64) (continuing c) rest (omega arith, omega arith) (goes_on c))
    by (inr _) (inr l) (inl h) = at_bytes _ (encode_3 c l h) (by_3 l h (scalar_cases c is))
    by (inr _) (inr _) (inr l) = at_bytes _ (encode_4 c l) (by_4 l (most (scalar_cases c is)))

run_characters : (cs rest : List ℕ) → scalars cs ≡ true → utf8_run (encodes cs ++ rest) none_left ≡ utf8_run rest none_left
run_characters [] rest is = refl
run_characters (c ∷ cs) rest is =
    let both = and_parts _ _ is in
    ap (λ xs. utf8_run xs none_left) (append_assoc (encode c) (encodes cs) rest)
    ∙ (run_character c (encodes cs ++ rest) both.0 ∙ run_characters cs rest both.1)

-- a text is passed over
pub run_text : (text rest : List ℕ) → IsUtf8 text → utf8_run (text ++ rest) none_left ≡ utf8_run rest none_left
run_text text rest (cs, (is, spells)) =
    ap (λ xs. utf8_run (xs ++ rest) none_left) (sym spells) ∙ run_characters cs rest is

pub run-from_IsUtf8 : (text : List ℕ) → IsUtf8 text → utf8_run text none_left ≡ Some none_left
run-from_IsUtf8 text is =
    ap (λ xs. utf8_run xs none_left) (sym (append-nil text)) ∙ (run_text text [] is ∙ run_nil none_left)
