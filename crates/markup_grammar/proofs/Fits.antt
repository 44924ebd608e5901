-- Where a reader may stand inside a character, and that each step keeps to it.
use Rattle.std.proofs.Common.{◌≡◌, ◌≢◌, ℕ, ◌+◌, ◌*◌, ◌<◌, ◌≤◌, Bool, true, false, eqb, leb, ltb, ◌||◌, Some, List, [], ◌∷◌, ◌++◌, refl, ap, sym, ◌∙◌, subst, inl, inr, arith, eqb-true}
use Rattle.std.proofs.lemmas.Bool.{leb-true}
use Rattle.markup_grammar.specs.Answers.{Answer}
use Rattle.markup_grammar.specs.Bytes.{is_space, is_digit, is_hex_digit, digit_value, begins_name, is_name_byte, is_value, AllAre, IsName}
use Rattle.markup_grammar.specs.Machine as m
use Rattle.markup_grammar.specs.Machine.{State, Level, Ref, Dashes, Spot, Names, Turn, RefTurn, SpotTurn, on, off, ref_on, ref_ends, ref_off, spot_on, spot_off, step, ref_step, spot_step, number_on, number_ends, comment_step, instruction_step, in_run, in_value, tag_turn, level_of_names, before, within, behind, no_dash, one_dash, two_dashes, spaced, naming, named, equalled, valuing, referring, valued, begun, after_a, due, hash, decimal_at, hash_x, hexadecimal_at, fresh, between, opened, bang_dash, in_comment, in_instruction, in_words, in_reference, in_name, in_tag, slashed, closing, closed}
use Rattle.markup_grammar.specs.Tags.{IsQuote}
use Rattle.markup_grammar.specs.Utf8.{Partial, none_left, one, two, two_low, two_high, three, three_low, three_high, utf8_step, utf8_run}
use Rattle.markup_grammar.proofs.Classes.{space_cases, name_from_begins}
use Rattle.markup_grammar.proofs.Edges.{Edges, edges, by_test, by_byte}
use Rattle.markup_grammar.proofs.Utf8Table.{Steps, step_tells}
use Rattle.markup_grammar.proofs.Utf8Texts.{run_nil, run_on}
use Rattle.markup_grammar.proofs.Utf8Fronts.{run_append}

-- a byte of ASCII stands between two characters
pub ascii_step : (u v : Partial) (b : ℕ) → b < 128 → utf8_step u b ≡ Some v → (u ≡ none_left) × (v ≡ none_left)
ascii_step u v b low h = told u v (step_tells u b v h)
  where
    told : (u v : Partial) → Steps u b v → (u ≡ none_left) × (v ≡ none_left)
    told none_left none_left is = (refl, refl)
    told none_left one is = absurd (omega arith)
    told none_left two is = absurd (omega arith)
    told none_left two_low is = absurd (omega arith)
    told none_left two_high is = absurd (omega arith)
    told none_left three is = absurd (omega arith)
    told none_left three_low is = absurd (omega arith)
    told none_left three_high is = absurd (omega arith)
    told one none_left is = absurd (omega arith)
    told two one is = absurd (omega arith)
    told two_low one is = absurd (omega arith)
    told two_high one is = absurd (omega arith)
    told three two is = absurd (omega arith)
    told three_low two is = absurd (omega arith)
    told three_high two is = absurd (omega arith)
    told _ _ is = absurd is

pub space_low : (b : ℕ) → is_space b ≡ true → b < 128
space_low = space_cases (λ n. n < 128) (omega arith) (omega arith) (omega arith) (omega arith)

-- a name, whole in UTF-8
abbrev pub IsWholeName : List ℕ → Type 0
IsWholeName name = IsName name × (utf8_run name none_left ≡ Some none_left)

abbrev pub AreWholeNames : Names → Type 0
AreWholeNames [] = Unit {0}
AreWholeNames (name ∷ names) = IsWholeName name × AreWholeNames names

abbrev pub FitsLevel : Level → Type 0
FitsLevel (within name names) = AreWholeNames (name ∷ names)
FitsLevel _ = Unit {0}

-- bytes of ASCII, none of them `<`
abbrev pub AreDue : List ℕ → Type 0
AreDue [] = Unit {0}
AreDue (c ∷ rest) = (c < 128) × (c ≢ 60) × AreDue rest

-- a reference that can still end
abbrev pub CanEnd : Ref → Type 0
CanEnd (due c rest) = AreDue (c ∷ rest)
CanEnd (decimal_at value) = value ≤ 0x10FFFF
CanEnd (hexadecimal_at value) = value ≤ 0x10FFFF
CanEnd _ = Unit {0}

abbrev pub FitsDashes : Dashes → Partial → Type 0
FitsDashes no_dash u = Unit {0}
FitsDashes _ u = u ≡ none_left

abbrev pub FitsAsked : Bool → Partial → Type 0
FitsAsked false u = Unit {0}
FitsAsked true u = u ≡ none_left

abbrev pub FitsSpot : Spot → Partial → Type 0
FitsSpot naming u = Unit {0}
FitsSpot (valuing quote) u = IsQuote quote
FitsSpot (referring quote r) u = (u ≡ none_left) × IsQuote quote × CanEnd r
FitsSpot _ u = u ≡ none_left

-- a reader may stand so in a character, in a text that is good so far
abbrev pub Fits : State → Partial → Type 0
Fits fresh u = u ≡ none_left
Fits m.mark_one u = u ≡ two
Fits m.mark_two u = u ≡ one
Fits (between level) u = (u ≡ none_left) × FitsLevel level
Fits (opened place level) u = (u ≡ none_left) × FitsLevel level
Fits (m.bang level) u = (u ≡ none_left) × FitsLevel level
Fits (bang_dash level) u = (u ≡ none_left) × FitsLevel level
Fits (in_comment dashes level) u = FitsDashes dashes u × FitsLevel level
Fits (in_instruction asked level) u = FitsAsked asked u × FitsLevel level
Fits (in_words place raw name names) u = AreWholeNames (name ∷ names)
Fits (in_reference r place raw name names) u = (u ≡ none_left) × CanEnd r × AreWholeNames (name ∷ names)
Fits (in_name place name names) u = IsName name × (utf8_run name none_left ≡ Some u) × AreWholeNames names
Fits (in_tag spot place name raw names) u = FitsSpot spot u × AreWholeNames (name ∷ names)
Fits (slashed slash place name raw names) u = (u ≡ none_left) × AreWholeNames (name ∷ names)
Fits (closing place rest names) u = AllAre is_name_byte rest × (utf8_run rest u ≡ Some none_left) × AreWholeNames names
Fits (closed place names) u = (u ≡ none_left) × AreWholeNames names

-- what a turn keeps
abbrev pub FitsTurn : Partial → ℕ → Turn → Type 0
FitsTurn u b off = Unit {0}
FitsTurn u b (on said next) = (v : Partial) → utf8_step u b ≡ Some v → Fits next v

abbrev pub Keeps : State → ℕ → ℕ → Turn → Type 0
Keeps s at b turn = (u : Partial) → Fits s u → FitsTurn u b turn

all_name_bytes : (name : List ℕ) → IsName name → AllAre is_name_byte name
all_name_bytes [] is = absurd is
all_name_bytes (b ∷ bs) is = (name_from_begins b is.0, is.1)

AllAre-append : (test : ℕ → Bool) (xs ys : List ℕ) → AllAre test xs → AllAre test ys → AllAre test (xs ++ ys)
AllAre-append test [] ys all more = more
AllAre-append test (x ∷ xs) ys all more = (all.0, AllAre-append test xs ys all.1 more)

name_grows : (acc : List ℕ) (b : ℕ) → IsName acc → is_name_byte b ≡ true → IsName (acc ++ b ∷ [])
name_grows [] b is h = absurd is
name_grows (c ∷ cs) b is h = (is.0, AllAre-append is_name_byte cs (b ∷ []) is.1 (h, tt))

outside_fits : (names : Names) (v : Partial) → v ≡ none_left → AreWholeNames names → Fits (between (level_of_names names)) v
outside_fits [] v same are = (same, tt)
outside_fits (name ∷ names) v same are = (same, are)

-- the run of one byte more
run_grows : (acc : List ℕ) (b : ℕ) (u v : Partial) → utf8_run acc none_left ≡ Some u → utf8_step u b ≡ Some v → utf8_run (acc ++ b ∷ []) none_left ≡ Some v
run_grows acc b u v ran is = run_append acc (b ∷ []) none_left u ran ∙ (run_on u b [] v is ∙ run_nil v)

-- the first byte of a name
name_begun : (place b : ℕ) (names : Names) (u v : Partial) → u ≡ none_left → utf8_step u b ≡ Some v → begins_name b ≡ true → AreWholeNames names → Fits (in_name place (b ∷ []) names) v
name_begun place b names u v same is h are =
    ((h, tt), run_on none_left b [] v (ap (λ w. utf8_step w b) (sym same) ∙ is) ∙ run_nil v, are)

mark_step : (u v : Partial) → u ≡ none_left → utf8_step u 0xEF ≡ Some v → v ≡ two
unfolding utf8_step
mark_step u v same is = let h : Some v ≡ Some two = sym is ∙ ap (λ w. utf8_step w 0xEF) same in cc

mark_two_step : (u v : Partial) → u ≡ two → utf8_step u 0xBB ≡ Some v → v ≡ one
unfolding utf8_step
mark_two_step u v same is = let h : Some v ≡ Some one = sym is ∙ ap (λ w. utf8_step w 0xBB) same in cc

mark_one_step : (u v : Partial) → u ≡ one → utf8_step u 0xBF ≡ Some v → v ≡ none_left
unfolding utf8_step
mark_one_step u v same is = let h : Some v ≡ Some none_left = sym is ∙ ap (λ w. utf8_step w 0xBF) same in cc

-- what a reference's turn keeps: it can still end, and its byte is one of ASCII
abbrev pub RefKeeps : ℕ → RefTurn → Type 0
RefKeeps b (ref_on r) = (b < 128) × CanEnd r
RefKeeps b ref_ends = b < 128
RefKeeps b ref_off = Unit {0}

digit_low : (b : ℕ) → is_digit b ≡ true → b < 128
unfolding is_digit
digit_low b h = grind arith

hex_low : (b : ℕ) → is_hex_digit b ≡ true → b < 128
unfolding is_hex_digit is_digit
hex_low b h = grind arith

number_keeps : (f : ℕ → Ref) (value b : ℕ) → b < 128 → (value ≤ 0x10FFFF → CanEnd (f value)) → RefKeeps b (number_on f value)
number_keeps f value b low can =
    by_test (RefKeeps b) (leb value 0x10FFFF) _ _ (λ h. (low, can (leb-true value 0x10FFFF h))) (λ _. tt)

ends_keep : (value b : ℕ) → b < 128 → RefKeeps b (number_ends value)
ends_keep value b low = by_test (RefKeeps b) (ltb value 0xD800 || _) _ _ (λ _. low) (λ _. tt)

due_keeps : (c : ℕ) (rest : List ℕ) (b : ℕ) → CanEnd (due c rest) → RefKeeps b (ref_step (due c rest) b)
due_keeps c [] b can = by_byte (λ n t. RefKeeps n t) b c _ _ can.0 (λ _. tt)
due_keeps c (d ∷ rest) b can = by_byte (λ n t. RefKeeps n t) b c _ _ (can.0, can.2) (λ _. tt)

pub ref_keeps : (r : Ref) (b : ℕ) → CanEnd r → RefKeeps b (ref_step r b)
ref_keeps begun b can =
    by_byte (λ n t. RefKeeps n t) b 97 _ _ (omega arith, tt)
    (λ _. by_byte (λ n t. RefKeeps n t) b 108 _ _ (omega arith, (omega arith, omega arith, (omega arith, omega arith, tt)))
    (λ _. by_byte (λ n t. RefKeeps n t) b 103 _ _ (omega arith, (omega arith, omega arith, (omega arith, omega arith, tt)))
    (λ _. by_byte (λ n t. RefKeeps n t) b 113 _ _ (omega arith, (omega arith, omega arith, (omega arith, omega arith, (omega arith, omega arith, (omega arith, omega arith, tt)))))
    (λ _. by_byte (λ n t. RefKeeps n t) b 35 _ _ (omega arith, tt) (λ _. tt)))))
ref_keeps after_a b can =
    by_byte (λ n t. RefKeeps n t) b 109 _ _ (omega arith, (omega arith, omega arith, (omega arith, omega arith, tt)))
    (λ _. by_byte (λ n t. RefKeeps n t) b 112 _ _ (omega arith, (omega arith, omega arith, (omega arith, omega arith, (omega arith, omega arith, tt)))) (λ _. tt))
ref_keeps (due c rest) b can = due_keeps c rest b can
ref_keeps hash b can =
    by_byte (λ n t. RefKeeps n t) b 120 _ _ (omega arith, tt)
    (λ _. by_test (RefKeeps b) (is_digit b) _ _ (λ h. number_keeps decimal_at (digit_value b) b (digit_low b h) (λ le. le)) (λ _. tt))
ref_keeps (decimal_at value) b can =
    by_byte (λ n t. RefKeeps n t) b 59 _ _ (ends_keep value 59 (omega arith))
    (λ _. by_test (RefKeeps b) (is_digit b) _ _ (λ h. number_keeps decimal_at (value * 10 + digit_value b) b (digit_low b h) (λ le. le)) (λ _. tt))
ref_keeps hash_x b can =
    by_test (RefKeeps b) (is_hex_digit b) _ _ (λ h. number_keeps hexadecimal_at (digit_value b) b (hex_low b h) (λ le. le)) (λ _. tt)
ref_keeps (hexadecimal_at value) b can =
    by_byte (λ n t. RefKeeps n t) b 59 _ _ (ends_keep value 59 (omega arith))
    (λ _. by_test (RefKeeps b) (is_hex_digit b) _ _ (λ h. number_keeps hexadecimal_at (value * 16 + digit_value b) b (hex_low b h) (λ le. le)) (λ _. tt))

-- what a turn of the attributes keeps
abbrev pub SpotKeeps : Partial → ℕ → SpotTurn → Type 0
SpotKeeps u b (spot_on spot) = (v : Partial) → utf8_step u b ≡ Some v → FitsSpot spot v
SpotKeeps u b spot_off = Unit {0}

value_keeps : (u : Partial) (b quote : ℕ) (turn : RefTurn) → IsQuote quote → RefKeeps b turn → SpotKeeps u b (in_value quote turn)
value_keeps u b quote (ref_on r) is kept = λ v e. ((ascii_step u v b kept.0 e).1, is, kept.1)
value_keeps u b quote ref_ends is kept = λ v e. is
value_keeps u b quote ref_off is kept = tt

equal_keeps : (u : Partial) (b : ℕ) → SpotKeeps u b (m.equal_sign b)
equal_keeps u b = by_byte (λ n t. SpotKeeps u n t) b 61 _ _ (λ v e. (ascii_step u v 61 (omega arith) e).1) (λ _. tt)

spaces_keep : (u : Partial) (b : ℕ) (spot : Spot) → ((v : Partial) → v ≡ none_left → FitsSpot spot v) → is_space b ≡ true → SpotKeeps u b (spot_on spot)
spaces_keep u b spot fits h = λ v e. fits v (ascii_step u v b (space_low b h) e).1

pub spot_keeps : (spot : Spot) (b : ℕ) (u : Partial) → FitsSpot spot u → SpotKeeps u b (spot_step spot b)
spot_keeps spaced b u fits =
    by_test (SpotKeeps u b) (is_space b) _ _ (λ h. spaces_keep u b spaced (λ v e. e) h)
    (λ _. by_test (SpotKeeps u b) (begins_name b) _ _ (λ _ v e. tt) (λ _. tt))
spot_keeps naming b u fits =
    by_test (SpotKeeps u b) (is_name_byte b) _ _ (λ _ v e. tt)
    (λ _. by_test (SpotKeeps u b) (is_space b) _ _ (λ h. spaces_keep u b named (λ v e. e) h) (λ _. equal_keeps u b))
spot_keeps named b u fits =
    by_test (SpotKeeps u b) (is_space b) _ _ (λ h. spaces_keep u b named (λ v e. e) h) (λ _. equal_keeps u b)
spot_keeps equalled b u fits =
    by_test (SpotKeeps u b) (is_space b) _ _ (λ h. spaces_keep u b equalled (λ v e. e) h)
    (λ _. by_test (SpotKeeps u b) (eqb b 34) _ _ (λ _ v e. inl refl)
    (λ _. by_test (SpotKeeps u b) (eqb b 39) _ _ (λ _ v e. inr refl) (λ _. tt)))
spot_keeps (valuing quote) b u is =
    by_test (SpotKeeps u b) (eqb b quote) _ _ (λ same v e. (ascii_step u v b (quote_low is (eqb-true b quote same)) e).1)
    (λ _. by_byte (λ n t. SpotKeeps u n t) b 38 _ _ (λ v e. ((ascii_step u v 38 (omega arith) e).1, is, tt))
    (λ _. by_test (SpotKeeps u b) (is_value quote b) _ _ (λ _ v e. is) (λ _. tt)))
  where
    quote_low : IsQuote quote → b ≡ quote → b < 128
    quote_low (inl double) same = omega arith
    quote_low (inr single) same = omega arith
spot_keeps (referring quote r) b u fits = value_keeps u b quote (ref_step r b) fits.1 (ref_keeps r b fits.2)
spot_keeps valued b u fits =
    by_test (SpotKeeps u b) (is_space b) _ _ (λ h. spaces_keep u b spaced (λ v e. e) h) (λ _. tt)

comments_keep : (dashes : Dashes) (level : Level) (at b : ℕ) → Keeps (in_comment dashes level) at b (comment_step dashes level b)
comments_keep no_dash level at b = λ u fits.
    by_byte (λ n t. FitsTurn u n t) b 45 _ _ (λ v e. ((ascii_step u v 45 (omega arith) e).1, fits.1)) (λ _ v e. (tt, fits.1))
comments_keep one_dash level at b = λ u fits.
    by_byte (λ n t. FitsTurn u n t) b 45 _ _ (λ v e. ((ascii_step u v 45 (omega arith) e).1, fits.1)) (λ _ v e. (tt, fits.1))
comments_keep two_dashes level at b = λ u fits.
    by_byte (λ n t. FitsTurn u n t) b 62 _ _ (λ v e. ((ascii_step u v 62 (omega arith) e).1, fits.1))
    (λ _. by_byte (λ n t. FitsTurn u n t) b 45 _ _ (λ v e. ((ascii_step u v 45 (omega arith) e).1, fits.1)) (λ _ v e. (tt, fits.1)))

instructions_keep : (asked : Bool) (level : Level) (at b : ℕ) → Keeps (in_instruction asked level) at b (instruction_step asked level b)
instructions_keep false level at b = λ u fits.
    by_byte (λ n t. FitsTurn u n t) b 63 _ _ (λ v e. ((ascii_step u v 63 (omega arith) e).1, fits.1)) (λ _ v e. (tt, fits.1))
instructions_keep true level at b = λ u fits.
    by_byte (λ n t. FitsTurn u n t) b 62 _ _ (λ v e. ((ascii_step u v 62 (omega arith) e).1, fits.1))
    (λ _. by_byte (λ n t. FitsTurn u n t) b 63 _ _ (λ v e. ((ascii_step u v 63 (omega arith) e).1, fits.1)) (λ _ v e. (tt, fits.1)))

references_keep : (turn : RefTurn) (place : ℕ) (raw name : List ℕ) (names : Names) (b : ℕ) (u : Partial) → RefKeeps b turn → AreWholeNames (name ∷ names) → FitsTurn u b (in_run turn place raw name names)
references_keep (ref_on r) place raw name names b u kept are = λ v e. ((ascii_step u v b kept.0 e).1, kept.1, are)
references_keep ref_ends place raw name names b u kept are = λ v e. are
references_keep ref_off place raw name names b u kept are = tt

tags_keep : (turn : SpotTurn) (place : ℕ) (name raw : List ℕ) (names : Names) (b : ℕ) (u : Partial) → SpotKeeps u b turn → AreWholeNames (name ∷ names) → FitsTurn u b (tag_turn turn place name raw names)
tags_keep (spot_on spot) place name raw names b u kept are = λ v e. (kept v e, are)
tags_keep spot_off place name raw names b u kept are = tt

keeps_edges : Edges Keeps
keeps_edges = record {
  refused = λ s at b u fits. tt;
  fresh_marked = λ at u fits v e. mark_step u v fits e;
  fresh_opens = λ at u fits v e. ((ascii_step u v 60 (omega arith) e).1, tt);
  fresh_space = λ at b h u fits v e. ((ascii_step u v b (space_low b h) e).1, tt);
  marked_one = λ at u fits v e. mark_two_step u v fits e;
  marked_two = λ at u fits v e. (mark_one_step u v fits e, tt);
  opens = λ level at u fits v e. ((ascii_step u v 60 (omega arith) e).1, fits.1);
  space_before = λ at b h u fits v e. ((ascii_step u v b (space_low b h) e).1, tt);
  space_behind = λ at b h u fits v e. ((ascii_step u v b (space_low b h) e).1, tt);
  words_begin = λ name names at b h u fits v e. fits.1;
  reference_begins = λ name names at u fits v e. ((ascii_step u v 38 (omega arith) e).1, tt, fits.1);
  bangs = λ place level at u fits v e. ((ascii_step u v 33 (omega arith) e).1, fits.1);
  asks = λ place level at u fits v e. (tt, fits.1);
  root_begins = λ place at b h u fits v e. name_begun place b [] u v fits.0 e h tt;
  child_begins = λ place name names at b h u fits v e. name_begun place b (name ∷ names) u v fits.0 e h fits.1;
  slashes = λ place name names at u fits v e.
      (all_name_bytes name fits.1.0.0, ap (λ w. utf8_run name w) (ascii_step u v 47 (omega arith) e).1 ∙ fits.1.0.1, fits.1.1);
  dash_one = λ level at u fits v e. ((ascii_step u v 45 (omega arith) e).1, fits.1);
  dash_two = λ level at u fits v e. (tt, fits.1);
  comments = comments_keep;
  instructions = instructions_keep;
  words_end = λ place raw name names at u fits v e. ((ascii_step u v 60 (omega arith) e).1, fits);
  words_go = λ place raw name names at b h u fits v e. fits;
  words_refer = λ place raw name names at u fits v e. ((ascii_step u v 38 (omega arith) e).1, tt, fits);
  references = λ r place raw name names at b u fits. references_keep (ref_step r b) place (raw ++ b ∷ []) name names b u (ref_keeps r b fits.1) fits.2;
  name_ends = λ place name names at u fits v e.
      let both = ascii_step u v 62 (omega arith) e in (both.1, ((fits.0, fits.1 ∙ ap (λ w. Some w) both.0), fits.2));
  name_slash = λ place name names at u fits v e.
      let both = ascii_step u v 47 (omega arith) e in (both.1, ((fits.0, fits.1 ∙ ap (λ w. Some w) both.0), fits.2));
  name_goes = λ place name names at b h u fits v e. (name_grows name b fits.0 h, run_grows name b u v fits.1 e, fits.2);
  name_space = λ place name names at b h u fits v e.
      let both = ascii_step u v b (space_low b h) e in (both.1, ((fits.0, fits.1 ∙ ap (λ w. Some w) both.0), fits.2));
  tag_ends = λ spot place name raw names at may u fits v e. ((ascii_step u v 62 (omega arith) e).1, fits.1);
  tag_slash = λ spot place name raw names at may u fits v e. ((ascii_step u v 47 (omega arith) e).1, fits.1);
  tag_goes = λ spot place name raw names at b u fits. tags_keep (spot_step spot b) place name (raw ++ b ∷ []) names b u (spot_keeps spot b u fits.0) fits.1;
  empty_ends = λ slash place name raw names at u fits v e. outside_fits names v (ascii_step u v 62 (omega arith) e).1 fits.1.1;
  end_ends = λ place names at u fits v e. outside_fits names v (ascii_step u v 62 (omega arith) e).1 fits.2;
  end_space = λ place names at b h u fits v e. ((ascii_step u v b (space_low b h) e).1, fits.2);
  end_goes = λ place c rest names at u fits v e. (fits.0.1, sym (run_on u c rest v e) ∙ fits.1, fits.2);
  closed_ends = λ place names at u fits v e. outside_fits names v (ascii_step u v 62 (omega arith) e).1 fits.1;
  closed_space = λ place names at b h u fits v e. ((ascii_step u v b (space_low b h) e).1, fits.1);
}

-- each step keeps to it
pub fits_step : (s : State) (at b : ℕ) (u v : Partial) (said : List Answer) (next : State) → Fits s u → step s at b ≡ on said next → utf8_step u b ≡ Some v → Fits next v
fits_step s at b u v said next fits is e =
    let P : Turn → Type 0 = λ turn. FitsTurn u b turn in subst P is (edges Keeps keeps_edges s at b u fits) v e
