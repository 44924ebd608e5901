-- Which quotation mark has no closing one.
use Rattle.std.proofs.Common.{◌≡◌, ◌≢◌, refl, sym, ap, ◌∙◌, ℕ, ◌+◌, ◌-◌, ◌%◌, ◌<◌, Bool, false, cond, not, ◌==◌, List, [], ◌∷◌, ◌++◌, length, get_or, All, Some, None, arith, append_assoc, length-append}
use Rattle.std.specs.List.{before_last, count_by, suffix_len}
use Rattle.std.proofs.lemmas.Bool.{ne_eqb}
use Rattle.std.proofs.lemmas.List.{get_or-append_right, get_or_at, length-take}
use Rattle.std.proofs.lemmas.List.Elements.{All-from_get_or, All-get_or, All-head, All-tail}
use Rattle.std.proofs.lemmas.List.Sums.{suffix_len_is, sum_by-append, sum_by-cons}
use Rattle.line_words.specs.Spelling.{HasNoQuote}
use Rattle.line_words.specs.Words.{is_quote, open_quote}

-- ---- none

-- a byte is no quotation mark
abbrev pub NoQuote : ℕ → Type 0
NoQuote b = is_quote b ≡ false

-- no byte of a text is this one
pub none_is : (c : ℕ) (text : List ℕ) → ((i : ℕ) → i < length text → get_or text i 0 ≢ c) → All (λ b. (b == c) ≡ false) text
none_is c text other = All-from_get_or (λ b. (b == c) ≡ false) text 0 (λ i within. ne_eqb (get_or text i 0) c (other i within))

-- what follows in a text without quotation marks has none
pub none_behind : (front following : List ℕ) → HasNoQuote (front ++ following) → HasNoQuote following
none_behind [] following none = none
none_behind (b ∷ bs) following none = none_behind bs following (All-tail NoQuote b (bs ++ following) none)

-- ---- how many there are

abbrev pub quotes_in : List ℕ → ℕ
quotes_in = count_by is_quote

-- how many a byte is
abbrev quotes_at : ℕ → ℕ
quotes_at b = cond (is_quote b) 1 0

pub quotes_joined : (front following : List ℕ) → quotes_in (front ++ following) ≡ quotes_in front + quotes_in following
quotes_joined = sum_by-append quotes_at

no_quotes : (text : List ℕ) → HasNoQuote text → quotes_in text ≡ 0
no_quotes [] none = refl
no_quotes (b ∷ bs) none =
    let first : quotes_at b ≡ 0 = ap (λ (x : Bool). cond x 1 0) (All-head NoQuote b bs none) in
    omega (arith, sum_by-cons quotes_at b bs, first, no_quotes bs (All-tail NoQuote b bs none))

pub first_quote : (before following : List ℕ) → HasNoQuote before → quotes_in (before ++ 34 ∷ following) ≡ 1 + quotes_in following
first_quote before following none =
    omega (arith, quotes_joined before (34 ∷ following), sum_by-cons quotes_at 34 following, no_quotes before none)

-- ---- the last one

-- where nothing behind a quotation mark is one, it is the last
before_last_quote : (front quoted : List ℕ) → HasNoQuote quoted → length (before_last is_quote (front ++ 34 ∷ quoted)) ≡ length front
before_last_quote front quoted none =
    let line = front ++ 34 ∷ quoted in
    let long : length line ≡ length front + (1 + length quoted) = omega (arith, length-append front (34 ∷ quoted)) in
    let split : line ≡ (front ++ 34 ∷ []) ++ quoted = sym (append_assoc front (34 ∷ []) quoted) in
    let upto : length (front ++ 34 ∷ []) ≡ length front + 1 = omega (arith, length-append front (34 ∷ [])) in
    let suffix : suffix_len (λ b. not (is_quote b)) line ≡ length line - (length front + 1) =
    suffix_len_is (λ b. not (is_quote b)) line (length front + 1) 0 (omega (arith, long))
    (λ k after within.
    ap (λ l. not (is_quote (get_or l k 0))) split
    ∙ ap (λ b. not (is_quote b)) (get_or-append_right (front ++ 34 ∷ []) quoted (length front + 1) k 0 upto after)
    ∙ ap not (All-get_or NoQuote quoted (k - (length front + 1)) 0 (omega (arith, long, after, within)) none))
    (λ some. ap (λ b. not (is_quote b)) (get_or_at front 34 quoted 0 (length front + 1 - 1) (omega arith))) in
    omega (arith, suffix, long, length-take (length line - suffix_len (λ b. not (is_quote b)) line - 1) line)

-- ---- outside of quotation marks

-- what is left of a line, where each quotation mark before it has its closing one
pub record IsOutside (rest line : List ℕ) : Type 0 where
  pub front : List ℕ
  pub joined : line ≡ front ++ rest
  pub closed : quotes_in front % 2 ≡ 0

pub whole_line : (line : List ℕ) → IsOutside line line
whole_line line = record { front = []; joined = refl; closed = refl }

-- past a quotation mark and its closing one
pub past_quotes : (before part following line : List ℕ) → IsOutside (before ++ 34 ∷ (part ++ 34 ∷ following)) line
    → HasNoQuote before → HasNoQuote part → IsOutside following line
past_quotes before part following line outside none_before none_within =
    let front = outside.front in
    let gone = before ++ 34 ∷ (part ++ 34 ∷ []) in
    let all : (front ++ gone) ++ following ≡ front ++ (before ++ 34 ∷ (part ++ 34 ∷ following)) = simp append_assoc in
    record {
      front = front ++ gone;
      joined = outside.joined ∙ sym all;
      closed = let closed = outside.closed in omega (arith, closed, quotes_joined front gone, first_quote before (part ++ 34 ∷ []) none_before, first_quote part [] none_within);
    }

pub none_open : (rest line : List ℕ) → IsOutside rest line → HasNoQuote rest → open_quote line ≡ None
none_open rest line outside none =
    let closed = outside.closed in
    let even : quotes_in line % 2 ≡ 0 = omega (arith, closed, ap quotes_in outside.joined, quotes_joined outside.front rest, no_quotes rest none) in
    ap (λ n. cond (n == 0) None (Some (length (before_last is_quote line)))) even

pub last_open : (before quoted line : List ℕ) → IsOutside (before ++ 34 ∷ quoted) line → HasNoQuote before → HasNoQuote quoted
    → open_quote line ≡ Some (length line - length quoted - 1)
last_open before quoted line outside none_before none_behind =
    let front = outside.front in
    let closed = outside.closed in
    let split : line ≡ (front ++ before) ++ 34 ∷ quoted = outside.joined ∙ sym (append_assoc front before (34 ∷ quoted)) in
    let odd : quotes_in line % 2 ≡ 1 = omega (arith, closed, ap quotes_in outside.joined, quotes_joined front (before ++ 34 ∷ quoted), first_quote before quoted none_before, no_quotes quoted none_behind) in
    let at : length (before_last is_quote line) ≡ length line - length quoted - 1 =
    omega (arith, ap (λ l. length (before_last is_quote l)) split, before_last_quote (front ++ before) quoted none_behind, ap length split, length-append (front ++ before) (34 ∷ quoted)) in
    ap (λ n. cond (n == 0) None (Some (length (before_last is_quote line)))) odd ∙ ap Some at
