-- A reader of the grammar, byte by byte. That its answers are those of the grammar's trees is
-- proved.
use Rattle.std.specs.Prelude.{ℕ, ◌+◌, ◌*◌, ◌==◌, nat_le, nat_lt, Bool, true, false, ◌&&◌, ◌||◌, if◌then◌else◌, List, [], ◌∷◌, ◌++◌}
use Rattle.markup_grammar.specs.Answers.{Answer, start, words, stop, finish, form}
use Rattle.markup_grammar.specs.Bytes.{is_space, is_digit, is_hex_digit, digit_value, begins_name, is_name_byte, is_text, is_value}

-- the names of open elements, the innermost first
abbrev pub Names : Type 0
Names = List (List ℕ)

-- where a reader is outside tags
pub data Level : Type 0 where
  -- before the outermost element
  before : Level
  -- in an element, with the names of those round it
  within : List ℕ → Names → Level
  -- after the outermost element
  behind : Level

-- where a reader is in a reference
pub data Ref : Type 0 where
  -- after `&`
  begun : Ref
  -- after `&a`
  after_a : Ref
  -- where this byte must come, and these after it
  due : ℕ → List ℕ → Ref
  -- after `&#`
  hash : Ref
  -- after `&#` and the digits of this number
  decimal_at : ℕ → Ref
  -- after `&#x`
  hash_x : Ref
  -- after `&#x` and the digits of this number
  hexadecimal_at : ℕ → Ref

-- how many of the bytes of `--` a comment has come to
pub data Dashes : Type 0 where
  no_dash : Dashes
  one_dash : Dashes
  two_dashes : Dashes

-- where a reader is in a start tag after its name
pub data Spot : Type 0 where
  -- after white space
  spaced : Spot
  -- in an attribute's name
  naming : Spot
  -- after an attribute's name and white space
  named : Spot
  -- after `=`
  equalled : Spot
  -- in a value between two of this quote
  valuing : ℕ → Spot
  -- in a reference in such a value
  referring : ℕ → Ref → Spot
  -- after a value's second quote
  valued : Spot

-- Where a reader is. A tag or a run of text that has begun carries its place and what it has
-- come to.
pub data State : Type 0 where
  -- at the very start of the text
  fresh : State
  -- after the first byte of the byte order mark, and after the second
  mark_one : State
  mark_two : State
  -- between tags, in no run of text
  between : Level → State
  -- after a `<`
  opened : ℕ → Level → State
  -- after `<!`, and after `<!-`
  bang : Level → State
  bang_dash : Level → State
  -- in a comment
  in_comment : Dashes → Level → State
  -- in an instruction, and whether after a `?`
  in_instruction : Bool → Level → State
  -- in a run of text: its place and its bytes, and the names of the elements that are open
  in_words : ℕ → List ℕ → List ℕ → Names → State
  -- in a reference in a run of text
  in_reference : Ref → ℕ → List ℕ → List ℕ → Names → State
  -- in a start tag's name: the tag's place, and the name so far
  in_name : ℕ → List ℕ → Names → State
  -- in a start tag after its name: the tag's place, its name, and the raw text so far
  in_tag : Spot → ℕ → List ℕ → List ℕ → Names → State
  -- after the `/` of an empty element, by that one's place
  slashed : ℕ → ℕ → List ℕ → List ℕ → Names → State
  -- in an end tag, with what must come of its name
  closing : ℕ → List ℕ → Names → State
  -- in an end tag after its name and white space
  closed : ℕ → Names → State

-- one byte: it is good, and gives these pieces; or it is refused
pub data Turn : Type 0 where
  on : List Answer → State → Turn
  off : Turn

-- one byte of a reference: it goes on, it ends, or it is refused
pub data RefTurn : Type 0 where
  ref_on : Ref → RefTurn
  ref_ends : RefTurn
  ref_off : RefTurn

-- one byte of a start tag after its name: it goes on, or it is refused
pub data SpotTurn : Type 0 where
  spot_on : Spot → SpotTurn
  spot_off : SpotTurn

-- a number of at most 0x10FFFF goes on
abbrev pub number_on : (ℕ → Ref) → ℕ → RefTurn
number_on at_number value = if nat_le value 0x10FFFF then ref_on (at_number value) else ref_off

-- a number ends, where it is no surrogate
abbrev pub number_ends : ℕ → RefTurn
number_ends value = if nat_lt value 0xD800 || (nat_le 0xE000 value && nat_le value 0x10FFFF) then
    ref_ends else ref_off

-- one byte of a reference
abbrev pub ref_step : Ref → ℕ → RefTurn
ref_step begun b =
    if b == 97 then ref_on after_a
    else (if b == 108 then ref_on (due 116 (59 ∷ []))
    else (if b == 103 then ref_on (due 116 (59 ∷ []))
    else (if b == 113 then ref_on (due 117 (111 ∷ 116 ∷ 59 ∷ []))
    else (if b == 35 then ref_on hash else ref_off))))
ref_step after_a b =
    if b == 109 then ref_on (due 112 (59 ∷ []))
    else (if b == 112 then ref_on (due 111 (115 ∷ 59 ∷ [])) else ref_off)
ref_step (due c []) b = if b == c then ref_ends else ref_off
ref_step (due c (d ∷ rest)) b = if b == c then ref_on (due d rest) else ref_off
ref_step hash b =
    if b == 120 then ref_on hash_x else (if is_digit b then number_on decimal_at (digit_value b)
    else ref_off)
ref_step (decimal_at value) b =
    if b == 59 then number_ends value
    else (if is_digit b then number_on decimal_at (value * 10 + digit_value b) else ref_off)
ref_step hash_x b = if is_hex_digit b then number_on hexadecimal_at (digit_value b) else ref_off
ref_step (hexadecimal_at value) b =
    if b == 59 then number_ends value
    else (if is_hex_digit b then number_on hexadecimal_at (value * 16 + digit_value b) else ref_off)

-- what a reference's turn is in a value
abbrev pub in_value : ℕ → RefTurn → SpotTurn
in_value quote (ref_on r) = spot_on (referring quote r)
in_value quote ref_ends = spot_on (valuing quote)
in_value quote ref_off = spot_off

-- `=`
abbrev pub equal_sign : ℕ → SpotTurn
equal_sign b = if b == 61 then spot_on equalled else spot_off

-- one byte of a start tag after its name, but the `>` or `/` that ends it
abbrev pub spot_step : Spot → ℕ → SpotTurn
spot_step spaced b = if is_space b then spot_on spaced else
    (if begins_name b then spot_on naming else spot_off)
spot_step naming b = if is_name_byte b then spot_on naming else
    (if is_space b then spot_on named else equal_sign b)
spot_step named b = if is_space b then spot_on named else equal_sign b
spot_step equalled b =
    if is_space b then spot_on equalled
    else (if b == 34 then spot_on (valuing 34) else
    (if b == 39 then spot_on (valuing 39) else spot_off))
spot_step (valuing quote) b =
    if b == quote then spot_on valued
    else (if b == 38 then spot_on (referring quote begun)
    else (if is_value quote b then spot_on (valuing quote) else spot_off))
spot_step (referring quote r) b = in_value quote (ref_step r b)
spot_step valued b = if is_space b then spot_on spaced else spot_off

-- after an end tag or an empty element
abbrev pub level_of_names : Names → Level
level_of_names [] = behind
level_of_names (name ∷ names) = within name names

-- what a turn of the attributes is
abbrev pub tag_turn : SpotTurn → ℕ → List ℕ → List ℕ → Names → Turn
tag_turn (spot_on spot) place name raw names = on [] (in_tag spot place name raw names)
tag_turn spot_off place name raw names = off

-- a byte where a start tag may end: by `>`, or by the `/` of an empty element; or it does another
-- turn
abbrev pub or_ends : ℕ → ℕ → ℕ → List ℕ → List ℕ → Names → Turn → Turn
or_ends at b place name raw names other =
    if b == 62 then on (start place name raw ∷ []) (between (within name names))
    else (if b == 47 then on [] (slashed at place name raw names) else other)

-- a byte of a run of text that has come to these bytes, or that is before one
abbrev pub word_on : ℕ → ℕ → List ℕ → List ℕ → Names → Turn
word_on b place raw name names =
    if b == 38 then on [] (in_reference begun place (raw ++ b ∷ []) name names)
    else (if is_text b then on [] (in_words place (raw ++ b ∷ []) name names) else off)

-- what a reference's turn is in a run of text
abbrev pub in_run : RefTurn → ℕ → List ℕ → List ℕ → Names → Turn
in_run (ref_on r) place raw name names = on [] (in_reference r place raw name names)
in_run ref_ends place raw name names = on [] (in_words place raw name names)
in_run ref_off place raw name names = off

-- the first byte of a start tag's name
abbrev pub name_begins : ℕ → ℕ → Names → Turn
name_begins b place names = if begins_name b then on [] (in_name place (b ∷ []) names) else off

-- past `<`, what begins neither a comment nor an instruction
abbrev pub tag_begins : Level → ℕ → ℕ → Turn
tag_begins before place b = name_begins b place []
tag_begins (within name names) place b =
    if b == 47 then on [] (closing place name names) else name_begins b place (name ∷ names)
tag_begins behind place b = off

-- between tags, another byte than `<`
abbrev pub between_step : Level → ℕ → ℕ → Turn
between_step before at b = if is_space b then on [] (between before) else off
between_step (within name names) at b = word_on b at [] name names
between_step behind at b = if is_space b then on [] (between behind) else off

-- one byte of a comment
abbrev pub comment_step : Dashes → Level → ℕ → Turn
comment_step no_dash level b = if b == 45 then on [] (in_comment one_dash level) else on []
    (in_comment no_dash level)
comment_step one_dash level b = if b == 45 then on [] (in_comment two_dashes level) else on []
    (in_comment no_dash level)
comment_step two_dashes level b =
    if b == 62 then on [] (between level)
    else (if b == 45 then on [] (in_comment two_dashes level) else on [] (in_comment no_dash level))

-- one byte of an instruction
abbrev pub instruction_step : Bool → Level → ℕ → Turn
instruction_step false level b =
    if b == 63 then on [] (in_instruction true level) else on [] (in_instruction false level)
instruction_step true level b =
    if b == 62 then on [] (between level)
    else (if b == 63 then on [] (in_instruction true level) else on [] (in_instruction false level))

-- what the byte at this place does
abbrev pub step : State → ℕ → ℕ → Turn
step fresh at b =
    if b == 0xEF then on [] mark_one
    else (if b == 60 then on [] (opened at before) else between_step before at b)
step mark_one at b = if b == 0xBB then on [] mark_two else off
step mark_two at b = if b == 0xBF then on [] (between before) else off
step (between level) at b = if b == 60 then on [] (opened at level) else between_step level at b
step (opened place level) at b =
    if b == 33 then on [] (bang level)
    else (if b == 63 then on [] (in_instruction false level) else tag_begins level place b)
step (bang level) at b = if b == 45 then on [] (bang_dash level) else off
step (bang_dash level) at b = if b == 45 then on [] (in_comment no_dash level) else off
step (in_comment dashes level) at b = comment_step dashes level b
step (in_instruction asked level) at b = instruction_step asked level b
step (in_words place raw name names) at b =
    if b == 60 then on (words place raw ∷ []) (opened at (within name names)) else word_on b place
    raw name names
step (in_reference r place raw name names) at b = in_run (ref_step r b) place (raw ++ b ∷ []) name
    names
step (in_name place name names) at b =
    or_ends at b place name [] names
    (if is_name_byte b then on [] (in_name place (name ++ b ∷ []) names)
    else (if is_space b then on [] (in_tag spaced place name (b ∷ []) names) else off))
step (in_tag spaced place name raw names) at b =
    or_ends at b place name raw names (tag_turn (spot_step spaced b) place name (raw ++ b ∷ [])
    names)
step (in_tag valued place name raw names) at b =
    or_ends at b place name raw names (tag_turn (spot_step valued b) place name (raw ++ b ∷ [])
    names)
step (in_tag spot place name raw names) at b = tag_turn (spot_step spot b) place name
    (raw ++ b ∷ []) names
step (slashed slash place name raw names) at b =
    if b == 62 then on (start place name raw ∷ stop slash ∷ []) (between (level_of_names names))
    else off
step (closing place [] names) at b =
    if b == 62 then on (stop place ∷ []) (between (level_of_names names))
    else (if is_space b then on [] (closed place names) else off)
step (closing place (c ∷ rest) names) at b = if b == c then on [] (closing place rest names) else
    off
step (closed place names) at b =
    if b == 62 then on (stop place ∷ []) (between (level_of_names names))
    else (if is_space b then on [] (closed place names) else off)

-- the verdict where the text ends
abbrev pub verdict : State → ℕ → Answer
verdict (between behind) at = finish
verdict state at = form at

-- the answers of a turn and of what follows it
abbrev pub answers_of_turn : Turn → ℕ → (State → List Answer) → List Answer
answers_of_turn (on answers state) at more = answers ++ more state
answers_of_turn off at more = form at ∷ []

-- the answers from a state on, at this place, over these bytes
unfoldable pub answers_from : State → ℕ → List ℕ → List Answer
answers_from state at [] = verdict state at ∷ []
answers_from state at (b ∷ rest) = answers_of_turn (step state at b) at
    (λ next. answers_from next (at + 1) rest)
