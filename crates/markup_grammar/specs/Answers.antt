-- What a reader of markup answers, call by call: the pieces of a text, and last its verdict.
use Rattle.std.specs.Prelude.{ℕ, ◌+◌, ◌-◌, ◌≡◌, nat_lt, Bool, true, false, if◌then◌else◌, Option, Some, None, List, [], ◌∷◌}

-- one answer
pub data Answer : Type 0 where
  -- a start tag: its place, its name, and the raw text between the name and the tag's `>` or `/>`
  start : ℕ → List ℕ → List ℕ → Answer
  -- a run of text: its place, and the run as it is
  words : ℕ → List ℕ → Answer
  -- the place of an end tag, or of the `/` of an empty element
  stop : ℕ → Answer
  -- the end of a text that is in the grammar
  finish : Answer
  -- a text that leaves the grammar: the length of its longest prefix that begins a text of the
  -- grammar
  form : ℕ → Answer
  -- a text of too many open elements: the place of the start tag that opens the 257th
  depth : ℕ → Answer

-- whether the answers end in `finish`
abbrev pub finishes : List Answer → Bool
finishes [] = false
finishes (finish ∷ answers) = true
finishes (_ ∷ answers) = finishes answers

-- the place of the refusal, where there is one
abbrev pub refused_at : List Answer → Option ℕ
refused_at [] = None
refused_at (form place ∷ answers) = Some place
refused_at (depth place ∷ answers) = Some place
refused_at (_ ∷ answers) = refused_at answers

-- the refusal, where there is one
abbrev pub refusal_of : List Answer → Option Answer
refusal_of [] = None
refusal_of (form place ∷ answers) = Some (form place)
refusal_of (depth place ∷ answers) = Some (depth place)
refusal_of (_ ∷ answers) = refusal_of answers

-- the answers up to the start tag with which more than 256 elements would be open, which is refused
-- at its place
abbrev pub limit_depth : ℕ → List Answer → List Answer
limit_depth open_count [] = []
limit_depth open_count (start place name raw ∷ answers) =
    if nat_lt open_count 256 then start place name raw ∷ limit_depth (open_count + 1) answers
    else depth place ∷ []
limit_depth open_count (stop place ∷ answers) = stop place ∷ limit_depth (open_count - 1) answers
limit_depth open_count (words place raw ∷ answers) = words place raw ∷ limit_depth open_count
    answers
limit_depth open_count (finish ∷ answers) = finish ∷ limit_depth open_count answers
limit_depth open_count (form place ∷ answers) = form place ∷ limit_depth open_count answers
limit_depth open_count (depth place ∷ answers) = depth place ∷ limit_depth open_count answers

-- the answers on a prefix of a text after which more bytes come: its end is no end of the text
abbrev pub cut_short : ℕ → List Answer → List Answer
cut_short place [] = []
cut_short place (finish ∷ answers) = form place ∷ cut_short place answers
cut_short place (answer ∷ answers) = answer ∷ cut_short place answers

-- pieces, and then the end or a refusal
abbrev pub EndsOnce : List Answer → Type 0
EndsOnce [] = ⊥
EndsOnce (finish ∷ answers) = answers ≡ []
EndsOnce (form place ∷ answers) = answers ≡ []
EndsOnce (depth place ∷ answers) = answers ≡ []
EndsOnce (_ ∷ answers) = EndsOnce answers
