-- How many elements are open in a state, and what stands before a start tag that has begun.
use Rattle.std.proofs.Common.{◌≡◌, ℕ, suc, ◌+◌, ◌-◌, ◌<◌, Bool, true, false, cond, Option, Some, None, List, [], ◌∷◌, ◌++◌, length, take, refl, ap, sym, ◌∙◌, subst, inl, inr, ◌⊎◌, append_assoc, append-nil, length-append, arith}
use Rattle.std.proofs.Math.Seq.{take-append_seam}
use Rattle.markup_grammar.specs.Answers.{Answer, start, words, stop}
use Rattle.markup_grammar.specs.Bytes.{is_space, IsName}
use Rattle.markup_grammar.specs.Faults.{end_tags, LeavesOpen, IsTooDeep}
use Rattle.markup_grammar.specs.Machine as m
use Rattle.markup_grammar.specs.Machine.{State, Level, Spot, Names, Turn, RefTurn, SpotTurn, on, off, ref_on, ref_ends, ref_off, spot_on, spot_off, step, ref_step, spot_step, in_run, tag_turn, level_of_names, before, within, behind, spaced, valued, fresh, between, opened, bang_dash, in_comment, in_instruction, in_words, in_reference, in_name, in_tag, slashed, closing, closed}
use Rattle.markup_grammar.specs.Tags.{IsTagText}
use Rattle.markup_grammar.specs.Tree.{start_tag, empty_tag}
use Rattle.markup_grammar.specs.Utf8.{Partial, none_left, utf8_step, utf8_run}
use Rattle.markup_grammar.proofs.Edges.{Edges, edges, MayEnd, in_comments, in_instructions, in_runs, in_tags}
use Rattle.markup_grammar.proofs.Fits.{Fits, ascii_step}
use Rattle.markup_grammar.proofs.Runs.{open_names}
use Rattle.markup_grammar.proofs.Spots.{turn_leads, Leads, leads_append}
use Rattle.markup_grammar.proofs.TagTexts.{no_text, leads_tag_text}
use Rattle.markup_grammar.proofs.Utf8Texts.{run_nil, run_on, run_off, IsUtf8-from_run, run-from_IsUtf8}
use Rattle.markup_grammar.proofs.Utf8Fronts.{run_append, run_append_none}

-- how many elements are open
abbrev pub level_count : Level → ℕ
level_count level = length (open_names level)

abbrev pub open_count : State → ℕ
open_count fresh = 0
open_count m.mark_one = 0
open_count m.mark_two = 0
open_count (between level) = level_count level
open_count (opened place level) = level_count level
open_count (m.bang level) = level_count level
open_count (bang_dash level) = level_count level
open_count (in_comment dashes level) = level_count level
open_count (in_instruction asked level) = level_count level
open_count (in_words place raw name names) = suc (length names)
open_count (in_reference r place raw name names) = suc (length names)
open_count (in_name place name names) = length names
open_count (in_tag spot place name raw names) = length names
open_count (slashed slash place name raw names) = length names
open_count (closing place rest names) = suc (length names)
open_count (closed place names) = suc (length names)

-- how many are open behind these pieces of one turn
abbrev pub Counted : ℕ → List Answer → ℕ → Type 0
Counted count [] next = next ≡ count
Counted count (words p raw ∷ []) next = next ≡ count
Counted count (stop p ∷ []) next = next ≡ count - 1
Counted count (start p name raw ∷ []) next = next ≡ count + 1
Counted count (start p name raw ∷ stop q ∷ []) next = next ≡ count
Counted count _ next = ⊥

abbrev pub TurnCounts : State → Turn → Type 0
TurnCounts s off = Unit {0}
TurnCounts s (on said next) = Counted (open_count s) said (open_count next)

outside_count : (names : Names) → open_count (between (level_of_names names)) ≡ length names
outside_count [] = refl
outside_count (name ∷ names) = refl

left_count : (names : Names) → open_count (between (level_of_names names)) ≡ suc (length names) - 1
left_count names = outside_count names ∙ omega arith

counts_edges : Edges (λ s at b turn. TurnCounts s turn)
counts_edges = record {
  refused = λ s at b. tt;
  fresh_marked = λ at. refl;
  fresh_opens = λ at. refl;
  fresh_space = λ at b h. refl;
  marked_one = λ at. refl;
  marked_two = λ at. refl;
  opens = λ level at. refl;
  space_before = λ at b h. refl;
  space_behind = λ at b h. refl;
  words_begin = λ name names at b h. refl;
  reference_begins = λ name names at. refl;
  bangs = λ place level at. refl;
  asks = λ place level at. refl;
  root_begins = λ place at b h. refl;
  child_begins = λ place name names at b h. refl;
  slashes = λ place name names at. refl;
  dash_one = λ level at. refl;
  dash_two = λ level at. refl;
  comments = λ dashes level at b. in_comments (TurnCounts (in_comment dashes level)) dashes level b (λ next. refl) refl;
  instructions = λ asked level at b. in_instructions (TurnCounts (in_instruction asked level)) asked level b (λ next. refl) refl;
  words_end = λ place raw name names at. refl;
  words_go = λ place raw name names at b h. refl;
  words_refer = λ place raw name names at. refl;
  references = λ r place raw name names at b. in_runs (TurnCounts (in_reference r place raw name names)) (ref_step r b) place (raw ++ b ∷ []) name names (λ next. refl) refl tt;
  name_ends = λ place name names at. omega arith;
  name_slash = λ place name names at. refl;
  name_goes = λ place name names at b h. refl;
  name_space = λ place name names at b h. refl;
  tag_ends = λ spot place name raw names at may. omega arith;
  tag_slash = λ spot place name raw names at may. refl;
  tag_goes = λ spot place name raw names at b. in_tags (TurnCounts (in_tag spot place name raw names)) (spot_step spot b) place name (raw ++ b ∷ []) names (λ next. refl) tt;
  empty_ends = λ slash place name raw names at. outside_count names;
  end_ends = λ place names at. left_count names;
  end_space = λ place names at b h. refl;
  end_goes = λ place c rest names at. refl;
  closed_ends = λ place names at. left_count names;
  closed_space = λ place names at b h. refl;
}

-- each step counts
pub counts : (s : State) (at b : ℕ) → TurnCounts s (step s at b)
counts = edges (λ s at b turn. TurnCounts s turn) counts_edges

-- these elements are open behind the bytes, if any is
abbrev pub Closable : List ℕ → Names → Type 0
Closable bytes [] = Unit {0}
Closable bytes (name ∷ names) = LeavesOpen bytes (name ∷ names)

-- what a state knows of the bytes before a tag that has begun
abbrev pub Holds : State → List ℕ → Type 0
Holds (opened place level) past =
    (front : List ℕ) × (past ≡ front ++ 60 ∷ []) × (length front ≡ place) × Closable front (open_names level)
Holds (in_name place name names) past =
    (front : List ℕ) × (past ≡ front ++ (60 ∷ name)) × (length front ≡ place) × Closable front names
Holds (in_tag spot place name raw names) past =
    (front : List ℕ) × (past ≡ front ++ (60 ∷ (name ++ raw))) × (length front ≡ place) × Closable front names × Leads raw valued spot
Holds (slashed slash place name raw names) past =
    (front : List ℕ) × (past ≡ front ++ (60 ∷ (name ++ (raw ++ 47 ∷ [])))) × (length front ≡ place) × Closable front names × IsTagText raw
Holds _ past = Unit {0}

-- where a `<` may come, the elements are open behind the bytes
abbrev pub ClosableHere : State → Partial → List ℕ → Type 0
ClosableHere (between level) u past = Closable past (open_names level)
ClosableHere (in_words place raw name names) u past = u ≡ none_left → Closable past (name ∷ names)
ClosableHere _ u past = Unit {0}

-- a start tag with which 257 elements are open is too deep, and stands before the byte
abbrev pub Deepens : ℕ → List ℕ → ℕ → List Answer → Type 0
Deepens count past b (start place name raw ∷ _) = (place < length past + 1) × (count ≡ 256 → (more : List ℕ) → IsTooDeep (past ++ (b ∷ more)) place)
Deepens count past b _ = Unit {0}

abbrev pub HoldsTurn : State → List ℕ → ℕ → Turn → Type 0
HoldsTurn s past b off = Unit {0}
HoldsTurn s past b (on said next) = Holds next (past ++ b ∷ []) × Deepens (open_count s) past b said

abbrev pub Carries : State → ℕ → ℕ → Turn → Type 0
Carries s at b turn =
    (past : List ℕ) (u v : Partial) → at ≡ length past → Fits s u → utf8_run past none_left ≡ Some u → utf8_step u b ≡ Some v
    → Holds s past → ClosableHere s u past → HoldsTurn s past b turn

-- one byte more, behind what is kept
longer : (past front kept : List ℕ) (b : ℕ) → past ≡ front ++ kept → past ++ b ∷ [] ≡ front ++ (kept ++ b ∷ [])
longer past front kept b e = ap (λ xs. xs ++ b ∷ []) e ∙ append_assoc front kept (b ∷ [])

-- where elements are open, no character is
pub front_run : (front : List ℕ) (name : List ℕ) (names : Names) → LeavesOpen front (name ∷ names) → utf8_run front none_left ≡ Some none_left
front_run front name names open_here = by_run (utf8_run front none_left) refl
  where
    rest : List ℕ
    rest = 47 ∷ (name ++ (32 ∷ 62 ∷ end_tags names))

    tags_are : end_tags (name ∷ names) ≡ 60 ∷ rest
    tags_are = simp append_assoc refl

    ran : utf8_run (front ++ (60 ∷ rest)) none_left ≡ Some none_left
    ran = ap (λ xs. utf8_run (front ++ xs) none_left) (sym tags_are) ∙ run-from_IsUtf8 (front ++ end_tags (name ∷ names)) open_here.completes.utf8

    by_step : (w : Partial) → utf8_run front none_left ≡ Some w → (turn : Option Partial) → utf8_step w 60 ≡ turn → utf8_run front none_left ≡ Some none_left
    by_step w is None e =
        let none : None ≡ Some none_left = sym (run_off w 60 rest e) ∙ (sym (run_append front (60 ∷ rest) none_left w is) ∙ ran) in absurd (cc)
    by_step w is (Some v) e = is ∙ ap (λ x. Some x) (ascii_step w v 60 (omega arith) e).0

    by_run : (turn : Option Partial) → utf8_run front none_left ≡ turn → utf8_run front none_left ≡ Some none_left
    by_run None is = let none : None ≡ Some none_left = sym (run_append_none front (60 ∷ rest) none_left is) ∙ ran in absurd (cc)
    by_run (Some w) is = by_step w is (utf8_step w 60) refl

-- a start tag where 256 elements are open
too_deep : (past front tag more name raw : List ℕ) (b place : ℕ) (names : Names) → past ++ b ∷ [] ≡ front ++ tag → length front ≡ place → Closable front names → length names ≡ 256 → IsName name → IsTagText raw → (tag ≡ start_tag name raw) ⊎ (tag ≡ empty_tag name raw) → utf8_run (past ++ b ∷ []) none_left ≡ Some none_left → IsTooDeep (past ++ (b ∷ more)) place
too_deep past front tag more name raw b place [] is count closable full is_name is_text spells ran = absurd (omega arith)
too_deep past front tag more name raw b place (outer ∷ names) is count closable full is_name is_text spells ran =
    let whole : past ++ (b ∷ more) ≡ front ++ (tag ++ more) =
    sym (append_assoc past (b ∷ []) more) ∙ (ap (λ xs. xs ++ more) is ∙ append_assoc front tag more) in
    let taken : take place (past ++ (b ∷ more)) ≡ front =
    ap (λ xs. take place xs) whole ∙ (ap (λ n. take n (front ++ (tag ++ more))) (sym count) ∙ take-append_seam front (tag ++ more)) in
    let P : List ℕ → Type 0 = λ xs. LeavesOpen xs (outer ∷ names) in
    let tag_ran : utf8_run tag none_left ≡ Some none_left =
    sym (run_append front tag none_left none_left (front_run front outer names closable)) ∙ (ap (λ xs. utf8_run xs none_left) (sym is) ∙ ran) in
    record {
      names = outer ∷ names;
      tag = tag;
      rest = more;
      full = full;
      leaves_open = subst P (sym taken) closable;
      is_tag = record { name = name; raw = raw; is_name = is_name; is_tag_text = is_text; spells = spells; utf8 = IsUtf8-from_run tag tag_ran };
      follows = whole ∙ ap (λ xs. xs ++ (tag ++ more)) (sym taken);
    }

-- the run of one byte of ASCII more
run_longer : (past : List ℕ) (b : ℕ) (u v : Partial) → b < 128 → utf8_run past none_left ≡ Some u → utf8_step u b ≡ Some v → utf8_run (past ++ b ∷ []) none_left ≡ Some none_left
run_longer past b u v low ran e =
    run_append past (b ∷ []) none_left u ran ∙ (run_on u b [] v e ∙ (run_nil v ∙ ap (λ x. Some x) (ascii_step u v b low e).1))

place_before : (past front kept : List ℕ) (place : ℕ) → past ≡ front ++ kept → length front ≡ place → place < length past + 1
place_before past front kept place is count =
    let all : length past ≡ length front + length kept = ap length is ∙ length-append front kept in omega arith

-- what leads to where a tag may end is a tag's text
tag_text : (raw : List ℕ) (t : Spot) → MayEnd t → Leads raw valued t → IsTagText raw
tag_text [] t may leads = no_text
tag_text (b ∷ raw) t may leads = by_space (is_space b) refl leads
  where
    by_space : (test : Bool) → is_space b ≡ test → turn_leads (cond test (spot_on spaced) spot_off) (λ next. Leads raw next t) → IsTagText (b ∷ raw)
    by_space true blank h = leads_tag_text b raw t blank may h
    by_space false blank h = absurd h

-- one byte leads on
leads_longer : (raw : List ℕ) (s t : Spot) (b : ℕ) → Leads raw valued s → spot_step s b ≡ spot_on t → Leads (raw ++ b ∷ []) valued t
leads_longer raw s t b leads is = leads_append raw (b ∷ []) valued s t leads (rw is refl)

tag_longer : (past front name raw : List ℕ) (b : ℕ) → past ≡ front ++ (60 ∷ (name ++ raw)) → past ++ b ∷ [] ≡ front ++ (60 ∷ (name ++ (raw ++ b ∷ [])))
tag_longer past front name raw b e =
    longer past front (60 ∷ (name ++ raw)) b e ∙ ap (λ xs. front ++ (60 ∷ xs)) (append_assoc name raw (b ∷ []))

-- behind a name there is no tag's text yet
bare : (past front name : List ℕ) → past ≡ front ++ (60 ∷ name) → past ≡ front ++ (60 ∷ (name ++ []))
bare past front name e = e ∙ ap (λ xs. front ++ (60 ∷ xs)) (sym (append-nil name))

outside_holds : (names : Names) (past : List ℕ) → Holds (between (level_of_names names)) past
outside_holds names past = tt

-- a turn of the attributes
tag_holds : (turn : SpotTurn) (s : Spot) (place : ℕ) (name raw : List ℕ) (names : Names) (past : List ℕ) (b : ℕ) → spot_step s b ≡ turn → Holds (in_tag s place name raw names) past → HoldsTurn (in_tag s place name raw names) past b (tag_turn turn place name (raw ++ b ∷ []) names)
tag_holds (spot_on t) s place name raw names past b is (front, e, count, closable, leads) =
    ((front, tag_longer past front name raw b e, count, closable, leads_longer raw s t b leads is), tt)
tag_holds spot_off s place name raw names past b is h = tt

carries_edges : Edges Carries
carries_edges = record {
  refused = λ s at b past u v pl fits ran e holds here. tt;
  fresh_marked = λ at past u v pl fits ran e holds here. (tt, tt);
  fresh_opens = λ at past u v pl fits ran e holds here. ((past, refl, sym pl, tt), tt);
  fresh_space = λ at b h past u v pl fits ran e holds here. (tt, tt);
  marked_one = λ at past u v pl fits ran e holds here. (tt, tt);
  marked_two = λ at past u v pl fits ran e holds here. (tt, tt);
  opens = λ level at past u v pl fits ran e holds here. ((past, refl, sym pl, here), tt);
  space_before = λ at b h past u v pl fits ran e holds here. (tt, tt);
  space_behind = λ at b h past u v pl fits ran e holds here. (tt, tt);
  words_begin = λ name names at b h past u v pl fits ran e holds here. (tt, tt);
  reference_begins = λ name names at past u v pl fits ran e holds here. (tt, tt);
  bangs = λ place level at past u v pl fits ran e holds here. (tt, tt);
  asks = λ place level at past u v pl fits ran e holds here. (tt, tt);
  root_begins = λ place at b h past u v pl fits ran e holds here. ((holds.0, longer past holds.0 (60 ∷ []) b holds.1, holds.2, holds.3), tt);
  child_begins = λ place name names at b h past u v pl fits ran e holds here. ((holds.0, longer past holds.0 (60 ∷ []) b holds.1, holds.2, holds.3), tt);
  slashes = λ place name names at past u v pl fits ran e holds here. (tt, tt);
  dash_one = λ level at past u v pl fits ran e holds here. (tt, tt);
  dash_two = λ level at past u v pl fits ran e holds here. (tt, tt);
  comments = λ dashes level at b past u v pl fits ran e holds here.
      in_comments (HoldsTurn (in_comment dashes level) past b) dashes level b (λ next. (tt, tt)) (tt, tt);
  instructions = λ asked level at b past u v pl fits ran e holds here.
      in_instructions (HoldsTurn (in_instruction asked level) past b) asked level b (λ next. (tt, tt)) (tt, tt);
  words_end = λ place raw name names at past u v pl fits ran e holds here. ((past, refl, sym pl, here (ascii_step u v 60 (omega arith) e).0), tt);
  words_go = λ place raw name names at b h past u v pl fits ran e holds here. (tt, tt);
  words_refer = λ place raw name names at past u v pl fits ran e holds here. (tt, tt);
  references = λ r place raw name names at b past u v pl fits ran e holds here.
      in_runs (HoldsTurn (in_reference r place raw name names) past b) (ref_step r b) place (raw ++ b ∷ []) name names (λ next. (tt, tt)) (tt, tt) tt;
  name_ends = λ place name names at past u v pl fits ran e holds here. (
    tt,
    (
      place_before past holds.0 (60 ∷ name) place holds.1 holds.2,
      λ full more. too_deep past holds.0 (start_tag name []) more name [] 62 place names (tag_longer past holds.0 name [] 62 (bare past holds.0 name holds.1)) holds.2 holds.3 full fits.0 no_text (inl refl)
          (run_longer past 62 u v (omega arith) ran e),
    ),
  );
  name_slash = λ place name names at past u v pl fits ran e holds here.
      ((holds.0, tag_longer past holds.0 name [] 47 (bare past holds.0 name holds.1), holds.2, holds.3, no_text), tt);
  name_goes = λ place name names at b h past u v pl fits ran e holds here. ((holds.0, longer past holds.0 (60 ∷ name) b holds.1, holds.2, holds.3), tt);
  name_space = λ place name names at b h past u v pl fits ran e holds here.
      ((holds.0, tag_longer past holds.0 name [] b (bare past holds.0 name holds.1), holds.2, holds.3, rw h refl), tt);
  tag_ends = λ spot place name raw names at may past u v pl fits ran e holds here. (
    tt,
    (
      place_before past holds.0 (60 ∷ (name ++ raw)) place holds.1 holds.2,
      λ full more. too_deep past holds.0 (start_tag name raw) more name raw 62 place names (tag_longer past holds.0 name raw 62 holds.1) holds.2 holds.3 full fits.1.0.0 (tag_text raw spot may holds.4) (inl refl)
          (run_longer past 62 u v (omega arith) ran e),
    ),
  );
  tag_slash = λ spot place name raw names at may past u v pl fits ran e holds here.
      ((holds.0, tag_longer past holds.0 name raw 47 holds.1, holds.2, holds.3, tag_text raw spot may holds.4), tt);
  tag_goes = λ spot place name raw names at b past u v pl fits ran e holds here. tag_holds (spot_step spot b) spot place name raw names past b refl holds;
  empty_ends = λ slash place name raw names at past u v pl fits ran e holds here. (
    outside_holds names (past ++ 62 ∷ []),
    (
      place_before past holds.0 (60 ∷ (name ++ (raw ++ 47 ∷ []))) place holds.1 holds.2,
      λ full more. too_deep past holds.0 (empty_tag name raw) more name raw 62 place names
          (tag_longer past holds.0 name (raw ++ 47 ∷ []) 62 holds.1 ∙ ap (λ xs. holds.0 ++ (60 ∷ (name ++ xs))) (append_assoc raw (47 ∷ []) (62 ∷ []))) holds.2 holds.3 full fits.1.0.0 holds.4 (inr refl)
          (run_longer past 62 u v (omega arith) ran e),
    ),
  );
  end_ends = λ place names at past u v pl fits ran e holds here. (outside_holds names (past ++ 62 ∷ []), tt);
  end_space = λ place names at b h past u v pl fits ran e holds here. (tt, tt);
  end_goes = λ place c rest names at past u v pl fits ran e holds here. (tt, tt);
  closed_ends = λ place names at past u v pl fits ran e holds here. (outside_holds names (past ++ 62 ∷ []), tt);
  closed_space = λ place names at b h past u v pl fits ran e holds here. (tt, tt);
}

-- each step carries it on
pub carries : (s : State) (at b : ℕ) → Carries s at b (step s at b)
carries = edges Carries carries_edges
