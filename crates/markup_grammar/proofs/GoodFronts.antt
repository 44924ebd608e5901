-- Where a reader stands behind a front that is good, in the grammar and in its characters, and how far such a front goes.
use Rattle.std.proofs.Common.{◌≡◌, ℕ, ◌+◌, ◌-◌, ◌<◌, ◌≤◌, Bool, true, false, ltb, Option, Some, None, List, [], ◌∷◌, ◌++◌, length, refl, ap, sym, ◌∙◌, subst, inl, inr, ◌⊎◌, append_assoc, append-nil, length-append, arith, true≢false, ltb-true, ltb-false, IsUtf8}
use Rattle.markup_grammar.specs.Answers.{Answer, start, words, stop, finish, form, depth, finishes, refusal_of, limit_depth}
use Rattle.markup_grammar.specs.Faults.{end_tags, AreNames, LeavesOpen, IsTooDeep, Begins}
use Rattle.markup_grammar.specs.Machine as m
use Rattle.markup_grammar.specs.Machine.{State, Level, Names, Turn, on, off, step, before, within, behind, fresh, between, opened, bang_dash, in_comment, in_instruction, in_words, in_reference, in_name, in_tag, slashed, closing, closed, answers_from}
use Rattle.markup_grammar.specs.Tree.{Tree, IsText, tree_pieces}
use Rattle.markup_grammar.specs.Utf8.{Partial, none_left, utf8_step, utf8_run}
use Rattle.markup_grammar.proofs.Alive.{alive, tags_finish, tags_run}
use Rattle.markup_grammar.proofs.Clean.{clean}
use Rattle.markup_grammar.proofs.Fits.{Fits, fits_step, AreWholeNames}
use Rattle.markup_grammar.proofs.Opens.{open_count, Counted, TurnCounts, counts, ClosableHere, Holds, HoldsTurn, Deepens, carries}
use Rattle.markup_grammar.proofs.Steps.{AreClean, IsClean, finishes-clean, step_on, step_off}
use Rattle.markup_grammar.proofs.Utf8Texts.{run_nil, run_on, run_off, IsUtf8-from_run, run-from_IsUtf8}
use Rattle.markup_grammar.proofs.Utf8Fronts.{run_append}
use Rattle.markup_grammar.proofs.Whole.{whole}

-- what the pieces so far do to the limit on open elements: a start tag among them is too deep, or so many are open behind them
abbrev pub Cut : List ℕ → List Answer → ℕ → Type 0
Cut past said count =
    ((place : ℕ) × (place < length past) × ((more : List ℕ) → IsTooDeep (past ++ more) place) × ((list : List Answer) → refusal_of (limit_depth 0 (said ++ list)) ≡ Some (depth place)))
    ⊎ ((count ≤ 256) × ((list : List Answer) → refusal_of (limit_depth 0 (said ++ list)) ≡ refusal_of (limit_depth count list)))

-- the bytes lead a reader to this state, and their characters to that one
pub record Stands (past : List ℕ) (s : State) (u : Partial) : Type 0 where
  pub said : List Answer
  pub clean : AreClean said
  pub goes : (rest : List ℕ) → answers_from fresh 0 (past ++ rest) ≡ said ++ answers_from s (length past) rest
  pub cut : Cut past said (open_count s)
  pub ran : utf8_run past none_left ≡ Some u
  pub fits : Fits s u
  pub holds : Holds s past

stands_first : Stands [] fresh none_left
stands_first =
    record { said = []; clean = tt; goes = λ rest. refl; cut = inr (omega arith, λ list. refl); ran = run_nil none_left; fits = refl; holds = tt }

clean_append : (xs ys : List Answer) → AreClean xs → AreClean ys → AreClean (xs ++ ys)
clean_append [] ys c d = d
clean_append (start p name raw ∷ xs) ys c d = clean_append xs ys c d
clean_append (words p raw ∷ xs) ys c d = clean_append xs ys c d
clean_append (stop p ∷ xs) ys c d = clean_append xs ys c d
clean_append (finish ∷ xs) ys c d = absurd c
clean_append (form p ∷ xs) ys c d = absurd c
clean_append (depth p ∷ xs) ys c d = absurd c

-- what one turn's pieces do to the limit
abbrev TurnCut : List ℕ → ℕ → ℕ → ℕ → List Answer → Type 0
TurnCut past b count next said =
    ((place : ℕ) × (place < length past + 1) × ((more : List ℕ) → IsTooDeep (past ++ (b ∷ more)) place) × ((list : List Answer) → refusal_of (limit_depth count (said ++ list)) ≡ Some (depth place)))
    ⊎ ((next ≤ 256) × ((list : List Answer) → refusal_of (limit_depth count (said ++ list)) ≡ refusal_of (limit_depth next list)))

start_cut : (past : List ℕ) (b count next place : ℕ) (name raw : List ℕ) (rest : List Answer) (test : Bool) → ltb count 256 ≡ test → count ≤ 256 → (count < 256 → next ≤ 256) → Deepens count past b (start place name raw ∷ rest)
    → ((list : List Answer) → refusal_of (limit_depth (count + 1) (rest ++ list)) ≡ refusal_of (limit_depth next list)) → TurnCut past b count next (start place name raw ∷ rest)
start_cut past b count next place name raw rest true e le fits deep further =
    inr (fits (ltb-true count 256 e), λ list. rw e (further list))
start_cut past b count next place name raw rest false e le fits deep further =
    let high : 256 ≤ count = ltb-false count 256 e in
    inl (place, deep.0, deep.1 (omega arith), λ list. rw e refl)

turn_cut : (past : List ℕ) (b count next : ℕ) (said : List Answer) → count ≤ 256 → Counted count said next → Deepens count past b said → TurnCut past b count next said
turn_cut past b count next [] le counted deep = inr (omega arith, λ list. ap (λ n. refusal_of (limit_depth n list)) (sym counted))
turn_cut past b count next (words p raw ∷ []) le counted deep = inr (omega arith, λ list. ap (λ n. refusal_of (limit_depth n list)) (sym counted))
turn_cut past b count next (stop p ∷ []) le counted deep = inr (omega arith, λ list. ap (λ n. refusal_of (limit_depth n list)) (sym counted))
turn_cut past b count next (start p name raw ∷ []) le counted deep =
    start_cut past b count next p name raw [] (ltb count 256) refl le (λ lt. omega arith) deep (λ list. ap (λ n. refusal_of (limit_depth n list)) (sym counted))
turn_cut past b count next (start p name raw ∷ stop q ∷ []) le counted deep =
    start_cut past b count next p name raw (stop q ∷ []) (ltb count 256) refl le (λ lt. omega arith) deep
    (λ list. ap (λ n. refusal_of (limit_depth n list)) (let back : count + 1 - 1 ≡ next = omega arith in back))
turn_cut past b count next (start p name raw ∷ start q name' raw' ∷ said) le counted deep = absurd counted
turn_cut past b count next (start p name raw ∷ words q raw' ∷ said) le counted deep = absurd counted
turn_cut past b count next (start p name raw ∷ stop q ∷ x ∷ said) le counted deep = absurd counted
turn_cut past b count next (start p name raw ∷ finish ∷ said) le counted deep = absurd counted
turn_cut past b count next (start p name raw ∷ form q ∷ said) le counted deep = absurd counted
turn_cut past b count next (start p name raw ∷ depth q ∷ said) le counted deep = absurd counted
turn_cut past b count next (words p raw ∷ x ∷ said) le counted deep = absurd counted
turn_cut past b count next (stop p ∷ x ∷ said) le counted deep = absurd counted
turn_cut past b count next (finish ∷ said) le counted deep = absurd counted
turn_cut past b count next (form p ∷ said) le counted deep = absurd counted
turn_cut past b count next (depth p ∷ said) le counted deep = absurd counted

-- the limit, past one byte more
cut_on : (past : List ℕ) (b : ℕ) (said more : List Answer) (count next : ℕ) → Cut past said count → Counted count more next → Deepens count past b more → Cut (past ++ b ∷ []) (said ++ more) next
cut_on past b said more count next (inl (place, lt, deep, told)) counted deepens =
    let size : length (past ++ b ∷ []) ≡ length past + 1 = simp length-append refl in
    inl (
      place,
      omega arith,
      λ rest. let P : List ℕ → Type 0 = λ xs. IsTooDeep xs place in subst P (sym (append_assoc past (b ∷ []) rest)) (deep (b ∷ rest)),
      λ list. ap (λ xs. refusal_of (limit_depth 0 xs)) (append_assoc said more list) ∙ told (more ++ list),
    )
cut_on past b said more count next (inr (le, told)) counted deepens = by_turn (turn_cut past b count next more le counted deepens)
  where
    by_turn : TurnCut past b count next more → Cut (past ++ b ∷ []) (said ++ more) next
    by_turn (inl (place, lt, deep, turned)) =
        let size : length (past ++ b ∷ []) ≡ length past + 1 = simp length-append refl in
        inl (
          place,
          omega arith,
          λ rest. let P : List ℕ → Type 0 = λ xs. IsTooDeep xs place in subst P (sym (append_assoc past (b ∷ []) rest)) (deep rest),
          λ list. ap (λ xs. refusal_of (limit_depth 0 xs)) (append_assoc said more list) ∙ (told (more ++ list) ∙ turned list),
        )
    by_turn (inr (fit, turned)) =
        inr (fit, λ list. ap (λ xs. refusal_of (limit_depth 0 xs)) (append_assoc said more list) ∙ (told (more ++ list) ∙ turned list))

are_names : (names : Names) → AreWholeNames names → AreNames names
are_names [] are = tt
are_names (name ∷ names) are = (are.0.0, are_names names are.1)

-- words before a `<` end nothing
words_finish : (place : ℕ) (raw name : List ℕ) (names : Names) (at : ℕ) → finishes (answers_from (in_words place raw name names) at (end_tags (name ∷ names))) ≡ true
words_finish place raw name names at =
    sym same_end ∙ tags_finish (name ∷ names) at
  where
    rest : List ℕ
    rest = 47 ∷ (name ++ (32 ∷ 62 ∷ end_tags names))

    are : end_tags (name ∷ names) ≡ 60 ∷ rest
    are = simp append_assoc refl

    same_end : finishes (answers_from (between (within name names)) at (end_tags (name ∷ names))) ≡ finishes (answers_from (in_words place raw name names) at (end_tags (name ∷ names)))
    same_end =
        ap (λ bs. finishes (answers_from (between (within name names)) at bs)) are
        ∙ (ap finishes (step_on (between (within name names)) (opened at (within name names)) at 60 rest [] refl)
        ∙ (sym (ap finishes (step_on (in_words place raw name names) (opened at (within name names)) at 60 rest (words place raw ∷ []) refl))
        ∙ ap (λ bs. finishes (answers_from (in_words place raw name names) at bs)) (sym are)))

-- that a reader ends well says that the text is in the grammar
abbrev pub Soundness : Type 0
Soundness = (text : List ℕ) → finishes (answers_from fresh 0 text) ≡ true → IsUtf8 text → (tree : Tree) × IsText text tree

-- what completes the reader's text and its characters
good : Soundness → (past more : List ℕ) (s : State) (u : Partial) → Stands past s u → finishes (answers_from s (length past) more) ≡ true → utf8_run more u ≡ Some none_left → (tree : Tree) × IsText (past ++ more) tree
good sound past more s u h ends ran =
    sound (past ++ more)
    (ap finishes (h.goes more) ∙ (finishes-clean h.said (answers_from s (length past) more) h.clean ∙ ends))
    (IsUtf8-from_run (past ++ more) (run_append past more none_left u h.ran ∙ ran))

-- where a `<` may come, the elements are open behind the bytes
closable_here : Soundness → (past : List ℕ) (s : State) (u : Partial) → Stands past s u → ClosableHere s u past
closable_here sound past (between before) u h = tt
closable_here sound past (between (within name names)) u h = told (good sound past (end_tags (name ∷ names)) (between (within name names)) u h (tags_finish (name ∷ names) (length past)) (ap (λ v. utf8_run (end_tags (name ∷ names)) v) h.fits.0 ∙ tags_run (name ∷ names) h.fits.1))
  where
    told : (tree : Tree) × IsText (past ++ end_tags (name ∷ names)) tree → LeavesOpen past (name ∷ names)
    told (tree, is) = record { are_names = are_names (name ∷ names) h.fits.1; tree = tree; completes = is }
closable_here sound past (between behind) u h = tt
closable_here sound past (in_words place raw name names) u h =
    λ same. told (good sound past (end_tags (name ∷ names)) (in_words place raw name names) u h (words_finish place raw name names (length past)) (ap (λ v. utf8_run (end_tags (name ∷ names)) v) same ∙ tags_run (name ∷ names) h.fits))
  where
    told : (tree : Tree) × IsText (past ++ end_tags (name ∷ names)) tree → LeavesOpen past (name ∷ names)
    told (tree, is) = record { are_names = are_names (name ∷ names) h.fits; tree = tree; completes = is }
closable_here sound past fresh u h = tt
closable_here sound past m.mark_one u h = tt
closable_here sound past m.mark_two u h = tt
closable_here sound past (opened place level) u h = tt
closable_here sound past (m.bang level) u h = tt
closable_here sound past (bang_dash level) u h = tt
closable_here sound past (in_comment dashes level) u h = tt
closable_here sound past (in_instruction asked level) u h = tt
closable_here sound past (in_reference r place raw name names) u h = tt
closable_here sound past (in_name place name names) u h = tt
closable_here sound past (in_tag spot place name raw names) u h = tt
closable_here sound past (slashed slash place name raw names) u h = tt
closable_here sound past (closing place rest names) u h = tt
closable_here sound past (closed place names) u h = tt

-- one byte more
stands_on : Soundness → (past : List ℕ) (s next : State) (u v : Partial) (b : ℕ) (said : List Answer) → Stands past s u → step s (length past) b ≡ on said next → utf8_step u b ≡ Some v → Stands (past ++ b ∷ []) next v
stands_on sound past s next u v b said h is e =
    let size : length past + 1 ≡ length (past ++ b ∷ []) = simp length-append refl in
    let C : Turn → Type 0 = λ t. IsClean t in
    let N : Turn → Type 0 = λ t. TurnCounts s t in
    let H : Turn → Type 0 = λ t. HoldsTurn s past b t in
    let carried = subst H is (carries s (length past) b past u v refl h.fits h.ran e h.holds (closable_here sound past s u h)) in
    record {
      said = h.said ++ said;
      clean = clean_append h.said said h.clean (subst C is (clean s (length past) b));
      goes = λ rest.
          ap (λ xs. answers_from fresh 0 xs) (append_assoc past (b ∷ []) rest)
          ∙ (h.goes (b ∷ rest)
          ∙ (ap (λ xs. h.said ++ xs) (step_on s next (length past) b rest said is ∙ ap (λ n. said ++ answers_from next n rest) size)
          ∙ sym (append_assoc h.said said (answers_from next (length (past ++ b ∷ [])) rest))));
      cut = cut_on past b h.said said (open_count s) (open_count next) h.cut (subst N is (counts s (length past) b)) carried.1;
      ran = run_append past (b ∷ []) none_left u h.ran ∙ (run_on u b [] v e ∙ run_nil v);
      fits = fits_step s (length past) b u v said next h.fits is e;
      holds = carried.0;
    }

-- a reader that can go no further: there is no byte more, or no character or no text goes on with it
abbrev pub Halts : State → ℕ → Partial → List ℕ → Type 0
Halts s at u [] = Unit {0}
Halts s at u (b ∷ rest) = (utf8_step u b ≡ None) ⊎ ((step s at b ≡ off) × (v : Partial) × (utf8_step u b ≡ Some v))

-- how far a good front goes
pub record Reaches (text : List ℕ) : Type 0 where
  pub past : List ℕ
  pub rest : List ℕ
  pub state : State
  pub partial : Partial
  pub stands : Stands past state partial
  pub splits : text ≡ past ++ rest
  pub halts : Halts state (length past) partial rest

reaches_on : Soundness → (rest past : List ℕ) (s : State) (u : Partial) → Stands past s u → Reaches (past ++ rest)
reaches_on sound [] past s u h = record { past = past; rest = []; state = s; partial = u; stands = h; splits = refl; halts = tt }
reaches_on sound (b ∷ rest) past s u h =
    by_character (utf8_step u b) refl (λ next v said is e. reaches_on sound rest (past ++ b ∷ []) next v (stands_on sound past s next u v b said h is e))
  where
    Further : Type 0
    Further = (next : State) (v : Partial) (said : List Answer) → step s (length past) b ≡ on said next → utf8_step u b ≡ Some v → Reaches ((past ++ b ∷ []) ++ rest)

    by_turn : (turn : Turn) → step s (length past) b ≡ turn → (v : Partial) → utf8_step u b ≡ Some v → Further → Reaches (past ++ (b ∷ rest))
    by_turn off is v e further =
        record { past = past; rest = b ∷ rest; state = s; partial = u; stands = h; splits = refl; halts = inr (is, v, e) }
    by_turn (on said next) is v e further =
        let P : List ℕ → Type 0 = λ xs. Reaches xs in subst P (append_assoc past (b ∷ []) rest) (further next v said is e)

    by_character : (turn : Option Partial) → utf8_step u b ≡ turn → Further → Reaches (past ++ (b ∷ rest))
    by_character None e further =
        record { past = past; rest = b ∷ rest; state = s; partial = u; stands = h; splits = refl; halts = inl e }
    by_character (Some v) e further = by_turn (step s (length past) b) refl v e further

pub reaches : Soundness → (text : List ℕ) → Reaches text
reaches sound text = reaches_on sound text [] fresh none_left stands_first

-- a good front begins a text
pub stands_begins : Soundness → (past : List ℕ) (s : State) (u : Partial) → Stands past s u → Begins past
stands_begins sound past s u h = from (alive s u (length past) h.fits)
  where
    from : (more : List ℕ) × (finishes (answers_from s (length past) more) ≡ true) × (utf8_run more u ≡ Some none_left) → Begins past
    from (more, ends, ran) = let text = good sound past more s u h ends ran in (more, text.0, text.1)

finishes-finish : (list : List Answer) → finishes (list ++ finish ∷ []) ≡ true
finishes-finish [] = refl
finishes-finish (start p name raw ∷ list) = finishes-finish list
finishes-finish (words p raw ∷ list) = finishes-finish list
finishes-finish (stop p ∷ list) = finishes-finish list
finishes-finish (finish ∷ list) = refl
finishes-finish (form p ∷ list) = finishes-finish list
finishes-finish (depth p ∷ list) = finishes-finish list

pub text_finishes : (text : List ℕ) (tree : Tree) → IsText text tree → finishes (answers_from fresh 0 text) ≡ true
text_finishes text tree is = ap finishes (whole text tree is) ∙ finishes-finish (tree_pieces tree)

-- where a reader can go no further, no text goes on
pub halts_stops : (past rest more : List ℕ) (b : ℕ) (s : State) (u : Partial) (tree : Tree) → Stands past s u → Halts s (length past) u (b ∷ rest) → IsText (past ++ (b ∷ more)) tree → ⊥
halts_stops past rest more b s u tree h (inl none) is =
    let stopped : utf8_run (past ++ (b ∷ more)) none_left ≡ None = run_append past (b ∷ more) none_left u h.ran ∙ run_off u b more none in
    let clash : None ≡ Some none_left = sym stopped ∙ run-from_IsUtf8 (past ++ (b ∷ more)) is.utf8 in cc
halts_stops past rest more b s u tree h (inr (refused, v, e)) is =
    true≢false (sym (text_finishes (past ++ (b ∷ more)) tree is)
    ∙ (ap finishes (h.goes (b ∷ more) ∙ ap (λ xs. h.said ++ xs) (step_off s (length past) b more refused)) ∙ finishes-clean h.said (form (length past) ∷ []) h.clean))

-- a reader stands behind all of a front that begins a text
pub stands_behind : Soundness → (bytes : List ℕ) → Begins bytes → (s : State) × (u : Partial) × Stands bytes s u
stands_behind sound bytes begins = from (reaches sound bytes)
  where
    from : Reaches bytes → (s : State) × (u : Partial) × Stands bytes s u
    from r = by_rest r.rest r.splits r.halts
      where
        by_rest : (rest : List ℕ) → bytes ≡ r.past ++ rest → Halts r.state (length r.past) r.partial rest → (s : State) × (u : Partial) × Stands bytes s u
        by_rest [] splits halts =
            let P : List ℕ → Type 0 = λ xs. Stands xs r.state r.partial in
            (r.state, r.partial, subst P (sym (splits ∙ append-nil r.past)) r.stands)
        by_rest (b ∷ rest) splits halts =
            let P : List ℕ → Type 0 = λ xs. IsText xs begins.1 in
            let same : bytes ++ begins.0 ≡ r.past ++ (b ∷ (rest ++ begins.0)) = ap (λ xs. xs ++ begins.0) splits ∙ append_assoc r.past (b ∷ rest) begins.0 in
            absurd (halts_stops r.past rest (rest ++ begins.0) b r.state r.partial begins.1 r.stands halts (subst P same begins.2))
