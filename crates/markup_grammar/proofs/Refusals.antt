-- A refusal stands where the definitions say.
use Rattle.std.proofs.Common.{◌≡◌, ℕ, suc, ◌+◌, ◌<◌, ◌≤◌, true, false, eqb, Some, None, List, [], ◌∷◌, ◌++◌, length, min, take, drop, refl, ap, sym, ◌∙◌, subst, inl, inr, ◌⊎◌, append_assoc, append-nil, length-append, length-take, take-append-drop, take-take, arith, true≢false, eqb-true}
use Rattle.std.proofs.lemmas.Bool.{cond_both, eq-eqb, cases_lt}
use Rattle.std.proofs.Math.Seq.{take-append_seam, take-append-add}
use Rattle.markup_grammar.specs.Answers.{Answer, start, words, stop, finish, form, depth, finishes, refusal_of, limit_depth, cut_short}
use Rattle.markup_grammar.specs.Faults.{end_tags, LeavesOpen, IsStartTag, IsTooDeep, Begins, IsLongestFront, NoneDeepBefore, IsFault}
use Rattle.markup_grammar.specs.Machine as m
use Rattle.markup_grammar.specs.Machine.{State, Level, Names, Turn, on, off, step, verdict, before, within, behind, fresh, between, opened, in_words, level_of_names, answers_from}
use Rattle.markup_grammar.specs.Reading.{answers, answers_within}
use Rattle.markup_grammar.specs.Tree.{Tree, IsText, start_tag, empty_tag}
use Rattle.markup_grammar.specs.Utf8.{Partial, none_left, utf8_run, utf8_front_from, utf8_front}
use Rattle.markup_grammar.proofs.Closes.{MayOpen, closes}
use Rattle.markup_grammar.proofs.Opens.{open_count, front_run}
use Rattle.markup_grammar.proofs.Runs.{open_names, name_on, start_ends, empty_ends}
use Rattle.markup_grammar.proofs.Sound.{Grown, grown}
use Rattle.markup_grammar.proofs.GoodFronts.{Cut, Stands, Soundness, Halts, Reaches, reaches, stands_begins, stands_behind, halts_stops, text_finishes}
use Rattle.markup_grammar.proofs.Steps.{AreClean, finishes-clean, at_end, step_on, step_off, on_bytes}
use Rattle.markup_grammar.proofs.Utf8Texts.{run-from_IsUtf8}
use Rattle.markup_grammar.proofs.Utf8Fronts.{run_append, front_nil, front_on, front_off, front_append}

-- the last answer, where so many bytes are left
abbrev pub Last : State → ℕ → List ℕ → Answer
Last s at [] = verdict s at
Last s at (b ∷ rest) = form at

cut_short-clean : (place : ℕ) (said more : List Answer) → AreClean said → cut_short place (said ++ more) ≡ said ++ cut_short place more
cut_short-clean place [] more c = refl
cut_short-clean place (start p name raw ∷ said) more c = ap (λ xs. start p name raw ∷ xs) (cut_short-clean place said more c)
cut_short-clean place (words p raw ∷ said) more c = ap (λ xs. words p raw ∷ xs) (cut_short-clean place said more c)
cut_short-clean place (stop p ∷ said) more c = ap (λ xs. stop p ∷ xs) (cut_short-clean place said more c)
cut_short-clean place (finish ∷ said) more c = absurd c
cut_short-clean place (form p ∷ said) more c = absurd c
cut_short-clean place (depth p ∷ said) more c = absurd c

-- a verdict that is cut short
cut_short-verdict : (place at : ℕ) (answer : Answer) → place ≡ at → (answer ≡ finish) ⊎ (answer ≡ form at) → cut_short place (answer ∷ []) ≡ form at ∷ []
cut_short-verdict place at answer same (inl is) = ap (λ a. cut_short place (a ∷ [])) is ∙ ap (λ n. form n ∷ []) same
cut_short-verdict place at answer same (inr is) = ap (λ a. cut_short place (a ∷ [])) is

verdict_is : (s : State) (at : ℕ) → (verdict s at ≡ finish) ⊎ (verdict s at ≡ form at)
verdict_is (between behind) at = inl refl
verdict_is (between before) at = inr refl
verdict_is (between (within name names)) at = inr refl
verdict_is fresh at = inr refl
verdict_is m.mark_one at = inr refl
verdict_is m.mark_two at = inr refl
verdict_is (opened place level) at = inr refl
verdict_is (m.bang level) at = inr refl
verdict_is (m.bang_dash level) at = inr refl
verdict_is (m.in_comment dashes level) at = inr refl
verdict_is (m.in_instruction asked level) at = inr refl
verdict_is (in_words place raw name names) at = inr refl
verdict_is (m.in_reference r place raw name names) at = inr refl
verdict_is (m.in_name place name names) at = inr refl
verdict_is (m.in_tag spot place name raw names) at = inr refl
verdict_is (m.slashed slash place name raw names) at = inr refl
verdict_is (m.closing place rest names) at = inr refl
verdict_is (m.closed place names) at = inr refl

-- what is answered within n bytes, by what is answered on them
within_by : (text : List ℕ) (n : ℕ) (P : List Answer → Type 0) → (eqb n (length text) ≡ true → P (answers_from fresh 0 text)) → (eqb n (length text) ≡ false → P (cut_short n (answers_from fresh 0 (take n text)))) → P (answers_within text n)
within_by text n P whole cut =
    cond_both (eqb n (length text)) (answers_from fresh 0 text) (cut_short n (answers_from fresh 0 (take n text))) P whole cut

-- the answers on a text, by how far its good front goes
within_reaches : (past rest : List ℕ) (s : State) (u : Partial) → (h : Stands past s u) → Halts s (length past) u rest → answers_within (past ++ rest) (utf8_front (past ++ rest)) ≡ h.said ++ Last s (length past) rest ∷ []
within_reaches past [] s u h halts =
    within_by (past ++ []) (utf8_front (past ++ [])) (λ list. list ≡ h.said ++ verdict s (length past) ∷ [])
    (λ _. h.goes [] ∙ ap (λ xs. h.said ++ xs) (at_end s (length past)))
    (λ other. absurd (true≢false (sym (eq-eqb _ _ whole) ∙ other)))
  where
    whole : utf8_front (past ++ []) ≡ length (past ++ [])
    whole =
        let size : length (past ++ []) ≡ length past = ap length (append-nil past) in
        let front : utf8_front (past ++ []) ≡ length past + utf8_front_from u [] = front_append past [] none_left u h.ran in
        let none : utf8_front_from u [] ≡ 0 = front_nil u in
        omega arith
within_reaches past (b ∷ rest) s u h (inl none) =
    within_by (past ++ (b ∷ rest)) (utf8_front (past ++ (b ∷ rest))) (λ list. list ≡ h.said ++ form (length past) ∷ [])
    (λ same. absurd (short (eqb-true _ _ same)))
    (λ _. ap (λ xs. cut_short (utf8_front (past ++ (b ∷ rest))) (answers_from fresh 0 xs)) (taken ∙ sym (append-nil past))
    ∙ (ap (cut_short (utf8_front (past ++ (b ∷ rest)))) (h.goes [] ∙ ap (λ xs. h.said ++ xs) (at_end s (length past)))
    ∙ (cut_short-clean (utf8_front (past ++ (b ∷ rest))) h.said (verdict s (length past) ∷ []) h.clean
    ∙ ap (λ xs. h.said ++ xs) (cut_short-verdict (utf8_front (past ++ (b ∷ rest))) (length past) (verdict s (length past)) here (verdict_is s (length past))))))
  where
    here : utf8_front (past ++ (b ∷ rest)) ≡ length past
    here =
        let front : utf8_front (past ++ (b ∷ rest)) ≡ length past + utf8_front_from u (b ∷ rest) = front_append past (b ∷ rest) none_left u h.ran in
        let stop : utf8_front_from u (b ∷ rest) ≡ 0 = front_off u b rest none in
        omega arith

    short : utf8_front (past ++ (b ∷ rest)) ≡ length (past ++ (b ∷ rest)) → ⊥
    short same = let place : utf8_front (past ++ (b ∷ rest)) ≡ length past = here in let size : length (past ++ (b ∷ rest)) ≡ length past + suc (length rest) = length-append past (b ∷ rest) in omega arith

    taken : take (utf8_front (past ++ (b ∷ rest))) (past ++ (b ∷ rest)) ≡ past
    taken = ap (λ n. take n (past ++ (b ∷ rest))) here ∙ take-append_seam past (b ∷ rest)
within_reaches past (b ∷ rest) s u h (inr (refused, v, e)) =
    within_by (past ++ (b ∷ rest)) (utf8_front (past ++ (b ∷ rest))) (λ list. list ≡ h.said ++ form (length past) ∷ [])
    (λ _. stopped rest)
    (λ _. ap (λ xs. cut_short (utf8_front (past ++ (b ∷ rest))) (answers_from fresh 0 xs)) taken
    ∙ (ap (cut_short (utf8_front (past ++ (b ∷ rest)))) (stopped (take (utf8_front_from v rest) rest))
    ∙ cut_short-clean (utf8_front (past ++ (b ∷ rest))) h.said (form (length past) ∷ []) h.clean))
  where
    stopped : (more : List ℕ) → answers_from fresh 0 (past ++ (b ∷ more)) ≡ h.said ++ form (length past) ∷ []
    stopped more = h.goes (b ∷ more) ∙ ap (λ xs. h.said ++ xs) (step_off s (length past) b more refused)

    front : utf8_front (past ++ (b ∷ rest)) ≡ length past + suc (utf8_front_from v rest)
    front =
        let here : utf8_front (past ++ (b ∷ rest)) ≡ length past + utf8_front_from u (b ∷ rest) = front_append past (b ∷ rest) none_left u h.ran in
        let more : utf8_front_from u (b ∷ rest) ≡ utf8_front_from v rest + 1 = front_on u b rest v e in
        omega arith

    taken : take (utf8_front (past ++ (b ∷ rest))) (past ++ (b ∷ rest)) ≡ past ++ (b ∷ take (utf8_front_from v rest) rest)
    taken = ap (λ n. take n (past ++ (b ∷ rest))) front ∙ take-append-add past (b ∷ rest) (suc (utf8_front_from v rest))

answers_are : (text : List ℕ) → answers text ≡ limit_depth 0 (answers_within text (utf8_front text))
unfolding answers
answers_are text = refl

-- a front of what begins a text begins one
begins_less : (text : List ℕ) (j n : ℕ) → j ≤ n → Begins (take n text) → Begins (take j text)
begins_less text j n le (more, tree, is) =
    let part : take j (take n text) ≡ take j text = simp take-take (ap (λ k. take k text) (omega arith)) in
    let whole : take j text ++ (drop j (take n text) ++ more) ≡ take n text ++ more =
    sym (append_assoc (take j text) (drop j (take n text)) more)
    ∙ ap (λ xs. xs ++ more) (ap (λ xs. xs ++ drop j (take n text)) (sym part) ∙ take-append-drop j (take n text)) in
    let P : List ℕ → Type 0 = λ xs. IsText xs tree in
    (drop j (take n text) ++ more, tree, subst P (sym whole) is)

-- how far a good front goes is the longest front that begins a text
longest : Soundness → (past rest : List ℕ) (s : State) (u : Partial) → Stands past s u → Halts s (length past) u rest → IsLongestFront (past ++ rest) (length past)
longest sound past rest s u h halts = record {
  within = let size : length (past ++ rest) ≡ length past + length rest = length-append past rest in omega arith;
  begins = let P : List ℕ → Type 0 = λ xs. Begins xs in subst P (sym (take-append_seam past rest)) (stands_begins sound past s u h);
  longest = λ lt begins. stops rest halts lt begins;
}
  where
    stops : (rest : List ℕ) → Halts s (length past) u rest → length past < length (past ++ rest) → Begins (take (length past + 1) (past ++ rest)) → ⊥
    stops [] halts lt begins = let size : length (past ++ []) ≡ length past = ap length (append-nil past) in omega arith
    stops (b ∷ rest) halts lt (more, tree, is) =
        let taken : take (length past + 1) (past ++ (b ∷ rest)) ≡ past ++ b ∷ [] = take-append-add past (b ∷ rest) 1 in
        let same : take (length past + 1) (past ++ (b ∷ rest)) ++ more ≡ past ++ (b ∷ more) = ap (λ xs. xs ++ more) taken ∙ append_assoc past (b ∷ []) more in
        let P : List ℕ → Type 0 = λ xs. IsText xs tree in
        halts_stops past rest more b s u tree h halts (subst P same is)

-- a start tag behind what may stand before it: what is given there, then the tag's start
tag_gives : (s : State) (at : ℕ) (tag rest : List ℕ) (count : ℕ) → MayOpen s at count → IsStartTag tag → (lead : List Answer) × (name raw : List ℕ) × (more : List Answer) × (answers_from s at (tag ++ rest) ≡ lead ++ (start at name raw ∷ more)) × ((lead ≡ []) ⊎ ((place : ℕ) × (text : List ℕ) × (lead ≡ words place text ∷ [])))
tag_gives s at tag rest count o t = by_spelling t.spells
  where
    named : (ending : List ℕ) → answers_from s at (60 ∷ (t.name ++ ending)) ≡ o.said ++ answers_from (m.in_name at t.name (open_names o.level)) (at + 1 + length t.name) ending
    named ending =
        step_on s (opened at o.level) at 60 (t.name ++ ending) o.said o.turn
        ∙ ap (λ xs. o.said ++ xs) (name_on at o.level t.name ending (at + 1) o.open_level t.is_name)

    Given : Type 0
    Given = (lead : List Answer) × (name raw : List ℕ) × (more : List Answer) × (answers_from s at (tag ++ rest) ≡ lead ++ (start at name raw ∷ more)) × ((lead ≡ []) ⊎ ((place : ℕ) × (text : List ℕ) × (lead ≡ words place text ∷ [])))

    by_spelling : (tag ≡ start_tag t.name t.raw) ⊎ (tag ≡ empty_tag t.name t.raw) → Given
    by_spelling (inl is) = (
      o.said,
      t.name,
      t.raw,
      _,
      on_bytes s at (tag ++ rest) (60 ∷ (t.name ++ (t.raw ++ (62 ∷ rest)))) (ap (λ xs. xs ++ rest) is ∙ simp append_assoc refl)
          ∙ (named (t.raw ++ (62 ∷ rest))
          ∙ ap (λ xs. o.said ++ xs) (start_ends t.raw at t.name (open_names o.level) rest (at + 1 + length t.name) t.is_tag_text)),
      o.words_only,
    )
    by_spelling (inr is) = (
      o.said,
      t.name,
      t.raw,
      _,
      on_bytes s at (tag ++ rest) (60 ∷ (t.name ++ (t.raw ++ (47 ∷ 62 ∷ rest)))) (ap (λ xs. xs ++ rest) is ∙ simp append_assoc refl)
          ∙ (named (t.raw ++ (47 ∷ 62 ∷ rest))
          ∙ ap (λ xs. o.said ++ xs) (empty_ends t.raw at t.name (open_names o.level) rest (at + 1 + length t.name) t.is_tag_text)),
      o.words_only,
    )

-- the first byte of a start tag
tag_open : (tag : List ℕ) → IsStartTag tag → (behind_it : List ℕ) × (tag ≡ 60 ∷ behind_it)
tag_open tag t = by_spelling t.spells
  where
    by_spelling : (tag ≡ start_tag t.name t.raw) ⊎ (tag ≡ empty_tag t.name t.raw) → (behind_it : List ℕ) × (tag ≡ 60 ∷ behind_it)
    by_spelling (inl is) = (_, is)
    by_spelling (inr is) = (_, is)

-- a tag that is too deep stands within the text
deep_size : (text : List ℕ) (n : ℕ) → IsTooDeep text n → length (take n text) ≡ n
deep_size text n d = by_tag (tag_open d.tag d.is_tag)
  where
    by_tag : (behind_it : List ℕ) × (d.tag ≡ 60 ∷ behind_it) → length (take n text) ≡ n
    by_tag (behind_it, is) =
        let some : length d.tag ≡ suc (length behind_it) = ap length is in
        let all : length text ≡ length (take n text) + (length d.tag + length d.rest) = ap length d.follows ∙ simp length-append refl in
        let cut : length (take n text) ≡ min n (length text) = length-take n text in
        omega arith

-- the answers on a front and a start tag behind it
abbrev Opening : List Answer → ℕ → List Answer → Type 0
Opening said at list =
    (lead : List Answer) × (name raw : List ℕ) × (more : List Answer) × (list ≡ said ++ (lead ++ (start at name raw ∷ more)))
    × ((lead ≡ []) ⊎ ((place : ℕ) × (text : List ℕ) × (lead ≡ words place text ∷ [])))

lead_clean : (lead : List Answer) → (lead ≡ []) ⊎ ((place : ℕ) × (text : List ℕ) × (lead ≡ words place text ∷ [])) → AreClean lead
lead_clean lead (inl is) = let P : List Answer → Type 0 = λ xs. AreClean xs in subst P (sym is) tt
lead_clean lead (inr (place, text, is)) = let P : List Answer → Type 0 = λ xs. AreClean xs in subst P (sym is) tt

opening_cut : (place : ℕ) (said list : List Answer) (at : ℕ) → AreClean said → Opening said at list → Opening said at (cut_short place list)
opening_cut place said list at c (lead, name, raw, more, is, only) = (
  lead,
  name,
  raw,
  cut_short place more,
  ap (cut_short place) is
      ∙ (cut_short-clean place said (lead ++ (start at name raw ∷ more)) c
      ∙ ap (λ xs. said ++ xs) (cut_short-clean place lead (start at name raw ∷ more) (lead_clean lead only))),
  only,
)

-- where 256 elements are open, a start tag is refused
opening_deep : (lead : List Answer) (at count : ℕ) (name raw : List ℕ) (more : List Answer) → count ≡ 256 → (lead ≡ []) ⊎ ((place : ℕ) × (text : List ℕ) × (lead ≡ words place text ∷ [])) → refusal_of (limit_depth count (lead ++ (start at name raw ∷ more))) ≡ Some (depth at)
opening_deep lead at count name raw more full (inl is) =
    ap (λ xs. refusal_of (limit_depth count (xs ++ (start at name raw ∷ more)))) is ∙ ap (λ n. refusal_of (limit_depth n (start at name raw ∷ more))) full
opening_deep lead at count name raw more full (inr (place, text, is)) =
    ap (λ xs. refusal_of (limit_depth count (xs ++ (start at name raw ∷ more)))) is
    ∙ ap (λ n. refusal_of (limit_depth n (words place text ∷ start at name raw ∷ more))) full

-- the answers within the front that begins UTF-8, behind which a start tag stands
opening_within : (past tag rest : List ℕ) (s : State) (u : Partial) (h : Stands past s u) (count : ℕ) → MayOpen s (length past) count → IsStartTag tag → utf8_run past none_left ≡ Some none_left → Opening h.said (length past) (answers_within (past ++ (tag ++ rest)) (utf8_front (past ++ (tag ++ rest))))
opening_within past tag rest s u h count o t ran =
    within_by (past ++ (tag ++ rest)) (utf8_front (past ++ (tag ++ rest))) (Opening h.said (length past))
    (λ _. opening rest)
    (λ _. let P : List ℕ → Type 0 = λ xs. Opening h.said (length past) (cut_short (utf8_front (past ++ (tag ++ rest))) (answers_from fresh 0 xs)) in
    subst P (sym taken) (opening_cut (utf8_front (past ++ (tag ++ rest))) h.said (answers_from fresh 0 (past ++ (tag ++ take (utf8_front rest) rest))) (length past) h.clean (opening (take (utf8_front rest) rest))))
  where
    opening : (more : List ℕ) → Opening h.said (length past) (answers_from fresh 0 (past ++ (tag ++ more)))
    opening more = from (tag_gives s (length past) tag more count o t)
      where
        from : (lead : List Answer) × (name raw : List ℕ) × (list : List Answer) × (answers_from s (length past) (tag ++ more) ≡ lead ++ (start (length past) name raw ∷ list)) × ((lead ≡ []) ⊎ ((place : ℕ) × (text : List ℕ) × (lead ≡ words place text ∷ []))) → Opening h.said (length past) (answers_from fresh 0 (past ++ (tag ++ more)))
        from (lead, name, raw, list, is, only) = (lead, name, raw, list, h.goes (tag ++ more) ∙ ap (λ xs. h.said ++ xs) is, only)

    both : utf8_run (past ++ tag) none_left ≡ Some none_left
    both = run_append past tag none_left none_left ran ∙ run-from_IsUtf8 tag t.utf8

    front : utf8_front (past ++ (tag ++ rest)) ≡ length (past ++ tag) + utf8_front rest
    front = ap utf8_front (sym (append_assoc past tag rest)) ∙ front_append (past ++ tag) rest none_left none_left both

    taken : take (utf8_front (past ++ (tag ++ rest))) (past ++ (tag ++ rest)) ≡ past ++ (tag ++ take (utf8_front rest) rest)
    taken =
        ap (λ n. take n (past ++ (tag ++ rest))) front
        ∙ (ap (λ xs. take (length (past ++ tag) + utf8_front rest) xs) (sym (append_assoc past tag rest))
        ∙ (take-append-add (past ++ tag) rest (utf8_front rest) ∙ append_assoc past tag (take (utf8_front rest) rest)))

-- a start tag that is too deep is refused, or an earlier one is
refused_deep : (past : List ℕ) (list said : List Answer) (at count : ℕ) → at ≡ length past → Cut past said count → count ≡ 256 → Opening said at list → (place : ℕ) × (place ≤ at) × (refusal_of (limit_depth 0 list) ≡ Some (depth place))
refused_deep past list said at count here (inl (place, lt, deep, told)) full (lead, name, raw, more, is, only) =
    (place, omega arith, ap (λ xs. refusal_of (limit_depth 0 xs)) is ∙ told (lead ++ (start at name raw ∷ more)))
refused_deep past list said at count here (inr (le, told)) full (lead, name, raw, more, is, only) = (
  at,
  omega arith,
  ap (λ xs. refusal_of (limit_depth 0 xs)) is ∙ (told (lead ++ (start at name raw ∷ more)) ∙ opening_deep lead at count name raw more full only),
)

deep_from : (text past tag rest : List ℕ) (n : ℕ) (s : State) (u : Partial) (names : Names) (tree : Tree) → Stands past s u → text ≡ past ++ (tag ++ rest) → length past ≡ n → length names ≡ 256 → LeavesOpen past names → IsStartTag tag → (place : ℕ) × (place ≤ n) × (refusal_of (answers text) ≡ Some (depth place))
deep_from text past tag rest n s u [] tree h is size full open_here t = absurd (omega arith)
deep_from text past tag rest n s u (name ∷ names) tree h is size full open_here t =
    let ends : finishes (answers_from s (length past) (end_tags (name ∷ names))) ≡ true =
    sym (ap finishes (h.goes (end_tags (name ∷ names))) ∙ finishes-clean h.said _ h.clean) ∙ text_finishes (past ++ end_tags (name ∷ names)) open_here.tree open_here.completes in
    let o : MayOpen s (length past) (length (name ∷ names)) = closes s u (length past) name names h.fits open_here.are_names ends in
    let opening = opening_within past tag rest s u h (length (name ∷ names)) o t (front_run past name names open_here) in
    from (refused_deep past (answers_within (past ++ (tag ++ rest)) (utf8_front (past ++ (tag ++ rest)))) h.said (length past) (open_count s) refl h.cut (o.is_count ∙ full) opening)
  where
    from : (place : ℕ) × (place ≤ length past) × (refusal_of (limit_depth 0 (answers_within (past ++ (tag ++ rest)) (utf8_front (past ++ (tag ++ rest))))) ≡ Some (depth place)) → (place : ℕ) × (place ≤ n) × (refusal_of (answers text) ≡ Some (depth place))
    from (place, le, told) = (place, omega arith, ap (λ xs. refusal_of (answers xs)) is ∙ (ap refusal_of (answers_are (past ++ (tag ++ rest))) ∙ told))

deep_refused : Soundness → (text : List ℕ) (n : ℕ) → IsTooDeep text n → (place : ℕ) × (place ≤ n) × (refusal_of (answers text) ≡ Some (depth place))
deep_refused sound text n d = from (stands_behind sound (take n text) (end_tags d.names, d.leaves_open.tree, d.leaves_open.completes))
  where
    from : (s : State) × (u : Partial) × Stands (take n text) s u → (place : ℕ) × (place ≤ n) × (refusal_of (answers text) ≡ Some (depth place))
    from (s, u, h) = deep_from text (take n text) d.tag d.rest n s u d.names d.leaves_open.tree h d.follows (deep_size text n d) d.full d.leaves_open d.is_tag

-- the longest front goes past the `<` of a tag that is too deep
begins_open : (past behind_it : List ℕ) (names : Names) → length names ≡ 256 → LeavesOpen past names → Begins (take (length past + 1) (past ++ (60 ∷ behind_it)))
begins_open past behind_it [] full open_here = absurd (omega arith)
begins_open past behind_it (name ∷ names) full open_here =
    let taken : take (length past + 1) (past ++ (60 ∷ behind_it)) ≡ past ++ 60 ∷ [] = take-append-add past (60 ∷ behind_it) 1 in
    let tags : end_tags (name ∷ names) ≡ 60 ∷ 47 ∷ (name ++ (32 ∷ 62 ∷ end_tags names)) = simp append_assoc refl in
    let same : past ++ end_tags (name ∷ names) ≡ (past ++ 60 ∷ []) ++ (47 ∷ (name ++ (32 ∷ 62 ∷ end_tags names))) =
    ap (λ xs. past ++ xs) tags ∙ sym (append_assoc past (60 ∷ []) (47 ∷ (name ++ (32 ∷ 62 ∷ end_tags names)))) in
    let P : List ℕ → Type 0 = λ xs. IsText xs open_here.tree in
    let Q : List ℕ → Type 0 = λ xs. Begins xs in
    subst Q (sym taken) (47 ∷ (name ++ (32 ∷ 62 ∷ end_tags names)), open_here.tree, subst P same open_here.completes)

front_past_deep : (text : List ℕ) (n k : ℕ) → IsTooDeep text n → IsLongestFront text k → n < k
front_past_deep text n k d front = by_tag (tag_open d.tag d.is_tag)
  where
    by_order : Begins (take (n + 1) text) → n < length text → (k < n + 1) ⊎ (n + 1 ≤ k) → n < k
    by_order begins lt (inl less) = absurd (front.longest (omega arith) (begins_less text (k + 1) (n + 1) (omega arith) begins))
    by_order begins lt (inr le) = omega arith

    by_tag : (behind_it : List ℕ) × (d.tag ≡ 60 ∷ behind_it) → n < k
    by_tag (behind_it, is) =
        let size : length (take n text) ≡ n = deep_size text n d in
        let spells : text ≡ take n text ++ (60 ∷ (behind_it ++ d.rest)) = d.follows ∙ ap (λ xs. take n text ++ (xs ++ d.rest)) is in
        let all : length text ≡ length (take n text) + suc (length (behind_it ++ d.rest)) = ap length spells ∙ length-append (take n text) (60 ∷ (behind_it ++ d.rest)) in
        let P : List ℕ → Type 0 = λ xs. Begins (take (n + 1) xs) in
        let Q : ℕ → Type 0 = λ j. Begins (take (j + 1) (take n text ++ (60 ∷ (behind_it ++ d.rest)))) in
        by_order (subst P (sym spells) (subst Q size (begins_open (take n text) (behind_it ++ d.rest) d.names d.full d.leaves_open))) (omega arith) (cases_lt k (n + 1))

-- the refusal of a last answer
last_refusal : (s : State) (at count : ℕ) (rest : List ℕ) (r : Answer) → refusal_of (limit_depth count (Last s at rest ∷ [])) ≡ Some r → r ≡ form at
last_refusal s at count [] r told = by_verdict (verdict_is s at)
  where
    by_verdict : (verdict s at ≡ finish) ⊎ (verdict s at ≡ form at) → r ≡ form at
    by_verdict (inl is) = let none : None ≡ Some r = sym (ap (λ a. refusal_of (limit_depth count (a ∷ []))) is) ∙ told in absurd (cc)
    by_verdict (inr is) = let same : Some (form at) ≡ Some r = sym (ap (λ a. refusal_of (limit_depth count (a ∷ []))) is) ∙ told in cc
last_refusal s at count (b ∷ rest) r told = let same : Some (form at) ≡ Some r = told in cc

none_before : Soundness → (text : List ℕ) (r : Answer) (n : ℕ) → refusal_of (answers text) ≡ Some r → (r ≡ form n) ⊎ (r ≡ depth n) → NoneDeepBefore text n
none_before sound text r n told which k d = from (deep_refused sound text k d) which
  where
    from : (place : ℕ) × (place ≤ k) × (refusal_of (answers text) ≡ Some (depth place)) → (r ≡ form n) ⊎ (r ≡ depth n) → n ≤ k
    from (place, le, deep) (inl is) = let same : Some r ≡ Some (depth place) = sym told ∙ deep in let clash : form n ≡ depth place = cc in absurd (cc)
    from (place, le, deep) (inr is) = let same : Some r ≡ Some (depth place) = sym told ∙ deep in let here : n ≡ place = cc in omega arith

refusals_at : Soundness → (past rest : List ℕ) (s : State) (u : Partial) → Stands past s u → Halts s (length past) u rest → (r : Answer) → refusal_of (answers (past ++ rest)) ≡ Some r → IsFault (past ++ rest) r
refusals_at sound past rest s u h halts r told = by_cut h.cut
  where
    listed : refusal_of (limit_depth 0 (h.said ++ Last s (length past) rest ∷ [])) ≡ Some r
    listed =
        sym (ap refusal_of (answers_are (past ++ rest)) ∙ ap (λ xs. refusal_of (limit_depth 0 xs)) (within_reaches past rest s u h halts)) ∙ told

    P : Answer → Type 0
    P x = IsFault (past ++ rest) x

    by_cut : Cut past h.said (open_count s) → IsFault (past ++ rest) r
    by_cut (inl (place, lt, deep, cuts)) =
        let same : Some (depth place) ≡ Some r = sym (cuts (Last s (length past) rest ∷ [])) ∙ listed in
        let is : depth place ≡ r = cc in
        subst P is (deep rest, none_before sound (past ++ rest) r place told (inr (sym is)), λ k front. front_past_deep (past ++ rest) place k (deep rest) front)
    by_cut (inr (le, passes)) =
        let is : r ≡ form (length past) = last_refusal s (length past) (open_count s) rest r (sym (passes (Last s (length past) rest ∷ [])) ∙ listed) in
        subst P (sym is) (longest sound past rest s u h halts, none_before sound (past ++ rest) r (length past) told (inl is))

-- each refusal is the fault of its text
refusals_by : Soundness → (text : List ℕ) (r : Answer) → refusal_of (answers text) ≡ Some r → IsFault text r
refusals_by sound text r told = from (reaches sound text)
  where
    from : Reaches text → IsFault text r
    from t =
        let P : List ℕ → Type 0 = λ xs. refusal_of (answers xs) ≡ Some r → IsFault xs r in
        subst P (sym t.splits) (refusals_at sound t.past t.rest t.state t.partial t.stands t.halts r) told

-- what ends well is a text of the grammar
soundness : Soundness
soundness text ends is = from (grown text ends)
  where
    from : Grown text → (tree : Tree) × IsText text tree
    from (tree, front, root, back, spells) = (tree, record { front = front; root = root; back = back; spells = spells; utf8 = is })

pub refusals : (text : List ℕ) (refusal : Answer) → refusal_of (answers text) ≡ Some refusal → IsFault text refusal
refusals text refusal told = refusals_by soundness text refusal told
