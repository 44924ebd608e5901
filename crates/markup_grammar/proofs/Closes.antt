-- End tags that complete a text are as many as elements are open, and a start tag may stand where they do.
use Rattle.std.proofs.Common.{◌≡◌, ◌≢◌, ℕ, suc, ◌+◌, Bool, true, false, eqb, List, [], ◌∷◌, ◌++◌, length, refl, ap, sym, ◌∙◌, subst, inl, inr, ◌⊎◌, append_assoc, arith, true≢false, eqb-true}
use Rattle.std.proofs.lemmas.Bool.{ne_eqb, false_from_ne_true}
use Rattle.markup_grammar.specs.Answers.{Answer, words, stop, finishes}
use Rattle.markup_grammar.specs.Bytes.{is_space, is_digit, is_hex_digit, begins_name, is_name_byte, is_text, is_value, AllAre, IsName}
use Rattle.markup_grammar.specs.Faults.{end_tags, AreNames}
use Rattle.markup_grammar.specs.Machine as m
use Rattle.markup_grammar.specs.Machine.{State, Level, Ref, Dashes, Spot, Names, Turn, RefTurn, SpotTurn, on, off, ref_on, ref_ends, ref_off, spot_on, spot_off, step, ref_step, spot_step, in_run, in_value, tag_turn, level_of_names, before, within, behind, no_dash, one_dash, two_dashes, spaced, naming, named, equalled, valuing, referring, valued, begun, after_a, due, hash, decimal_at, hash_x, hexadecimal_at, fresh, between, opened, bang_dash, in_comment, in_instruction, in_words, in_reference, in_name, in_tag, slashed, closing, closed, answers_from}
use Rattle.markup_grammar.specs.Tags.{IsQuote}
use Rattle.markup_grammar.specs.Utf8.{Partial}
use Rattle.markup_grammar.proofs.Classes.{space_not_open, space_not_name, begins_not_slash, name_not_close, name_from_begins}
use Rattle.markup_grammar.proofs.Fits.{Fits, FitsSpot, AreWholeNames, CanEnd}
use Rattle.markup_grammar.proofs.Opens.{open_count}
use Rattle.markup_grammar.proofs.Runs.{IsOpen}
use Rattle.markup_grammar.proofs.Steps.{differ, at_end, step_on, step_off}

begins_not_open : begins_name 60 ≡ false
unfolding begins_name
begins_not_open = refl

name_not_open : is_name_byte 60 ≡ false
unfolding is_name_byte begins_name is_digit
name_not_open = refl

name_not_question : is_name_byte 63 ≡ false
unfolding is_name_byte begins_name is_digit
name_not_question = refl

name_not_blank : is_name_byte 32 ≡ false
unfolding is_name_byte begins_name is_digit
name_not_blank = refl

blank : is_space 32 ≡ true
unfolding is_space
blank = refl

digit_not_open : is_digit 60 ≡ false
unfolding is_digit
digit_not_open = refl

hex_not_open : is_hex_digit 60 ≡ false
unfolding is_hex_digit is_digit
hex_not_open = refl

value_not_open : (quote : ℕ) → is_value quote 60 ≡ false
unfolding is_value is_text is_space
value_not_open quote = refl

name_not_space : (b : ℕ) → is_name_byte b ≡ true → is_space b ≡ false
name_not_space b h = false_from_ne_true (is_space b) (λ space. true≢false (sym h ∙ space_not_name b space))

name_bytes : (name : List ℕ) → IsName name → AllAre is_name_byte name
name_bytes [] is = absurd is
name_bytes (b ∷ bs) is = (name_from_begins b is.0, is.1)

-- the other way round
differ_back : (test : ℕ → Bool) (b c : ℕ) → test b ≡ true → test c ≡ false → eqb c b ≡ false
differ_back test b c holds fails =
    false_from_ne_true (eqb c b) (λ same. true≢false (sym holds ∙ (ap test (sym (eqb-true c b same)) ∙ fails)))

-- what does not finish
no_finish : (s : State) (at b : ℕ) (rest : List ℕ) → step s at b ≡ off → finishes (answers_from s at (b ∷ rest)) ≡ true → ⊥
no_finish s at b rest e h = true≢false (sym h ∙ ap finishes (step_off s at b rest e))

-- what finishes past a byte that gives no piece
finishes_past : (s next : State) (at b : ℕ) (rest : List ℕ) → step s at b ≡ on [] next → finishes (answers_from s at (b ∷ rest)) ≡ true → finishes (answers_from next (at + 1) rest) ≡ true
finishes_past s next at b rest e h = sym (ap finishes (step_on s next at b rest [] e)) ∙ h

-- an end tag's bytes past its `</`
abbrev past_slash : List ℕ → Names → List ℕ
past_slash tag tags = tag ++ (32 ∷ 62 ∷ end_tags tags)

tags_are : (tag : List ℕ) (tags : Names) → end_tags (tag ∷ tags) ≡ 60 ∷ 47 ∷ past_slash tag tags
tags_are tag tags = simp append_assoc refl

-- a name and an end tag that closes it
closes_same : (p at : ℕ) (owed tag : List ℕ) (names : Names) (rest : List ℕ) → AllAre is_name_byte owed → AllAre is_name_byte tag → finishes (answers_from (closing p owed names) at (tag ++ (32 ∷ 62 ∷ rest))) ≡ true → (place : ℕ) × (finishes (answers_from (between (level_of_names names)) place rest) ≡ true)
closes_same p at [] [] names rest owed_is tag_is h = (
  at + 1 + 1,
  sym (ap finishes (step_on (closed p names) (between (level_of_names names)) (at + 1) 62 rest (stop p ∷ []) refl))
      ∙ finishes_past (closing p [] names) (closed p names) at 32 (62 ∷ rest) (rw blank refl) h,
)
closes_same p at [] (b ∷ tag) names rest owed_is tag_is h =
    absurd (no_finish (closing p [] names) at b (tag ++ (32 ∷ 62 ∷ rest)) (rw (differ is_name_byte b 62 tag_is.0 name_not_close, name_not_space b tag_is.0) refl) h)
closes_same p at (d ∷ owed) [] names rest owed_is tag_is h =
    absurd (no_finish (closing p (d ∷ owed) names) at 32 (62 ∷ rest) (rw (differ_back is_name_byte d 32 owed_is.0 name_not_blank) refl) h)
closes_same p at (d ∷ owed) (b ∷ tag) names rest owed_is tag_is h =
    by_byte (eqb b d) refl (λ said. closes_same p (at + 1) owed tag names rest owed_is.1 tag_is.1 said)
  where
    by_byte : (test : Bool) → eqb b d ≡ test → (finishes (answers_from (closing p owed names) (at + 1) (tag ++ (32 ∷ 62 ∷ rest))) ≡ true → (place : ℕ) × (finishes (answers_from (between (level_of_names names)) place rest) ≡ true)) → (place : ℕ) × (finishes (answers_from (between (level_of_names names)) place rest) ≡ true)
    by_byte true test further =
        further (finishes_past (closing p (d ∷ owed) names) (closing p owed names) at b (tag ++ (32 ∷ 62 ∷ rest)) (rw test refl) h)
    by_byte false test further = absurd (no_finish (closing p (d ∷ owed) names) at b (tag ++ (32 ∷ 62 ∷ rest)) (rw test refl) h)

-- past the `<` of an end tag where an element is open
closes_count : (place at : ℕ) (name : List ℕ) (names tags : Names) (tag : List ℕ) → AreWholeNames (name ∷ names) → AreNames (tag ∷ tags) → ((p : ℕ) → finishes (answers_from (between (level_of_names names)) p (end_tags tags)) ≡ true → length names ≡ length tags) → finishes (answers_from (opened place (within name names)) at (47 ∷ past_slash tag tags)) ≡ true → length names ≡ length tags
closes_count place at name names tags tag are are_tags further h =
    from (closes_same place (at + 1) name tag names (end_tags tags) (name_bytes name are.0.0) (name_bytes tag are_tags.0)
    (finishes_past (opened place (within name names)) (closing place name names) at 47 (past_slash tag tags) refl h))
  where
    from : (p : ℕ) × (finishes (answers_from (between (level_of_names names)) p (end_tags tags)) ≡ true) → length names ≡ length tags
    from (p, more) = further p more

-- end tags that complete a text are as many as elements are open
same_count : (names tags : Names) (at : ℕ) → AreWholeNames names → AreNames tags → finishes (answers_from (between (level_of_names names)) at (end_tags tags)) ≡ true → length names ≡ length tags
same_count [] [] at are are_tags h = refl
same_count [] (tag ∷ tags) at are are_tags h =
    absurd (no_finish (opened at behind) (at + 1) 47 (past_slash tag tags) refl
    (finishes_past (between behind) (opened at behind) at 60 (47 ∷ past_slash tag tags) refl (sym (ap (λ bs. finishes (answers_from (between behind) at bs)) (tags_are tag tags)) ∙ h)))
same_count (name ∷ names) [] at are are_tags h = absurd (true≢false (sym h ∙ ap finishes (at_end (between (within name names)) at)))
same_count (name ∷ names) (tag ∷ tags) at are are_tags h =
    ap suc (closes_count at (at + 1) name names tags tag are are_tags (λ p more. same_count names tags p are.1 are_tags.1 more)
    (finishes_past (between (within name names)) (opened at (within name names)) at 60 (47 ∷ past_slash tag tags) refl (sym (ap (λ bs. finishes (answers_from (between (within name names)) at bs)) (tags_are tag tags)) ∙ h)))

-- each `>` stands behind a space, and no `?` stands here: these bytes end no comment and no instruction
abbrev Guarded : Bool → List ℕ → Type 0
Guarded space [] = Unit {0}
Guarded space (b ∷ bytes) = (b ≡ 62 → space ≡ true) × (b ≢ 63) × Guarded (eqb b 32) bytes

guarded_name : (space : Bool) (name rest : List ℕ) → AllAre is_name_byte name → Guarded false rest → Guarded space (name ++ (32 ∷ 62 ∷ rest))
guarded_name space [] rest are more = ((λ e. absurd (omega arith)), (λ e. omega arith), ((λ e. refl), (λ e. omega arith), more))
guarded_name space (b ∷ name) rest are more = (
  (λ e. absurd (true≢false (sym are.0 ∙ (ap is_name_byte e ∙ name_not_close)))),
  (λ e. true≢false (sym are.0 ∙ (ap is_name_byte e ∙ name_not_question))),
  guarded_name (eqb b 32) name rest are.1 more,
)

guarded_tags : (tags : Names) → AreNames tags → Guarded false (end_tags tags)
guarded_tags [] are = tt
guarded_tags (tag ∷ tags) are =
    let P : List ℕ → Type 0 = λ xs. Guarded false xs in
    subst P (sym (tags_are tag tags))
    ((λ e. absurd (omega arith)), (λ e. omega arith), ((λ e. absurd (omega arith)), (λ e. omega arith), guarded_name false tag (end_tags tags) (name_bytes tag are.0) (guarded_tags tags are.1)))

-- a comment goes on over them
blank_or_dash : (b : ℕ) → eqb b 32 ≡ true → eqb b 45 ≡ true → ⊥
blank_or_dash b space dash = let s : b ≡ 32 = eqb-true b 32 space in let d : b ≡ 45 = eqb-true b 45 dash in omega arith

abbrev CommentOn : Dashes → Level → ℕ → ℕ → Type 0
CommentOn dashes level at b =
    (next : Dashes) × (step (in_comment dashes level) at b ≡ on [] (in_comment next level)) × (eqb b 32 ≡ true → next ≡ no_dash)

plain_on : (level : Level) (at b : ℕ) (test : Bool) → eqb b 45 ≡ test → CommentOn no_dash level at b
plain_on level at b true e = (one_dash, rw e refl, λ s. absurd (blank_or_dash b s e))
plain_on level at b false e = (no_dash, rw e refl, λ s. refl)

dash_on : (level : Level) (at b : ℕ) (test : Bool) → eqb b 45 ≡ test → CommentOn one_dash level at b
dash_on level at b true e = (two_dashes, rw e refl, λ s. absurd (blank_or_dash b s e))
dash_on level at b false e = (no_dash, rw e refl, λ s. refl)

dashes_on : (level : Level) (at b : ℕ) (test : Bool) → eqb b 62 ≡ false → eqb b 45 ≡ test → CommentOn two_dashes level at b
dashes_on level at b true other e = (two_dashes, rw (other, e) refl, λ s. absurd (blank_or_dash b s e))
dashes_on level at b false other e = (no_dash, rw (other, e) refl, λ s. refl)

comment_next : (dashes : Dashes) (level : Level) (at b : ℕ) (space : Bool) → (b ≡ 62 → space ≡ true) → (space ≡ true → dashes ≡ no_dash) → CommentOn dashes level at b
comment_next no_dash level at b space guarded calm = plain_on level at b (eqb b 45) refl
comment_next one_dash level at b space guarded calm = dash_on level at b (eqb b 45) refl
comment_next two_dashes level at b space guarded calm =
    dashes_on level at b (eqb b 45) (ne_eqb b 62 (λ e. let same : two_dashes ≡ no_dash = calm (guarded e) in cc)) refl

comment_ends : (dashes : Dashes) (level : Level) (at : ℕ) → finishes (m.verdict (in_comment dashes level) at ∷ []) ≡ false
comment_ends dashes level at = refl

comment_on : (bytes : List ℕ) (dashes : Dashes) (level : Level) (space : Bool) (at : ℕ) → Guarded space bytes → (space ≡ true → dashes ≡ no_dash) → finishes (answers_from (in_comment dashes level) at bytes) ≡ true → ⊥
comment_on [] dashes level space at g calm h =
    true≢false (sym h ∙ (ap finishes (at_end (in_comment dashes level) at) ∙ comment_ends dashes level at))
comment_on (b ∷ bytes) dashes level space at g calm h =
    from (comment_next dashes level at b space g.0 calm) (λ next quiet said. comment_on bytes next level (eqb b 32) (at + 1) g.2 quiet said)
  where
    from : CommentOn dashes level at b → ((next : Dashes) → (eqb b 32 ≡ true → next ≡ no_dash) → finishes (answers_from (in_comment next level) (at + 1) bytes) ≡ true → ⊥) → ⊥
    from (next, steps, quiet) further = further next quiet (finishes_past (in_comment dashes level) (in_comment next level) at b bytes steps h)

-- and so does an instruction, behind the first of them
instruction_on : (bytes : List ℕ) (level : Level) (space : Bool) (at : ℕ) → Guarded space bytes → finishes (answers_from (in_instruction false level) at bytes) ≡ true → ⊥
instruction_on [] level space at g h = true≢false (sym h ∙ ap finishes (at_end (in_instruction false level) at))
instruction_on (b ∷ bytes) level space at g h =
    instruction_on bytes level (eqb b 32) (at + 1) g.2
    (finishes_past (in_instruction false level) (in_instruction false level) at b bytes (let other : eqb b 63 ≡ false = ne_eqb b 63 g.1 in rw other refl) h)

-- `<` where no tag may begin
ref_off_open : (r : Ref) → CanEnd r → ref_step r 60 ≡ ref_off
ref_off_open begun can = refl
ref_off_open after_a can = refl
ref_off_open (due c []) can = rw (ne_eqb 60 c (λ e. can.1 (sym e))) refl
ref_off_open (due c (d ∷ rest)) can = rw (ne_eqb 60 c (λ e. can.1 (sym e))) refl
ref_off_open hash can = rw digit_not_open refl
ref_off_open (decimal_at value) can = rw digit_not_open refl
ref_off_open hash_x can = rw hex_not_open refl
ref_off_open (hexadecimal_at value) can = rw hex_not_open refl

quote_not_open : (quote : ℕ) → IsQuote quote → eqb 60 quote ≡ false
quote_not_open quote (inl double) = ne_eqb 60 quote (omega arith)
quote_not_open quote (inr single) = ne_eqb 60 quote (omega arith)

tag_off_open : (spot : Spot) (place : ℕ) (name raw : List ℕ) (names : Names) (at : ℕ) (u : Partial) → FitsSpot spot u → step (in_tag spot place name raw names) at 60 ≡ off
tag_off_open spaced place name raw names at u fits = rw (space_not_open, begins_not_open) refl
tag_off_open naming place name raw names at u fits = rw (name_not_open, space_not_open) refl
tag_off_open named place name raw names at u fits = rw space_not_open refl
tag_off_open equalled place name raw names at u fits = rw space_not_open refl
tag_off_open (valuing quote) place name raw names at u fits = rw (quote_not_open quote fits, value_not_open quote) refl
tag_off_open (referring quote r) place name raw names at u fits = rw (ref_off_open r fits.2) refl
tag_off_open valued place name raw names at u fits = rw space_not_open refl

closing_off_open : (place : ℕ) (rest : List ℕ) (names : Names) (at : ℕ) → AllAre is_name_byte rest → step (closing place rest names) at 60 ≡ off
closing_off_open place [] names at are = rw space_not_open refl
closing_off_open place (c ∷ rest) names at are = rw (differ_back is_name_byte c 60 are.0 name_not_open) refl

opened_off_open : (place : ℕ) (level : Level) (at : ℕ) → step (opened place level) at 60 ≡ off
opened_off_open place before at = rw begins_not_open refl
opened_off_open place (within name names) at = rw begins_not_open refl
opened_off_open place behind at = refl

-- a tag may begin here: an element is open, of so many, and `<` gives these pieces
pub record MayOpen (s : State) (at count : ℕ) : Type 0 where
  pub level : Level
  pub open_level : IsOpen level
  pub said : List Answer
  pub turn : step s at 60 ≡ on said (opened at level)
  pub words_only : (said ≡ []) ⊎ ((place : ℕ) × (raw : List ℕ) × (said ≡ words place raw ∷ []))
  pub is_count : open_count s ≡ count

-- where end tags complete a text, a tag may begin
pub closes : (s : State) (u : Partial) (at : ℕ) (tag : List ℕ) (tags : Names) → Fits s u → AreNames (tag ∷ tags) → finishes (answers_from s at (end_tags (tag ∷ tags))) ≡ true → MayOpen s at (length (tag ∷ tags))
closes s u at tag tags fits are h = by_state s fits (sym (ap (λ bs. finishes (answers_from s at bs)) (tags_are tag tags)) ∙ h)
  where
    Told : State → Type 0
    Told t = finishes (answers_from t at (60 ∷ 47 ∷ past_slash tag tags)) ≡ true

    stopped : (t : State) → step t at 60 ≡ off → Told t → MayOpen t at (length (tag ∷ tags))
    stopped t e said = absurd (no_finish t at 60 (47 ∷ past_slash tag tags) e said)

    no_root : (t : State) → step t at 60 ≡ on [] (opened at before) → Told t → MayOpen t at (length (tag ∷ tags))
    no_root t e said =
        absurd (no_finish (opened at before) (at + 1) 47 (past_slash tag tags) (rw begins_not_slash refl) (finishes_past t (opened at before) at 60 (47 ∷ past_slash tag tags) e said))

    all_guarded : Guarded false (60 ∷ 47 ∷ past_slash tag tags)
    all_guarded = let P : List ℕ → Type 0 = λ xs. Guarded false xs in subst P (tags_are tag tags) (guarded_tags (tag ∷ tags) are)

    one_more : (name : List ℕ) (names : Names) → AreWholeNames (name ∷ names) → finishes (answers_from (opened at (within name names)) (at + 1) (47 ∷ past_slash tag tags)) ≡ true → suc (length names) ≡ length (tag ∷ tags)
    one_more name names whole said =
        ap suc (closes_count at (at + 1) name names tags tag whole are (λ p more. same_count names tags p whole.1 are.1 more) said)

    by_level : (level : Level) (v : Partial) → Fits (between level) v → Told (between level) → MayOpen (between level) at (length (tag ∷ tags))
    by_level before v f said = no_root (between before) refl said
    by_level (within name names) v f said =
        record {
          level = within name names;
          open_level = tt;
          said = [];
          turn = refl;
          words_only = inl refl;
          is_count = one_more name names f.1 (finishes_past (between (within name names)) (opened at (within name names)) at 60 (47 ∷ past_slash tag tags) refl said);
        }
    by_level behind v f said =
        absurd (no_finish (opened at behind) (at + 1) 47 (past_slash tag tags) refl (finishes_past (between behind) (opened at behind) at 60 (47 ∷ past_slash tag tags) refl said))

    by_asked : (asked : Bool) (level : Level) → Told (in_instruction asked level) → MayOpen (in_instruction asked level) at (length (tag ∷ tags))
    by_asked true level said =
        absurd (instruction_on (47 ∷ past_slash tag tags) level false (at + 1) all_guarded.2
        (finishes_past (in_instruction true level) (in_instruction false level) at 60 (47 ∷ past_slash tag tags) refl said))
    by_asked false level said = absurd (instruction_on (60 ∷ 47 ∷ past_slash tag tags) level false at all_guarded said)

    by_state : (t : State) → Fits t u → Told t → MayOpen t at (length (tag ∷ tags))
    by_state fresh f said = no_root fresh refl said
    by_state m.mark_one f said = stopped m.mark_one refl said
    by_state m.mark_two f said = stopped m.mark_two refl said
    by_state (between level) f said = by_level level u f said
    by_state (opened place level) f said = stopped (opened place level) (opened_off_open place level at) said
    by_state (m.bang level) f said = stopped (m.bang level) refl said
    by_state (bang_dash level) f said = stopped (bang_dash level) refl said
    by_state (in_comment dashes level) f said =
        absurd (comment_on (60 ∷ 47 ∷ past_slash tag tags) dashes level false at all_guarded (λ e. absurd (true≢false (sym e))) said)
    by_state (in_instruction asked level) f said = by_asked asked level said
    by_state (in_words place raw name names) f said =
        record {
          level = within name names;
          open_level = tt;
          said = words place raw ∷ [];
          turn = refl;
          words_only = inr (place, raw, refl);
          is_count = one_more name names f
              (sym (ap finishes (step_on (in_words place raw name names) (opened at (within name names)) at 60 (47 ∷ past_slash tag tags) (words place raw ∷ []) refl)) ∙ said);
        }
    by_state (in_reference r place raw name names) f said = stopped (in_reference r place raw name names) (rw (ref_off_open r f.1) refl) said
    by_state (in_name place name names) f said = stopped (in_name place name names) (rw (name_not_open, space_not_open) refl) said
    by_state (in_tag spot place name raw names) f said = stopped (in_tag spot place name raw names) (tag_off_open spot place name raw names at u f.0) said
    by_state (slashed slash place name raw names) f said = stopped (slashed slash place name raw names) refl said
    by_state (closing place rest names) f said = stopped (closing place rest names) (closing_off_open place rest names at f.0) said
    by_state (closed place names) f said = stopped (closed place names) (rw space_not_open refl) said
