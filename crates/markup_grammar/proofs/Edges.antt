-- The steps of the reader, one by one: what holds of each of them holds of `step`.
use Rattle.std.proofs.Common.{◌≡◌, ℕ, Bool, true, false, eqb, cond, List, [], ◌∷◌, ◌++◌, refl, sym, subst, eqb-true}
use Rattle.markup_grammar.specs.Answers.{start, words, stop}
use Rattle.markup_grammar.specs.Bytes.{is_space, begins_name, is_name_byte, is_text}
use Rattle.markup_grammar.specs.Machine as m
use Rattle.markup_grammar.specs.Machine.{State, Level, Ref, Dashes, Spot, Names, Turn, RefTurn, SpotTurn, on, off, ref_on, ref_ends, ref_off, spot_on, spot_off, step, ref_step, spot_step, comment_step, instruction_step, tag_begins, between_step, name_begins, word_on, in_run, tag_turn, or_ends, level_of_names, before, within, behind, no_dash, one_dash, two_dashes, spaced, naming, named, equalled, valuing, referring, valued, begun, fresh, between, opened, bang_dash, in_comment, in_instruction, in_words, in_reference, in_name, in_tag, slashed, closing, closed}

-- by what a test tells
pub by_test : {A : Type 0} (P : A → Type 0) (test : Bool) (x y : A) → (test ≡ true → P x) → (test ≡ false → P y) → P (cond test x y)
by_test P true x y then_x else_y = then_x refl
by_test P false x y then_x else_y = else_y refl

-- by whether the byte is this one
pub by_byte : {A : Type 0} (P : ℕ → A → Type 0) (b c : ℕ) (x y : A) → P c x → (eqb b c ≡ false → P b y) → P b (cond (eqb b c) x y)
by_byte P b c x y then_x else_y =
    by_test (P b) (eqb b c) x y (λ same. let Q : ℕ → Type 0 = λ n. P n x in subst Q (sym (eqb-true b c same)) then_x) else_y

-- the same where the byte is kept
pub by_byte_kept : {A : Type 0} (P : ℕ → A → Type 0) (b c : ℕ) (x : ℕ → A) (y : A) → P c (x c) → (eqb b c ≡ false → P b y) → P b (cond (eqb b c) (x b) y)
by_byte_kept P b c x y then_x else_y =
    by_test (P b) (eqb b c) (x b) y (λ same. let Q : ℕ → Type 0 = λ n. P n (x n) in subst Q (sym (eqb-true b c same)) then_x) else_y

-- where a start tag may end
abbrev pub MayEnd : Spot → Type 0
MayEnd spaced = Unit {0}
MayEnd valued = Unit {0}
MayEnd _ = ⊥

-- what is to be shown of each step
pub record Edges (P : State → ℕ → ℕ → Turn → Type 0) : Type 0 where
  pub refused : (s : State) (at b : ℕ) → P s at b off
  pub fresh_marked : (at : ℕ) → P fresh at 0xEF (on [] m.mark_one)
  pub fresh_opens : (at : ℕ) → P fresh at 60 (on [] (opened at before))
  pub fresh_space : (at b : ℕ) → is_space b ≡ true → P fresh at b (on [] (between before))
  pub marked_one : (at : ℕ) → P m.mark_one at 0xBB (on [] m.mark_two)
  pub marked_two : (at : ℕ) → P m.mark_two at 0xBF (on [] (between before))
  pub opens : (level : Level) (at : ℕ) → P (between level) at 60 (on [] (opened at level))
  pub space_before : (at b : ℕ) → is_space b ≡ true → P (between before) at b (on [] (between before))
  pub space_behind : (at b : ℕ) → is_space b ≡ true → P (between behind) at b (on [] (between behind))
  pub words_begin : (name : List ℕ) (names : Names) (at b : ℕ) → is_text b ≡ true → P (between (within name names)) at b (on [] (in_words at (b ∷ []) name names))
  pub reference_begins : (name : List ℕ) (names : Names) (at : ℕ) → P (between (within name names)) at 38 (on [] (in_reference begun at (38 ∷ []) name names))
  pub bangs : (place : ℕ) (level : Level) (at : ℕ) → P (opened place level) at 33 (on [] (m.bang level))
  pub asks : (place : ℕ) (level : Level) (at : ℕ) → P (opened place level) at 63 (on [] (in_instruction false level))
  pub root_begins : (place at b : ℕ) → begins_name b ≡ true → P (opened place before) at b (on [] (in_name place (b ∷ []) []))
  pub child_begins : (place : ℕ) (name : List ℕ) (names : Names) (at b : ℕ) → begins_name b ≡ true → P (opened place (within name names)) at b (on [] (in_name place (b ∷ []) (name ∷ names)))
  pub slashes : (place : ℕ) (name : List ℕ) (names : Names) (at : ℕ) → P (opened place (within name names)) at 47 (on [] (closing place name names))
  pub dash_one : (level : Level) (at : ℕ) → P (m.bang level) at 45 (on [] (bang_dash level))
  pub dash_two : (level : Level) (at : ℕ) → P (bang_dash level) at 45 (on [] (in_comment no_dash level))
  pub comments : (dashes : Dashes) (level : Level) (at b : ℕ) → P (in_comment dashes level) at b (comment_step dashes level b)
  pub instructions : (asked : Bool) (level : Level) (at b : ℕ) → P (in_instruction asked level) at b (instruction_step asked level b)
  pub words_end : (place : ℕ) (raw name : List ℕ) (names : Names) (at : ℕ) → P (in_words place raw name names) at 60 (on (words place raw ∷ []) (opened at (within name names)))
  pub words_go : (place : ℕ) (raw name : List ℕ) (names : Names) (at b : ℕ) → is_text b ≡ true → P (in_words place raw name names) at b (on [] (in_words place (raw ++ b ∷ []) name names))
  pub words_refer : (place : ℕ) (raw name : List ℕ) (names : Names) (at : ℕ) → P (in_words place raw name names) at 38 (on [] (in_reference begun place (raw ++ 38 ∷ []) name names))
  pub references : (r : Ref) (place : ℕ) (raw name : List ℕ) (names : Names) (at b : ℕ) → P (in_reference r place raw name names) at b (in_run (ref_step r b) place (raw ++ b ∷ []) name names)
  pub name_ends : (place : ℕ) (name : List ℕ) (names : Names) (at : ℕ) → P (in_name place name names) at 62 (on (start place name [] ∷ []) (between (within name names)))
  pub name_slash : (place : ℕ) (name : List ℕ) (names : Names) (at : ℕ) → P (in_name place name names) at 47 (on [] (slashed at place name [] names))
  pub name_goes : (place : ℕ) (name : List ℕ) (names : Names) (at b : ℕ) → is_name_byte b ≡ true → P (in_name place name names) at b (on [] (in_name place (name ++ b ∷ []) names))
  pub name_space : (place : ℕ) (name : List ℕ) (names : Names) (at b : ℕ) → is_space b ≡ true → P (in_name place name names) at b (on [] (in_tag spaced place name (b ∷ []) names))
  pub tag_ends : (spot : Spot) (place : ℕ) (name raw : List ℕ) (names : Names) (at : ℕ) → MayEnd spot → P (in_tag spot place name raw names) at 62 (on (start place name raw ∷ []) (between (within name names)))
  pub tag_slash : (spot : Spot) (place : ℕ) (name raw : List ℕ) (names : Names) (at : ℕ) → MayEnd spot → P (in_tag spot place name raw names) at 47 (on [] (slashed at place name raw names))
  pub tag_goes : (spot : Spot) (place : ℕ) (name raw : List ℕ) (names : Names) (at b : ℕ) → P (in_tag spot place name raw names) at b (tag_turn (spot_step spot b) place name (raw ++ b ∷ []) names)
  pub empty_ends : (slash place : ℕ) (name raw : List ℕ) (names : Names) (at : ℕ) → P (slashed slash place name raw names) at 62 (on (start place name raw ∷ stop slash ∷ []) (between (level_of_names names)))
  pub end_ends : (place : ℕ) (names : Names) (at : ℕ) → P (closing place [] names) at 62 (on (stop place ∷ []) (between (level_of_names names)))
  pub end_space : (place : ℕ) (names : Names) (at b : ℕ) → is_space b ≡ true → P (closing place [] names) at b (on [] (closed place names))
  pub end_goes : (place c : ℕ) (rest : List ℕ) (names : Names) (at : ℕ) → P (closing place (c ∷ rest) names) at c (on [] (closing place rest names))
  pub closed_ends : (place : ℕ) (names : Names) (at : ℕ) → P (closed place names) at 62 (on (stop place ∷ []) (between (level_of_names names)))
  pub closed_space : (place : ℕ) (names : Names) (at b : ℕ) → is_space b ≡ true → P (closed place names) at b (on [] (closed place names))

-- what holds of each step
pub edges : (P : State → ℕ → ℕ → Turn → Type 0) → Edges P → (s : State) (at b : ℕ) → P s at b (step s at b)
edges P e fresh at b =
    by_byte (λ c t. P fresh at c t) b 0xEF _ _ (e.fresh_marked at)
    (λ _. by_byte (λ c t. P fresh at c t) b 60 _ _ (e.fresh_opens at)
    (λ _. by_test (P fresh at b) (is_space b) _ _ (λ h. e.fresh_space at b h) (λ _. e.refused fresh at b)))
edges P e m.mark_one at b =
    by_byte (λ c t. P m.mark_one at c t) b 0xBB _ _ (e.marked_one at) (λ _. e.refused m.mark_one at b)
edges P e m.mark_two at b =
    by_byte (λ c t. P m.mark_two at c t) b 0xBF _ _ (e.marked_two at) (λ _. e.refused m.mark_two at b)
edges P e (between before) at b =
    by_byte (λ c t. P (between before) at c t) b 60 _ _ (e.opens before at)
    (λ _. by_test (P (between before) at b) (is_space b) _ _ (λ h. e.space_before at b h) (λ _. e.refused (between before) at b))
edges P e (between (within name names)) at b =
    by_byte (λ c t. P (between (within name names)) at c t) b 60 _ _ (e.opens (within name names) at)
    (λ _. by_byte_kept (λ c t. P (between (within name names)) at c t) b 38 (λ c. on [] (in_reference begun at (c ∷ []) name names)) _ (e.reference_begins name names at)
    (λ _. by_test (P (between (within name names)) at b) (is_text b) _ _ (λ h. e.words_begin name names at b h) (λ _. e.refused (between (within name names)) at b)))
edges P e (between behind) at b =
    by_byte (λ c t. P (between behind) at c t) b 60 _ _ (e.opens behind at)
    (λ _. by_test (P (between behind) at b) (is_space b) _ _ (λ h. e.space_behind at b h) (λ _. e.refused (between behind) at b))
edges P e (opened place before) at b =
    by_byte (λ c t. P (opened place before) at c t) b 33 _ _ (e.bangs place before at)
    (λ _. by_byte (λ c t. P (opened place before) at c t) b 63 _ _ (e.asks place before at)
    (λ _. by_test (P (opened place before) at b) (begins_name b) _ _ (λ h. e.root_begins place at b h) (λ _. e.refused (opened place before) at b)))
edges P e (opened place (within name names)) at b =
    by_byte (λ c t. P (opened place (within name names)) at c t) b 33 _ _ (e.bangs place (within name names) at)
    (λ _. by_byte (λ c t. P (opened place (within name names)) at c t) b 63 _ _ (e.asks place (within name names) at)
    (λ _. by_byte (λ c t. P (opened place (within name names)) at c t) b 47 _ _ (e.slashes place name names at)
    (λ _. by_test (P (opened place (within name names)) at b) (begins_name b) _ _ (λ h. e.child_begins place name names at b h) (λ _. e.refused (opened place (within name names)) at b))))
edges P e (opened place behind) at b =
    by_byte (λ c t. P (opened place behind) at c t) b 33 _ _ (e.bangs place behind at)
    (λ _. by_byte (λ c t. P (opened place behind) at c t) b 63 _ _ (e.asks place behind at) (λ _. e.refused (opened place behind) at b))
edges P e (m.bang level) at b =
    by_byte (λ c t. P (m.bang level) at c t) b 45 _ _ (e.dash_one level at) (λ _. e.refused (m.bang level) at b)
edges P e (bang_dash level) at b =
    by_byte (λ c t. P (bang_dash level) at c t) b 45 _ _ (e.dash_two level at) (λ _. e.refused (bang_dash level) at b)
edges P e (in_comment dashes level) at b = e.comments dashes level at b
edges P e (in_instruction asked level) at b = e.instructions asked level at b
edges P e (in_words place raw name names) at b =
    by_byte (λ c t. P (in_words place raw name names) at c t) b 60 _ _ (e.words_end place raw name names at)
    (λ _. by_byte_kept (λ c t. P (in_words place raw name names) at c t) b 38 (λ c. on [] (in_reference begun place (raw ++ c ∷ []) name names)) _ (e.words_refer place raw name names at)
    (λ _. by_test (P (in_words place raw name names) at b) (is_text b) _ _ (λ h. e.words_go place raw name names at b h) (λ _. e.refused (in_words place raw name names) at b)))
edges P e (in_reference r place raw name names) at b = e.references r place raw name names at b
edges P e (in_name place name names) at b =
    by_byte (λ c t. P (in_name place name names) at c t) b 62 _ _ (e.name_ends place name names at)
    (λ _. by_byte (λ c t. P (in_name place name names) at c t) b 47 _ _ (e.name_slash place name names at)
    (λ _. by_test (P (in_name place name names) at b) (is_name_byte b) _ _ (λ h. e.name_goes place name names at b h)
    (λ _. by_test (P (in_name place name names) at b) (is_space b) _ _ (λ h. e.name_space place name names at b h) (λ _. e.refused (in_name place name names) at b))))
edges P e (in_tag spaced place name raw names) at b =
    by_byte (λ c t. P (in_tag spaced place name raw names) at c t) b 62 _ _ (e.tag_ends spaced place name raw names at tt)
    (λ _. by_byte (λ c t. P (in_tag spaced place name raw names) at c t) b 47 _ _ (e.tag_slash spaced place name raw names at tt)
    (λ _. e.tag_goes spaced place name raw names at b))
edges P e (in_tag valued place name raw names) at b =
    by_byte (λ c t. P (in_tag valued place name raw names) at c t) b 62 _ _ (e.tag_ends valued place name raw names at tt)
    (λ _. by_byte (λ c t. P (in_tag valued place name raw names) at c t) b 47 _ _ (e.tag_slash valued place name raw names at tt)
    (λ _. e.tag_goes valued place name raw names at b))
edges P e (in_tag naming place name raw names) at b = e.tag_goes naming place name raw names at b
edges P e (in_tag named place name raw names) at b = e.tag_goes named place name raw names at b
edges P e (in_tag equalled place name raw names) at b = e.tag_goes equalled place name raw names at b
edges P e (in_tag (valuing quote) place name raw names) at b = e.tag_goes (valuing quote) place name raw names at b
edges P e (in_tag (referring quote r) place name raw names) at b = e.tag_goes (referring quote r) place name raw names at b
edges P e (slashed slash place name raw names) at b =
    by_byte (λ c t. P (slashed slash place name raw names) at c t) b 62 _ _ (e.empty_ends slash place name raw names at)
    (λ _. e.refused (slashed slash place name raw names) at b)
edges P e (closing place [] names) at b =
    by_byte (λ c t. P (closing place [] names) at c t) b 62 _ _ (e.end_ends place names at)
    (λ _. by_test (P (closing place [] names) at b) (is_space b) _ _ (λ h. e.end_space place names at b h) (λ _. e.refused (closing place [] names) at b))
edges P e (closing place (c ∷ rest) names) at b =
    by_byte (λ d t. P (closing place (c ∷ rest) names) at d t) b c _ _ (e.end_goes place c rest names at) (λ _. e.refused (closing place (c ∷ rest) names) at b)
edges P e (closed place names) at b =
    by_byte (λ c t. P (closed place names) at c t) b 62 _ _ (e.closed_ends place names at)
    (λ _. by_test (P (closed place names) at b) (is_space b) _ _ (λ h. e.closed_space place names at b h) (λ _. e.refused (closed place names) at b))

-- what holds of a step in a comment, whatever the dashes
pub in_comments : (P : Turn → Type 0) (dashes : Dashes) (level : Level) (b : ℕ) → ((next : Dashes) → P (on [] (in_comment next level))) → P (on [] (between level)) → P (comment_step dashes level b)
in_comments P no_dash level b goes ends = by_test P (eqb b 45) _ _ (λ _. goes one_dash) (λ _. goes no_dash)
in_comments P one_dash level b goes ends = by_test P (eqb b 45) _ _ (λ _. goes two_dashes) (λ _. goes no_dash)
in_comments P two_dashes level b goes ends =
    by_test P (eqb b 62) _ _ (λ _. ends) (λ _. by_test P (eqb b 45) _ _ (λ _. goes two_dashes) (λ _. goes no_dash))

-- what holds of a step in an instruction, whatever was asked
pub in_instructions : (P : Turn → Type 0) (asked : Bool) (level : Level) (b : ℕ) → ((next : Bool) → P (on [] (in_instruction next level))) → P (on [] (between level)) → P (instruction_step asked level b)
in_instructions P false level b goes ends = by_test P (eqb b 63) _ _ (λ _. goes true) (λ _. goes false)
in_instructions P true level b goes ends =
    by_test P (eqb b 62) _ _ (λ _. ends) (λ _. by_test P (eqb b 63) _ _ (λ _. goes true) (λ _. goes false))

-- what holds of a reference's turn in a run of text
pub in_runs : (P : Turn → Type 0) (turn : RefTurn) (place : ℕ) (raw name : List ℕ) (names : Names) → ((r : Ref) → P (on [] (in_reference r place raw name names))) → P (on [] (in_words place raw name names)) → P off → P (in_run turn place raw name names)
in_runs P (ref_on r) place raw name names goes ends stops = goes r
in_runs P ref_ends place raw name names goes ends stops = ends
in_runs P ref_off place raw name names goes ends stops = stops

-- what holds of a turn of the attributes
pub in_tags : (P : Turn → Type 0) (turn : SpotTurn) (place : ℕ) (name raw : List ℕ) (names : Names) → ((spot : Spot) → P (on [] (in_tag spot place name raw names))) → P off → P (tag_turn turn place name raw names)
in_tags P (spot_on spot) place name raw names goes stops = goes spot
in_tags P spot_off place name raw names goes stops = stops
