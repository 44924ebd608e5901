-- Answers that end in `finish` are those of a tree of the grammar.
use Rattle.std.proofs.Common.{◌≡◌, ℕ, ◌+◌, Bool, true, false, List, [], ◌∷◌, ◌++◌, refl, ap, sym, ◌∙◌, subst, inl, inr, ◌⊎◌, append_assoc, append-nil, true≢false}
use Rattle.markup_grammar.specs.Answers.{finishes}
use Rattle.markup_grammar.specs.Bytes.{is_space, begins_name, is_name_byte, is_text, AllAre}
use Rattle.markup_grammar.specs.Machine as m
use Rattle.markup_grammar.specs.Machine.{State, Level, before, within, behind, Names, Ref, begun, RefTurn, ref_on, ref_ends, ref_off, ref_step, Dashes, no_dash, one_dash, two_dashes, Spot, spaced, valued, SpotTurn, spot_on, spot_off, spot_step, Turn, on, off, step, comment_step, instruction_step, tag_turn, in_run, fresh, between, opened, bang_dash, in_comment, in_instruction, in_words, in_reference, in_name, in_tag, slashed, closing, closed, level_of_names, verdict, answers_from}
use Rattle.markup_grammar.specs.Runs.{IsRun}
use Rattle.markup_grammar.specs.Tags.{IsTagText}
use Rattle.markup_grammar.specs.Tree.{Aside, comment, instruction, Around, blank, aside, Element, element, empty, Content, text_only, element_after, aside_after, Tree, comment_end, instruction_end, end_tag, spelled, spelled_all, spelled_aside, spelled_around, mark_of, spelled_tree, EndsFirst, IsAside, AreAround, IsElement, IsContent}
use Rattle.markup_grammar.proofs.Asides.{dash_bytes, asked_bytes}
use Rattle.markup_grammar.proofs.Clean.{clean}
use Rattle.markup_grammar.proofs.Edges.{MayEnd, Edges, edges, by_byte}
use Rattle.markup_grammar.proofs.Firsts.{ends_nil, comment_byte, comment_dash, comment_two, comment_third, instruction_byte, instruction_mark, instruction_other}
use Rattle.markup_grammar.proofs.Refs.{RefEnds}
use Rattle.markup_grammar.proofs.Runs.{open_names, IsOpen}
use Rattle.markup_grammar.proofs.Spots.{Leads}
use Rattle.markup_grammar.proofs.Steps.{IsClean, finishes-clean, at_end, step_on, step_off}
use Rattle.markup_grammar.proofs.TagTexts.{run_empty, run_plain, run_reference, no_text, leads_tag_text}

-- what may follow where these elements are open: content and an end tag for each, and what stands behind the outermost one
abbrev pub Ends : Names → List ℕ → Type 0
Ends [] bytes = (around : List Around) × AreAround around × (bytes ≡ spelled_around around)
Ends (name ∷ names) bytes =
    (inner : Content) × (space rest : List ℕ) × IsContent inner × AllAre is_space space
    × (bytes ≡ spelled_all inner ++ (end_tag name space ++ rest)) × Ends names rest

-- what may follow before the outermost element
abbrev pub Begun : List ℕ → Type 0
Begun bytes =
    (front : List Around) × (root : Element) × (back : List Around) × AreAround front × IsElement root × AreAround back
    × (bytes ≡ spelled_around front ++ (spelled root ++ spelled_around back))

-- what may follow between tags
abbrev pub Follows : Level → List ℕ → Type 0
Follows before bytes = Begun bytes
Follows (within name names) bytes = Ends (name ∷ names) bytes
Follows behind bytes = Ends [] bytes

-- what may follow behind the attributes of a start tag of this name
abbrev pub TagStops : List ℕ → Names → List ℕ → Type 0
TagStops name names bytes =
    ((rest : List ℕ) × (bytes ≡ 62 ∷ rest) × Ends (name ∷ names) rest)
    ⊎ ((rest : List ℕ) × (bytes ≡ 47 ∷ 62 ∷ rest) × Ends names rest)

-- the rest of a start tag's text, and what follows it
abbrev pub TagGoes : (List ℕ → Type 0) → List ℕ → Names → List ℕ → Type 0
TagGoes IsRest name names bytes = (raw rest : List ℕ) × IsRest raw × (bytes ≡ raw ++ rest) × TagStops name names rest

-- bytes that lead to where a tag may end
abbrev pub LeadsOut : Spot → List ℕ → Type 0
LeadsOut spot bytes = (t : Spot) × MayEnd t × Leads bytes spot t

-- what may follow in a state
abbrev pub Completes : State → List ℕ → Type 0
Completes fresh bytes = (marked : Bool) × (rest : List ℕ) × (bytes ≡ mark_of marked ++ rest) × Begun rest
Completes m.mark_one bytes = (rest : List ℕ) × (bytes ≡ 0xBB ∷ 0xBF ∷ rest) × Begun rest
Completes m.mark_two bytes = (rest : List ℕ) × (bytes ≡ 0xBF ∷ rest) × Begun rest
Completes (between level) bytes = Follows level bytes
Completes (opened p level) bytes = Follows level (60 ∷ bytes)
Completes (m.bang level) bytes = Follows level (60 ∷ 33 ∷ bytes)
Completes (bang_dash level) bytes = Follows level (60 ∷ 33 ∷ 45 ∷ bytes)
Completes (in_comment dashes level) bytes =
    (body rest : List ℕ) × EndsFirst comment_end body × (dash_bytes dashes ++ bytes ≡ body ++ (comment_end ++ rest)) × Follows level rest
Completes (in_instruction asked level) bytes =
    (body rest : List ℕ) × EndsFirst instruction_end body × (asked_bytes asked ++ bytes ≡ body ++ (instruction_end ++ rest)) × Follows level rest
Completes (in_words p raw name names) bytes = Ends (name ∷ names) bytes
Completes (in_reference r p raw name names) bytes =
    (body rest : List ℕ) × RefEnds body r × (bytes ≡ body ++ rest) × Ends (name ∷ names) rest
Completes (in_name p acc names) bytes =
    (more rest : List ℕ) × AllAre is_name_byte more × (bytes ≡ more ++ rest) × TagGoes IsTagText (acc ++ more) names rest
Completes (in_tag spot p name raw names) bytes = TagGoes (LeadsOut spot) name names bytes
Completes (slashed slash p name raw names) bytes = (rest : List ℕ) × (bytes ≡ 62 ∷ rest) × Ends names rest
Completes (closing p due names) bytes =
    (space rest : List ℕ) × AllAre is_space space × (bytes ≡ due ++ (space ++ (62 ∷ rest))) × Ends names rest
Completes (closed p names) bytes =
    (space rest : List ℕ) × AllAre is_space space × (bytes ≡ space ++ (62 ∷ rest)) × Ends names rest

-- what a turn leaves to be shown: the step's state may go on with the rest
abbrev pub TurnCompletes : State → ℕ → Turn → Type 0
TurnCompletes s b off = Unit {0}
TurnCompletes s b (on said next) = (bytes : List ℕ) → Completes next bytes → Completes s (b ∷ bytes)

-- content with text in front
abbrev pub text_front : List ℕ → Content → Content
text_front raw (text_only text) = text_only (raw ++ text)
text_front raw (element_after text e more) = element_after (raw ++ text) e more
text_front raw (aside_after text a more) = aside_after (raw ++ text) a more

spelled_all-text_front : (raw : List ℕ) (inner : Content) → spelled_all (text_front raw inner) ≡ raw ++ spelled_all inner
spelled_all-text_front raw (text_only text) = refl
spelled_all-text_front raw (element_after text e more) = append_assoc raw text _
spelled_all-text_front raw (aside_after text a more) = append_assoc raw text _

-- what makes a run longer at its front makes content longer
IsContent-text_front : (raw : List ℕ) (inner : Content) → ((text : List ℕ) → IsRun is_text text → IsRun is_text (raw ++ text)) → IsContent inner → IsContent (text_front raw inner)
IsContent-text_front raw (text_only text) longer is = longer text is
IsContent-text_front raw (element_after text e more) longer is = (longer text is.0, is.1, is.2)
IsContent-text_front raw (aside_after text a more) longer is = (longer text is.0, is.1, is.2)

-- text may stand in front of what may follow in an element
ends_text : (raw name : List ℕ) (names : Names) (bytes : List ℕ) → ((text : List ℕ) → IsRun is_text text → IsRun is_text (raw ++ text)) → Ends (name ∷ names) bytes → Ends (name ∷ names) (raw ++ bytes)
ends_text raw name names bytes longer (inner, space, rest, is, all, spells, ends) = (
  text_front raw inner,
  space,
  rest,
  IsContent-text_front raw inner longer is,
  all,
  ap (λ xs. raw ++ xs) spells ∙ (sym (append_assoc raw (spelled_all inner) _) ∙ ap (λ xs. xs ++ (end_tag name space ++ rest)) (sym (spelled_all-text_front raw inner))),
  ends,
)

-- a byte of text
ends_byte : (b : ℕ) (name : List ℕ) (names : Names) (bytes : List ℕ) → is_text b ≡ true → Ends (name ∷ names) bytes → Ends (name ∷ names) (b ∷ bytes)
ends_byte b name names bytes h = ends_text (b ∷ []) name names bytes (λ text run. run_plain is_text b text h run)

-- a reference in text
ends_reference : (name : List ℕ) (names : Names) (bytes : List ℕ) → (body rest : List ℕ) × RefEnds body begun × (bytes ≡ body ++ rest) × Ends (name ∷ names) rest → Ends (name ∷ names) (38 ∷ bytes)
ends_reference name names bytes (body, rest, refers, spells, ends) =
    let P : List ℕ → Type 0 = λ xs. Ends (name ∷ names) (38 ∷ xs) in
    subst P (sym spells) (ends_text (38 ∷ body) name names rest (λ text run. run_reference is_text body text refers run) ends)

-- white space before the outermost element
begun_blank : (b : ℕ) (bytes : List ℕ) → is_space b ≡ true → Begun bytes → Begun (b ∷ bytes)
begun_blank b bytes h (front, root, back, f, r, k, spells) = (blank b ∷ front, root, back, (h, f), r, k, ap (λ xs. b ∷ xs) spells)

-- an aside may stand between tags
follows_aside : (level : Level) (a : Aside) (rest : List ℕ) → IsAside a → Follows level rest → Follows level (spelled_aside a ++ rest)
follows_aside before a rest is (front, root, back, f, r, k, spells) =
    (aside a ∷ front, root, back, (is, f), r, k, ap (λ xs. spelled_aside a ++ xs) spells ∙ sym (append_assoc (spelled_aside a) (spelled_around front) _))
follows_aside (within name names) a rest is (inner, space, more, c, all, spells, ends) = (
  aside_after [] a inner,
  space,
  more,
  (run_empty is_text, is, c),
  all,
  ap (λ xs. spelled_aside a ++ xs) spells ∙ sym (append_assoc (spelled_aside a) (spelled_all inner) _),
  ends,
)
follows_aside behind a rest is (around, are, spells) =
    (aside a ∷ around, (is, are), ap (λ xs. spelled_aside a ++ xs) spells)

-- the whole of a comment, or of an instruction
comment_follows : (level : Level) (bytes : List ℕ) → Completes (in_comment no_dash level) bytes → Follows level (60 ∷ 33 ∷ 45 ∷ 45 ∷ bytes)
comment_follows level bytes (body, rest, first, spells, follows) =
    let P : List ℕ → Type 0 = λ xs. Follows level xs in
    subst P (ap (λ xs. 60 ∷ 33 ∷ 45 ∷ 45 ∷ xs) (append_assoc body comment_end rest ∙ sym spells)) (follows_aside level (comment body) rest first follows)

instruction_follows : (level : Level) (bytes : List ℕ) → Completes (in_instruction false level) bytes → Follows level (60 ∷ 63 ∷ bytes)
instruction_follows level bytes (body, rest, first, spells, follows) =
    let P : List ℕ → Type 0 = λ xs. Follows level xs in
    subst P (ap (λ xs. 60 ∷ 63 ∷ xs) (append_assoc body instruction_end rest ∙ sym spells)) (follows_aside level (instruction body) rest first follows)

spelled-tags : (name raw : List ℕ) (inner : Content) (space rest : List ℕ) → spelled (element name raw inner space) ++ rest ≡ 60 ∷ (name ++ (raw ++ (62 ∷ (spelled_all inner ++ (end_tag name space ++ rest)))))
spelled-tags name raw inner space rest = simp append_assoc refl

spelled-empty : (name raw rest : List ℕ) → spelled (empty name raw) ++ rest ≡ 60 ∷ (name ++ (raw ++ (47 ∷ 62 ∷ rest)))
spelled-empty name raw rest = simp append_assoc refl

-- an element may stand between tags
follows_element : (level : Level) (e : Element) (rest : List ℕ) → IsOpen level → IsElement e → Ends (open_names level) rest → Follows level (spelled e ++ rest)
follows_element before e rest opens is (around, are, spells) =
    ([], e, around, tt, is, are, ap (λ xs. spelled e ++ xs) spells)
follows_element (within name names) e rest opens is (inner, space, more, c, all, spells, ends) = (
  element_after [] e inner,
  space,
  more,
  (run_empty is_text, is, c),
  all,
  ap (λ xs. spelled e ++ xs) spells ∙ sym (append_assoc (spelled e) (spelled_all inner) _),
  ends,
)
follows_element behind e rest opens is ends = absurd opens

-- a start tag that has begun, and what may follow it
tag_follows : (p b : ℕ) (level : Level) (bytes : List ℕ) → IsOpen level → begins_name b ≡ true → Completes (in_name p (b ∷ []) (open_names level)) bytes → Follows level (60 ∷ b ∷ bytes)
tag_follows p b level bytes opens h (more, rest, all, e, (raw, tail, is, e', stops)) = by_stop stops
  where
    along : {xs ys : List ℕ} → xs ≡ ys → Follows level xs → Follows level ys
    along same f = let P : List ℕ → Type 0 = λ xs. Follows level xs in subst P same f

    by_stop : TagStops (b ∷ more) (open_names level) tail → Follows level (60 ∷ b ∷ bytes)
    by_stop (inl (behind_tag, e'', (inner, space, last, c, blanks, spells, ends))) =
        along (spelled-tags (b ∷ more) raw inner space last
        ∙ ap (λ xs. 60 ∷ b ∷ xs) (sym (e ∙ ap (λ xs. more ++ xs) (e' ∙ ap (λ xs. raw ++ xs) (e'' ∙ ap (λ xs. 62 ∷ xs) spells)))))
        (follows_element level (element (b ∷ more) raw inner space) last opens ((h, all), is, c, blanks) ends)
    by_stop (inr (behind_tag, e'', ends)) =
        along (spelled-empty (b ∷ more) raw behind_tag
        ∙ ap (λ xs. 60 ∷ b ∷ xs) (sym (e ∙ ap (λ xs. more ++ xs) (e' ∙ ap (λ xs. raw ++ xs) e''))))
        (follows_element level (empty (b ∷ more) raw) behind_tag opens ((h, all), is) ends)

outside_ends : (names : Names) (bytes : List ℕ) → Follows (level_of_names names) bytes → Ends names bytes
outside_ends [] bytes f = f
outside_ends (name ∷ names) bytes f = f

-- a byte of a comment
comment_completes : (dashes : Dashes) (level : Level) (b : ℕ) → TurnCompletes (in_comment dashes level) b (comment_step dashes level b)
comment_completes no_dash level b =
    by_byte (λ n t. TurnCompletes (in_comment no_dash level) n t) b 45 _ _ (λ bytes c. c)
    (λ other bytes (body, rest, first, e, f). (b ∷ body, rest, comment_byte b body other first, ap (λ xs. b ∷ xs) e, f))
comment_completes one_dash level b =
    by_byte (λ n t. TurnCompletes (in_comment one_dash level) n t) b 45 _ _ (λ bytes c. c)
    (λ other bytes (body, rest, first, e, f). (45 ∷ b ∷ body, rest, comment_dash b body other first, ap (λ xs. 45 ∷ b ∷ xs) e, f))
comment_completes two_dashes level b =
    by_byte (λ n t. TurnCompletes (in_comment two_dashes level) n t) b 62 _ _ (λ bytes f. ([], bytes, ends_nil 45 (45 ∷ 62 ∷ []), refl, f))
    (λ no_close. by_byte (λ n t. TurnCompletes (in_comment two_dashes level) n t) b 45 _ _
    (λ bytes (body, rest, first, e, f). (45 ∷ body, rest, comment_two body bytes rest e first, ap (λ xs. 45 ∷ xs) e, f))
    (λ other bytes (body, rest, first, e, f). (45 ∷ 45 ∷ b ∷ body, rest, comment_third b body other no_close first, ap (λ xs. 45 ∷ 45 ∷ b ∷ xs) e, f)))

-- a byte of an instruction
instruction_completes : (asked : Bool) (level : Level) (b : ℕ) → TurnCompletes (in_instruction asked level) b (instruction_step asked level b)
instruction_completes false level b =
    by_byte (λ n t. TurnCompletes (in_instruction false level) n t) b 63 _ _ (λ bytes c. c)
    (λ other bytes (body, rest, first, e, f). (b ∷ body, rest, instruction_byte b body other first, ap (λ xs. b ∷ xs) e, f))
instruction_completes true level b =
    by_byte (λ n t. TurnCompletes (in_instruction true level) n t) b 62 _ _ (λ bytes f. ([], bytes, ends_nil 63 (62 ∷ []), refl, f))
    (λ no_close. by_byte (λ n t. TurnCompletes (in_instruction true level) n t) b 63 _ _
    (λ bytes (body, rest, first, e, f). (63 ∷ body, rest, instruction_mark body bytes rest e first, ap (λ xs. 63 ∷ xs) e, f))
    (λ other bytes (body, rest, first, e, f). (63 ∷ b ∷ body, rest, instruction_other b body other no_close first, ap (λ xs. 63 ∷ b ∷ xs) e, f)))

-- a byte of a reference in text
reference_completes : (r : Ref) (p : ℕ) (raw name : List ℕ) (names : Names) (b : ℕ) (turn : RefTurn) → ref_step r b ≡ turn → TurnCompletes (in_reference r p raw name names) b (in_run turn p (raw ++ b ∷ []) name names)
reference_completes r p raw name names b (ref_on next) goes =
    λ bytes (body, rest, refers, e, ends). (b ∷ body, rest, rw goes refers, ap (λ xs. b ∷ xs) e, ends)
reference_completes r p raw name names b ref_ends goes = λ bytes ends. (b ∷ [], bytes, rw goes refl, refl, ends)
reference_completes r p raw name names b ref_off goes = tt

-- a byte of the attributes
spot_completes : (spot : Spot) (p : ℕ) (name raw : List ℕ) (names : Names) (b : ℕ) (turn : SpotTurn) → spot_step spot b ≡ turn → TurnCompletes (in_tag spot p name raw names) b (tag_turn turn p name (raw ++ b ∷ []) names)
spot_completes spot p name raw names b (spot_on next) goes =
    λ bytes (more, rest, (t, may, leads), e, stops). (b ∷ more, rest, (t, may, rw goes leads), ap (λ xs. b ∷ xs) e, stops)
spot_completes spot p name raw names b spot_off goes = tt

-- a name with nothing more
whole_name : (name : List ℕ) (names : Names) (bytes : List ℕ) → TagGoes IsTagText name names bytes → (more rest : List ℕ) × AllAre is_name_byte more × (bytes ≡ more ++ rest) × TagGoes IsTagText (name ++ more) names rest
whole_name name names bytes goes =
    ([], bytes, tt, refl, let P : List ℕ → Type 0 = λ xs. TagGoes IsTagText xs names bytes in subst P (sym (append-nil name)) goes)

-- a byte of a name
name_completes : (p : ℕ) (name : List ℕ) (names : Names) (b : ℕ) (bytes : List ℕ) → is_name_byte b ≡ true → Completes (in_name p (name ++ b ∷ []) names) bytes → Completes (in_name p name names) (b ∷ bytes)
name_completes p name names b bytes h (more, rest, all, e, goes) =
    (b ∷ more, rest, (h, all), ap (λ xs. b ∷ xs) e, let P : List ℕ → Type 0 = λ xs. TagGoes IsTagText xs names rest in subst P (append_assoc name (b ∷ []) more) goes)

sound_edges : Edges (λ s at b turn. TurnCompletes s b turn)
sound_edges = record {
  refused = λ s at b. tt;
  fresh_marked = λ at bytes (rest, e, f). (true, rest, ap (λ xs. 0xEF ∷ xs) e, f);
  fresh_opens = λ at bytes f. (false, 60 ∷ bytes, refl, f);
  fresh_space = λ at b h bytes f. (false, b ∷ bytes, refl, begun_blank b bytes h f);
  marked_one = λ at bytes (rest, e, f). (rest, ap (λ xs. 0xBB ∷ xs) e, f);
  marked_two = λ at bytes f. (bytes, refl, f);
  opens = λ level at bytes f. f;
  space_before = λ at b h bytes f. begun_blank b bytes h f;
  space_behind = λ at b h bytes (around, are, e). (blank b ∷ around, (h, are), ap (λ xs. b ∷ xs) e);
  words_begin = λ name names at b h bytes ends. ends_byte b name names bytes h ends;
  reference_begins = λ name names at bytes c. ends_reference name names bytes c;
  bangs = λ place level at bytes f. f;
  asks = λ place level at bytes c. instruction_follows level bytes c;
  root_begins = λ place at b h bytes c. tag_follows place b before bytes tt h c;
  child_begins = λ place name names at b h bytes c. tag_follows place b (within name names) bytes tt h c;
  slashes = λ place name names at bytes (space, rest, all, e, ends). (text_only [], space, rest, run_empty is_text, all, ap (λ xs. 60 ∷ 47 ∷ xs) (e ∙ end_tag_split name space rest), ends);
  dash_one = λ level at bytes f. f;
  dash_two = λ level at bytes c. comment_follows level bytes c;
  comments = λ dashes level at b. comment_completes dashes level b;
  instructions = λ asked level at b. instruction_completes asked level b;
  words_end = λ place raw name names at bytes f. f;
  words_go = λ place raw name names at b h bytes ends. ends_byte b name names bytes h ends;
  words_refer = λ place raw name names at bytes c. ends_reference name names bytes c;
  references = λ r place raw name names at b. reference_completes r place raw name names b (ref_step r b) refl;
  name_ends = λ place name names at bytes ends. whole_name name names (62 ∷ bytes) ([], 62 ∷ bytes, no_text, refl, inl (bytes, refl, ends));
  name_slash = λ place name names at bytes (rest, e, ends). whole_name name names (47 ∷ bytes) ([], 47 ∷ bytes, no_text, refl, inr (rest, ap (λ xs. 47 ∷ xs) e, ends));
  name_goes = λ place name names at b h bytes c. name_completes place name names b bytes h c;
  name_space = λ place name names at b h bytes (raw, rest, (t, may, leads), e, stops). whole_name name names (b ∷ bytes) (b ∷ raw, rest, leads_tag_text b raw t h may leads, ap (λ xs. b ∷ xs) e, stops);
  tag_ends = λ spot place name raw names at may bytes ends. ([], 62 ∷ bytes, (spot, may, refl), refl, inl (bytes, refl, ends));
  tag_slash = λ spot place name raw names at may bytes (rest, e, ends). ([], 47 ∷ bytes, (spot, may, refl), refl, inr (rest, ap (λ xs. 47 ∷ xs) e, ends));
  tag_goes = λ spot place name raw names at b. spot_completes spot place name raw names b (spot_step spot b) refl;
  empty_ends = λ slash place name raw names at bytes f. (bytes, refl, outside_ends names bytes f);
  end_ends = λ place names at bytes f. ([], bytes, tt, refl, outside_ends names bytes f);
  end_space = λ place names at b h bytes (space, rest, all, e, ends). (b ∷ space, rest, (h, all), ap (λ xs. b ∷ xs) e, ends);
  end_goes = λ place c rest names at bytes (space, more, all, e, ends). (space, more, all, ap (λ xs. c ∷ xs) e, ends);
  closed_ends = λ place names at bytes f. ([], bytes, tt, refl, outside_ends names bytes f);
  closed_space = λ place names at b h bytes (space, rest, all, e, ends). (b ∷ space, rest, (h, all), ap (λ xs. b ∷ xs) e, ends);
}
  where
    end_tag_split : (name space rest : List ℕ) → name ++ (space ++ (62 ∷ rest)) ≡ (name ++ (space ++ 62 ∷ [])) ++ rest
    end_tag_split name space rest = simp append_assoc refl

-- each step may go on with what may follow behind it
pub completes : (s : State) (at b : ℕ) → TurnCompletes s b (step s at b)
completes = edges (λ s at b turn. TurnCompletes s b turn) sound_edges

-- only behind the outermost element may nothing follow
sound_end : (s : State) (at : ℕ) → finishes (verdict s at ∷ []) ≡ true → Completes s []
sound_end (between behind) at h = ([], tt, refl)
sound_end (between before) at h = absurd (true≢false (sym h))
sound_end (between (within name names)) at h = absurd (true≢false (sym h))
sound_end fresh at h = absurd (true≢false (sym h))
sound_end m.mark_one at h = absurd (true≢false (sym h))
sound_end m.mark_two at h = absurd (true≢false (sym h))
sound_end (opened p level) at h = absurd (true≢false (sym h))
sound_end (m.bang level) at h = absurd (true≢false (sym h))
sound_end (bang_dash level) at h = absurd (true≢false (sym h))
sound_end (in_comment dashes level) at h = absurd (true≢false (sym h))
sound_end (in_instruction asked level) at h = absurd (true≢false (sym h))
sound_end (in_words p raw name names) at h = absurd (true≢false (sym h))
sound_end (in_reference r p raw name names) at h = absurd (true≢false (sym h))
sound_end (in_name p name names) at h = absurd (true≢false (sym h))
sound_end (in_tag spot p name raw names) at h = absurd (true≢false (sym h))
sound_end (slashed slash p name raw names) at h = absurd (true≢false (sym h))
sound_end (closing p due names) at h = absurd (true≢false (sym h))
sound_end (closed p names) at h = absurd (true≢false (sym h))

-- one byte, where it is known what may follow in the next state
sound_turn : (s : State) (at b : ℕ) (bytes : List ℕ) (turn : Turn) → step s at b ≡ turn → IsClean turn → TurnCompletes s b turn → ((next : State) → finishes (answers_from next (at + 1) bytes) ≡ true → Completes next bytes) → finishes (answers_from s at (b ∷ bytes)) ≡ true → Completes s (b ∷ bytes)
sound_turn s at b bytes off is c t further h = absurd (true≢false (sym h ∙ ap finishes (step_off s at b bytes is)))
sound_turn s at b bytes (on said next) is c t further h =
    t bytes (further next (sym (finishes-clean said (answers_from next (at + 1) bytes) c) ∙ (sym (ap finishes (step_on s next at b bytes said is)) ∙ h)))

-- what is answered with `finish` may follow
pub sound : (s : State) (at : ℕ) (bytes : List ℕ) → finishes (answers_from s at bytes) ≡ true → Completes s bytes
sound s at [] h = sound_end s at (sym (ap finishes (at_end s at)) ∙ h)
sound s at (b ∷ bytes) h =
    sound_turn s at b bytes (step s at b) refl (clean s at b) (completes s at b) (λ next. sound next (at + 1) bytes) h

-- bytes of a text of the grammar, were they UTF-8
abbrev pub Grown : List ℕ → Type 0
Grown text = (tree : Tree) × AreAround tree.front × IsElement tree.root × AreAround tree.back × (text ≡ spelled_tree tree)

-- what is answered with `finish` from the front on is the bytes of a tree
pub grown : (text : List ℕ) → finishes (answers_from fresh 0 text) ≡ true → Grown text
grown text h = from (sound fresh 0 text h)
  where
    from : Completes fresh text → Grown text
    from (marked, rest, e, (front, root, back, f, r, k, spells)) = (
      record { marked = marked; front = front; root = root; back = back },
      f,
      r,
      k,
      e ∙ (ap (λ xs. mark_of marked ++ xs) spells ∙ sym (append_assoc (mark_of marked) (spelled_around front) _)),
    )
