-- How tokens are told by the answers that they give.
use Rattle.std.proofs.Common.{◌≡◌, ◌≢◌, ℕ, zero, suc, ◌+◌, ◌-◌, ◌≤◌, ◌<◌, false, eqb, List, [], ◌∷◌, length, drop, length-drop, refl, ap, sym, ◌∙◌, arith, slice_range, slice_index_or, Result, Ok, Err}
use Rattle.std.proofs.lemmas.List.{drop_all}
use Rattle.markup_grammar.specs.Answers.{start, words, finish, form}
use Rattle.markup_grammar.specs.Bytes.{is_space}
use Rattle.markup_grammar.specs.Machine.{State, before, within, behind, fresh, between, opened, in_words, Names, step, verdict, on, off}
use Rattle.markup_scanner.specs.Asides.{NoAside}
use Rattle.markup_scanner.specs.Left.{answers_at, StandsAt, BeginsWithout, FailsFirst}
use Rattle.markup_scanner.specs.Scans.{Leads, IsPast}
use Rattle.markup_scanner.specs.Spans.{part, open_names}
use Rattle.markup_scanner.specs.Tags.{IsOpened, GivesTag, behind_tag}
use Rattle.markup_scanner.specs.Tokens.{Tells, state_at}
use Rattle.markup_scanner.specs.declared.tag.StartTag.{StartTag}
use Rattle.markup_scanner.specs.declared.token.Token.{Token}
use Rattle.markup_scanner.specs.declared.token.Token.TheVariants.{Start}
use Rattle.markup_scanner.proofs.Asides.{past_on, past_off}
use Rattle.markup_scanner.proofs.Steps.{left_on, left_end, refused, alike, other_byte, fails_there}

-- one byte that leads on, or is refused
pub past_leads : (text : List ℕ) (s next : State) (at byte : ℕ) (r : Result ℕ ℕ) → step s at byte ≡ on [] next → verdict s at ≡ form at → ((b : ℕ) → eqb b byte ≡ false → step s at b ≡ off) → IsPast text at byte r → Leads text s at (λ _. next) r
past_leads text s next at byte (Ok end) turn ends offs is = past_on text s next at end byte turn is
past_leads text s next at byte (Err place) turn ends offs is = past_off text s at place byte ends offs is

-- without a byte order mark
pub unmarked : (text : List ℕ) → BeginsWithout 239 (drop 0 text) → answers_at text fresh 0 ≡ answers_at text (between before) 0
unmarked text bare =
    alike text fresh (between before) 0 (λ _. refl)
    (λ b stand. let other : eqb b 239 ≡ false = other_byte text 0 b 239 stand bare in rw other refl)

-- behind the `<` of the outermost element's start tag
pub opened_root : (text : List ℕ) (place at : ℕ) → (at ≡ place + 1) × StandsAt text place 60 → NoAside text place → IsOpened text (opened place before) place [] at
opened_root text place at is none = record {
  ends = λ _. refl;
  turns = λ b stand. let mark : eqb b 33 ≡ false = other_byte text at b 33 stand (rw is.0 (none is.1).0) in
      let ask : eqb b 63 ≡ false = other_byte text at b 63 stand (rw is.0 (none is.1).1) in
      rw (mark, ask) refl;
}

-- behind that of another one's
pub opened_child : (text : List ℕ) (place : ℕ) (name : List ℕ) (names : Names) (at : ℕ) → (at ≡ place + 1) × StandsAt text place 60 → NoAside text place → BeginsWithout 47 (drop at text) → IsOpened text (opened place (within name names)) place (name ∷ names) at
opened_child text place name names at is none bare = record {
  ends = λ _. refl;
  turns = λ b stand. let mark : eqb b 33 ≡ false = other_byte text at b 33 stand (rw is.0 (none is.1).0) in
      let ask : eqb b 63 ≡ false = other_byte text at b 63 stand (rw is.0 (none is.1).1) in
      let slash : eqb b 47 ≡ false = other_byte text at b 47 stand bare in
      rw (mark, ask, slash) refl;
}

-- a start tag
pub tag_told : (text : List ℕ) (s t : State) (names : Names) (at place opening : ℕ) (tag : StartTag) → answers_at text s at ≡ answers_at text t opening → opening ≡ place + 1 → GivesTag text t place names opening (Ok tag) → Tells text names s at (Ok (Start place tag))
tag_told text s t names at place opening tag e is gives =
    e
    ∙ (gives
    ∙ ap (λ n. start place (slice_range text n tag.name_end) (slice_range text tag.name_end tag.attrs_end) ∷ behind_tag text tag (slice_range text n tag.name_end) names) is)

-- no outermost element
pub rootless : (text : List ℕ) (place p : ℕ) → FailsFirst is_space (drop place text) → (p ≡ place) × BeginsWithout 60 (drop place text) → answers_at text (between before) place ≡ form p ∷ []
rootless text place p fails is =
    refused text (between before) place (λ _. refl)
    (λ b stand. let tag : eqb b 60 ≡ false = other_byte text place b 60 stand is.1 in
    let space : is_space b ≡ false = fails_there is_space text place b stand fails in
    rw (tag, space) refl)
    ∙ ap (λ n. form n ∷ []) (sym is.0)

-- a run of text
pub words_told : (text : List ℕ) (name : List ℕ) (names : Names) (at place end : ℕ) → answers_at text (between (within name names)) at ≡ answers_at text (in_words place (slice_range text place end) name names) end → StandsAt text end 60 → answers_at text (between (within name names)) at ≡ words place (slice_range text place end) ∷ answers_at text (between (within name names)) end
words_told text name names at place end e stand =
    e
    ∙ (left_on text (in_words place (slice_range text place end) name names) (opened end (within name names)) end 60 (words place (slice_range text place end) ∷ []) stand refl
    ∙ ap (λ xs. words place (slice_range text place end) ∷ xs)
    (sym (left_on text (between (within name names)) (opened end (within name names)) end 60 [] stand refl)))

-- a place that is not the text's end has a byte
no_end : (text : List ℕ) (place : ℕ) → place ≤ length text → place ≢ length text → drop place text ≡ [] → ⊥
no_end text place le other nil =
    let none : length (drop place text) ≡ 0 = ap length nil in
    let n : length (drop place text) ≡ length text - place = length-drop place text in
    other (omega arith)

-- the end of the text behind the outermost element
pub end_told : (text : List ℕ) (place : ℕ) → place ≡ length text → answers_at text (between behind) place ≡ finish ∷ []
end_told text place is = left_end text (between behind) place (drop_all place text (omega arith))

-- a tag there
pub second_root : (text : List ℕ) (place at : ℕ) → (at ≡ place + 1) × StandsAt text place 60 → NoAside text place → answers_at text (between behind) place ≡ form at ∷ []
second_root text place at is none =
    past_on text (between behind) (opened place behind) place at 60 refl is
    ∙ refused text (opened place behind) at (λ _. refl)
    (λ b stand. let mark : eqb b 33 ≡ false = other_byte text at b 33 stand (rw is.0 (none is.1).0) in
    let ask : eqb b 63 ≡ false = other_byte text at b 63 stand (rw is.0 (none is.1).1) in
    rw (mark, ask) refl)

-- something else there
pub text_behind : (text : List ℕ) (place p : ℕ) → place ≤ length text → place ≢ length text → FailsFirst is_space (drop place text) → (p ≡ place) × BeginsWithout 60 (drop place text) → answers_at text (between behind) place ≡ form p ∷ []
text_behind text place p le other fails is =
    refused text (between behind) place (λ nil. absurd (no_end text place le other nil))
    (λ b stand. let tag : eqb b 60 ≡ false = other_byte text place b 60 stand is.1 in
    let space : is_space b ≡ false = fails_there is_space text place b stand fails in
    rw (tag, space) refl)
    ∙ ap (λ n. form n ∷ []) (sym is.0)

-- at the text's start no element is open
pub first_told : (text : List ℕ) (spans : List (ℕ × ℕ)) (depth at : ℕ) (r : Result Token ℕ) → at ≡ 0 → (0 < depth → 0 < at) → Tells text [] fresh 0 r → Tells text (open_names text spans depth) (state_at at (open_names text spans depth)) at r
first_told text spans zero at r e low tells = rw e tells
first_told text spans (suc depth) at r e low tells =
    let some : 0 < at = low (omega arith) in
    absurd (omega arith)

-- in an element
pub inner_told : (text : List ℕ) (spans : List (ℕ × ℕ)) (depth at : ℕ) (name : List ℕ) (r : Result Token ℕ) → 0 < depth → name ≡ part text (slice_index_or spans (depth - 1) (0, 0)) → ((names : Names) → Tells text (name ∷ names) (between (within name names)) at r) → Tells text (open_names text spans depth) (state_at at (open_names text spans depth)) at r
inner_told text spans zero at name r some is tells = absurd (omega arith)
inner_told text spans (suc depth) at name r some is tells =
    let low : suc depth - 1 ≡ depth = omega arith in
    let same : part text (slice_index_or spans depth (0, 0)) ≡ name = ap (λ n. part text (slice_index_or spans n (0, 0))) (sym low) ∙ sym is in
    rw same (tells (open_names text spans depth))
