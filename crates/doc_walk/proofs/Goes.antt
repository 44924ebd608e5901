-- A walk inside an element: what is left says what the whole says.
use Rattle.std.proofs.Common.{◌≡◌, ℕ, ◌≤◌, List, [], ◌∷◌, ◌++◌, length, refl, ap, sym, ◌∙◌, subst, arith, false, Result, Ok, Err}
use Rattle.markup_grammar.specs.Answers.{Answer, start, words, stop, form, depth}
use Rattle.markup_grammar.specs.Elements.{element, innermost, outer_contents, open_contents}
use Rattle.markup_grammar.specs.Escapes.{unescaped}
use Rattle.doc_forms.specs.declared.fails.DocFail.{DocFail}
use Rattle.doc_forms.specs.declared.fails.DocFail.TheVariants.{Form, Depth}
use Rattle.doc_forms.specs.ElementTexts.{Setting, is_protected, text_at_end, read_rest}
use Rattle.doc_forms.specs.Children.{Child, children_and_end}
use Rattle.outside_core.specs.Results.{◌>>=◌}
use Rattle.doc_forms.specs.Refusals.{Fails, Returns}
use Rattle.doc_forms.specs.ElementTexts.{ElementText}
use Rattle.doc_walk.proofs.Pieces as pieces
use Rattle.doc_walk.proofs.ContentPieces as containers
use Rattle.doc_walk.specs.Steps.{Course, Rest, Steps}

-- what is left of a walk says what the whole said
pub record Goes {Y : Type 0} (old now : Course) (first rest : Rest Y) : Type 0 where
  pub gives : rest old.setting (innermost (open_contents now.answers)) now.cursor ≡ first old.setting (innermost (open_contents old.answers)) old.cursor
  pub outer : outer_contents (open_contents now.answers) ≡ outer_contents (open_contents old.answers)
  pub shorter : length now.answers ≤ length old.answers
  pub setting : now.setting ≡ old.setting

-- the walk has gone one answer further
pub record NextAnswer (now next : Course) (answer : Answer) : Type 0 where
  pub answers : now.answers ≡ answer ∷ next.answers
  pub setting : next.setting ≡ now.setting
  pub cursor : next.cursor ≡ now.cursor

-- the next answer is a refusal
pub record AtRefusal (now next : Course) (answer : Answer) : Type 0 where
  pub answers : now.answers ≡ answer ∷ []
  pub setting : next.setting ≡ now.setting

pub at_start : {Y : Type 0} (old : Course) (first : Rest Y) → Goes old old first first
at_start old first = record { gives = refl; outer = refl; shorter = omega arith; setting = refl }

-- a refusal
pub refused : {X Y : Type 0} (view : X → Y) (old new : Course) (first : Rest Y) (e : DocFail)
    → Fails e (first old.setting (innermost (open_contents old.answers)) old.cursor) → new.setting ≡ old.setting → Steps view old new (Err e) first
refused view old new first e fails same = record { gives = fails; left = tt; shorter = tt; setting = same }

-- ---- an element that is passed over

abbrev pub text_from : ℕ → List ℕ → List ℕ → Rest ElementText
text_from place raw text s content cursor = read_rest s place raw text content cursor

pub text_words : (place : ℕ) (raw text : List ℕ) (old now next : Course) (first : Rest ElementText) (p : ℕ) (run : List ℕ)
    → Goes old now first (text_from place raw text) → NextAnswer now next (words p run) → Goes old next first (text_from place raw (text ++ unescaped run))
text_words place raw text old now next first p run goes next_answer =
    let it = pieces.after_words old.setting place raw text now.answers next.answers now.cursor p run next_answer.answers in
    record {
      gives = rw next_answer.cursor (sym it.gives ∙ goes.gives);
      outer = sym it.outer_same ∙ goes.outer;
      shorter = omega (arith, it.shorter, goes.shorter);
      setting = next_answer.setting ∙ goes.setting;
    }

pub text_child : (place : ℕ) (raw text : List ℕ) (old now mid next : Course) (first : Rest ElementText) (p : ℕ) (name attrs : List ℕ) {X : Type 0} (view : X → ElementText) (x : X)
    → Goes old now first (text_from place raw text) → NextAnswer now mid (start p name attrs) → Steps view mid next (Ok x) (text_from p attrs [])
    → Goes old next first (text_from place raw text)
text_child place raw text old now mid next first p name attrs view x goes next_answer steps =
    let same = next_answer.setting ∙ goes.setting in
    let child = rw (next_answer.cursor, same) at steps.gives in
    let it = pieces.after_child old.setting place raw text now.answers mid.answers next.answers now.cursor next.cursor p name attrs (view x) next_answer.answers child steps.left in
    record {
      gives = sym it.0 ∙ goes.gives;
      outer = sym it.1 ∙ goes.outer;
      shorter = omega (arith, ap length next_answer.answers, steps.shorter, goes.shorter);
      setting = steps.setting ∙ same;
    }

pub text_refused : (place : ℕ) (raw text : List ℕ) (old now mid next : Course) (first : Rest ElementText) (p : ℕ) (name attrs : List ℕ) {X : Type 0} (view : X → ElementText) (e : DocFail)
    → Goes old now first (text_from place raw text) → NextAnswer now mid (start p name attrs) → Steps view mid next (Err e) (text_from p attrs [])
    → Steps view old next (Err e) first
text_refused place raw text old now mid next first p name attrs view e goes next_answer steps =
    let same = next_answer.setting ∙ goes.setting in
    let child = rw (next_answer.cursor, same) at steps.gives in
    refused view old next first e
    (subst (Fails e) goes.gives (pieces.child_refused old.setting place raw text now.answers mid.answers now.cursor p name attrs e next_answer.answers child))
    (steps.setting ∙ same)

pub text_end : (place : ℕ) (raw text : List ℕ) (old now mid next : Course) (first : Rest ElementText) (p : ℕ) {X : Type 0} (view : X → ElementText) (r : Result X DocFail)
    → Goes old now first (text_from place raw text) → NextAnswer now mid (stop p)
    → Returns (λ x. (view x, next.cursor)) r (text_at_end mid.setting place raw text mid.cursor) → next.answers ≡ mid.answers → next.setting ≡ mid.setting
    → Steps view old next r first
text_end place raw text old now mid next first p view r goes next_answer gives answers setting =
    let same = next_answer.setting ∙ goes.setting in
    let ended = rw (next_answer.cursor, same) at gives in
    record {
      gives = pieces.given_same (λ x. (view x, next.cursor)) r _ _ (sym (pieces.at_stop old.setting place raw text now.answers mid.answers now.cursor p next_answer.answers) ∙ goes.gives) ended;
      left = pieces.on_ok r (ap open_contents answers ∙ (pieces.stop_outer now.answers mid.answers p next_answer.answers ∙ goes.outer));
      shorter = pieces.on_ok r (omega (arith, ap length answers, ap length next_answer.answers, goes.shorter));
      setting = setting ∙ same;
    }

pub text_form : (place : ℕ) (raw text : List ℕ) (old now next : Course) (first : Rest ElementText) (p : ℕ) {X : Type 0} (view : X → ElementText)
    → Goes old now first (text_from place raw text) → AtRefusal now next (form p) → Steps view old next (Err (Form p)) first
text_form place raw text old now next first p view goes at_refusal =
    refused view old next first (Form p) (sym goes.gives ∙ pieces.at_form old.setting place raw text now.answers now.cursor p at_refusal.answers) (at_refusal.setting ∙ goes.setting)

pub text_depth : (place : ℕ) (raw text : List ℕ) (old now next : Course) (first : Rest ElementText) (p : ℕ) {X : Type 0} (view : X → ElementText)
    → Goes old now first (text_from place raw text) → AtRefusal now next (depth p) → Steps view old next (Err (Depth p)) first
text_depth place raw text old now next first p view goes at_refusal =
    refused view old next first (Depth p) (sym goes.gives ∙ pieces.at_depth old.setting place raw text now.answers now.cursor p at_refusal.answers) (at_refusal.setting ∙ goes.setting)

-- ---- a container

abbrev pub all_from : {P : Type 0} → (Setting → Child P) → ℕ → List ℕ → List ℕ → P → Rest P
all_from child place raw text parts s content cursor = children_and_end s (child s) place raw text content parts cursor

pub all_words : {P : Type 0} (child : Setting → Child P) (place : ℕ) (raw text : List ℕ) (parts : P) (old now next : Course) (first : Rest P) (p : ℕ) (run : List ℕ)
    → Goes old now first (all_from child place raw text parts) → NextAnswer now next (words p run) → Goes old next first (all_from child place raw (text ++ unescaped run) parts)
all_words child place raw text parts old now next first p run goes next_answer =
    let it = containers.words_joined old.setting (child old.setting) place raw text now.answers next.answers parts now.cursor p run next_answer.answers in
    record {
      gives = rw next_answer.cursor (sym it ∙ goes.gives);
      outer = sym (containers.words_outer now.answers next.answers p run next_answer.answers) ∙ goes.outer;
      shorter = omega (arith, ap length next_answer.answers, goes.shorter);
      setting = next_answer.setting ∙ goes.setting;
    }

pub all_shown : {P : Type 0} (child : Setting → Child P) (place : ℕ) (raw text : List ℕ) (parts : P) (old now next : Course) (first : Rest P) (p : ℕ) (run : List ℕ)
    → Goes old now first (all_from child place raw text parts) → NextAnswer now next (words p run) → is_protected raw ≡ false
    → Goes old next first (all_from child place raw text parts)
all_shown child place raw text parts old now next first p run goes next_answer shown =
    let it = containers.words_passed old.setting (child old.setting) place raw text now.answers next.answers parts now.cursor p run next_answer.answers shown in
    record {
      gives = rw next_answer.cursor (sym it ∙ goes.gives);
      outer = sym (containers.words_outer now.answers next.answers p run next_answer.answers) ∙ goes.outer;
      shorter = omega (arith, ap length next_answer.answers, goes.shorter);
      setting = next_answer.setting ∙ goes.setting;
    }

-- an element in another
abbrev pub one_of : {P : Type 0} → (Setting → Child P) → ℕ → List ℕ → List ℕ → P → Rest P
one_of child p name attrs parts s content cursor = child s parts (element p name attrs content) cursor

pub all_child : {P : Type 0} (child : Setting → Child P) (place : ℕ) (raw text : List ℕ) (parts more : P) (old now mid next : Course) (first : Rest P) (p : ℕ) (name attrs : List ℕ) {X : Type 0} (x : X)
    → Goes old now first (all_from child place raw text parts) → NextAnswer now mid (start p name attrs) → Steps {X = X} (λ _. more) mid next (Ok x) (one_of child p name attrs parts)
    → Goes old next first (all_from child place raw text more)
all_child child place raw text parts more old now mid next first p name attrs x goes next_answer steps =
    let same = next_answer.setting ∙ goes.setting in
    let one = rw (next_answer.cursor, same) at steps.gives in
    let it = containers.after_child old.setting (child old.setting) place raw text now.answers mid.answers next.answers parts more now.cursor next.cursor p name attrs next_answer.answers one steps.left in
    record {
      gives = sym it.0 ∙ goes.gives;
      outer = sym it.1 ∙ goes.outer;
      shorter = omega (arith, ap length next_answer.answers, steps.shorter, goes.shorter);
      setting = steps.setting ∙ same;
    }

pub all_refused : {P : Type 0} (child : Setting → Child P) (place : ℕ) (raw text : List ℕ) (parts more any : P) (old now mid next : Course) (first : Rest P) (p : ℕ) (name attrs : List ℕ) {X Z : Type 0} (e : DocFail)
    → Goes old now first (all_from child place raw text parts) → NextAnswer now mid (start p name attrs) → Steps {X = X} (λ _. more) mid next (Err e) (one_of child p name attrs parts)
    → Steps {X = Z} (λ _. any) old next (Err e) first
all_refused child place raw text parts more any old now mid next first p name attrs e goes next_answer steps =
    let same = next_answer.setting ∙ goes.setting in
    let one = rw (next_answer.cursor, same) at steps.gives in
    refused (λ _. any) old next first e
    (subst (Fails e) goes.gives (containers.child_stops old.setting (child old.setting) place raw text now.answers mid.answers parts now.cursor p name attrs e next_answer.answers one))
    (steps.setting ∙ same)

pub all_end : {P : Type 0} (child : Setting → Child P) (place : ℕ) (raw text : List ℕ) (parts : P) (old now mid next : Course) (first : Rest P) (p : ℕ) {X Z : Type 0} (view : X → ElementText) (x : X) (z : Z)
    → Goes old now first (all_from child place raw text parts) → NextAnswer now mid (stop p)
    → Returns (λ y. (view y, next.cursor)) (Ok x) (text_at_end mid.setting place raw text mid.cursor) → next.answers ≡ mid.answers → next.setting ≡ mid.setting
    → Steps {X = Z} (λ _. parts) old next (Ok z) first
all_end child place raw text parts old now mid next first p view x z goes next_answer gives answers setting =
    let same = next_answer.setting ∙ goes.setting in
    let ended = rw (next_answer.cursor, same) at gives in
    record {
      gives = sym goes.gives ∙ (containers.at_end old.setting (child old.setting) place raw text now.answers mid.answers parts now.cursor p next_answer.answers ∙ ap (λ r. r >>= λ y. Ok (parts, y.1)) ended);
      left = ap open_contents answers ∙ (pieces.stop_outer now.answers mid.answers p next_answer.answers ∙ goes.outer);
      shorter = omega (arith, ap length answers, ap length next_answer.answers, goes.shorter);
      setting = setting ∙ same;
    }

pub all_unended : {P : Type 0} (child : Setting → Child P) (place : ℕ) (raw text : List ℕ) (parts any : P) (old now mid next : Course) (first : Rest P) (p : ℕ) {Z : Type 0} (e : DocFail)
    → Goes old now first (all_from child place raw text parts) → NextAnswer now mid (stop p)
    → Fails e (text_at_end mid.setting place raw text mid.cursor) → next.setting ≡ mid.setting
    → Steps {X = Z} (λ _. any) old next (Err e) first
all_unended child place raw text parts any old now mid next first p e goes next_answer fails setting =
    let same = next_answer.setting ∙ goes.setting in
    let ended = rw (next_answer.cursor, same) at fails in
    refused (λ _. any) old next first e
    (subst (Fails e) (sym (containers.at_end old.setting (child old.setting) place raw text now.answers mid.answers parts now.cursor p next_answer.answers) ∙ goes.gives)
    (containers.end_stops old.setting place raw text parts now.cursor e ended))
    (setting ∙ same)

pub all_form : {P : Type 0} (child : Setting → Child P) (place : ℕ) (raw text : List ℕ) (parts any : P) (old now next : Course) (first : Rest P) (p : ℕ) {Z : Type 0}
    → Goes old now first (all_from child place raw text parts) → AtRefusal now next (form p) → Steps {X = Z} (λ _. any) old next (Err (Form p)) first
all_form child place raw text parts any old now next first p goes at_refusal =
    refused (λ _. any) old next first (Form p) (sym goes.gives ∙ containers.form_within old.setting (child old.setting) place raw text now.answers parts now.cursor p at_refusal.answers) (at_refusal.setting ∙ goes.setting)

pub all_depth : {P : Type 0} (child : Setting → Child P) (place : ℕ) (raw text : List ℕ) (parts any : P) (old now next : Course) (first : Rest P) (p : ℕ) {Z : Type 0}
    → Goes old now first (all_from child place raw text parts) → AtRefusal now next (depth p) → Steps {X = Z} (λ _. any) old next (Err (Depth p)) first
all_depth child place raw text parts any old now next first p goes at_refusal =
    refused (λ _. any) old next first (Depth p) (sym goes.gives ∙ containers.depth_within old.setting (child old.setting) place raw text now.answers parts now.cursor p at_refusal.answers) (at_refusal.setting ∙ goes.setting)
