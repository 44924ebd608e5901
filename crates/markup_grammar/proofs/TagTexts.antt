-- What the reader goes over in a start tag behind its name is attributes.
use Rattle.std.proofs.Common.{◌≡◌, ℕ, Bool, true, List, [], ◌∷◌, ◌++◌, refl, ap, sym, ◌∙◌, subst, inl, inr, append_assoc}
use Rattle.markup_grammar.specs.Bytes.{is_space, begins_name, is_name_byte, is_value, AllAre}
use Rattle.markup_grammar.specs.References.{reference_body}
use Rattle.markup_grammar.specs.Runs.{plain, reference, IsRun}
use Rattle.markup_grammar.specs.Tags.{Attribute, IsQuote, IsAttribute, spelled_attributes, AreAttributes, IsTagText}
use Rattle.markup_grammar.specs.Machine.{Ref, begun, RefTurn, ref_on, ref_ends, ref_off, ref_step, Spot, spaced, naming, named, equalled, valuing, referring, valued, spot_on, spot_off, equal_sign, in_value}
use Rattle.markup_grammar.proofs.Edges.{MayEnd, by_test, by_byte}
use Rattle.markup_grammar.proofs.Refs.{RefEnds, Referred, reference_is}
use Rattle.markup_grammar.proofs.Spots.{turn_leads, Leads}

-- no text is a run
pub run_empty : (test : ℕ → Bool) → IsRun test []
run_empty test = record { bits = []; are_bits = tt; spells = refl }

-- a byte in front of a run
pub run_plain : (test : ℕ → Bool) (b : ℕ) (bytes : List ℕ) → test b ≡ true → IsRun test bytes → IsRun test (b ∷ bytes)
run_plain test b bytes h run = record { bits = plain b ∷ run.bits; are_bits = (h, run.are_bits); spells = ap (λ xs. b ∷ xs) run.spells }

-- a reference in front of a run
pub run_reference : (test : ℕ → Bool) (body bytes : List ℕ) → RefEnds body begun → IsRun test bytes → IsRun test (38 ∷ (body ++ bytes))
run_reference test body bytes h run = from (reference_is body h)
  where
    from : Referred body → IsRun test (38 ∷ (body ++ bytes))
    from (r, is, spells) = record {
      bits = reference r ∷ run.bits;
      are_bits = (is, run.are_bits);
      spells = ap (λ xs. 38 ∷ (xs ++ bytes)) spells ∙ (ap (λ xs. 38 ∷ xs) (append_assoc (reference_body r) (59 ∷ []) bytes) ∙ ap (λ xs. 38 ∷ (reference_body r ++ (59 ∷ xs))) run.spells);
    }

-- what may follow in a value
abbrev pub InValue : ℕ → List ℕ → Type 0
InValue quote bytes =
    (value rest : List ℕ) × IsRun (is_value quote) value × (bytes ≡ value ++ (quote ∷ rest)) × IsTagText rest

-- what may follow behind `=`
abbrev pub AfterEqual : List ℕ → Type 0
AfterEqual bytes =
    (space : List ℕ) × (quote : ℕ) × (rest : List ℕ) × AllAre is_space space × IsQuote quote × (bytes ≡ space ++ (quote ∷ rest)) × InValue quote rest

-- what may follow behind an attribute's name
abbrev pub AfterName : List ℕ → Type 0
AfterName bytes = (space rest : List ℕ) × AllAre is_space space × (bytes ≡ space ++ (61 ∷ rest)) × AfterEqual rest

-- what may follow at a spot
abbrev pub Rest : Spot → List ℕ → Type 0
Rest spaced bytes = IsTagText (32 ∷ bytes)
Rest naming bytes = (name rest : List ℕ) × AllAre is_name_byte name × (bytes ≡ name ++ rest) × AfterName rest
Rest named bytes = AfterName bytes
Rest equalled bytes = AfterEqual bytes
Rest (valuing quote) bytes = InValue quote bytes
Rest (referring quote r) bytes = (body rest : List ℕ) × RefEnds body r × (bytes ≡ body ++ rest) × InValue quote rest
Rest valued bytes = IsTagText bytes

blank : is_space 32 ≡ true
unfolding is_space
blank = refl

pub no_text : IsTagText []
no_text = record { attributes = []; space = []; are_attributes = tt; is_space = tt; spells = refl }

one_space : (b : ℕ) → is_space b ≡ true → IsTagText (b ∷ [])
one_space b h = record { attributes = []; space = b ∷ []; are_attributes = tt; is_space = (h, tt); spells = refl }

pub all_append : (test : ℕ → Bool) (xs ys : List ℕ) → AllAre test xs → AllAre test ys → AllAre test (xs ++ ys)
all_append test [] ys all more = more
all_append test (x ∷ xs) ys all more = (all.0, all_append test xs ys all.1 more)

-- other white space in the place of the first
pub space_front : (b c : ℕ) (front bytes : List ℕ) → is_space b ≡ true → AllAre is_space front → IsTagText (c ∷ bytes) → IsTagText (b ∷ (front ++ bytes))
space_front b c front bytes h all is = by_attributes is.attributes is.are_attributes is.spells
  where
    tail : {xs ys : List ℕ} {x y : ℕ} → x ∷ xs ≡ y ∷ ys → xs ≡ ys
    tail e = cc

    in_space : (space : List ℕ) → AllAre is_space space → c ∷ bytes ≡ space → IsTagText (b ∷ (front ++ bytes))
    in_space [] blanks e = absurd cc
    in_space (d ∷ space) blanks e = record {
      attributes = [];
      space = b ∷ (front ++ bytes);
      are_attributes = tt;
      is_space = (h, all_append is_space front bytes all (let P : List ℕ → Type 0 = λ xs. AllAre is_space xs in subst P (sym (tail e)) blanks.1));
      spells = refl;
    }

    in_attribute : (a : Attribute) (attributes : List Attribute) (space : List ℕ) → IsAttribute a → AreAttributes attributes → a.space ≡ space → c ∷ bytes ≡ space ++ (a.name ++ (a.space_before ++ (61 ∷ (a.space_behind ++ (a.quote ∷ (a.value ++ (a.quote ∷ spelled_attributes attributes is.space))))))) → IsTagText (b ∷ (front ++ bytes))
    in_attribute a attributes [] is_a are e spells = absurd (is_a.has_space e)
    in_attribute a attributes (d ∷ space) is_a are e spells =
        let blanks : AllAre is_space (d ∷ space) = (let P : List ℕ → Type 0 = λ xs. AllAre is_space xs in subst P e is_a.space) in
        record {
          attributes = record { space = b ∷ (front ++ space); name = a.name; space_before = a.space_before; space_behind = a.space_behind; quote = a.quote; value = a.value } ∷ attributes;
          space = is.space;
          are_attributes = (
            record {
              has_space = λ nil. cc;
              space = (h, all_append is_space front space all blanks.1);
              name = is_a.name;
              space_before = is_a.space_before;
              space_behind = is_a.space_behind;
              quote = is_a.quote;
              value = is_a.value;
            },
            are,
          );
          is_space = is.is_space;
          spells = ap (λ xs. b ∷ (front ++ xs)) (tail spells) ∙ ap (λ xs. b ∷ xs) (sym (append_assoc front space _));
        }

    by_attributes : (attributes : List Attribute) → AreAttributes attributes → c ∷ bytes ≡ spelled_attributes attributes is.space → IsTagText (b ∷ (front ++ bytes))
    by_attributes [] are e = in_space is.space is.is_space e
    by_attributes (a ∷ attributes) are e = in_attribute a attributes a.space are.0 are.1 refl e

-- a whole attribute, behind a space
attribute_front : (b : ℕ) (bytes : List ℕ) → begins_name b ≡ true → Rest naming bytes → IsTagText (32 ∷ b ∷ bytes)
attribute_front b bytes h (name, behind_name, all, e, (space, behind_equal, blanks, e', (space', quote, behind_quote, blanks', is, e'', (value, rest, run, e''', text)))) =
    record {
      attributes = record { space = 32 ∷ []; name = b ∷ name; space_before = space; space_behind = space'; quote = quote; value = value } ∷ text.attributes;
      space = text.space;
      are_attributes = (
        record {
          has_space = λ nil. cc;
          space = (blank, tt);
          name = (h, all);
          space_before = blanks;
          space_behind = blanks';
          quote = is;
          value = run;
        },
        text.are_attributes,
      );
      is_space = text.is_space;
      spells =
          ap (λ xs. 32 ∷ b ∷ xs) (e ∙ ap (λ xs. name ++ xs) (e' ∙ ap (λ xs. space ++ (61 ∷ xs)) (e'' ∙ ap (λ xs. space' ++ (quote ∷ xs)) (e''' ∙ ap (λ xs. value ++ (quote ∷ xs)) text.spells))));
    }

equal_on : (bytes : List ℕ) (t : Spot) (b : ℕ) (A : ℕ → Type 0) → (Leads bytes equalled t → A 61) → turn_leads (equal_sign b) (λ next. Leads bytes next t) → A b
equal_on bytes t b A further =
    by_byte (λ n turn. turn_leads turn (λ next. Leads bytes next t) → A n) b 61 (spot_on equalled) spot_off further (λ _ g. absurd g)

space_name : (b : ℕ) (bytes : List ℕ) → is_space b ≡ true → AfterName bytes → AfterName (b ∷ bytes)
space_name b bytes h (space, rest, all, e, after) = (b ∷ space, rest, (h, all), ap (λ xs. b ∷ xs) e, after)

space_equal : (b : ℕ) (bytes : List ℕ) → is_space b ≡ true → AfterEqual bytes → AfterEqual (b ∷ bytes)
space_equal b bytes h (space, quote, rest, all, is, e, after) = (b ∷ space, quote, rest, (h, all), is, ap (λ xs. b ∷ xs) e, after)

name_more : (b : ℕ) (bytes : List ℕ) → is_name_byte b ≡ true → Rest naming bytes → Rest naming (b ∷ bytes)
name_more b bytes h (name, rest, all, e, after) = (b ∷ name, rest, (h, all), ap (λ xs. b ∷ xs) e, after)

value_more : (quote b : ℕ) (bytes : List ℕ) → is_value quote b ≡ true → InValue quote bytes → InValue quote (b ∷ bytes)
value_more quote b bytes h (value, rest, run, e, text) = (b ∷ value, rest, run_plain (is_value quote) b value h run, ap (λ xs. b ∷ xs) e, text)

refer_more : (quote : ℕ) (bytes : List ℕ) → Rest (referring quote begun) bytes → InValue quote (38 ∷ bytes)
refer_more quote bytes (body, behind, ends, e, (value, rest, run, e', text)) = (
  38 ∷ (body ++ value),
  rest,
  run_reference (is_value quote) body value ends run,
  ap (λ xs. 38 ∷ xs) (e ∙ (ap (λ xs. body ++ xs) e' ∙ sym (append_assoc body value (quote ∷ rest)))),
  text,
)

-- at the end
rest_nil : (s t : Spot) → s ≡ t → MayEnd t → Rest s []
rest_nil s t same may = by_spot s (let P : Spot → Type 0 = λ x. MayEnd x in subst P (sym same) may)
  where
    by_spot : (s : Spot) → MayEnd s → Rest s []
    by_spot spaced may = one_space 32 blank
    by_spot valued may = no_text
    by_spot naming may = absurd may
    by_spot named may = absurd may
    by_spot equalled may = absurd may
    by_spot (valuing quote) may = absurd may
    by_spot (referring quote r) may = absurd may

-- what leads to where a tag may end is what may follow
pub rests : (bytes : List ℕ) (s t : Spot) → MayEnd t → Leads bytes s t → Rest s bytes
rests [] s t may same = rest_nil s t same may
rests (b ∷ bytes) spaced t may h =
    by_test (λ turn. turn_leads turn (λ next. Leads bytes next t) → Rest spaced (b ∷ bytes)) (is_space b) (spot_on spaced) _
    (λ space g. space_front 32 32 (b ∷ []) bytes blank (space, tt) (rests bytes spaced t may g))
    (λ _. by_test (λ turn. turn_leads turn (λ next. Leads bytes next t) → Rest spaced (b ∷ bytes)) (begins_name b) (spot_on naming) spot_off
    (λ begins g. attribute_front b bytes begins (rests bytes naming t may g)) (λ _ g. absurd g)) h
rests (b ∷ bytes) naming t may h =
    by_test (λ turn. turn_leads turn (λ next. Leads bytes next t) → Rest naming (b ∷ bytes)) (is_name_byte b) (spot_on naming) _
    (λ name g. name_more b bytes name (rests bytes naming t may g))
    (λ _. by_test (λ turn. turn_leads turn (λ next. Leads bytes next t) → Rest naming (b ∷ bytes)) (is_space b) (spot_on named) _
    (λ space g. ([], b ∷ bytes, tt, refl, space_name b bytes space (rests bytes named t may g)))
    (λ _. equal_on bytes t b (λ n. Rest naming (n ∷ bytes)) (λ g. ([], 61 ∷ bytes, tt, refl, ([], bytes, tt, refl, rests bytes equalled t may g))))) h
rests (b ∷ bytes) named t may h =
    by_test (λ turn. turn_leads turn (λ next. Leads bytes next t) → Rest named (b ∷ bytes)) (is_space b) (spot_on named) _
    (λ space g. space_name b bytes space (rests bytes named t may g))
    (λ _. equal_on bytes t b (λ n. Rest named (n ∷ bytes)) (λ g. ([], bytes, tt, refl, rests bytes equalled t may g))) h
rests (b ∷ bytes) equalled t may h =
    by_test (λ turn. turn_leads turn (λ next. Leads bytes next t) → Rest equalled (b ∷ bytes)) (is_space b) (spot_on equalled) _
    (λ space g. space_equal b bytes space (rests bytes equalled t may g))
    (λ _. by_byte (λ n turn. turn_leads turn (λ next. Leads bytes next t) → Rest equalled (n ∷ bytes)) b 34 (spot_on (valuing 34)) _
    (λ g. ([], 34, bytes, tt, inl refl, refl, rests bytes (valuing 34) t may g))
    (λ _. by_byte (λ n turn. turn_leads turn (λ next. Leads bytes next t) → Rest equalled (n ∷ bytes)) b 39 (spot_on (valuing 39)) spot_off
    (λ g. ([], 39, bytes, tt, inr refl, refl, rests bytes (valuing 39) t may g)) (λ _ g. absurd g))) h
rests (b ∷ bytes) (valuing quote) t may h =
    by_byte (λ n turn. turn_leads turn (λ next. Leads bytes next t) → Rest (valuing quote) (n ∷ bytes)) b quote (spot_on valued) _
    (λ g. ([], bytes, run_empty (is_value quote), refl, rests bytes valued t may g))
    (λ _. by_byte (λ n turn. turn_leads turn (λ next. Leads bytes next t) → Rest (valuing quote) (n ∷ bytes)) b 38 (spot_on (referring quote begun)) _
    (λ g. refer_more quote bytes (rests bytes (referring quote begun) t may g))
    (λ _. by_test (λ turn. turn_leads turn (λ next. Leads bytes next t) → Rest (valuing quote) (b ∷ bytes)) (is_value quote b) (spot_on (valuing quote)) spot_off
    (λ value g. value_more quote b bytes value (rests bytes (valuing quote) t may g)) (λ _ g. absurd g))) h
rests (b ∷ bytes) (referring quote r) t may h =
    by_turn (ref_step r b) refl (λ next g. rests bytes (referring quote next) t may g) (λ g. rests bytes (valuing quote) t may g) h
  where
    longer : (next : Ref) → ref_step r b ≡ ref_on next → Rest (referring quote next) bytes → Rest (referring quote r) (b ∷ bytes)
    longer next goes (body, rest, ends, e, after) = (b ∷ body, rest, rw goes ends, ap (λ xs. b ∷ xs) e, after)

    by_turn : (turn : RefTurn) → ref_step r b ≡ turn → ((next : Ref) → Leads bytes (referring quote next) t → Rest (referring quote next) bytes) → (Leads bytes (valuing quote) t → Rest (valuing quote) bytes) → turn_leads (in_value quote turn) (λ next. Leads bytes next t) → Rest (referring quote r) (b ∷ bytes)
    by_turn (ref_on next) goes further ends g = longer next goes (further next g)
    by_turn ref_ends goes further ends g = (b ∷ [], bytes, rw goes refl, refl, ends g)
    by_turn ref_off goes further ends g = absurd g
rests (b ∷ bytes) valued t may h =
    by_test (λ turn. turn_leads turn (λ next. Leads bytes next t) → Rest valued (b ∷ bytes)) (is_space b) (spot_on spaced) spot_off
    (λ space g. space_front b 32 [] bytes space tt (rests bytes spaced t may g)) (λ _ g. absurd g) h

-- what leads from a space to where a tag may end is, with that space, a tag's text
pub leads_tag_text : (b : ℕ) (bytes : List ℕ) (t : Spot) → is_space b ≡ true → MayEnd t → Leads bytes spaced t → IsTagText (b ∷ bytes)
leads_tag_text b bytes t space may leads = space_front b 32 [] bytes space tt (rests bytes spaced t may leads)
