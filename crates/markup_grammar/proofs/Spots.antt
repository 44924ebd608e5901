-- Attributes: the reader goes over what stands in a start tag behind its name.
use Rattle.std.proofs.Common.{◌≡◌, ◌≢◌, ℕ, Bool, true, false, eqb, List, [], ◌∷◌, ◌++◌, refl, sym, subst, inl, inr, append_assoc, rules}
use Rattle.markup_grammar.specs.Bytes.{is_space, is_name_byte, is_value, AllAre, IsName}
use Rattle.markup_grammar.specs.References.{reference_body}
use Rattle.markup_grammar.specs.Runs.{Bit, plain, reference, spelled_bits, AreBits, IsRun}
use Rattle.markup_grammar.specs.Tags.{Attribute, attribute_then, IsQuote, IsAttribute, spelled_attributes, AreAttributes, IsTagText}
use Rattle.markup_grammar.specs.Machine.{Ref, begun, RefTurn, ref_on, ref_ends, ref_off, ref_step, Spot, spaced, naming, named, equalled, valuing, referring, valued, SpotTurn, spot_on, spot_off, spot_step, in_value}
use Rattle.markup_grammar.proofs.Classes.{space_not_equal, space_not_double, space_not_single, name_not_equal, value_not_and, value_not_quote, space_not_name, begins_not_space}
use Rattle.markup_grammar.proofs.Edges.{MayEnd}
use Rattle.markup_grammar.proofs.Refs.{turn_ends, RefEnds, reference_ends}
use Rattle.markup_grammar.proofs.Steps.{differ}

-- what a turn leads to
abbrev pub turn_leads : SpotTurn → (Spot → Type 0) → Type 0
turn_leads (spot_on s) more = more s
turn_leads spot_off more = ⊥

-- the bytes lead from one spot to another
abbrev pub Leads : List ℕ → Spot → Spot → Type 0
Leads [] s t = s ≡ t
Leads (b ∷ bytes) s t = turn_leads (spot_step s b) (λ next. Leads bytes next t)

pub leads_append : (xs ys : List ℕ) (s t u : Spot) → Leads xs s t → Leads ys t u → Leads (xs ++ ys) s u
leads_append [] ys s t u first more = let P : Spot → Type 0 = λ x. Leads ys x u in subst P (sym first) more
leads_append (b ∷ xs) ys s t u first more = by_turn (spot_step s b) (λ next h. leads_append xs ys next t u h more) first
  where
    by_turn : (turn : SpotTurn) → ((next : Spot) → Leads xs next t → Leads (xs ++ ys) next u) → turn_leads turn (λ next. Leads xs next t) → turn_leads turn (λ next. Leads (xs ++ ys) next u)
    by_turn (spot_on next) further first = further next first
    by_turn spot_off further first = absurd first

-- a run of bytes that stay at a spot
stays : (test : ℕ → Bool) (s : Spot) → ((b : ℕ) → test b ≡ true → spot_step s b ≡ spot_on s) → (bytes : List ℕ) → AllAre test bytes → Leads bytes s s
stays test s here [] all = refl
stays test s here (b ∷ bytes) all = rw (here b all.0) (stays test s here bytes all.1)

spaces_stay : (bytes : List ℕ) → AllAre is_space bytes → Leads bytes spaced spaced
spaces_stay = stays is_space spaced (λ b h. rw h refl)

names_stay : (bytes : List ℕ) → AllAre is_name_byte bytes → Leads bytes naming naming
names_stay = stays is_name_byte naming (λ b h. rw h refl)

-- the rest of a reference in a value
refers : (quote : ℕ) (bytes : List ℕ) (r : Ref) → RefEnds bytes r → Leads bytes (referring quote r) (valuing quote)
refers quote [] r h = absurd h
refers quote (b ∷ bytes) r h = by_turn (ref_step r b) (λ next g. refers quote bytes next g) h
  where
    by_turn : (turn : RefTurn) → ((next : Ref) → RefEnds bytes next → Leads bytes (referring quote next) (valuing quote)) → turn_ends turn bytes (λ next. RefEnds bytes next) → turn_leads (in_value quote turn) (λ next. Leads bytes next (valuing quote))
    by_turn (ref_on next) further h = further next h
    by_turn ref_ends further h = let P : List ℕ → Type 0 = λ xs. Leads xs (valuing quote) (valuing quote) in subst P (sym h) refl
    by_turn ref_off further h = absurd h

-- a value up to its second quote
values : (quote : ℕ) (bits : List Bit) → eqb 38 quote ≡ false → AreBits (is_value quote) bits → Leads (spelled_bits bits) (valuing quote) (valuing quote)
values quote [] other are = refl
values quote (plain b ∷ bits) other are =
    let value : is_value quote b ≡ true = are.0 in
    rw (value_not_quote quote b value, differ (is_value quote) b 38 value (value_not_and quote), value) (values quote bits other are.1)
values quote (reference r ∷ bits) other are =
    rw other (along (split (reference_body r) (spelled_bits bits))
    (leads_append (reference_body r ++ 59 ∷ []) (spelled_bits bits) (referring quote begun) (valuing quote) (valuing quote)
    (refers quote (reference_body r ++ 59 ∷ []) begun (reference_ends r are.0)) (values quote bits other are.1)))
  where
    split : (body rest : List ℕ) → (body ++ 59 ∷ []) ++ rest ≡ body ++ (59 ∷ rest)
    split body rest = append_assoc body (59 ∷ []) rest

    along : {xs ys : List ℕ} → xs ≡ ys → Leads xs (referring quote begun) (valuing quote) → Leads ys (referring quote begun) (valuing quote)
    along e h = let P : List ℕ → Type 0 = λ zs. Leads zs (referring quote begun) (valuing quote) in subst P e h

eqb_self : (b : ℕ) → eqb b b ≡ true
eqb_self b = search rules

-- a value, its second quote, and what follows
value_leads : (quote : ℕ) (value rest : List ℕ) (t : Spot) → eqb 38 quote ≡ false → IsRun (is_value quote) value → Leads rest valued t → Leads (value ++ (quote ∷ rest)) (valuing quote) t
value_leads quote value rest t other run more =
    leads_append value (quote ∷ rest) (valuing quote) (valuing quote) t
    (let P : List ℕ → Type 0 = λ xs. Leads xs (valuing quote) (valuing quote) in subst P (sym run.spells) (values quote run.bits other run.are_bits))
    (rw (eqb_self quote) more)

-- what stands behind `=`
equal_leads : (space : List ℕ) (quote : ℕ) (value rest : List ℕ) (t : Spot) → AllAre is_space space → IsQuote quote → IsRun (is_value quote) value → Leads rest valued t → Leads (space ++ (quote ∷ (value ++ (quote ∷ rest)))) equalled t
equal_leads space quote value rest t all is run more =
    leads_append space (quote ∷ (value ++ (quote ∷ rest))) equalled equalled t
    (stays is_space equalled (λ b h. rw h refl) space all) (by_quote is)
  where
    at_double : quote ≡ 34 → Leads (34 ∷ (value ++ (34 ∷ rest))) equalled t
    at_double e =
        let P : ℕ → Type 0 = λ q. IsRun (is_value q) value in
        rw space_not_double (value_leads 34 value rest t refl (subst P e run) more)

    at_single : quote ≡ 39 → Leads (39 ∷ (value ++ (39 ∷ rest))) equalled t
    at_single e =
        let P : ℕ → Type 0 = λ q. IsRun (is_value q) value in
        rw space_not_single (value_leads 39 value rest t refl (subst P e run) more)

    by_quote : IsQuote quote → Leads (quote ∷ (value ++ (quote ∷ rest))) equalled t
    by_quote (inl e) = let P : ℕ → Type 0 = λ q. Leads (q ∷ (value ++ (q ∷ rest))) equalled t in subst P (sym e) (at_double e)
    by_quote (inr e) = let P : ℕ → Type 0 = λ q. Leads (q ∷ (value ++ (q ∷ rest))) equalled t in subst P (sym e) (at_single e)

-- white space behind an attribute's name, and the `=`
name_leads : (space rest : List ℕ) (t : Spot) → AllAre is_space space → Leads rest equalled t → Leads (space ++ (61 ∷ rest)) naming t
name_leads [] rest t all more = rw (name_not_equal, space_not_equal) more
name_leads (b ∷ space) rest t all more =
    let blank : is_space b ≡ true = all.0 in
    rw (space_not_name b blank, blank)
    (leads_append space (61 ∷ rest) named named t (stays is_space named (λ c h. rw h refl) space all.1) (rw space_not_equal more))

-- white space, and what follows it
space_leads : (space rest : List ℕ) (t : Spot) → space ≢ [] → AllAre is_space space → Leads rest spaced t → Leads (space ++ rest) valued t
space_leads [] rest t some all more = absurd (some refl)
space_leads (b ∷ space) rest t some all more =
    rw all.0 (leads_append space rest spaced spaced t (spaces_stay space all.1) more)

-- a name, and what follows it
begin_leads : (name rest : List ℕ) (t : Spot) → IsName name → Leads rest naming t → Leads (name ++ rest) spaced t
begin_leads [] rest t is more = absurd is
begin_leads (b ∷ name) rest t is more =
    rw (begins_not_space b is.0, is.0) (leads_append name rest naming naming t (names_stay name is.1) more)

-- an attribute, and what follows it
attribute_leads : (a : Attribute) (rest : List ℕ) (t : Spot) → IsAttribute a → Leads rest valued t → Leads (attribute_then a rest) valued t
attribute_leads a rest t is more =
    space_leads a.space _ t is.has_space is.space
    (begin_leads a.name _ t is.name
    (name_leads a.space_before _ t is.space_before
    (equal_leads a.space_behind a.quote a.value rest t is.space_behind is.quote is.value more)))

-- a tag's text leads to where the tag may end
pub tag_text_leads : (bytes : List ℕ) → IsTagText bytes → (t : Spot) × MayEnd t × Leads bytes valued t
tag_text_leads bytes is = at_end (all_lead is.attributes is.space is.are_attributes is.is_space)
  where
    at_end : (t : Spot) × MayEnd t × Leads (spelled_attributes is.attributes is.space) valued t → (t : Spot) × MayEnd t × Leads bytes valued t
    at_end (t, may, leads) = (t, may, let P : List ℕ → Type 0 = λ xs. Leads xs valued t in subst P (sym is.spells) leads)

    only_space : (space : List ℕ) → AllAre is_space space → (t : Spot) × MayEnd t × Leads space valued t
    only_space [] all = (valued, tt, refl)
    only_space (b ∷ space) all = (spaced, tt, rw all.0 (spaces_stay space all.1))

    all_lead : (attributes : List Attribute) (space : List ℕ) → AreAttributes attributes → AllAre is_space space → (t : Spot) × MayEnd t × Leads (spelled_attributes attributes space) valued t
    all_lead [] space are all = only_space space all
    all_lead (a ∷ attributes) space are all = next (all_lead attributes space are.1 all)
      where
        next : (t : Spot) × MayEnd t × Leads (spelled_attributes attributes space) valued t → (t : Spot) × MayEnd t × Leads (attribute_then a (spelled_attributes attributes space)) valued t
        next (t, may, leads) = (t, may, attribute_leads a (spelled_attributes attributes space) t are.0 leads)
