-- The attributes that are told of a tag are those that it spells.
use Rattle.std.proofs.Common.{◌≡◌, ℕ, ◌≤◌, ◌<◌, inl, inr, Bool, true, false, eqb, List, [], ◌∷◌, ◌++◌, refl, ap, sym, ◌∙◌, append_assoc, append-nil, arith, true≢false, rules, subst}
use Rattle.std.proofs.lemmas.Bool.{false_from_ne_true, ne_eqb}
use Rattle.markup_grammar.specs.Attributes.{Spot, between, naming, due, quoted, spot_after, attribute_ended_by, attributes, attributes_from}
use Rattle.markup_grammar.specs.Bytes.{is_space, is_digit, is_hex_digit, is_name_byte, is_value, AllAre, IsName}
use Rattle.markup_grammar.specs.References.{Reference, amp, lt, gt, quot, apos, decimal, hexadecimal, reference_body, IsReference}
use Rattle.markup_grammar.specs.Runs.{Bit, plain, reference, spelled_bits, AreBits, IsRun}
use Rattle.markup_grammar.specs.Tags.{Attribute, attribute_then, IsQuote, IsAttribute, spelled_attributes, AreAttributes, named_values}
use Rattle.markup_grammar.proofs.Classes.{space_not_equal, space_not_double, space_not_single, name_not_equal, space_not_name, name_from_begins, value_not_quote}
use Rattle.markup_grammar.proofs.Steps.{differ}

at_end : (spot : Spot) → attributes_from spot [] ≡ []
unfolding attributes_from
at_end spot = refl

-- one byte
goes : (spot : Spot) (b : ℕ) (rest : List ℕ) → attributes_from spot (b ∷ rest) ≡ attribute_ended_by spot b ++ attributes_from (spot_after spot b) rest
unfolding attributes_from
goes spot b rest = refl

spaces_between : (space rest : List ℕ) → AllAre is_space space → attributes_from between (space ++ rest) ≡ attributes_from between rest
spaces_between [] rest all = refl
spaces_between (b ∷ space) rest all =
    let blank : is_space b ≡ true = all.0 in
    goes between b (space ++ rest) ∙ rw blank (spaces_between space rest all.1)

spaces_due : (name space rest : List ℕ) → AllAre is_space space → attributes_from (due name) (space ++ rest) ≡ attributes_from (due name) rest
spaces_due name [] rest all = refl
spaces_due name (b ∷ space) rest all =
    goes (due name) b (space ++ rest)
    ∙ rw (differ is_space b 34 all.0 space_not_double, differ is_space b 39 all.0 space_not_single) (spaces_due name space rest all.1)

name_not_space : (b : ℕ) → is_name_byte b ≡ true → is_space b ≡ false
name_not_space b h = false_from_ne_true (is_space b) (λ blank. true≢false (sym h ∙ space_not_name b blank))

names_go : (acc bytes rest : List ℕ) → AllAre is_name_byte bytes → attributes_from (naming acc) (bytes ++ rest) ≡ attributes_from (naming (acc ++ bytes)) rest
names_go acc [] rest all = ap (λ xs. attributes_from (naming xs) rest) (sym (append-nil acc))
names_go acc (b ∷ bytes) rest all =
    goes (naming acc) b (bytes ++ rest)
    ∙ rw (name_not_space b all.0, differ is_name_byte b 61 all.0 name_not_equal)
    (names_go (acc ++ b ∷ []) bytes rest all.1 ∙ ap (λ xs. attributes_from (naming xs) rest) (append_assoc acc (b ∷ []) bytes))

name_begins : (name rest : List ℕ) → IsName name → attributes_from between (name ++ rest) ≡ attributes_from (naming name) rest
name_begins [] rest is = absurd is
name_begins (b ∷ name) rest is =
    goes between b (name ++ rest)
    ∙ rw (name_not_space b (name_from_begins b is.0), differ is_name_byte b 61 (name_from_begins b is.0) name_not_equal) (names_go (b ∷ []) name rest is.1)

name_ends : (name space rest : List ℕ) → AllAre is_space space → attributes_from (naming name) (space ++ (61 ∷ rest)) ≡ attributes_from (due name) rest
name_ends name [] rest all = goes (naming name) 61 rest ∙ rw space_not_equal refl
name_ends name (b ∷ space) rest all =
    let blank : is_space b ≡ true = all.0 in
    goes (naming name) b (space ++ (61 ∷ rest))
    ∙ rw blank (spaces_due name space (61 ∷ rest) all.1 ∙ goes (due name) 61 rest)

-- none of the bytes is this one
abbrev pub Avoids : ℕ → List ℕ → Type 0
Avoids c [] = Unit {0}
Avoids c (b ∷ bytes) = (eqb b c ≡ false) × Avoids c bytes

pub avoids_append : (c : ℕ) (xs ys : List ℕ) → Avoids c xs → Avoids c ys → Avoids c (xs ++ ys)
avoids_append c [] ys all more = more
avoids_append c (x ∷ xs) ys all more = (all.0, avoids_append c xs ys all.1 more)

eqb_self : (b : ℕ) → eqb b b ≡ true
eqb_self b = search rules

value_goes : (name : List ℕ) (quote : ℕ) (acc value rest : List ℕ) → Avoids quote value → attributes_from (quoted name quote acc) (value ++ (quote ∷ rest)) ≡ (name, acc ++ value) ∷ attributes_from between rest
value_goes name quote acc [] rest all =
    goes (quoted name quote acc) quote rest
    ∙ rw (eqb_self quote) (ap (λ xs. (name, xs) ∷ attributes_from between rest) (sym (append-nil acc)))
value_goes name quote acc (b ∷ value) rest all =
    goes (quoted name quote acc) b (value ++ (quote ∷ rest))
    ∙ rw all.0 (value_goes name quote (acc ++ b ∷ []) value rest all.1 ∙ ap (λ xs. (name, xs) ∷ attributes_from between rest) (append_assoc acc (b ∷ []) value))

digit_high : (b : ℕ) → is_digit b ≡ true → 48 ≤ b
unfolding is_digit
digit_high b h = grind arith

hex_high : (b : ℕ) → is_hex_digit b ≡ true → 48 ≤ b
unfolding is_hex_digit is_digit
hex_high b h = grind arith

digits_avoid : (c : ℕ) (test : ℕ → Bool) (digits : List ℕ) → c < 48 → ((b : ℕ) → test b ≡ true → 48 ≤ b) → AllAre test digits → Avoids c digits
digits_avoid c test [] low high all = tt
digits_avoid c test (b ∷ digits) low high all =
    let least : 48 ≤ b = high b all.0 in
    (ne_eqb b c (λ e. omega arith), digits_avoid c test digits low high all.1)

-- a reference has neither quote
body_avoids : (c : ℕ) (r : Reference) → c < 48 → eqb 35 c ≡ false → IsReference r → Avoids c (reference_body r)
body_avoids c amp low hash is = (ne_eqb 97 c (λ e. omega arith), (ne_eqb 109 c (λ e. omega arith), (ne_eqb 112 c (λ e. omega arith), tt)))
body_avoids c lt low hash is = (ne_eqb 108 c (λ e. omega arith), (ne_eqb 116 c (λ e. omega arith), tt))
body_avoids c gt low hash is = (ne_eqb 103 c (λ e. omega arith), (ne_eqb 116 c (λ e. omega arith), tt))
body_avoids c quot low hash is =
    (ne_eqb 113 c (λ e. omega arith), (ne_eqb 117 c (λ e. omega arith), (ne_eqb 111 c (λ e. omega arith), (ne_eqb 116 c (λ e. omega arith), tt))))
body_avoids c apos low hash is =
    (ne_eqb 97 c (λ e. omega arith), (ne_eqb 112 c (λ e. omega arith), (ne_eqb 111 c (λ e. omega arith), (ne_eqb 115 c (λ e. omega arith), tt))))
body_avoids c (decimal digits) low hash is = (hash, digits_avoid c is_digit digits low digit_high is.1)
body_avoids c (hexadecimal digits) low hash is = (hash, (ne_eqb 120 c (λ e. omega arith), digits_avoid c is_hex_digit digits low hex_high is.1))

bits_avoid : (quote : ℕ) (bits : List Bit) → quote < 48 → eqb 35 quote ≡ false → eqb 38 quote ≡ false → AreBits (is_value quote) bits → Avoids quote (spelled_bits bits)
bits_avoid quote [] low hash both are = tt
bits_avoid quote (plain b ∷ bits) low hash both are = (value_not_quote quote b are.0, bits_avoid quote bits low hash both are.1)
bits_avoid quote (reference r ∷ bits) low hash both are = (
  both,
  avoids_append quote (reference_body r) (59 ∷ spelled_bits bits) (body_avoids quote r low hash are.0)
      (ne_eqb 59 quote (λ e. omega arith), bits_avoid quote bits low hash both are.1),
)

value_avoids : (quote : ℕ) (value : List ℕ) → quote < 48 → eqb 35 quote ≡ false → eqb 38 quote ≡ false → IsRun (is_value quote) value → Avoids quote value
value_avoids quote value low hash both run =
    let P : List ℕ → Type 0 = λ xs. Avoids quote xs in
    subst P (sym run.spells) (bits_avoid quote run.bits low hash both run.are_bits)

-- behind `=`
value_told : (name space : List ℕ) (quote : ℕ) (value rest : List ℕ) → AllAre is_space space → IsQuote quote → IsRun (is_value quote) value → attributes_from (due name) (space ++ (quote ∷ (value ++ (quote ∷ rest)))) ≡ (name, value) ∷ attributes_from between rest
value_told name space quote value rest all is run =
    spaces_due name space (quote ∷ (value ++ (quote ∷ rest))) all ∙ by_quote is
  where
    at_quote : (q : ℕ) → q < 48 → eqb 35 q ≡ false → eqb 38 q ≡ false → spot_after (due name) q ≡ quoted name q [] → IsRun (is_value q) value → attributes_from (due name) (q ∷ (value ++ (q ∷ rest))) ≡ (name, value) ∷ attributes_from between rest
    at_quote q low hash both leads run =
        goes (due name) q (value ++ (q ∷ rest))
        ∙ (ap (λ spot. attributes_from spot (value ++ (q ∷ rest))) leads ∙ value_goes name q [] value rest (value_avoids q value low hash both run))

    by_quote : IsQuote quote → attributes_from (due name) (quote ∷ (value ++ (quote ∷ rest))) ≡ (name, value) ∷ attributes_from between rest
    by_quote (inl e) =
        let P : ℕ → Type 0 = λ q. IsRun (is_value q) value in
        let Q : ℕ → Type 0 = λ q. attributes_from (due name) (q ∷ (value ++ (q ∷ rest))) ≡ (name, value) ∷ attributes_from between rest in
        subst Q (sym e) (at_quote 34 (omega arith) refl refl refl (subst P e run))
    by_quote (inr e) =
        let P : ℕ → Type 0 = λ q. IsRun (is_value q) value in
        let Q : ℕ → Type 0 = λ q. attributes_from (due name) (q ∷ (value ++ (q ∷ rest))) ≡ (name, value) ∷ attributes_from between rest in
        subst Q (sym e) (at_quote 39 (omega arith) refl refl refl (subst P e run))

-- one attribute, and what follows it
attribute_told : (a : Attribute) (rest : List ℕ) → IsAttribute a → attributes_from between (attribute_then a rest) ≡ (a.name, a.value) ∷ attributes_from between rest
attribute_told a rest is =
    spaces_between a.space _ is.space
    ∙ (name_begins a.name _ is.name
    ∙ (name_ends a.name a.space_before _ is.space_before
    ∙ value_told a.name a.space_behind a.quote a.value rest is.space_behind is.quote is.value))

-- the attributes that are told of a tag's text
pub attributes_told : (list : List Attribute) (space : List ℕ) → AreAttributes list → AllAre is_space space → attributes (spelled_attributes list space) ≡ named_values list
attributes_told [] space are all =
    ap (λ xs. attributes_from between xs) (sym (append-nil space)) ∙ (spaces_between space [] all ∙ at_end between)
attributes_told (a ∷ list) space are all =
    attribute_told a (spelled_attributes list space) are.0 ∙ ap (λ xs. (a.name, a.value) ∷ xs) (attributes_told list space are.1 all)
