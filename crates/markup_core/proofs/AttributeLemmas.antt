-- How the attributes of a tag are read, run by run.
use Rattle.std.proofs.Common.{◌≡◌, ℕ, suc, ◌+◌, ◌<◌, Bool, true, false, cond, not, ◌&&◌, ◌||◌, eqb, List, [], ◌∷◌, ◌++◌, length, take, drop, get_or, refl, ap, sym, subst, ◌∙◌, append_assoc, append-nil, one-add, add-one, length-drop, drop-cons, true≢false, arith, IsUtf8, Option, Some, None, bytes_eq}
use Rattle.std.proofs.lemmas.List.{drop-drop}
use Rattle.std.proofs.lemmas.Str.{IsCharBoundary-after_ascii, IsCharBoundary-before_ascii, IsUtf8-take, IsUtf8-drop}
use Rattle.std.proofs.lemmas.Bool.{eqb-true}
use Rattle.std.proofs.lemmas.Bool.Decides.{nat_tests}
use Rattle.std.specs.List.{prefix_len}
use Rattle.markup_grammar.specs.Bytes.{is_space}
use Rattle.markup_grammar.specs.Attributes.{naming, due, quoted, attribute, attributes, attributes_from, last_named}
use Rattle.markup_core.specs.AttributeRuns.{is_in_name, is_before_quote, is_quoted}

not_false : (p : Bool) → not p ≡ true → p ≡ false
not_false true e = absurd (true≢false (sym e))
not_false false e = refl

not_true : (p : Bool) → not p ≡ false → p ≡ true
not_true true e = refl
not_true false e = absurd (true≢false e)

not_either : (p q : Bool) → (not p && not q) ≡ true → (p ≡ false) × (q ≡ false)
not_either true q e = absurd (true≢false (sym e))
not_either false true e = absurd (true≢false (sym e))
not_either false false e = (refl, refl)

either : (p q : Bool) → (not p && not q) ≡ false → p || q ≡ true
either true q e = refl
either false true e = refl
either false false e = absurd (true≢false e)

-- what the byte that ends a name leaves
abbrev named_then : List ℕ → List ℕ → List (List ℕ × List ℕ)
named_then name [] = []
named_then name (b ∷ rest) = attributes_from (due name) rest

-- what a quote leaves
abbrev due_then : List ℕ → List ℕ → List (List ℕ × List ℕ)
due_then name [] = []
due_then name (quote ∷ rest) = attributes_from (quoted name quote []) rest

-- what the closing quote leaves
abbrev value_then : List ℕ → List ℕ → List ℕ → List (List ℕ × List ℕ)
value_then name value [] = []
value_then name value (b ∷ rest) = (name, value) ∷ attributes rest

space_step : (b : ℕ) (bs : List ℕ) (k : ℕ) (t : Bool) → is_space b ≡ t
    → attributes bs ≡ attributes_from (naming []) (drop k bs)
    → attributes (b ∷ bs) ≡ attributes_from (naming []) (drop (cond t (1 + k) 0) (b ∷ bs))
unfolding attributes_from
space_step b bs k true e rest = rw (one-add, e) rest
space_step b bs k false e rest = rw e refl

-- white space, and then a name
spaces : (bytes : List ℕ) → attributes bytes ≡ attributes_from (naming []) (drop (prefix_len is_space bytes) bytes)
unfolding attributes_from
spaces [] = refl
spaces (b ∷ bs) = space_step b bs (prefix_len is_space bs) (is_space b) refl (spaces bs)

name_step : (acc : List ℕ) (b : ℕ) (bs : List ℕ) (k : ℕ) (t : Bool) → is_in_name b ≡ t
    → attributes_from (naming (acc ++ b ∷ [])) bs ≡ named_then ((acc ++ b ∷ []) ++ take k bs) (drop k bs)
    → attributes_from (naming acc) (b ∷ bs) ≡ named_then (acc ++ take (cond t (1 + k) 0) (b ∷ bs)) (drop (cond t (1 + k) 0) (b ∷ bs))
unfolding attributes_from is_in_name
name_step acc b bs k true e rest =
    let tests = not_either (is_space b) (eqb b 61) e in
    let space : is_space b ≡ false = tests.0 in
    let equals : eqb b 61 ≡ false = tests.1 in
    rw (one-add, space, equals) (rest ∙ ap (λ n. named_then n (drop k bs)) (append_assoc acc (b ∷ []) (take k bs)))
name_step acc b bs k false e rest =
    let test : is_space b || eqb b 61 ≡ true = either (is_space b) (eqb b 61) e in
    rw (test, append-nil) refl

names : (acc bytes : List ℕ) → attributes_from (naming acc) bytes ≡ named_then (acc ++ take (prefix_len is_in_name bytes) bytes) (drop (prefix_len is_in_name bytes) bytes)
unfolding attributes_from
names acc [] = refl
names acc (b ∷ bs) = name_step acc b bs (prefix_len is_in_name bs) (is_in_name b) refl (names (acc ++ b ∷ []) bs)

due_step : (name : List ℕ) (b : ℕ) (bs : List ℕ) (k : ℕ) (t : Bool) → is_before_quote b ≡ t
    → attributes_from (due name) bs ≡ due_then name (drop k bs)
    → attributes_from (due name) (b ∷ bs) ≡ due_then name (drop (cond t (1 + k) 0) (b ∷ bs))
unfolding attributes_from is_before_quote
due_step name b bs k true e rest =
    let test : eqb b 34 || eqb b 39 ≡ false = not_false (eqb b 34 || eqb b 39) e in
    rw (one-add, test) rest
due_step name b bs k false e rest =
    let test : eqb b 34 || eqb b 39 ≡ true = not_true (eqb b 34 || eqb b 39) e in
    rw test refl

dues : (name bytes : List ℕ) → attributes_from (due name) bytes ≡ due_then name (drop (prefix_len is_before_quote bytes) bytes)
unfolding attributes_from
dues name [] = refl
dues name (b ∷ bs) = due_step name b bs (prefix_len is_before_quote bs) (is_before_quote b) refl (dues name bs)

value_step : (name : List ℕ) (quote : ℕ) (acc : List ℕ) (b : ℕ) (bs : List ℕ) (k : ℕ) (t : Bool) → is_quoted quote b ≡ t
    → attributes_from (quoted name quote (acc ++ b ∷ [])) bs ≡ value_then name ((acc ++ b ∷ []) ++ take k bs) (drop k bs)
    → attributes_from (quoted name quote acc) (b ∷ bs) ≡ value_then name (acc ++ take (cond t (1 + k) 0) (b ∷ bs)) (drop (cond t (1 + k) 0) (b ∷ bs))
unfolding attributes_from is_quoted
value_step name quote acc b bs k true e rest =
    let test : eqb b quote ≡ false = not_false (eqb b quote) e in
    rw (one-add, test) (rest ∙ ap (λ n. value_then name n (drop k bs)) (append_assoc acc (b ∷ []) (take k bs)))
value_step name quote acc b bs k false e rest =
    let test : eqb b quote ≡ true = not_true (eqb b quote) e in
    rw (test, append-nil) refl

values : (name : List ℕ) (quote : ℕ) (acc bytes : List ℕ) → attributes_from (quoted name quote acc) bytes ≡ value_then name (acc ++ take (prefix_len (is_quoted quote) bytes) bytes) (drop (prefix_len (is_quoted quote) bytes) bytes)
unfolding attributes_from
values name quote acc [] = refl
values name quote acc (b ∷ bs) =
    value_step name quote acc b bs (prefix_len (is_quoted quote) bs) (is_quoted quote b) refl (values name quote (acc ++ b ∷ []) bs)

-- white space up to a tag's text, and a name up to this byte
pub record IsNamed (bytes tag name rest : List ℕ) (byte : ℕ) : Type 0 where
  pub tag_is : tag ≡ drop (prefix_len is_space bytes) bytes
  pub name_is : name ≡ take (prefix_len is_in_name tag) tag
  pub ends : drop (prefix_len is_in_name tag) tag ≡ byte ∷ rest

-- the name's value is still to come
pub after_name : (bytes tag name rest : List ℕ) (byte : ℕ) → IsNamed bytes tag name rest byte → attributes bytes ≡ attributes_from (due name) rest
after_name bytes tag name rest byte is =
    spaces bytes
    ∙ (rw (sym is.tag_is) (names [] tag ∙ (rw (sym is.name_is, is.ends) refl)))

-- there is no name
pub no_name : (bytes tag : List ℕ) → tag ≡ drop (prefix_len is_space bytes) bytes → drop (prefix_len is_in_name tag) tag ≡ [] → attributes bytes ≡ []
no_name bytes tag tag_is none = spaces bytes ∙ (rw (sym tag_is) (names [] tag ∙ (rw none refl)))

-- no value begins
pub no_quote : (name rest : List ℕ) → drop (prefix_len is_before_quote rest) rest ≡ [] → attributes_from (due name) rest ≡ []
no_quote name rest none = dues name rest ∙ (rw none refl)

-- a value begins
pub at_quote : (name rest value : List ℕ) (quote : ℕ) → drop (prefix_len is_before_quote rest) rest ≡ quote ∷ value → attributes_from (due name) rest ≡ attributes_from (quoted name quote []) value
at_quote name rest value quote e = dues name rest ∙ (rw e refl)

-- it does not end
pub no_end : (name value : List ℕ) (quote : ℕ) → drop (prefix_len (is_quoted quote) value) value ≡ [] → attributes_from (quoted name quote []) value ≡ []
no_end name value quote none = values name quote [] value ∙ (rw none refl)

-- it ends
pub at_end : (name value rest : List ℕ) (quote byte : ℕ) → drop (prefix_len (is_quoted quote) value) value ≡ byte ∷ rest → attributes_from (quoted name quote []) value ≡ (name, take (prefix_len (is_quoted quote) value) value) ∷ attributes rest
at_end name value rest quote byte e = values name quote [] value ∙ (rw e refl)

-- a byte and what stands behind it, by the byte's place
pub record StandsAt (bytes : List ℕ) (n byte : ℕ) (rest : List ℕ) : Type 0 where
  pub within : n < length bytes
  pub is : get_or bytes n 0 ≡ byte
  pub behind : rest ≡ drop (n + 1) bytes

pub stands_at : (bytes rest : List ℕ) (n byte : ℕ) → drop n bytes ≡ byte ∷ rest → StandsAt bytes n byte rest
stands_at bytes rest n byte e =
    let within : n < length bytes = omega (arith, ap length e, length-drop n bytes) in
    let cons : drop n bytes ≡ get_or bytes n 0 ∷ drop (suc n) bytes = drop-cons bytes n 0 within in
    record { within = within; is = cc; behind = rw add-one (let same : rest ≡ drop (suc n) bytes = cc in same) }

-- a text stays one behind a byte of ASCII, and before it
utf8_behind : (bytes rest : List ℕ) (n byte : ℕ) → IsUtf8 bytes → drop n bytes ≡ byte ∷ rest → byte < 128 → IsUtf8 rest
utf8_behind bytes rest n byte utf8 e low =
    let at = stands_at bytes rest n byte e in
    rw at.behind (IsUtf8-drop bytes (n + 1) utf8 (IsCharBoundary-after_ascii bytes n utf8 at.within (omega (arith, at.is))))

utf8_before : (bytes rest : List ℕ) (n byte : ℕ) → IsUtf8 bytes → drop n bytes ≡ byte ∷ rest → byte < 128 → IsUtf8 (take n bytes)
utf8_before bytes rest n byte utf8 e low =
    let at = stands_at bytes rest n byte e in
    IsUtf8-take bytes n utf8 (IsCharBoundary-before_ascii bytes n at.within (omega (arith, at.is)))

abbrev FailsFirst : (ℕ → Bool) → List ℕ → Type 0
FailsFirst test [] = Unit {0}
FailsFirst test (b ∷ bs) = test b ≡ false

ends_step : (test : ℕ → Bool) (b : ℕ) (bs : List ℕ) (k : ℕ) (t : Bool) → test b ≡ t → FailsFirst test (drop k bs) → FailsFirst test (drop (cond t (1 + k) 0) (b ∷ bs))
ends_step test b bs k true e ends = rw one-add ends
ends_step test b bs k false e ends = e

run_ends : (test : ℕ → Bool) (bs : List ℕ) → FailsFirst test (drop (prefix_len test bs) bs)
run_ends test [] = tt
run_ends test (b ∷ bs) = ends_step test b bs (prefix_len test bs) (test b) refl (run_ends test bs)

ends_with : (test : ℕ → Bool) (bytes rest : List ℕ) (byte : ℕ) → drop (prefix_len test bytes) bytes ≡ byte ∷ rest → test byte ≡ false
ends_with test bytes rest byte e = subst (FailsFirst test) e (run_ends test bytes)

name_ends_low : (b : ℕ) → is_in_name b ≡ false → b < 128
unfolding is_in_name is_space
name_ends_low b e = grind (arith, nat_tests)

quote_low : (b : ℕ) → is_before_quote b ≡ false → b < 128
unfolding is_before_quote
quote_low b e = grind (arith, nat_tests)

value_ends_low : (quote b : ℕ) → quote < 128 → is_quoted quote b ≡ false → b < 128
unfolding is_quoted
value_ends_low quote b low e = grind (arith, nat_tests)

-- an attribute's value is a text, and so is what stands behind it
pub value_utf8 : (bytes tag behind_name value rest : List ℕ) (s byte quote last : ℕ) → IsUtf8 bytes
    → tag ≡ drop s bytes
    → drop (prefix_len is_in_name tag) tag ≡ byte ∷ behind_name
    → drop (prefix_len is_before_quote behind_name) behind_name ≡ quote ∷ value
    → drop (prefix_len (is_quoted quote) value) value ≡ last ∷ rest
    → IsUtf8 (take (prefix_len (is_quoted quote) value) value) × IsUtf8 rest
value_utf8 bytes tag behind_name value rest s byte quote last utf8 tag_is name_ends begins value_ends =
    let n = prefix_len is_in_name tag in
    let low : quote < 128 = quote_low quote (ends_with is_before_quote behind_name value quote begins) in
    let first : drop (s + n) bytes ≡ byte ∷ behind_name = sym (drop-drop n s bytes) ∙ (ap (drop n) (sym tag_is) ∙ name_ends) in
    let one = utf8_behind bytes behind_name (s + n) byte utf8 first (name_ends_low byte (ends_with is_in_name tag behind_name byte name_ends)) in
    let two = utf8_behind behind_name value (prefix_len is_before_quote behind_name) quote one begins low in
    let last_low = value_ends_low quote last low (ends_with (is_quoted quote) value rest last value_ends) in (
      utf8_before value rest (prefix_len (is_quoted quote) value) last two value_ends last_low,
      utf8_behind value rest (prefix_len (is_quoted quote) value) last two value_ends last_low,
    )

-- what stands behind a byte is shorter
pub shorter_behind : (bytes rest : List ℕ) (n byte : ℕ) → drop n bytes ≡ byte ∷ rest → length rest < length bytes
shorter_behind bytes rest n byte e = omega (arith, ap length e, length-drop n bytes)

-- nothing names the last value among no attributes
pub last_of_none : (name : List ℕ) (found : Option (List ℕ)) → last_named name found [] ≡ found
unfolding last_named
last_of_none name found = refl

-- a tag has none where nothing is written
pub without_attributes : (raw name : List ℕ) → eqb (length raw) 0 ≡ true → attribute raw name ≡ None
unfolding attributes_from last_named
without_attributes [] name e = refl
without_attributes (b ∷ raw) name e = absurd (omega (arith, eqb-true (length (b ∷ raw)) 0 e))

-- what is sought stays so past the first attribute: its value where it has the name, else what was found before
pub past_first : (name first value : List ℕ) (found sought : Option (List ℕ)) (all pairs : List (List ℕ × List ℕ))
    → all ≡ (first, value) ∷ pairs → last_named name found all ≡ sought
    → (bytes_eq first name ≡ true → last_named name (Some value) pairs ≡ sought) × (bytes_eq first name ≡ false → last_named name found pairs ≡ sought)
unfolding last_named
past_first name first value found sought all pairs e is =
    let step : last_named name (cond (bytes_eq first name) (Some value) found) pairs ≡ sought = rw e at is in
    (λ same. rw same at step, λ other. rw other at step)
