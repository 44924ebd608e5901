-- The text that is written for a value says that value, by its kind.
use Rattle.std.proofs.Common.{◌≡◌, ℕ, zero, suc, ◌+◌, ◌*◌, ◌-◌, ◌/◌, ◌%◌, ◌^◌, ◌≤◌, ◌<◌, Bool, true, false, ltb, leb, Option, Some, None, List, [], ◌∷◌, ◌++◌, length, get_or, replicate, ap, refl, ◌∙◌, arith, bytes_eq, codes, w64, pos, take_all, ltb-true, leb-true, length-append, option_and_then, slice_index, option_map, ℤ, negsuc, nat_abs, int_le, neg_ℤ}
use Rattle.std.proofs.lemmas.Bool.{ne_eqb, eq-eqb, false_from_ne_true}
use Rattle.std.proofs.lemmas.Bool.Decides.{nat_tests}
use Rattle.std.proofs.lemmas.Fmt.{decimal_is_IsNumeral}
use Rattle.std.proofs.lemmas.List.Sums.{suffix_len_is}
use Rattle.std.proofs.lemmas.Nat.{xor_of_8, from_le_bytes-to_le_bytes_8}
use Rattle.std.proofs.lemmas.Slice.Eq.{bytes_eq-Decides}
use Rattle.std.proofs.lemmas.Fmt.{IsAscii-decimal}
use Rattle.std.proofs.lemmas.Str.{IsUtf8-from_ascii}
use Rattle.std.proofs.lemmas.Str.Ascii.{IsAscii-cons}
use Rattle.std.specs.Str.{IsUtf8, IsAscii}
use Rattle.vault_model.proofs.Tests.{and_true}
use Rattle.std.specs.Char.{is_ascii_digit, digit_value}
use Rattle.std.specs.Fmt.{decimal, signed_decimal}
use Rattle.std.specs.Int.{to_le_bytes}
use Rattle.std.specs.List.{list_all, prefix_len, suffix_len}
use Rattle.std.specs.Str.Parse.{digits_value, IsNumeral, AllDigits}
use Rattle.base64.proofs.EngineFacts.{decode_of-encode_of, IsAscii-encode_of}
use Rattle.base64.proofs.RoundTrip.{length-encode_symbols}
use Rattle.base64.proofs.Tables.{all_below_at}
use Rattle.base64.specs.Engines.{standard}
use Rattle.base64.specs.GeneralPurpose.{encode_of, IsBytes}
use Rattle.base64.specs.Rfc4648.{encode_symbols, padding_len}
use Rattle.markup_grammar.specs.Bytes.{is_space}
use Rattle.stream_core.proofs.StreamLemmas.{byte_in-lt}
use Rattle.stream_core.specs.ChaCha20.{chacha_word}
use Rattle.stream_core.specs.InnerStream.{Keystream, ChaChaKeystream, SalsaKeystream, NoKeystream, keystream_byte}
use Rattle.stream_core.specs.Salsa20.{salsa_word}
use Rattle.stream_core.specs.Stream.{xor_stream}
use Rattle.time_core.specs.Times.{last_stamp, iso_text}
use Rattle.vault_model.specs.declared.contents.Tri.{Tri}
use Rattle.vault_model.specs.declared.contents.Tri.TheVariants.{Inherit, No, Yes}
use Rattle.doc_spelling.proofs.Goods.{Each, IsSigned}
use Rattle.doc_spelling.specs.Values.{bool_text, tri_text}
use Rattle.doc_forms.specs.Entries.{id_or_none}
use Rattle.doc_forms.specs.ElementTexts.{ElementText, plain_text}
use Rattle.doc_forms.specs.TextForms.Texts.{trim, base64_bytes, bytes_of_length}
use Rattle.doc_forms.specs.Values.{value_or, id, boolean, choice, whole_number, number_between, bytes_in, number_up_to, little_endian, counted_time, iso_time, time, moment_in, stamp_in_range}

-- ---- bytes

pub stream_bytes : (k : Keystream) (place : ℕ) → keystream_byte k place < 256
stream_bytes (ChaChaKeystream key nonce) place = byte_in-lt (chacha_word key nonce) place
stream_bytes (SalsaKeystream key nonce) place = byte_in-lt (salsa_word key nonce) place
stream_bytes NoKeystream place = omega arith

pub xored_bytes : (f : ℕ → ℕ) (bytes : List ℕ) (p : ℕ) → ((place : ℕ) → f place < 256) → IsBytes bytes → IsBytes (xor_stream f p bytes)
xored_bytes f [] p small is i = omega arith
xored_bytes f (b ∷ bs) p small is zero = xor_of_8 b (f p) (is 0) (small p)
xored_bytes f (b ∷ bs) p small is (suc i) = xored_bytes f bs (p + 1) small (λ j. is (suc j)) i

-- ---- texts without white space

each_append : {A : Type 0} (P : A → Type 0) (xs ys : List A) → Each P xs → Each P ys → Each P (xs ++ ys)
each_append P [] ys h k = k
each_append P (x ∷ xs) ys h k = (h.0, each_append P xs ys h.1 k)

each_at : {A : Type 0} (P : A → Type 0) (xs : List A) (i : ℕ) (d : A) → i < length xs → Each P xs → P (get_or xs i d)
each_at P [] i d l h = absurd (omega arith)
each_at P (x ∷ xs) zero d l h = h.0
each_at P (x ∷ xs) (suc i) d l h = each_at P xs i d (omega arith) h.1

abbrev pub IsVisible : List ℕ → Type 0
IsVisible text = Each (λ b. 32 < b) text

not_space : (b : ℕ) → 32 < b → is_space b ≡ false
unfolding is_space
not_space b h = grind (arith, nat_tests)

no_front : (text : List ℕ) → IsVisible text → prefix_len is_space text ≡ 0
no_front [] v = refl
no_front (b ∷ bs) v = rw (not_space b v.0) refl

no_back : (text : List ℕ) → IsVisible text → suffix_len is_space text ≡ 0
no_back text v =
    suffix_len_is is_space text (length text) 0 (omega arith) (λ k low high. absurd (omega arith))
    (λ some. not_space (get_or text (length text - 1) 0) (each_at (λ b. 32 < b) text (length text - 1) 0 (omega arith) v)) ∙ omega arith

pub trim_none : (text : List ℕ) → IsVisible text → trim text ≡ text
unfolding trim
trim_none text v = rw (no_front text v, no_back text v) (take_all (length text - 0) text (omega arith))

pub says : {A : Type 0} (default v : A) (rule : List ℕ → Option A) (text : List ℕ) → IsVisible text → 0 < length text → rule text ≡ Some v
    → value_or default rule (plain_text text) ≡ Some v
says default v rule text base64_visible some e = rw (trim_none text base64_visible, ne_eqb (length text) 0 (omega arith)) e

-- a text is in UTF-8, and says the value by the rule
abbrev pub Says : {A : Type 0} → (ElementText → Option A) → List ℕ → A → Type 0
Says rule text v = IsUtf8 text × (rule (plain_text text) ≡ Some v)

-- ---- base64

pub base64_utf8 : (bytes : List ℕ) → IsUtf8 (encode_of standard bytes)
base64_utf8 bytes = IsUtf8-from_ascii (encode_of standard bytes) (IsAscii-encode_of standard bytes)

table : (v : ℕ) → v < 64 → 32 < slice_index standard.encode_table v
table v h = ltb-true 32 (slice_index standard.encode_table v) (all_below_at (λ i. ltb 32 (slice_index standard.encode_table i)) 64 v refl h)

pads : (n : ℕ) → IsVisible (replicate n 61)
pads zero = tt
pads (suc n) = (omega arith, pads n)

symbols : (bytes : List ℕ) → IsBytes bytes → IsVisible (encode_symbols standard.encode_table bytes)
unfolding encode_symbols
symbols [] is = tt
symbols (a ∷ []) is = let x : a < 256 = is 0 in (table (a / 4) (omega arith), (table (a % 4 * 16) (omega arith), tt))
symbols (a ∷ b ∷ []) is =
    let x : a < 256 = is 0 in
    let y : b < 256 = is 1 in
    (table (a / 4) (omega arith), (table (a % 4 * 16 + b / 16) (omega arith), (table (b % 16 * 4) (omega arith), tt)))
symbols (a ∷ b ∷ c ∷ rest) is =
    let x : a < 256 = is 0 in
    let y : b < 256 = is 1 in
    let z : c < 256 = is 2 in
    (table (a / 4) (omega arith), (table (a % 4 * 16 + b / 16) (omega arith), (table (b % 16 * 4 + c / 64) (omega arith), (table (c % 64) (omega arith), symbols rest (λ i. is (suc (suc (suc i))))))))

pub base64_visible : (bytes : List ℕ) → IsBytes bytes → IsVisible (encode_of standard bytes)
base64_visible bytes is = each_append (λ b. 32 < b) (encode_symbols standard.encode_table bytes) (replicate (padding_len (length bytes)) 61) (symbols bytes is) (pads (padding_len (length bytes)))

decoded_is : (bytes : List ℕ) → IsBytes bytes → base64_bytes (encode_of standard bytes) ≡ Some bytes
unfolding base64_bytes
decoded_is bytes is = rw (decode_of-encode_of standard bytes refl is) refl

pub decoded_back : (bytes : List ℕ) → IsBytes bytes → base64_bytes (trim (encode_of standard bytes)) ≡ Some bytes
decoded_back bytes is = ap base64_bytes (trim_none (encode_of standard bytes) (base64_visible bytes is)) ∙ decoded_is bytes is

pub sized_back : (n : ℕ) (bytes : List ℕ) → IsBytes bytes → length bytes ≡ n → bytes_of_length n (encode_of standard bytes) ≡ Some bytes
sized_back n bytes is e = rw (decoded_is bytes is, eq-eqb (length bytes) n e) refl

some_text : (bytes : List ℕ) → 0 < length bytes → 0 < length (encode_of standard bytes)
some_text bytes h = omega (arith, length-append (encode_symbols standard.encode_table bytes) (replicate (padding_len (length bytes)) 61), length-encode_symbols standard.encode_table bytes)

-- an id
pub id_says : (default u : List ℕ) → IsBytes u → length u ≡ 16 → Says (value_or default id) (encode_of standard u) u
id_says default u is e = (base64_utf8 u, says default u id (encode_of standard u) (base64_visible u is) (some_text u (omega arith)) (sized_back 16 u is e))

-- an id that may be left empty
pub id_or_none_says : (u : List ℕ) → IsBytes u → length u ≡ 16 → Says id_or_none (encode_of standard u) (Some u)
id_or_none_says u is e = (base64_utf8 u, says None (Some u) (λ text. option_map Some (id text)) (encode_of standard u) (base64_visible u is) (some_text u (omega arith)) (ap (option_map Some) (sized_back 16 u is e)))

-- an id that may not
pub own_id_says : (u : List ℕ) → IsBytes u → length u ≡ 16 → IsUtf8 (encode_of standard u) × (id (trim (encode_of standard u)) ≡ Some u)
own_id_says u is e = (base64_utf8 u, ap id (trim_none (encode_of standard u) (base64_visible u is)) ∙ sized_back 16 u is e)

-- ---- numbers

digit_is : (b : ℕ) → digit_value b < 10 → (48 ≤ b) × (b ≤ 57)
digit_is b h = (grind (arith, nat_tests), grind (arith, nat_tests))

is_digit : (b : ℕ) → 48 ≤ b → b ≤ 57 → is_ascii_digit b ≡ true
is_digit b l h = grind (arith, nat_tests)

all_digits : (ds : List ℕ) → AllDigits 10 ds → (list_all is_ascii_digit ds ≡ true) × IsVisible ds
all_digits [] h = (refl, tt)
all_digits (b ∷ bs) h =
    let d = digit_is b h.0 in
    let rest = all_digits bs h.1 in
    (rw (is_digit b d.0 d.1) rest.0, (omega arith, rest.1))

-- digits are a whole number
whole_is : (ds : List ℕ) → IsNumeral 10 ds → whole_number ds ≡ Some (pos (digits_value 10 ds))
whole_is [] h = absurd (omega (arith, h.0))
whole_is (b ∷ bs) h =
    let d = digit_is b h.1.0 in
    let some : ltb 0 (length (b ∷ bs)) ≡ true = grind (arith, nat_tests) in
    rw (ne_eqb b 45 (omega arith), (all_digits (b ∷ bs) h.1).0, some) refl

up_to_is : (most n : ℕ) (text : List ℕ) → whole_number text ≡ Some (pos n) → n ≤ most → number_up_to most text ≡ Some n
up_to_is most n text e h =
    let low : leb 0 n ≡ true = grind (arith, nat_tests) in
    let high : leb n most ≡ true = grind (arith, nat_tests) in
    rw (e, low, high) refl

pub number_is : (most n : ℕ) → n ≤ most → n < 2 ^ 64 → number_up_to most (decimal n) ≡ Some n
number_is most n h small =
    let both = decimal_is_IsNumeral n small in
    up_to_is most n (decimal n) (whole_is (decimal n) both.0 ∙ ap (λ k. Some (pos k)) both.1) h

-- a number from 0 on, of 64 bits at most
pub number_says : (default most n : ℕ) → n ≤ most → n < 2 ^ 64 → Says (value_or default (number_up_to most)) (decimal n) n
number_says default most n h small =
    let both = decimal_is_IsNumeral n small in (
      IsUtf8-from_ascii (decimal n) (IsAscii-decimal n small),
      says default n (number_up_to most) (decimal n) (all_digits (decimal n) both.0.1).1 both.0.0 (number_is most n h small),
    )

whole_signed : (z : ℤ) → nat_abs z < 2 ^ 64 → (whole_number (signed_decimal z) ≡ Some z) × IsVisible (signed_decimal z) × (0 < length (signed_decimal z))
whole_signed (pos n) small =
    let both = decimal_is_IsNumeral n small in
    (whole_is (decimal n) both.0 ∙ ap (λ k. Some (pos k)) both.1, (all_digits (decimal n) both.0.1).1, both.0.0)
whole_signed (negsuc n) small =
    let both = decimal_is_IsNumeral (suc n) small in
    let some : ltb 0 (length (decimal (suc n))) ≡ true = grind (arith, nat_tests, both.0.0) in
    (rw (some, (all_digits (decimal (suc n)) both.0.1).0) (ap (λ k. Some (neg_ℤ (pos k))) both.1), (omega arith, (all_digits (decimal (suc n)) both.0.1).1), omega arith)

between_is : (least most z : ℤ) (text : List ℕ) → whole_number text ≡ Some z → int_le least z ≡ true → int_le z most ≡ true → number_between least most text ≡ Some z
between_is least most z text e low high = rw (e, low, high) refl

signed_utf8 : (z : ℤ) → nat_abs z < 2 ^ 64 → IsUtf8 (signed_decimal z)
signed_utf8 (pos n) small = IsUtf8-from_ascii (decimal n) (IsAscii-decimal n small)
signed_utf8 (negsuc n) small = IsUtf8-from_ascii (45 ∷ decimal (suc n)) (IsAscii-cons 45 (decimal (suc n)) (omega arith) (IsAscii-decimal (suc n) small))

-- a number between two of 64 bits has 64 bits
bounded : (least most z : ℤ) → nat_abs least < 2 ^ 64 → nat_abs most < 2 ^ 64 → int_le least z ≡ true → int_le z most ≡ true → nat_abs z < 2 ^ 64
bounded least (pos m) (pos n) small big low high = omega (arith, leb-true n m high)
bounded least (negsuc m) (pos n) small big low high = cc high
bounded (negsuc a) most (negsuc n) small big low high = omega (arith, leb-true n a low)
bounded (pos a) most (negsuc n) small big low high = cc low

pub signed_says : (least most default z : ℤ) → nat_abs least < 2 ^ 64 → nat_abs most < 2 ^ 64 → IsSigned least most z → Says (value_or default (number_between least most)) (signed_decimal z) z
signed_says least most default z small big h =
    let h_small = bounded least most z small big h.low h.high in
    let w = whole_signed z h_small in
    (signed_utf8 z h_small, says default z (number_between least most) (signed_decimal z) w.1 w.2 (between_is least most z (signed_decimal z) w.0 h.low h.high))

-- a value of bytes
pub bytes_say : (bytes : List ℕ) → IsBytes bytes → Says bytes_in (encode_of standard bytes) bytes
bytes_say bytes is = (base64_utf8 bytes, decoded_back bytes is)

-- a hash that may be left empty
pub hash_says : (h : List ℕ) → IsBytes h → length h ≡ 32 → Says (value_or None (λ text. option_map Some (bytes_of_length 32 text))) (encode_of standard h) (Some h)
hash_says h is e = (base64_utf8 h, says None (Some h) (λ text. option_map Some (bytes_of_length 32 text)) (encode_of standard h) (base64_visible h is) (some_text h (omega arith)) (ap (option_map Some) (sized_back 32 h is e)))

-- ---- times

-- the eight bytes of a number, the least first
eight_is : (n : ℕ) → n < 2 ^ 64 → little_endian (to_le_bytes w64 n) ≡ n
eight_is n h = omega (arith, from_le_bytes-to_le_bytes_8 n h)

eight_bytes : (n : ℕ) → IsBytes (to_le_bytes w64 n)
eight_bytes n zero = omega arith
eight_bytes n (suc zero) = omega arith
eight_bytes n (suc (suc zero)) = omega arith
eight_bytes n (suc (suc (suc zero))) = omega arith
eight_bytes n (suc (suc (suc (suc zero)))) = omega arith
eight_bytes n (suc (suc (suc (suc (suc zero))))) = omega arith
eight_bytes n (suc (suc (suc (suc (suc (suc zero)))))) = omega arith
eight_bytes n (suc (suc (suc (suc (suc (suc (suc zero))))))) = omega arith
eight_bytes n (suc (suc (suc (suc (suc (suc (suc (suc i)))))))) = omega arith

children_and_end : (m n : ℕ) → m ≡ n → n ≤ last_stamp → stamp_in_range m ≡ Some n
children_and_end m n e h =
    let low : leb n last_stamp ≡ true = grind (arith, nat_tests) in
    rw (e, low) refl

counted_is : (n : ℕ) → n ≤ last_stamp → counted_time (encode_of standard (to_le_bytes w64 n)) ≡ Some n
counted_is n h =
    ap (λ (o : Option (List ℕ)). option_and_then (λ bytes. stamp_in_range (little_endian bytes)) o) (sized_back 8 (to_le_bytes w64 n) (eight_bytes n) refl)
    ∙ children_and_end (little_endian (to_le_bytes w64 n)) n (eight_is n (omega arith)) h

no_iso : (text : List ℕ) → length text ≡ 12 → iso_time text ≡ None
unfolding iso_time
no_iso text e = rw (false_from_ne_true (bytes_eq text (iso_text (moment_in text))) (λ yes. omega (arith, ap length ((bytes_eq-Decides text (iso_text (moment_in text))).0 yes), e))) refl

twelve : (n : ℕ) → length (encode_of standard (to_le_bytes w64 n)) ≡ 12
twelve n =
    let b = to_le_bytes w64 n in
    omega (arith, length-append (encode_symbols standard.encode_table b) (replicate (padding_len (length b)) 61), length-encode_symbols standard.encode_table b)

pub time_says : (default n : ℕ) → n ≤ last_stamp → Says (value_or default time) (encode_of standard (to_le_bytes w64 n)) n
time_says default n h =
    let text = encode_of standard (to_le_bytes w64 n) in (
      base64_utf8 (to_le_bytes w64 n),
      says default n time text (base64_visible (to_le_bytes w64 n) (eight_bytes n)) (some_text (to_le_bytes w64 n) (omega arith))
          (rw (no_iso text (twelve n)) (counted_is n h)),
    )

-- ---- tests

-- a text of ASCII alone
pub literal : (b : ℕ) (bs : List ℕ) → list_all (λ b. ltb b 128) (b ∷ bs) ≡ true → IsUtf8 (b ∷ bs)
literal b bs e = IsUtf8-from_ascii (b ∷ bs) (ascii (b ∷ bs) e)
  where
    ascii : (bs : List ℕ) → list_all (λ b. ltb b 128) bs ≡ true → IsAscii bs
    ascii [] e i = omega arith
    ascii (b ∷ bs) e zero = ltb-true b 128 (and_true (ltb b 128) (list_all (λ b. ltb b 128) bs) e).0
    ascii (b ∷ bs) e (suc i) = ascii bs (and_true (ltb b 128) (list_all (λ b. ltb b 128) bs) e).1 i

bool_is : (default b : Bool) → value_or default boolean (plain_text (bool_text b)) ≡ Some b
unfolding trim is_space
bool_is default true = refl
bool_is default false = refl

pub bool_says : (default b : Bool) → Says (value_or default boolean) (bool_text b) b
bool_says default b = (utf8 b, bool_is default b)
  where
    utf8 : (b : Bool) → IsUtf8 (bool_text b)
    utf8 true = literal 84 (codes "rue") refl
    utf8 false = literal 70 (codes "alse") refl

choice_is : (default t : Tri) → value_or default choice (plain_text (tri_text t)) ≡ Some t
unfolding trim is_space
choice_is default Inherit = refl
choice_is default No = refl
choice_is default Yes = refl

pub choice_says : (default t : Tri) → Says (value_or default choice) (tri_text t) t
choice_says default t = (utf8 t, choice_is default t)
  where
    utf8 : (t : Tri) → IsUtf8 (tri_text t)
    utf8 Inherit = literal 110 (codes "ull") refl
    utf8 No = literal 70 (codes "alse") refl
    utf8 Yes = literal 84 (codes "rue") refl
