-- The elements of pieces are in the grammar and in UTF-8, and not too many of them are open at once.
use Rattle.std.proofs.Common.{◌≡◌, ℕ, zero, suc, ◌+◌, ◌≤◌, ◌&&◌, ◌||◌, Bool, true, false, ltb, leb, List, [], ◌∷◌, ◌++◌, map, codes, ap₂, subst, refl, arith}
use Rattle.std.proofs.lemmas.Bool.Decides.{nat_tests}
use Rattle.std.proofs.lemmas.Str.{IsUtf8-append, IsUtf8-nil}
use Rattle.std.specs.List.{list_all}
use Rattle.std.specs.Str.{IsUtf8}
use Rattle.base64.specs.Engines.{standard}
use Rattle.base64.specs.GeneralPurpose.{encode_of}
use Rattle.markup_grammar.proofs.EscapedRuns.{escaped_text}
use Rattle.markup_grammar.proofs.TagTexts.{run_empty}
use Rattle.markup_grammar.specs.Bytes.{is_text, is_digit, begins_name, is_name_byte, IsName}
use Rattle.markup_grammar.specs.Escapes.{escaped}
use Rattle.markup_grammar.specs.Tags.{IsTagText}
use Rattle.markup_grammar.specs.Tree.{Element, element, Content, text_only, start_tag, end_tag, spelled, spelled_all, IsElement, IsContent, height, height_all}
use Rattle.stream_core.specs.InnerStream.{Keystream, keystream_byte}
use Rattle.stream_core.specs.Stream.{xor_stream}
use Rattle.vault_model.proofs.Tests.{and_true}
use Rattle.doc_spelling.specs.Pieces.{Piece, leaf, secret, box, Pieces, none, beside, protected_attribute, attribute_of, attributes_text, hidden_len, element_of, content_of}
use Rattle.doc_spelling.proofs.Attrs.{AreNamed, are_attributes, is_name}
use Rattle.doc_spelling.proofs.EscapedUtf8.{escaped_utf8}
use Rattle.doc_spelling.proofs.Frame.{HasTexts, HaveTexts}
use Rattle.doc_spelling.proofs.PlainCodes.{coded_plain}
use Rattle.doc_spelling.proofs.Goods.{Each}
use Rattle.doc_spelling.proofs.ValueTexts.{base64_utf8, literal, stream_bytes, xored_bytes}

-- ---- names of letters alone

abbrev pub is_letter : ℕ → Bool
is_letter b = (leb 65 b && leb b 90) || (leb 97 b && leb b 122)

abbrev pub is_word : List ℕ → Bool
is_word [] = false
is_word (b ∷ bs) = list_all is_letter (b ∷ bs)

abbrev pub are_words : List (List ℕ × List ℕ) → Bool
are_words attrs = list_all (λ (a : List ℕ × List ℕ). is_word a.0) attrs

abbrev mutual
  -- names are words, and at most so many elements are open at once
  pub fits_height : ℕ → Piece → Bool
  fits_height zero piece = false
  fits_height (suc k) (leaf name attrs text) = is_word name && are_words attrs
  fits_height (suc k) (secret name attrs bytes) = is_word name && are_words attrs
  fits_height (suc k) (box name pieces) = is_word name && fit_height k pieces

  pub fit_height : ℕ → Pieces → Bool
  fit_height k none = true
  fit_height k (beside x xs) = fits_height k x && fit_height k xs

letter_begins : (b : ℕ) → is_letter b ≡ true → begins_name b ≡ true
unfolding begins_name
letter_begins b h = grind (arith, nat_tests)

letter_goes_on : (b : ℕ) → is_letter b ≡ true → is_name_byte b ≡ true
unfolding is_name_byte begins_name is_digit
letter_goes_on b h = grind (arith, nat_tests)

letter_small : (b : ℕ) → is_letter b ≡ true → ltb b 128 ≡ true
letter_small b h = grind (arith, nat_tests)

letters_are : (test : ℕ → Bool) → ((b : ℕ) → is_letter b ≡ true → test b ≡ true) → (bs : List ℕ) → list_all is_letter bs ≡ true → list_all test bs ≡ true
letters_are test f [] e = refl
letters_are test f (b ∷ bs) e =
    let both = and_true (is_letter b) (list_all is_letter bs) e in
    ap₂ (λ a b. a && b) (f b both.0) (letters_are test f bs both.1)

word_named : (name : List ℕ) → is_word name ≡ true → IsName name
word_named [] e = cc e
word_named (b ∷ bs) e =
    let both = and_true (is_letter b) (list_all is_letter bs) e in
    is_name b bs (letter_begins b both.0) (letters_are is_name_byte letter_goes_on bs both.1)

word_utf8 : (name : List ℕ) → is_word name ≡ true → IsUtf8 name
word_utf8 [] e = cc e
word_utf8 (b ∷ bs) e = literal b bs (letters_are (λ b. ltb b 128) letter_small (b ∷ bs) e)

words_named : (attrs : List (List ℕ × List ℕ)) → are_words attrs ≡ true → AreNamed attrs
words_named [] e = tt
words_named (a ∷ attrs) e =
    let both = and_true (is_word a.0) (are_words attrs) e in
    (word_named a.0 both.0, words_named attrs both.1)

with_protected : (attrs : List (List ℕ × List ℕ)) → are_words attrs ≡ true → are_words (attrs ++ protected_attribute ∷ []) ≡ true
with_protected [] e = refl
with_protected (a ∷ attrs) e =
    let both = and_true (is_word a.0) (are_words attrs) e in
    ap₂ (λ a b. a && b) both.0 (with_protected attrs both.1)

utf8_protected : (attrs : List (List ℕ × List ℕ)) → Each (λ a. IsUtf8 a.1) attrs → Each (λ a. IsUtf8 a.1) (attrs ++ protected_attribute ∷ [])
utf8_protected [] e = (literal 84 (codes "rue") refl, tt)
utf8_protected (a ∷ attrs) e = (e.0, utf8_protected attrs e.1)

-- ---- texts

one : (b : ℕ) (bs rest : List ℕ) → list_all (λ b. ltb b 128) (b ∷ bs) ≡ true → IsUtf8 rest → IsUtf8 ((b ∷ bs) ++ rest)
one b bs rest e u = IsUtf8-append (b ∷ bs) rest (literal b bs e) u

attributes_utf8 : (attrs : List (List ℕ × List ℕ)) → are_words attrs ≡ true → Each (λ a. IsUtf8 a.1) attrs → IsUtf8 (attributes_text attrs)
attributes_utf8 [] e u = IsUtf8-nil
attributes_utf8 (a ∷ attrs) e u =
    let both = and_true (is_word a.0) (are_words attrs) e in
    one 32 [] _ refl (IsUtf8-append a.0 _ (word_utf8 a.0 both.0) (one 61 (34 ∷ []) _ refl (IsUtf8-append (escaped a.1) _ (escaped_utf8 a.1 u.0) (one 34 [] _ refl (attributes_utf8 attrs both.1 u.1)))))

tags_utf8 : (name raw inner : List ℕ) → IsUtf8 name → IsUtf8 raw → IsUtf8 inner → IsUtf8 (start_tag name raw ++ (inner ++ end_tag name []))
tags_utf8 name raw inner n r i =
    IsUtf8-append (start_tag name raw) (inner ++ end_tag name [])
    (one 60 [] (name ++ (raw ++ 62 ∷ [])) refl (IsUtf8-append name (raw ++ 62 ∷ []) n (IsUtf8-append raw (62 ∷ []) r (one 62 [] [] refl IsUtf8-nil))))
    (IsUtf8-append inner (end_tag name []) i (one 60 (47 ∷ []) (name ++ ([] ++ 62 ∷ [])) refl (IsUtf8-append name (62 ∷ []) n (one 62 [] [] refl IsUtf8-nil))))

-- ---- elements

-- An element is in the grammar and in UTF-8, and at most so many are open in it at once.
pub record Sound (k : ℕ) (e : Element) : Type 0 where
  pub is : IsElement e
  pub low : height e ≤ k
  pub utf8 : IsUtf8 (spelled e)

-- The same of elements side by side.
pub record SoundAll (k : ℕ) (c : Content) : Type 0 where
  pub is : IsContent c
  pub low : height_all c ≤ k
  pub utf8 : IsUtf8 (spelled_all c)

tag_text : (attrs : List (List ℕ × List ℕ)) → are_words attrs ≡ true → IsTagText (attributes_text attrs)
tag_text attrs e = record { attributes = map attribute_of attrs; space = []; are_attributes = are_attributes attrs (words_named attrs e); is_space = tt; spells = refl }

leaf_sound : (k : ℕ) (name : List ℕ) (attrs : List (List ℕ × List ℕ)) (text : List ℕ) → is_word name ≡ true → are_words attrs ≡ true → Each (λ a. IsUtf8 a.1) attrs → IsUtf8 text
    → Sound (suc k) (element name (attributes_text attrs) (text_only (escaped text)) [])
leaf_sound k name attrs text n a u t = record {
  is = (word_named name n, tag_text attrs a, escaped_text text, tt);
  low = omega arith;
  utf8 = tags_utf8 name (attributes_text attrs) (escaped text) (word_utf8 name n) (attributes_utf8 attrs a u) (escaped_utf8 text t);
}

mutual
  pub sound : (piece : Piece) (k : ℕ) → fits_height k piece ≡ true → HasTexts piece → (stream : Keystream) (p : ℕ) → Sound k (element_of stream p piece)
  sound piece zero e u stream p = cc e
  sound (leaf name attrs text) (suc k) e u stream p =
      let both = and_true (is_word name) (are_words attrs) e in
      leaf_sound k name attrs text both.0 both.1 u.0 u.1
  sound (secret name attrs bytes) (suc k) e u stream p =
      let both = and_true (is_word name) (are_words attrs) e in
      let given = xor_stream (keystream_byte stream) p bytes in
      let plain = coded_plain given (xored_bytes (keystream_byte stream) bytes p (stream_bytes stream) u.1) in
      subst (λ (t : List ℕ). Sound (suc k) (element name (attributes_text (attrs ++ protected_attribute ∷ [])) (text_only t) [])) plain
      (leaf_sound k name (attrs ++ protected_attribute ∷ []) (encode_of standard given) both.0 (with_protected attrs both.1) (utf8_protected attrs u.0) (base64_utf8 given))
  sound (box name pieces) (suc k) e u stream p =
      let both = and_true (is_word name) (fit_height k pieces) e in
      let inner = all_sound pieces k both.1 u stream p in
      record {
        is = (word_named name both.0, tag_text [] refl, inner.is, tt);
        low = omega (arith, inner.low);
        utf8 = tags_utf8 name [] (spelled_all (content_of stream p pieces)) (word_utf8 name both.0) IsUtf8-nil inner.utf8;
      }

  all_sound : (pieces : Pieces) (k : ℕ) → fit_height k pieces ≡ true → HaveTexts pieces → (stream : Keystream) (p : ℕ) → SoundAll k (content_of stream p pieces)
  all_sound none k e u stream p = record { is = run_empty is_text; low = omega arith; utf8 = IsUtf8-nil }
  all_sound (beside x xs) k e u stream p =
      let both = and_true (fits_height k x) (fit_height k xs) e in
      let first = sound x k both.0 u.0 stream p in
      let rest = all_sound xs k both.1 u.1 stream (p + hidden_len x) in
      record {
        is = (run_empty is_text, first.is, rest.is);
        low = omega (arith, first.low, rest.low);
        utf8 = IsUtf8-append (spelled (element_of stream p x)) (spelled_all (content_of stream (p + hidden_len x) xs)) first.utf8 rest.utf8;
      }
