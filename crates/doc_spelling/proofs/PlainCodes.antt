-- Base64 of bytes is written in markup as it is.
use Rattle.std.proofs.Common.{◌≡◌, ℕ, zero, suc, ◌+◌, ◌*◌, ◌/◌, ◌%◌, ◌<◌, ◌≤◌, Bool, true, false, List, [], ◌∷◌, ◌++◌, length, replicate, slice_index, get_or, refl, sym, ap, ◌∙◌, arith}
use Rattle.std.specs.List.{list_all, flat_map}
use Rattle.std.specs.Prelude.{bytes_eq}
use Rattle.std.proofs.lemmas.Grind.{flat_map-append}
use Rattle.std.proofs.lemmas.List.Folds.{list_all_at}
use Rattle.std.proofs.lemmas.Slice.Eq.{bytes_eq-Decides}
use Rattle.base64.specs.Rfc4648.{encode_symbols, encode_group, encode_two, encode_one, padding_len}
use Rattle.base64.specs.Engines.{standard}
use Rattle.markup_grammar.specs.Escapes.{escaped, escaped_byte}
use Rattle.base64.specs.GeneralPurpose.{IsBytes, encode_of}

-- the 64 symbols
abbrev pub symbols : List ℕ
symbols = standard.encode_table

abbrev pub is_plain : ℕ → Bool
is_plain s = bytes_eq (escaped_byte s) (s ∷ [])

table_plain : list_all is_plain symbols ≡ true
unfolding escaped_byte
table_plain = refl

-- bytes that are equal by test are equal
pub same_bytes : (xs ys : List ℕ) → bytes_eq xs ys ≡ true → xs ≡ ys
same_bytes xs ys h = grind (arith, bytes_eq-Decides xs ys)

pub symbol_plain : (i : ℕ) → i < 64 → escaped_byte (slice_index symbols i) ≡ slice_index symbols i ∷ []
symbol_plain i below =
    let tell : (b : Bool) → is_plain (get_or symbols i 0) ≡ b → is_plain (get_or symbols i 0) ≡ true =
    elim [ true ↦ λ e. e | false ↦ λ e. let f = list_all_at is_plain symbols i 0 below e in cc (table_plain, f) ] in
    same_bytes _ _ (tell (is_plain (get_or symbols i 0)) refl)

pub symbol_then : (i : ℕ) (xs ys : List ℕ) → i < 64 → xs ≡ ys → escaped_byte (slice_index symbols i) ++ xs ≡ slice_index symbols i ∷ ys
symbol_then i xs ys below e = ap (λ zs. zs ++ xs) (symbol_plain i below) ∙ ap (λ zs. slice_index symbols i ∷ zs) e

pub padding_plain : (n : ℕ) → escaped (replicate n 61) ≡ replicate n 61
unfolding escaped_byte
padding_plain zero = refl
padding_plain (suc n) = ap (λ xs. 61 ∷ xs) (padding_plain n)

pub tail_bytes : (x : ℕ) (xs : List ℕ) → IsBytes (x ∷ xs) → IsBytes xs
tail_bytes x xs h i = h (suc i)

pub symbols_plain : (m : List ℕ) → IsBytes m → escaped (encode_symbols symbols m) ≡ encode_symbols symbols m
unfolding encode_symbols
symbols_plain [] h = refl
symbols_plain (a ∷ []) h =
    let ha : a < 256 = h 0 in
    symbol_then (a / 4) _ _ (omega arith) (symbol_then (a % 4 * 16) _ _ (omega arith) refl)
symbols_plain (a ∷ b ∷ []) h =
    let ha : a < 256 = h 0 in
    let hb : b < 256 = h 1 in
    symbol_then (a / 4) _ _ (omega arith) (symbol_then (a % 4 * 16 + b / 16) _ _ (omega arith) (symbol_then (b % 16 * 4) _ _ (omega arith) refl))
symbols_plain (a ∷ b ∷ c ∷ rest) h =
    let ha : a < 256 = h 0 in
    let hb : b < 256 = h 1 in
    let hc : c < 256 = h 2 in
    symbol_then (a / 4) _ _ (omega arith) (symbol_then (a % 4 * 16 + b / 16) _ _ (omega arith)
    (symbol_then (b % 16 * 4 + c / 64) _ _ (omega arith) (symbol_then (c % 64) _ _ (omega arith) (symbols_plain rest (λ i. h (suc (suc (suc i))))))))

pub coded_plain : (m : List ℕ) → IsBytes m → escaped (encode_of standard m) ≡ encode_of standard m
coded_plain m h =
    flat_map-append escaped_byte (encode_symbols symbols m) (replicate (padding_len (length m)) 61)
    ∙ ap (λ xs. xs ++ escaped (replicate (padding_len (length m)) 61)) (symbols_plain m h)
    ∙ ap (λ xs. encode_symbols symbols m ++ xs) (padding_plain (padding_len (length m)))
