-- A folded text, letter by letter.
use Rattle.std.proofs.Common.{◌≡◌, ℕ, Bool, cond, List, [], ◌∷◌, ◌++◌, IsUtf8, chars, encode_utf8, encode_utf8_all, sym, ap, ◌∙◌, append_assoc, append-nil}
use Rattle.std.proofs.lemmas.Str.{IsUtf8-from_is_utf8, encodes-append, is_utf8-from_IsUtf8}
use Rattle.std.specs.Str.{is_utf8}
use Rattle.caseless.specs.Caseless.{default_case_fold}
use Rattle.vault_model.proofs.Tests.{is_false}
use Rattle.find_core.specs.Folding.{case_folded}

pub letter_more : (whole came rest left : List ℕ) (c : ℕ) → whole ≡ came ++ rest → rest ≡ c ∷ left → whole ≡ (came ++ c ∷ []) ++ left
letter_more whole came rest left c joined first = joined ∙ ap (λ r. came ++ r) first ∙ sym (append_assoc came (c ∷ []) left)

pub encoded_more : (came : List ℕ) (c : ℕ) → encode_utf8_all (came ++ c ∷ []) ≡ encode_utf8_all came ++ encode_utf8 c
encoded_more came c = encodes-append came (c ∷ []) ∙ ap (λ l. encode_utf8_all came ++ l) (append-nil (encode_utf8 c))

-- a value that is a text, and one that is none
pub folded_text : (value : List ℕ) → IsUtf8 value → case_folded value ≡ encode_utf8_all (default_case_fold (chars value))
unfolding case_folded
folded_text value h = ap (λ (b : Bool). cond b (encode_utf8_all (default_case_fold (chars value))) value) (is_utf8-from_IsUtf8 value h)

pub folded_other : (value : List ℕ) → (IsUtf8 value → ⊥) → case_folded value ≡ value
unfolding case_folded
folded_other value h =
    ap (λ (b : Bool). cond b (encode_utf8_all (default_case_fold (chars value))) value)
    (is_false (is_utf8 value) (λ e. h (IsUtf8-from_is_utf8 value e)))
