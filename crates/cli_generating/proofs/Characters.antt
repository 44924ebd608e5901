-- The characters of a chosen text are those of its alphabet.
use Rattle.std.proofs.Common.{◌≡◌, ℕ, zero, suc, ◌<◌, ◌%◌, List, [], ◌∷◌, ◌++◌, length, ap, subst, true}
use Rattle.std.proofs.lemmas.List.Elements.{All-get_or, All-nil, All-push}
use Rattle.std.proofs.lemmas.Nat.{mod_below}
use Rattle.std.specs.List.{All}
use Rattle.std.specs.Str.{is_utf8}
use Rattle.std.proofs.lemmas.Str.{is_utf8-from_IsUtf8, IsUtf8-from_ascii}
use Rattle.std.proofs.lemmas.Str.Ascii.{IsAscii-from_all}
use Rattle.gen_core.specs.Chosen.{ChosenBySome, Choice, IsAlphabet, Next, accepted, refused, cut_short, character, choose, chosen, ended, next, spent, bound, tries}

-- The text of a choice that gives one.
abbrev text_in : Choice → List ℕ
text_in (chosen text rest) = text
text_in (spent place rest) = []
text_in ended = []

chosen_after : (P : ℕ → Type 0) (alphabet : List ℕ) → All P alphabet → 0 < length alphabet → (wanted : ℕ) (text out rest : List ℕ) → All P text
    → ((text stream : List ℕ) → All P text → choose alphabet wanted text stream ≡ chosen out rest → All P out) → (n : Next)
    → (elim n as (λ _. Choice) [
      | accepted b rest ↦ choose alphabet wanted (text ++ character alphabet b ∷ []) rest
      | refused rest ↦ spent (length text) rest
      | cut_short ↦ ended
    ]) ≡ chosen out rest → All P out
chosen_after P alphabet all some wanted text out rest ps keep (accepted b left) is =
    keep (text ++ character alphabet b ∷ []) left
    (All-push P text (character alphabet b) ps (All-get_or P alphabet (b % length alphabet) 0 (mod_below b (length alphabet) some) all)) is
chosen_after P alphabet all some wanted text out rest ps keep (refused left) is = let e : spent (length text) left ≡ chosen out rest = is in cc
chosen_after P alphabet all some wanted text out rest ps keep cut_short is = let e : ended ≡ chosen out rest = is in cc

pub chosen_of_alphabet : (P : ℕ → Type 0) (alphabet : List ℕ) → All P alphabet → 0 < length alphabet
    → (wanted : ℕ) (text stream out rest : List ℕ) → All P text → choose alphabet wanted text stream ≡ chosen out rest → All P out
unfolding choose
chosen_of_alphabet P alphabet all some zero text stream out rest ps is = subst (All P) (ap text_in is) ps
chosen_of_alphabet P alphabet all some (suc wanted) text stream out rest ps is =
    chosen_after P alphabet all some wanted text out rest ps
    (λ longer left ps is. chosen_of_alphabet P alphabet all some wanted longer left out rest ps is)
    (next (bound (length alphabet)) tries stream) is

-- A text that some stream chooses of an alphabet of ASCII is UTF-8.
pub chosen_is_utf8 : (alphabet : List ℕ) (length : ℕ) (text : List ℕ) → IsAlphabet alphabet → All (λ b. b < 128) alphabet
    → ChosenBySome alphabet length text → is_utf8 text ≡ true
chosen_is_utf8 alphabet length text fit ascii some =
    let all = chosen_of_alphabet (λ (b : ℕ). b < 128) alphabet ascii fit.some length [] some.stream text some.rest (All-nil (λ (b : ℕ). b < 128)) some.chooses in
    is_utf8-from_IsUtf8 text (IsUtf8-from_ascii text (IsAscii-from_all text all))
