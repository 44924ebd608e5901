-- The bytes that a password is chosen by.
use Rattle.std.proofs.Common.{◌≡◌, ◌≤◌, ◌+◌, ◌-◌, ◌*◌, ℕ, zero, suc, Bool, true, false, List, [], ◌∷◌, ◌++◌, length, take, nat_lt, Option, None, Some, Result, Ok, Err, refl, sym, ap, ◌∙◌, arith, append_assoc, append-nil, length-append, take_all}
use Rattle.std.proofs.lemmas.List.{take-append-le}
use Rattle.std.specs.Prelude.{if◌then◌else◌}
use Rattle.std.specs.List.{concat}
use Rattle.gen_core.specs.Chosen.{Choice, Next, accepted, bound, character, choose, chosen, cut_short, ended, next, refused, spent, tries}
use Rattle.cli_messages.specs.declared.answers.Refusal.{Refusal}
use Rattle.cli_messages.specs.Phases.{then_left, with_left}
use Rattle.cli_generating.specs.Generated.{generated, password_chosen}
use Rattle.cli_profiles.specs.declared.profiles.PasswordProfile.{PasswordProfile}
use Rattle.cli_commands.specs.Commands.{password_of, some_password}
use Rattle.randomness_laws.specs.Pieces.{password_most, password_piece, password_pieces}

-- So many bytes at most are before what is left of a stream.
record Takes (most : ℕ) (stream left : List ℕ) : Type 0 where
  bytes : List ℕ
  is : stream ≡ bytes ++ left
  few : length bytes ≤ most

-- ---- the next accepted byte

-- So it is of the search, which finds the same whatever comes after these bytes.
record Accepts (limit tried b : ℕ) (stream left : List ℕ) : Type 0 where
  bytes : List ℕ
  is : stream ≡ bytes ++ left
  few : length bytes ≤ tried
  again : (other : List ℕ) → next limit tried (bytes ++ other) ≡ accepted b other

abbrev NextTakes : ℕ → ℕ → List ℕ → Next → Type 0
NextTakes limit tried stream (accepted b left) = Accepts limit tried b stream left
NextTakes limit tried stream (refused left) = Takes tried stream left
NextTakes limit tried stream cut_short = length stream ≤ tried

next_if : (limit tried b : ℕ) (stream : List ℕ) (c : Bool) → nat_lt b limit ≡ c → next limit (suc tried) (b ∷ stream) ≡ (if c then accepted b stream else next limit tried stream)
unfolding next
next_if limit tried b stream c e = ap (λ c. if c then accepted b stream else next limit tried stream) e

later : (limit tried b : ℕ) (stream : List ℕ) → nat_lt b limit ≡ false → (n : Next) → NextTakes limit tried stream n → NextTakes limit (suc tried) (b ∷ stream) n
later limit tried b stream e (accepted c left) h = record {
  bytes = b ∷ h.bytes;
  is = ap (λ xs. b ∷ xs) h.is;
  few = let few = h.few in omega (arith, few);
  again = λ other. next_if limit tried b (h.bytes ++ other) false e ∙ h.again other;
}
later limit tried b stream e (refused left) h = record { bytes = b ∷ h.bytes; is = ap (λ xs. b ∷ xs) h.is; few = let few = h.few in omega (arith, few) }
later limit tried b stream e cut_short h = omega (arith, h)

here_or_later : (limit tried b : ℕ) (stream : List ℕ) → NextTakes limit tried stream (next limit tried stream) → (c : Bool) → nat_lt b limit ≡ c
    → NextTakes limit (suc tried) (b ∷ stream) (if c then accepted b stream else next limit tried stream)
here_or_later limit tried b stream rest true e = record { bytes = b ∷ []; is = refl; few = omega arith; again = λ other. next_if limit tried b other true e }
here_or_later limit tried b stream rest false e = later limit tried b stream e (next limit tried stream) rest

next_takes : (limit tried : ℕ) (stream : List ℕ) → NextTakes limit tried stream (next limit tried stream)
unfolding next
next_takes limit zero stream = record { bytes = []; is = refl; few = omega arith }
next_takes limit (suc tried) [] = omega arith
next_takes limit (suc tried) (b ∷ stream) = here_or_later limit tried b stream (next_takes limit tried stream) (nat_lt b limit) refl

-- ---- a choice

-- The choice of a text takes so many bytes at most, and chooses the same whatever comes after them.
record Chooses (alphabet : List ℕ) (wanted : ℕ) (text out stream left : List ℕ) : Type 0 where
  bytes : List ℕ
  is : stream ≡ bytes ++ left
  few : length bytes ≤ 128 * wanted
  again : (other : List ℕ) → choose alphabet wanted text (bytes ++ other) ≡ chosen out other

abbrev ChoiceTakes : List ℕ → ℕ → (text stream : List ℕ) → Choice → Type 0
ChoiceTakes alphabet wanted text stream (chosen out left) = Chooses alphabet wanted text out stream left
ChoiceTakes alphabet wanted text stream (spent place left) = Takes (128 * wanted) stream left
ChoiceTakes alphabet wanted text stream ended = length stream ≤ 128 * wanted

-- the choice after the search for a byte
abbrev chosen_on : List ℕ → ℕ → List ℕ → Next → Choice
chosen_on alphabet wanted text n =
    elim n as (λ _. Choice) [
      | accepted b left ↦ choose alphabet wanted (text ++ character alphabet b ∷ []) left
      | refused left ↦ spent (length text) left
      | cut_short ↦ ended
    ]

choose_on : (alphabet : List ℕ) (wanted b : ℕ) (text stream left : List ℕ) → next (bound (length alphabet)) tries stream ≡ accepted b left
    → choose alphabet (suc wanted) text stream ≡ choose alphabet wanted (text ++ character alphabet b ∷ []) left
unfolding choose
choose_on alphabet wanted b text stream left is = ap (chosen_on alphabet wanted text) is

one_more : (alphabet : List ℕ) (wanted b : ℕ) (text stream left : List ℕ) → Accepts (bound (length alphabet)) tries b stream left → (c : Choice)
    → ChoiceTakes alphabet wanted (text ++ character alphabet b ∷ []) left c → ChoiceTakes alphabet (suc wanted) text stream c
one_more alphabet wanted b text stream left h (chosen out rest) k = record {
  bytes = h.bytes ++ k.bytes;
  is = h.is ∙ ap (λ xs. h.bytes ++ xs) k.is ∙ sym (append_assoc h.bytes k.bytes rest);
  few = let few = h.few in let more = k.few in let both = length-append h.bytes k.bytes in omega (arith, few, more, both);
  again = λ other. ap (choose alphabet (suc wanted) text) (append_assoc h.bytes k.bytes other)
      ∙ choose_on alphabet wanted b text (h.bytes ++ (k.bytes ++ other)) (k.bytes ++ other) (h.again (k.bytes ++ other)) ∙ k.again other;
}
one_more alphabet wanted b text stream left h (spent place rest) k = record {
  bytes = h.bytes ++ k.bytes;
  is = h.is ∙ ap (λ xs. h.bytes ++ xs) k.is ∙ sym (append_assoc h.bytes k.bytes rest);
  few = let few = h.few in let more = k.few in let both = length-append h.bytes k.bytes in omega (arith, few, more, both);
}
one_more alphabet wanted b text stream left h ended k =
    let few = h.few in let both = ap length h.is ∙ length-append h.bytes left in omega (arith, few, both, k)

after_next : (alphabet : List ℕ) (wanted : ℕ) (text stream : List ℕ) → ((longer left : List ℕ) → ChoiceTakes alphabet wanted longer left (choose alphabet wanted longer left)) → (n : Next)
    → NextTakes (bound (length alphabet)) tries stream n → ChoiceTakes alphabet (suc wanted) text stream (chosen_on alphabet wanted text n)
after_next alphabet wanted text stream rest (accepted b left) h =
    let longer = text ++ character alphabet b ∷ [] in
    one_more alphabet wanted b text stream left h (choose alphabet wanted longer left) (rest longer left)
after_next alphabet wanted text stream rest (refused left) h = record { bytes = h.bytes; is = h.is; few = let few = h.few in omega (arith, few) }
after_next alphabet wanted text stream rest cut_short h = omega (arith, h)

choose_takes : (alphabet : List ℕ) (wanted : ℕ) (text stream : List ℕ) → ChoiceTakes alphabet wanted text stream (choose alphabet wanted text stream)
unfolding choose
choose_takes alphabet zero text stream = record { bytes = []; is = refl; few = omega arith; again = λ other. refl }
choose_takes alphabet (suc wanted) text stream =
    after_next alphabet wanted text stream (λ longer left. choose_takes alphabet wanted longer left) (next (bound (length alphabet)) tries stream) (next_takes (bound (length alphabet)) tries stream)

-- ---- a password

-- the bytes before what is left
front_is : (stream bytes left : List ℕ) → stream ≡ bytes ++ left → take (length stream - length left) stream ≡ bytes
front_is stream bytes left is =
    let both = ap length is ∙ length-append bytes left in
    let count : length stream - length left ≡ length bytes = omega (arith, both) in
    ap (λ n. take n stream) count ∙ ap (take (length bytes)) is ∙ take-append-le (length bytes) bytes left (omega arith) ∙ take_all (length bytes) bytes (omega arith)

taken_by : (alphabet : List ℕ) (wanted : ℕ) (dice : List ℕ) (c : Choice) → ChoiceTakes alphabet wanted [] dice c → Takes (128 * wanted) dice (password_chosen c).left
taken_by alphabet wanted dice (chosen out left) h = record { bytes = h.bytes; is = h.is; few = h.few }
taken_by alphabet wanted dice (spent place left) h = h
taken_by alphabet wanted dice ended h = record { bytes = dice; is = sym (append-nil dice); few = h }

password_takes : (profile : PasswordProfile) (dice : List ℕ) → Takes (128 * profile.length) dice (generated profile.alphabet profile.length dice).left
password_takes profile dice =
    taken_by profile.alphabet profile.length dice (choose profile.alphabet profile.length [] dice) (choose_takes profile.alphabet profile.length [] dice)

piece_is : (profile : PasswordProfile) (dice : List ℕ) → concat (password_pieces (Some profile) dice) ≡ (password_takes profile dice).bytes
piece_is profile dice =
    let takes = password_takes profile dice in
    append-nil (password_piece profile dice) ∙ front_is dice takes.bytes (generated profile.alphabet profile.length dice).left takes.is

pub password_cut : (profile : Option PasswordProfile) (line : Option (List ℕ)) (dice : List ℕ) → dice ≡ concat (password_pieces profile dice) ++ (password_of profile line dice).left
password_cut None line dice = refl
password_cut (Some profile) line dice =
    (password_takes profile dice).is ∙ ap (λ xs. xs ++ (generated profile.alphabet profile.length dice).left) (sym (piece_is profile dice))

pub password_len : (profile : Option PasswordProfile) (dice : List ℕ) → length (concat (password_pieces profile dice)) ≤ password_most profile
password_len None dice = omega arith
password_len (Some profile) dice =
    let few = (password_takes profile dice).few in let same = ap length (piece_is profile dice) in omega (arith, few, same)

-- what comes after the password takes nothing of the dice
pub password_left : {A : Type 0} (profile : Option PasswordProfile) (line : Option (List ℕ)) (made : Option (List ℕ) → Result A Refusal) (dice : List ℕ)
    → (then_left (password_of profile line dice) (λ password left. with_left (made password) left)).left ≡ (password_of profile line dice).left
password_left None line made dice = refl
password_left (Some profile) line made dice =
    let taken = generated profile.alphabet profile.length dice in
    of taken.answer taken.left
  where
    of : (answer : Result (List ℕ) Refusal) (left : List ℕ) → (then_left (some_password (with_left answer left)) (λ password left. with_left (made password) left)).left ≡ left
    of (Ok password) left = refl
    of (Err refusal) left = refl

-- What was made with a password that its piece chooses.
pub record IsMadeWith {A : Type 0} (profile : PasswordProfile) (made : Option (List ℕ) → Result A Refusal) (dice : List ℕ) (x : A) : Type 0 where
  pub password : List ℕ
  pub chooses : choose profile.alphabet profile.length [] (password_piece profile dice) ≡ chosen password []
  pub makes : made (Some password) ≡ Ok x

pub made_with : {A : Type 0} (profile : PasswordProfile) (line : Option (List ℕ)) (made : Option (List ℕ) → Result A Refusal) (dice : List ℕ) (x : A)
    → (then_left (password_of (Some profile) line dice) (λ password left. with_left (made password) left)).answer ≡ Ok x → IsMadeWith profile made dice x
made_with profile line made dice x h =
    of (choose profile.alphabet profile.length [] dice) refl (choose_takes profile.alphabet profile.length [] dice) h
  where
    of : (c : Choice) → choose profile.alphabet profile.length [] dice ≡ c → ChoiceTakes profile.alphabet profile.length [] dice c
        → (then_left (some_password (password_chosen c)) (λ password left. with_left (made password) left)).answer ≡ Ok x → IsMadeWith profile made dice x
    of (chosen out left) e k h = record {
      password = out;
      chooses = ap (choose profile.alphabet profile.length [])
          (ap (λ c. take (length dice - length (password_chosen c).left) dice) e ∙ front_is dice k.bytes left k.is ∙ sym (append-nil k.bytes)) ∙ k.again [];
      makes = h;
    }
    of (spent place left) e k h = cc h
    of ended e k h = cc h
