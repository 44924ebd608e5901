-- Dice of which of any 128 bytes one is accepted choose a text.
use Rattle.std.proofs.Common.{append_assoc, ◌≡◌, ℕ, zero, suc, ◌+◌, ◌<◌, ◌≤◌, nat_lt, Bool, true, false, List, [], ◌∷◌, ◌++◌, length, take, drop, refl, sym, ap, subst, ◌∙◌, arith}
use Rattle.std.proofs.lemmas.Bool.{cond-true, cond-false, lt-ltb}
use Rattle.std.proofs.lemmas.List.{length-append, length-take, take-append-drop}
use Rattle.cli_generating.specs.Generated.{password_chosen}
use Rattle.gen_core.specs.Chosen.{Choice, Next, accepted, bound, character, choose, chosen, cut_short, ended, next, refused, spent, tries}
use Rattle.generation_laws.specs.Conditions.{CanChoose, PasswordsAreChosen}

-- the first byte below a limit, and what is before and after it
record Found (limit n : ℕ) (stream : List ℕ) : Type 0 where
  byte : ℕ
  used : List ℕ
  left : List ℕ
  is : stream ≡ used ++ left
  few : length used ≤ n
  finds : next limit n stream ≡ accepted byte left

next_here : (limit n b : ℕ) (rest : List ℕ) → nat_lt b limit ≡ true → next limit (suc n) (b ∷ rest) ≡ accepted b rest
unfolding next
next_here limit n b rest below = cond-true (nat_lt b limit) _ _ below

next_later : (limit n b : ℕ) (rest : List ℕ) → nat_lt b limit ≡ false → next limit (suc n) (b ∷ rest) ≡ next limit n rest
unfolding next
next_later limit n b rest above = cond-false (nat_lt b limit) _ _ above

find : (limit n : ℕ) (front : List ℕ) (byte : ℕ) (back : List ℕ) → byte < limit → length front < n → Found limit n (front ++ (byte ∷ back))
find limit zero front byte back below short = absurd (omega arith)
find limit (suc n) [] byte back below short = record {
  byte = byte;
  used = byte ∷ [];
  left = back;
  is = refl;
  few = omega arith;
  finds = next_here limit n byte back (lt-ltb byte limit below);
}
find limit (suc n) (b ∷ front) byte back below short = by (nat_lt b limit) refl (find limit n front byte back below (omega arith))
  where
    by : (t : Bool) → nat_lt b limit ≡ t → Found limit n (front ++ (byte ∷ back)) → Found limit (suc n) (b ∷ (front ++ (byte ∷ back)))
    by true e f = record { byte = b; used = b ∷ []; left = front ++ (byte ∷ back); is = refl; few = omega arith; finds = next_here limit n b (front ++ (byte ∷ back)) e }
    by false e f = record {
      byte = f.byte;
      used = b ∷ f.used;
      left = f.left;
      is = ap (λ bs. b ∷ bs) f.is;
      few = omega (arith, f.few);
      finds = next_later limit n b (front ++ (byte ∷ back)) e ∙ f.finds;
    }

choose_on : (alphabet : List ℕ) (wanted b : ℕ) (text stream rest : List ℕ) → next (bound (length alphabet)) tries stream ≡ accepted b rest
    → choose alphabet (suc wanted) text stream ≡ choose alphabet wanted (text ++ character alphabet b ∷ []) rest
unfolding choose
choose_on alphabet wanted b text stream rest is =
    ap (λ (n : Next). elim n as (λ _. Choice) [
      | accepted b rest ↦ choose alphabet wanted (text ++ character alphabet b ∷ []) rest
      | refused rest ↦ spent (length text) rest
      | cut_short ↦ ended
    ]) is

choose_done : (alphabet text stream : List ℕ) → choose alphabet 0 text stream ≡ chosen text stream
unfolding choose
choose_done alphabet text stream = refl

-- the next accepted byte of dice that can choose
found_in : (alphabet : List ℕ) (wanted : ℕ) (dice : List ℕ) → CanChoose alphabet (suc wanted) dice → Found (bound (length alphabet)) 128 dice
found_in alphabet wanted dice can =
    let cut = take-append-drop 128 dice in
    let enough : 128 ≤ length dice = omega (arith, can.enough) in
    let whole : length (take 128 dice) ≡ 128 = omega (arith, length-take 128 dice, enough) in
    let has = can.accepted [] (take 128 dice) (drop 128 dice) (sym cut) whole in
    let short : length has.front < 128 = omega (arith, whole, ap length has.is, length-append has.front (has.byte ∷ has.back)) in
    subst (Found (bound (length alphabet)) 128) (sym (append_assoc has.front (has.byte ∷ has.back) (drop 128 dice)) ∙ (ap (λ bs. bs ++ drop 128 dice) (sym has.is) ∙ cut))
    (find (bound (length alphabet)) 128 has.front has.byte (has.back ++ drop 128 dice) has.below short)

chooses : (alphabet : List ℕ) (wanted : ℕ) (text dice : List ℕ) → CanChoose alphabet wanted dice → (t : List ℕ) × (rest : List ℕ) × (choose alphabet wanted text dice ≡ chosen t rest)
chooses alphabet zero text dice can = (text, dice, choose_done alphabet text dice)
chooses alphabet (suc wanted) text dice can =
    let f = found_in alphabet wanted dice can in
    let longer = text ++ character alphabet f.byte ∷ [] in
    let later = chooses alphabet wanted longer f.left (record {
      enough = omega (arith, can.enough, f.few, ap length f.is, length-append f.used f.left);
      accepted = λ front part back is whole. can.accepted (f.used ++ front) part back (f.is ∙ (ap (λ bs. f.used ++ bs) is ∙ sym (append_assoc f.used front (part ++ back)))) whole;
    }) in
    (later.0, later.1, choose_on alphabet wanted f.byte text dice f.left f.finds ∙ later.2)

pub passwords_are_chosen : PasswordsAreChosen
passwords_are_chosen alphabet wanted dice can =
    let c = chooses alphabet wanted [] dice can in
    (c.0, ap (λ (x : Choice). (password_chosen x).answer) c.2)
